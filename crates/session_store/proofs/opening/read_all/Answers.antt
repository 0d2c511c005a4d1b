use Rattle.std.proofs.Common.{◌∙◌, ◌+◌, ◌++◌, ◌∷◌, [], ℕ, List, ap, subst}
use Rattle.journal_store.specs.Entries.{contents_of}
use Rattle.session_store.specs.Replay.{Replays}
use Rattle.session_store.specs.declared.replay.Replayed.TheVariants as replayed
use Rattle.session_store.proofs.OpenedLemmas.{none_comes, one_entered, place_behind, untouched_twice}
use Rattle.session_store.proofs.opening.read_all.Goals as goal

pub returns-in-Ok-Damaged-clause-reads : goal.returns-in-Ok-Damaged-clause-reads
returns-in-Ok-Damaged-clause-reads g c = λ told.
    let so_far = c.loop-content.invariant.entered told in
    let fact = subst (λ (l : List ℕ). Replays c.loop-content.sessions.items l replayed.Damaged c.replay.new.sessions.items) c.as_slice.ensures
    (subst (λ w. Replays c.loop-content.sessions.items c.as_slice.result.now w c.replay.new.sessions.items) c.in-Ok-Damaged.field-0-is c.in-Ok-Damaged.ensures) in
    none_comes g.D.Disk.seen g.D.Disk.time g.D.Disk.left c.loop-content.opening c.next.new.self so_far.0 c.loop-content.sessions.items c.in-Content.content so_far.1
    (c.in-Content.ensures.reads told (contents_of so_far.0) (so_far.1).row) c.loop-content.at so_far.2 fact.1

pub loop-content-preserved : goal.loop-content-preserved
loop-content-preserved g c = record {
  entered = λ told.
      let so_far = c.loop-content.invariant.entered told in
      let fact = subst (λ (l : List ℕ). Replays c.loop-content.sessions.items l replayed.Entered c.replay.new.sessions.items) c.as_slice.ensures
      (subst (λ w. Replays c.loop-content.sessions.items c.as_slice.result.now w c.replay.new.sessions.items) c.in-Ok-Entered.field-0-is c.in-Ok-Entered.ensures) in
      let read = c.in-Content.ensures.reads told (contents_of so_far.0) (so_far.1).row in
      let has = one_entered g.D.Disk.seen g.D.Disk.time g.D.Disk.left c.loop-content.opening c.next.new.self so_far.0 c.loop-content.sessions.items c.in-Content.content so_far.1 read
      c.replay.new.sessions.items fact.0 fact.1 fact.2 fact.3 in
      let place = place_behind so_far.0 fact.0 c.in-Content.content fact.1 c.loop-content.at so_far.2 in
      (so_far.0 ++ fact.0 ∷ [], has, c.in-Some.ensures ∙ ap (λ (n : ℕ). c.loop-content.at + 5 + n) c.len.ensures ∙ place);
  seen = λ told. c.next.ensures.seen told ∙ c.loop-content.invariant.seen told;
  crash = λ told.
      untouched_twice g.D.Disk.time g.D.Disk.left c.args.opening.now.disk c.loop-content.opening.disk c.next.new.self.disk (g.D.Disk.seen c.args.opening.now.disk) (g.D.Disk.seen c.loop-content.opening.disk)
      (c.loop-content.invariant.seen told) (c.loop-content.invariant.crash told)
      (c.next.ensures.any_moment told (contents_of (c.loop-content.invariant.entered told).0) ((c.loop-content.invariant.entered told).1).row);
  faults = c.in-Content.ensures.faults ∙ c.loop-content.invariant.faults;
}
