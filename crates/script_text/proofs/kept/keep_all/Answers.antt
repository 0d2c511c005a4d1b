use Rattle.std.proofs.Common.{◌≡◌, ◌∙◌, ◌+◌, ◌++◌, [], ℕ, List, drop, length, map, refl, sym, ap, subst, arith}
use Rattle.std.proofs.lemmas.List.{drop_all}
use Rattle.session_journal.specs.declared.entry.Entry.{Entry}
use Rattle.journal_store.specs.Entries.{journal_in}
use Rattle.session_store.specs.Store.{Stores, of_session}
use Rattle.script_text.specs.declared.live.Live.{Live}
use Rattle.script_text.proofs.KeptLemmas.{KeepsOn, keeps_begin, keeps_done, keeps_more, live_place}
use Rattle.script_text.proofs.kept.keep_all.Goals as goal

pub loop-live-init : goal.loop-live-init
loop-live-init g c = record {
  keeps = λ told stored kept ss rest are some.
      keeps_begin g.D.Disk.seen g.D.Disk.time g.D.Disk.left stored kept ss rest c.args.store.now c.args.sessions.now are some;
  file = refl;
}

pub loop-live-preserved : goal.loop-live-preserved
loop-live-preserved g c = record {
  keeps = λ told stored kept ss rest are some.
      let place = live_place c.args.sessions.now c.loop-live.live-index c.live-item.result (omega (arith, c.loop-live-test.true)) c.live-item.is in
      keeps_more g.D.Disk.seen g.D.Disk.time g.D.Disk.left stored kept ss rest c.loop-live.store c.keep.new.self c.live-item.result (drop (c.loop-live.live-index + 1) c.args.sessions.now)
      (subst (KeepsOn g.D.Disk.seen g.D.Disk.time g.D.Disk.left stored c.loop-live.store kept ss rest) place (c.loop-live.invariant.keeps told stored kept ss rest are some))
      (λ one before waiting stores.
      subst (λ (log : List Entry). Stores g.D.Disk.seen g.D.Disk.time g.D.Disk.left c.keep.new.self before
      (waiting ++ map (of_session c.live-item.result.number) (drop (length (journal_in c.live-item.result.number (before ++ waiting))) log))) c.entries.ensures.entries
      (c.in-Ok.ensures.keeps told one before waiting stores));
  file = c.keep.ensures.file ∙ c.loop-live.invariant.file;
}

pub returns-clause-keeps : goal.returns-clause-keeps
returns-clause-keeps g c = λ told stored kept ss rest are some.
    keeps_done g.D.Disk.seen g.D.Disk.time g.D.Disk.left stored kept ss rest c.loop-live.store
    (subst (KeepsOn g.D.Disk.seen g.D.Disk.time g.D.Disk.left stored c.loop-live.store kept ss rest) (drop_all c.loop-live.live-index c.args.sessions.now (omega (arith, c.loop-live-test.false)))
    (c.loop-live.invariant.keeps told stored kept ss rest are some))
