use Rattle.std.proofs.Common.{List, ℕ, [], ◌+◌, ◌++◌, Bor, drop, sym, ◌∙◌, ap, subst}
use Rattle.std.proofs.lemmas.List.{take_all}
use Rattle.std.proofs.KnownBytes.{Keeps-trans}
use Rattle.bosh_ports.proofs.PartsLemmas.{joined, joined_more, joined_split, gives_fault}
use Rattle.bosh_ports.specs.Sink.{AppendsFront}
use Rattle.bosh_http.proofs.GatheringLemmas.{SoFar, one_part, part_of, front_before, gives_parts}
use Rattle.bosh_http.proofs.gathering.send_gathered.Goals as goal

-- a part that isn't there
abbrev none : Bor (List ℕ)
none = record { ref_ptr = (0, 0); now = [] }

pub returns-in_err-gather-clause-given : goal.returns-in_err-gather-clause-given
returns-in_err-gather-clause-given g c =
    let parts = c.args.parts.now in
    let i = c.loop-part.part-index in
    let others = joined (λ (part : Bor (List ℕ)). part.now) (drop (i + 1) parts) in
    let whole = joined_split (λ (part : Bor (List ℕ)). part.now) parts (i + 1) ∙ ap (λ l. l ++ others) (joined_more (λ (part : Bor (List ℕ)). part.now) parts i none c.loop-part-test.true) in
    gives_fault c.from_residual.result _ _ _ c.from_residual.ensures.0
    (subst (AppendsFront (g.L.Link.given c.args.link.now) (g.L.Link.given c.gather.new.link)) (sym whole)
    (front_before _ _ _ others (part_of _ _ _ _ _ _ c.loop-part.invariant.so c.in_err-gather.ensures.gathers)))

pub loop-part-preserved : goal.loop-part-preserved
loop-part-preserved g c = record {
  so = subst (SoFar (g.L.Link.given c.args.link.now) (g.L.Link.given c.gather.new.link) c.gather.new.room.items)
      (sym (joined_more (λ part. part.now) c.args.parts.now c.loop-part.part-index none c.loop-part-test.true))
      (one_part _ _ _ _ _ _ _ c.loop-part.invariant.so c.in_ok-gather.ensures.gathers);
  left = Keeps-trans _ _ _ c.loop-part.invariant.left c.in_ok-gather.ensures.left;
  faults = c.in_ok-gather.ensures.counts ∙ c.loop-part.invariant.faults;
}

pub returns-clause-given : goal.returns-clause-given
returns-clause-given g c =
    let parts = c.args.parts.now in
    let so = subst (SoFar (g.L.Link.given c.args.link.now) (g.L.Link.given c.loop-part.link) c.loop-part.room.items)
    (ap (joined (λ (part : Bor (List ℕ)). part.now)) (take_all c.loop-part.part-index parts c.loop-part-test.false)) c.loop-part.invariant.so in
    gives_parts c.send_all.result _ _ _ _ _
    (subst (λ l. SoFar (g.L.Link.given c.args.link.now) (g.L.Link.given c.loop-part.link) l (joined (λ (part : Bor (List ℕ)). part.now) parts)) (sym c.as_slice.ensures.value) so)
    c.send_all.ensures.given
