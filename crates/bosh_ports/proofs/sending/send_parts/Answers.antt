use Rattle.std.proofs.Common.{List, ℕ, [], ◌+◌, ◌++◌, Bor, drop, sym, ◌∙◌, ap, subst, arith}
use Rattle.std.proofs.KnownBytes.{Appends-trans, Keeps-trans}
use Rattle.std.specs.Io.KnownBytes.{Appends}
use Rattle.bosh_ports.proofs.PartsLemmas.{joined, joined_more, joined_split, front_of_parts, gives_fault}
use Rattle.bosh_ports.proofs.sending.send_parts.Goals as goal

-- a part that isn't there
abbrev none : Bor (List ℕ)
none = record { ref_ptr = (0, 0); now = [] }

pub returns-in_err-send_all-clause-given : goal.returns-in_err-send_all-clause-given
returns-in_err-send_all-clause-given g c =
    let parts = c.args.parts.now in
    let i = c.loop-part.part-index in
    let others = joined (λ (part : Bor (List ℕ)). part.now) (drop (i + 1) parts) in
    gives_fault c.from_residual.result _ _ _ c.from_residual.ensures.0
    (front_of_parts _ _ _ _ _ _ others c.loop-part.invariant.given c.in_err-send_all.ensures.given
    (joined_split (λ part. part.now) parts (i + 1) ∙ ap (λ l. l ++ others) (joined_more (λ part. part.now) parts i none c.loop-part-test.true)))

pub loop-part-preserved : goal.loop-part-preserved
loop-part-preserved g c = record {
  given = subst (Appends (g.L.Link.given c.args.link.now) (g.L.Link.given c.send_all.new.link))
      (sym (joined_more (λ part. part.now) c.args.parts.now c.loop-part.part-index none c.loop-part-test.true))
      (Appends-trans _ _ _ _ _ c.loop-part.invariant.given c.in_ok-send_all.ensures.given);
  left = Keeps-trans _ _ _ c.loop-part.invariant.left c.in_ok-send_all.ensures.left;
  faults = c.in_ok-send_all.ensures.counts ∙ c.loop-part.invariant.faults;
}
