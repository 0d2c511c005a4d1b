use Rattle.std.proofs.Common.{◌∙◌, sym, refl}
use Rattle.session_core.specs.StandsFor.{StandsFor}
use Rattle.session_core.proofs.ServedLemmas.{does_same, late_back}
use Rattle.session_core.proofs.StandingLemmas.{over_is}
use Rattle.session_core.proofs.session.Session.back.Goals as goal

pub returns-then-is_some : goal.returns-then-is_some
unfolding StandsFor
returns-then-is_some c = record {
  step = λ plain stands.
      does_same (late_back plain c.args.stream c.args.stanza.now c.args.now (sym (over_is stands) ∙ sym c.is_some.ensures ∙ c.if-is_some.true))
      (record { replies = refl; after = stands });
  err = tt;
}

pub returns : goal.returns
unfolding StandsFor
returns c = record {
  step = λ plain stands.
      c.in_ok-taken.ensures plain (c.in_ok-draft.ensures plain stands) (sym (over_is stands) ∙ sym c.is_some.ensures ∙ c.if-is_some.false);
  err = tt;
}
