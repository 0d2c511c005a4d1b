use Rattle.std.proofs.Common.{◌≡◌, ◌∙◌, ◌&&◌, Bool, true, false, not, List, ℕ, ap, refl, sym}
use Rattle.stream_names.specs.Streams.{is_among}
use Rattle.session_core.specs.StandsFor.{StandsFor}
use Rattle.session_core.proofs.ServedLemmas.{takes_is}
use Rattle.session_core.proofs.session.Session.takes_items.Goals as goal

last_no : (a b c : Bool) → ((a && b) && not c) ≡ true → c ≡ false
last_no a b false is = refl
last_no true true true is = absurd (cc)
last_no true false true is = absurd (cc)
last_no false b true is = absurd (cc)

pub returns : goal.returns
unfolding StandsFor
returns c = record {
  unclosed = λ is. sym c.is_closed-closed.ensures ∙ last_no (not c.is_some.result) c.contains-runs.result c.is_closed-closed.result (sym c.takes.ensures ∙ is);
  of_plain = λ plain stands. c.takes.ensures
      ∙ (λ i. (not (c.is_some.ensures i) && (c.contains-runs.ensures ∙ ap (λ (xs : List ℕ). is_among xs c.args.stream) c.running.ensures) i) && not (c.is_closed-closed.ensures i)) ∙ takes_is stands c.args.stream c.number-number.ensures.in_range;
}
