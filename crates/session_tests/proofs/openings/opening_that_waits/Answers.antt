use Rattle.std.proofs.Common.{subst, sym, ◌∙◌}
use Rattle.session_core.specs.Journal.{IsReadFrom}
use Rattle.body_cutter.specs.BodyText.{IsText}
use Rattle.std.proofs.Common.{ℕ, List, ◌≤◌, length}
use Rattle.session_tests.proofs.TestOpening.{sid_is_text, host_is_text, empty_may_greet}
use Rattle.session_tests.proofs.openings.opening_that_waits.Goals as goal

-- the creation was read from the body, and the greeting is empty
pub returns : goal.returns
returns c = record {
  read = subst (λ b. IsReadFrom b c.in-Some.request) (sym c.in_ok-text.ensures) c.in-Some.ensures;
  creation = (c.in-Some-creation_in.creation, c.in-Some-creation_in.ensures, c.negotiate.ensures);
  sid = subst (λ (n : List ℕ). IsText n × (1 ≤ length n) × (length n ≤ 64)) (sym (c.from_vec.ensures ∙ c.in_ok-from_slice.ensures.items)) sid_is_text;
  host = subst (λ (n : List ℕ). IsText n × (1 ≤ length n) × (length n ≤ 1023)) (sym c.in_ok-text-2.ensures) host_is_text;
  gap = c.requires;
  greeting = empty_may_greet _ c.no_stanzas.ensures;
}
