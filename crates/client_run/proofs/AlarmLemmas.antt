-- The alarm of a crew.
use Rattle.std.proofs.Common.{◌≡◌, ◌&&◌, ℕ, Bool, true, false, List, [], ◌∷◌, ◌++◌, Some, None, refl, sym, ◌∙◌, ap, subst}
use Rattle.std.specs.Prelude.{Option, not}
use Rattle.parked_gate.specs.Histories.{Appends}
use Rattle.parked_gate.specs.Passes.{Known}
use Rattle.client_run.specs.Alarms.{Raises, has_heard, is_raised}

-- who has seen that it was raised, and entered nothing, has heard it
pub heard_by : (alarm : Known ℕ) → is_raised alarm.seen ≡ true → alarm.mine ≡ [] → has_heard alarm ≡ true
heard_by alarm raised mine = ap (λ b. b && not (is_raised alarm.mine)) raised ∙ ap (λ es. not (is_raised es)) mine

-- the first who raises it is entered
pub raised_first : (number : ℕ) (before after : List ℕ) → before ≡ [] → after ≡ number ∷ [] → (made : Option ℕ) × Appends (λ caller. caller) number before made after × Raises before made
raised_first number before after none one = (Some number, (one ∙ ap (λ front. front ++ number ∷ []) (sym none), refl), subst (λ log. Raises log (Some number)) (sym none) tt)
