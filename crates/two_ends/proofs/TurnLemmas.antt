-- What a call does to a manager.
use Rattle.std.proofs.Common.{◌≡◌, ℕ, List, [], ◌++◌, Option, Some, None, Result, Ok, Err, IfOk, sym, subst, ◌∙◌, ap, append_assoc, if◌then◌else◌}
use Rattle.std.specs.Prelude.{IfSome}
use Rattle.session_core.specs.declared.replies.Ticked.TheVariants.{Quiet}
use Rattle.session_core.specs.Journal.{Time, Tick, ToTick, Journal, state_of, within_limit}
use Rattle.session_core.specs.Machine.{tick}
use Rattle.session_laws.proofs.LawsOf.{every_quiet}
use Rattle.session_calls.specs.After.{after_call, with_entered}

-- what follows for a value follows for each answer that has one
pub IfOk-from : {T E : Type 0} (r : Result T E) (P Q : T → Type 0) → ((x : T) → P x → Q x) → IfOk r P → IfOk r Q
IfOk-from (Ok x) P Q follows is = follows x is
IfOk-from (Err e) P Q follows is = is

-- four lists one after the other
pub joined : {X : Type 0} (second third fourth fifth none one two three four : List X)
    → none ≡ [] → one ≡ none ++ second → two ≡ one ++ third → three ≡ two ++ fourth → four ≡ three ++ fifth
    → four ≡ second ++ (third ++ (fourth ++ fifth))
joined second third fourth fifth none one two three four empty a b c d =
    d ∙ ap (λ l. l ++ fifth) (c ∙ ap (λ l. l ++ fourth) (b ∙ ap (λ l. l ++ third) (a ∙ ap (λ l. l ++ second) empty)))
    ∙ append_assoc (second ++ third) fourth fifth
    ∙ append_assoc second third (fourth ++ fifth)

-- where a tick is quiet nothing was due, and nothing is entered
pub quiet_same : (journal : Journal) (now : ℕ) → Quiet ≡ (tick (state_of journal) now).1 → after_call journal (Tick now) ≡ journal
quiet_same journal now quiet =
    ap (λ due. with_entered journal (if due then Some (within_limit (state_of journal) Time now (Tick now)) else None))
    ((every_quiet (state_of journal) now).0 (ap ToTick (sym quiet)))

-- what holds of a value that is there
pub some_of : {T : Type 0} (o : Option T) (P : T → Type 0) (x : T) → o ≡ Some x → IfSome o P → P x
some_of o P x is has = subst (λ p. IfSome p P) is has
