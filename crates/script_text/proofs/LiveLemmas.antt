-- What a line does to one session.
use Rattle.std.proofs.Common.{◌≡◌, ℕ, List, [], ◌++◌, Some, None, Result, Ok, Err, IfOk, sym, ◌∙◌, ap, append_assoc, if◌then◌else◌}
use Rattle.session_core.specs.declared.replies.Ticked.TheVariants.{Quiet}
use Rattle.session_core.specs.Journal.{Time, Tick, ToTick, Journal, state_of, within_limit}
use Rattle.session_core.specs.Machine.{tick}
use Rattle.session_laws.proofs.LawsOf.{every_quiet}
use Rattle.script_text.specs.declared.live.Turned.{Turned}
use Rattle.session_calls.specs.After.{after_call, with_entered}
use Rattle.script_text.specs.Live.{Turn, refused_first}
use Rattle.script_text.specs.Stands.{IsTurn}

-- what follows for a value follows for each answer that has one
pub IfOk-from : {T E : Type 0} (r : Result T E) (P Q : T → Type 0) → ((x : T) → P x → Q x) → IfOk r P → IfOk r Q
IfOk-from (Ok x) P Q follows is = follows x is
IfOk-from (Err e) P Q follows is = is

-- four lists one after the other
pub joined : {X : Type 0} (first second third fourth fifth one two three four : List X)
    → one ≡ first ++ second → two ≡ one ++ third → three ≡ two ++ fourth → four ≡ three ++ fifth
    → four ≡ first ++ (second ++ (third ++ (fourth ++ fifth)))
joined first second third fourth fifth one two three four a b c d =
    d ∙ ap (λ l. l ++ fifth) (c ∙ ap (λ l. l ++ fourth) (b ∙ ap (λ l. l ++ third) a))
    ∙ append_assoc ((first ++ second) ++ third) fourth fifth
    ∙ append_assoc (first ++ second) third (fourth ++ fifth)
    ∙ append_assoc first second (third ++ (fourth ++ fifth))

-- nothing was told before
pub unrefused : (turned : Turned) (turn : Turn) → IsTurn turned (refused_first [] turn) → IsTurn turned turn
unrefused turned turn it = record { lines = it.lines; live = it.live }

-- where a tick is quiet nothing was due, and nothing is entered
pub quiet_same : (journal : Journal) (now : ℕ) → Quiet ≡ (tick (state_of journal) now).1 → after_call journal (Tick now) ≡ journal
quiet_same journal now quiet =
    ap (λ due. with_entered journal (if due then Some (within_limit (state_of journal) Time now (Tick now)) else None))
    ((every_quiet (state_of journal) now).0 (ap ToTick (sym quiet)))
