-- A pass that has seen how its session was opened goes on having seen it.
use Rattle.std.proofs.Common.{◌≡◌, ◌==◌, ℕ, List, [], ◌∷◌, ◌++◌, Option, Some, None, refl, sym, ◌∙◌, ap, append_assoc}
use Rattle.parked_gate.specs.Histories.{Appends, StartsWith}
use Rattle.parked_gate.specs.Passes.{Calls, Known, Looks}
use Rattle.session_journal.specs.declared.entry.Entry.{Entry}
use Rattle.session_table.specs.Opens.{opened_sid}

goes_on : (seen more : List Entry) (sid : List ℕ) → opened_sid seen ≡ Some sid → opened_sid (seen ++ more) ≡ Some sid
goes_on [] more sid is = absurd (cc)
goes_on (e ∷ es) more sid is = is

pub begins : (log seen : List Entry) (sid : List ℕ) → StartsWith log seen → opened_sid seen ≡ Some sid → opened_sid log ≡ Some sid
begins log seen sid starts is = ap opened_sid starts.1 ∙ goes_on seen starts.0 sid is

appended : (caller : ℕ) (before after : List Entry) (made : Option Entry) (sid : List ℕ) → Appends (λ e. e.caller) caller before made after
    → opened_sid before ≡ Some sid → opened_sid after ≡ Some sid
appended caller before after None sid same is = ap opened_sid same ∙ is
appended caller before after (Some e) sid added is = ap opened_sid added.0 ∙ goes_on before (e ∷ []) sid is

pub after_call : {Says : List Entry → Option Entry → Type 0} (old new : Known Entry) (sid : List ℕ) → Calls (λ e. e.caller) Says old new
    → opened_sid old.seen ≡ Some sid → opened_sid new.seen ≡ Some sid
after_call old new sid calls is = appended old.number calls.before new.seen calls.made sid calls.seen (begins calls.before old.seen sid calls.begins is)

pub after_look : {Says : List Entry → Type 0} (old new : Known Entry) (sid : List ℕ) → Looks Says old new
    → opened_sid old.seen ≡ Some sid → opened_sid new.seen ≡ Some sid
after_look old new sid looks is = begins new.seen old.seen sid looks.begins is
