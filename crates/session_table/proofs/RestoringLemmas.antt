-- A directory of sessions that a store brought back has entries of one caller.
use Rattle.std.proofs.Common.{◌≡◌, ℕ, Bool, true, false, List, sym, subst}
use Rattle.std.proofs.lemmas.List.Elements.{All-push}
use Rattle.session_table.specs.declared.entry.Entry.{Entry}
use Rattle.session_table.specs.declared.handle.SessionHandle.{SessionHandle}
use Rattle.session_table.specs.Entering.{AreOf, EntersOpening, RemovesOrNot}

pub opened_of : (old : List Entry) (caller : ℕ) (x : SessionHandle) (new : List Entry) → AreOf caller old → EntersOpening old caller x new → AreOf caller new
opened_of old caller x new all enters =
    subst (λ log. AreOf caller log) (sym enters.appended) (All-push (λ (e : Entry). e.caller ≡ caller) old enters.entry all enters.caller_is)

pub removed_of : (old : List Entry) (caller : ℕ) (sid : List ℕ) (removed : Bool) (new : List Entry) → AreOf caller old → RemovesOrNot old caller sid removed new → AreOf caller new
removed_of old caller sid true new all removes =
    subst (λ log. AreOf caller log) (sym removes.appended) (All-push (λ (e : Entry). e.caller ≡ caller) old removes.entry all removes.caller_is)
removed_of old caller sid false new all stays = subst (λ log. AreOf caller log) (sym stays.0) all
