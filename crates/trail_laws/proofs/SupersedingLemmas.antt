-- Behind an arrival that waits all entries are other callers'.
use Rattle.std.proofs.Common.{◌≡◌, ◌≢◌, ℕ, Bool, true, false, cond, List, [], ◌∷◌, ◌++◌, Option, Some, None, refl, sym, ◌∙◌, ap, subst, eq-eqb, true≢false, append-nil}
use Rattle.std.specs.Prelude.{◌==◌}
use Rattle.std.specs.Option.{option_to_list}
use Rattle.parked_gate.specs.Histories.{Appends, calls_of}
use Rattle.parked_gate.specs.Passes.{known}
use Rattle.session_journal.specs.declared.entry.Entry.{Entry}
use Rattle.session_journal.specs.Stored.{Replies}
use Rattle.session_core.specs.Journal as plain
use Rattle.session_table.specs.declared.purse.Purse.{Purse}
use Rattle.serve_loop.specs.declared.answering.Waiting.{Waiting}
use Rattle.serve_loop.specs.Answering.{IsTakenOver}
use Rattle.serve_loop.specs.Connections.{IsTaken, Outside, Serves}
use Rattle.serve_loop.specs.declared.connection.ConnectionEnd.TheVariants.{Superseded}
use Rattle.serve_loop.specs.declared.trail.Traced.{Traced}
use Rattle.serve_loop.specs.Trail.{Names, Setting}
use Rattle.trail_laws.specs.Asking.{Every}
use Rattle.trail_laws.specs.Superseding.{IsTakenByOthers}

pub of_others : (number : ℕ) (log : List Entry) → calls_of (λ e. e.caller) number log ≡ [] → Every (λ (e : Entry). e.caller ≢ number) log
of_others number [] none = tt
of_others number (e ∷ es) none = by (e.caller == number) refl none (λ later. of_others number es later)
  where
    full : {A : Type 0} {x : A} {xs : List A} → x ∷ xs ≡ [] → ⊥
    full is = cc

    by : (b : Bool) → (e.caller == number) ≡ b → cond b (e ∷ calls_of (λ e. e.caller) number es) (calls_of (λ e. e.caller) number es) ≡ []
        → (calls_of (λ e. e.caller) number es ≡ [] → Every (λ (x : Entry). x.caller ≢ number) es) → Every (λ (e : Entry). e.caller ≢ number) (e ∷ es)
    by true is none next = absurd (full none)
    by false is none next = (λ same. absurd (true≢false (sym (eq-eqb e.caller number same) ∙ is)), next none)

appended : (number : ℕ) (before after : List Entry) (made : Option Entry) → Appends (λ e. e.caller) number before made after → after ≡ before ++ option_to_list made
appended number before after None appends = appends ∙ sym (append-nil before)
appended number before after (Some e) appends = appends.0

taken_by_others : (site : Setting) (old new : Purse) (body : List ℕ) (w : Waiting) → IsTakenOver site old new body w → IsTakenByOthers site new
taken_by_others site old new body w taken =
    let came = taken.came in
    record {
      number = w.session.number;
      handle = taken.handle;
      is = taken.is;
      body = body;
      request = taken.request;
      names = subst (λ sid. Names body sid taken.request) (sym taken.named) taken.names;
      ticket = w.ticket;
      before = came.before;
      arrival = came.entry;
      later = came.later;
      made = taken.made;
      seen = appended (known taken.handle.pass).number taken.before (known taken.handle.pass).seen taken.made taken.seen ∙ ap (λ l. l ++ option_to_list taken.made) came.there;
      arrived = came.waits;
      own = came.own;
      others = of_others (known taken.handle.pass).number came.later came.since;
      found = taken.found;
      gets_none = taken.gets_none;
      told = subst (λ log. Replies log (plain.Collect w.ticket) (plain.ToCollect taken.found) taken.made) came.there taken.told;
    }

pub superseded_by_others : (site : Setting) (start : Outside) (left given : Option (List ℕ)) (trail : List Traced) (purse : Purse) (faults : ℕ)
    → Serves site start left given trail purse faults Superseded → IsTakenByOthers site purse
superseded_by_others site start left given trail purse faults (kept, first, drops, taken) = taken_by_others site taken.purse purse taken.body taken.w taken.taken
