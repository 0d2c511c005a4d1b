-- What a whole turn adds to what a pass knows.
use Rattle.std.proofs.Common.{◌≡◌, ℕ, List, [], ◌∷◌, ◌++◌, length, Option, Some, None, MatchOption, sym, ap, ◌∙◌, subst}
use Rattle.std.proofs.lemmas.List.{append-nil}
use Rattle.parked_gate.specs.declared.view.View.{View}
use Rattle.parked_gate.specs.Histories.{StartsWith, calls_of, Appends}
use Rattle.parked_gate.specs.Steps.{SeatOf, queued, holding, learned, entered, rested, HasRun}
use Rattle.parked_gate.specs.Passes.{Known, Calls, Looks}
use Rattle.parked_gate.proofs.Lists.{calls_made}

module _ {O E : Type 0} (history : O → List E) (caller_of : E → ℕ) where
  -- a seat when it has learnt the history of x in its turn
  abbrev pub begun : View E → ℕ → O → SeatOf O E
  begun v turn x = (learned (holding (queued v turn) (history x)) (history x), (0, Some x) ∷ [])

  -- what the end of a turn does to a seat
  abbrev pub Finishes : SeatOf O E → SeatOf O E → Type 0
  Finishes me after = (log : List E) (made : Option E) (x : O) (n : ℕ) → HasRun history caller_of me log made x n
      → ◌≡◌ {A = SeatOf O E} after (rested (entered me.0 (history x) (calls_of caller_of n (history x))), [])

  module _ (v : View E) (n turn : ℕ) (x y : O) (made : Option E) (second third last : SeatOf O E)
      (at_first : ◌≡◌ {A = SeatOf O E} second (begun v turn x)) (then : ◌≡◌ {A = SeatOf O E} third (second.0, (0, Some y) ∷ []))
      (number : v.number ≡ Some n) (own : calls_of caller_of n (history x) ≡ v.mine) (appends : Appends caller_of n (history x) made (history y)) where
    whole : ◌≡◌ {A = SeatOf O E} third ((begun v turn x).0, (0, Some y) ∷ [])
    whole = then ∙ ap (λ (m : SeatOf O E). (m.0, (0, Some y) ∷ [])) at_first

    pub has_run : HasRun history caller_of third (history x) made y n
    has_run = record {
      object = ap (λ m. m.1) whole;
      held = ap (λ m. m.0.held) whole;
      number = ap (λ m. m.0.number) whole ∙ number;
      seen = ap (λ m. m.0.seen) whole;
      mine = own ∙ sym (ap (λ m. m.0.mine) whole);
      appends = appends;
    }

    module _ (finishes : Finishes third last) where
      pub ended : ◌≡◌ {A = SeatOf O E} last (rested (entered (begun v turn x).0 (history y) (calls_of caller_of n (history y))), [])
      ended = finishes (history x) made y n has_run ∙ ap (λ (m : SeatOf O E). (rested (entered m.0 (history y) (calls_of caller_of n (history y))), [])) whole

      abbrev old : Known E
      old = record { number = n; seen = v.seen; mine = v.mine; learnt = v.learnt }

      abbrev new : Known E
      new = record { number = n; seen = last.0.seen; mine = last.0.mine; learnt = last.0.learnt }

      learnt : last.0.learnt ≡ (v.learnt ++ []) ++ length (history x) ∷ []
      learnt = ap (λ m. m.0.learnt) ended ∙ ap (λ (l : List ℕ). l ++ length (history x) ∷ []) (sym (append-nil v.learnt))

      -- a turn in which the object was called
      pub calls : {Says : List E → Option E → Type 0} → StartsWith (history x) v.seen → Says (history x) made → Calls caller_of Says old new
      calls starts says = record {
        before = history x;
        made = made;
        begins = starts;
        says = says;
        seen = subst (λ (l : List E). Appends caller_of n (history x) made l) (sym (ap (λ m. m.0.seen) ended)) appends;
        mine = ap (λ m. m.0.mine) ended ∙ calls_made caller_of n (history x) (history y) v.mine made appends own;
        earlier = [];
        learnt = learnt;
      }

      -- a turn in which the object was asked
      pub looks : {Says : List E → Type 0} → history y ≡ history x → StartsWith (history x) v.seen → Says (history x) → Looks Says old new
      looks {Says} same starts says =
          let seen : last.0.seen ≡ history x = ap (λ m. m.0.seen) ended ∙ same in
          record {
            begins = subst (λ (l : List E). StartsWith l v.seen) (sym seen) starts;
            says = subst Says (sym seen) says;
            mine = ap (λ m. m.0.mine) ended ∙ (ap (calls_of caller_of n) same ∙ own);
            earlier = [];
            learnt = learnt ∙ ap (λ (l : List E). (v.learnt ++ []) ++ length l ∷ []) (sym seen);
          }

      -- a turn in which the object was polled
      pub polls : {F : Type 0} (Lacks : List E → Type 0) (Finds : F → List E → Option E → Type 0) → StartsWith (history x) v.seen → (found : Option F)
          → MatchOption found ((made ≡ None) × Lacks (history x)) (λ f. Finds f (history x) made)
          → MatchOption found (Looks Lacks old new) (λ f. Calls caller_of (Finds f) old new)
      polls Lacks Finds starts None says = looks (subst (λ (o : Option E). Appends caller_of n (history x) o (history y)) says.0 appends) starts says.1
      polls Lacks Finds starts (Some f) says = calls starts says
