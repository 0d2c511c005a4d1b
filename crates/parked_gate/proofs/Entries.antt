-- The steps that learn the history and add to it keep the rule: learn, enter.
use Rattle.std.proofs.Common.{◌≡◌, ◌≢◌, ℕ, zero, suc, get_or, ◌+◌, ◌%◌, ◌<◌, ◌^◌, List, [], ◌∷◌, ◌++◌, length, set, All, Option, Some, None, refl, sym, ap, ◌∙◌, subst, length-append, arith}
use Rattle.std.proofs.lemmas.List.Elements.{All-append}
use Rattle.std.proofs.Math.Nat.{mod-eq_of_lt}
use mathlib.Core.Option.{some, none}
use lib.ListN.{get_elem?}
use Rattle.atomic_table.specs.Table.{State, Allows, step, keeps}
use Rattle.parked_gate.specs.declared.view.View.{View}
use Rattle.parked_gate.specs.Histories.{StartsWith, calls_of}
use Rattle.parked_gate.specs.Rule.{IsAt, Fits, Kept}
use Rattle.parked_gate.specs.Steps.{SeatOf, learned, entered, Learns, Enters, HasRun}
use Rattle.parked_gate.proofs.Lists.{Some-injective, begins_itself, begins_later, calls_other, set_there, waiting-set}
use Rattle.parked_gate.proofs.Keeping.{Going, four, each_set, one_holds, view_changes}

module _ {O E : Type 0} (history : O → List E) (caller_of : E → ℕ) where
  learns_at : (s : State (Option O) (View E)) (k : Kept history caller_of s) (slots id : ℕ) (v : View E) (c : List (ℕ × Option O)) (l : List E)
      → v.held ≡ Some l → get_elem? s.views id ≡ some v
      → Going (Kept history caller_of) id (v, c) 0 (λ n. n) (Learns caller_of (step slots 0 0 0 none) (v, c)) s.homes s.views
      (four (length k.log) k.drawn k.serving k.numbers)
  learns_at s k slots id v c l holds at =
      let f = k.fits id v at in
      let w = learned v k.log in
      let mine : Fits caller_of k.log k.drawn k.serving k.numbers k.turns k.owners k.out id w =
      record {
        turn = f.turn;
        held = f.held;
        number = f.number;
        gift = f.gift;
        seen = begins_itself k.log;
        met = f.met;
      } in (
        w,
        keeps,
        tt,
        view_changes history caller_of s k id v w at refl refl mine,
        λ log has. (let same : k.log ≡ log = sym (f.held log has).1 in
            subst (λ (m : List E). (◌≡◌ {A = SeatOf O E} (learned v k.log, c) (learned v m, c)) × (length k.log ≡ length m) × StartsWith m v.seen × ((n : ℕ) → v.number ≡ Some n → calls_of caller_of n m ≡ v.mine))
            same (refl, refl, f.seen, λ n is. (f.number n is).2)),
      )

  pub learns : (slots id : ℕ) (v : View E) (c : List (ℕ × Option O)) (l : List E) → v.held ≡ Some l
      → Allows (Kept history caller_of) slots id (v, c) 0 (λ n. n) (Learns caller_of (step slots 0 0 0 none) (v, c))
  learns slots id v c l holds s k len at small =
      subst (Going (Kept history caller_of) id (v, c) 0 (λ n. n) (Learns caller_of (step slots 0 0 0 none) (v, c)) s.homes s.views)
      (sym k.words) (learns_at s k slots id v c l holds at)

  enters_at : (s : State (Option O) (View E)) (k : Kept history caller_of s) (slots id : ℕ) (v : View E) (x : O) (n : ℕ) (e : E)
      → v.number ≡ Some n → v.held ≡ Some k.log → history x ≡ k.log ++ e ∷ [] → caller_of e ≡ n → length (history x) < 2 ^ 64 → get_elem? s.views id ≡ some v
      → Going (Kept history caller_of) id (v, (0, Some x) ∷ []) 0 (λ m. (m + 1) % 2 ^ 64) (Enters history caller_of (step slots 0 1 0 none) (v, (0, Some x) ∷ [])) s.homes s.views
      (four (length k.log) k.drawn k.serving k.numbers)
  enters_at s k slots id v x n e number holds more own small at =
      let f = k.fits id v at in
      let held = f.held k.log holds in
      let numbered = f.number n number in
      let h = history x in
      let w = entered v h (calls_of caller_of n h) in
      let count = waiting-set s.views id v w at in
      let queue = k.queue in
      let longer : length h ≡ length k.log + 1 = ap length more ∙ length-append k.log (e ∷ []) in
      let next : (length k.log + 1) % 2 ^ 64 ≡ length h = (let fits : length k.log + 1 < 2 ^ 64 = omega arith in mod-eq_of_lt fits) ∙ sym longer in
      let below : caller_of e < k.numbers = (let lt = numbered.0 in omega arith) in
      let callers : All (λ (y : E). caller_of y < k.numbers) h =
      subst (All (λ (y : E). caller_of y < k.numbers)) (sym more)
      (All-append (λ (y : E). caller_of y < k.numbers) k.log (e ∷ []) k.callers (only e below)) in
      let later : (seen : List E) → StartsWith k.log seen → StartsWith h seen =
      λ seen p. subst (λ (l : List E). StartsWith l seen) (sym more) (begins_later k.log seen (e ∷ []) p) in
      let same : (m : ℕ) → m ≢ n → calls_of caller_of m h ≡ calls_of caller_of m k.log =
      λ m apart. ap (calls_of caller_of m) more ∙ calls_other caller_of m k.log e (λ is. apart (sym is ∙ own)) in
      let others : (j : ℕ) (u : View E) → j ≢ id → get_elem? s.views j ≡ some u → Fits caller_of h k.drawn k.serving k.numbers k.turns k.owners k.out j u =
      λ j u apart there. (let g = k.fits j u there in record {
        turn = g.turn;
        held = λ l has. absurd (apart (one_holds history caller_of k id j v u k.log l at there holds has));
        number = λ m has. (let was = g.number m has in
            (was.0, was.1, same m (λ is. apart (sym was.1 ∙ (ap k.owners is ∙ numbered.1))) ∙ was.2));
        gift = λ m has. (let was = g.gift m has in
            (was.0, was.1, same m (λ is. apart (sym was.1 ∙ (ap k.owners is ∙ numbered.1))) ∙ was.2, was.3));
        seen = later u.seen g.seen;
        met = λ m has. (let was = g.met m has in (later m.seen was.0, was.1));
      }) in
      let mine : Fits caller_of h k.drawn k.serving k.numbers k.turns k.owners k.out id w =
      record {
        turn = f.turn;
        held = λ l has. (held.0, sym (Some-injective h l has), held.2);
        number = λ m has. (let is : n ≡ m = Some-injective n m (sym number ∙ has) in
            (subst (λ (y : ℕ). y < k.numbers) is numbered.0, ap k.owners (sym is) ∙ numbered.1, ap (λ (y : ℕ). calls_of caller_of y h) (sym is)));
        gift = λ m has. (let was = f.gift m has in
            (was.0, was.1, same m (λ is. was.3 (number ∙ ap (λ (y : ℕ). Some y) (sym is))) ∙ was.2, was.3));
        seen = begins_itself h;
        met = λ m has. (let was = f.met m has in (later m.seen was.0, was.1));
      } in (
        w,
        keeps,
        tt,
        record {
          log = h;
          drawn = k.drawn;
          serving = k.serving;
          numbers = k.numbers;
          turns = k.turns;
          owners = k.owners;
          out = k.out;
          words = ap (λ (m : ℕ). four m k.drawn k.serving k.numbers) next;
          queue = omega arith;
          room = k.room;
          place = subst (λ (o : Option ℕ). IsAt history h s.homes (set s.views id w) o) (sym held.0)
              ((subst (λ (o : Option ℕ). IsAt history k.log s.homes s.views o) held.0 k.place).0, (w, set_there s.views id v w at, refl));
          callers = callers;
          fits = each_set history caller_of (Fits caller_of h k.drawn k.serving k.numbers k.turns k.owners k.out) s.views id w others mine;
        },
        λ m y is has. told m y is has,
      )
    where
      only : (y : E) → caller_of y < k.numbers → (j : ℕ) (d : E) → j < length (y ∷ []) → caller_of (get_or (y ∷ []) j d) < k.numbers
      only y lt zero d within = lt
      only y lt (suc j) d within = absurd (omega arith)

      told : (m : ℕ) (y : O) → v.number ≡ Some m → ◌≡◌ {A = List (ℕ × Option O)} ((0, Some x) ∷ []) ((0, Some y) ∷ [])
          → ◌≡◌ {A = SeatOf O E} (entered v (history x) (calls_of caller_of n (history x)), (0, Some x) ∷ []) (entered v (history y) (calls_of caller_of m (history y)), (0, Some x) ∷ [])
      told m y is has =
          let p : x ≡ y = Some-injective x y (ap (λ (l : List (ℕ × Option O)). (get_or l 0 (0, None)).1) has) in
          let q : n ≡ m = Some-injective n m (sym number ∙ is) in
          λ i. (entered v (history (p i)) (calls_of caller_of (q i) (history (p i))), (0, Some x) ∷ [])

  pub enters : (slots id : ℕ) (v : View E) (c : List (ℕ × Option O)) (l : List E) (x : O) (n : ℕ) (e : E)
      → v.number ≡ Some n → v.held ≡ Some l → c ≡ (0, Some x) ∷ [] → history x ≡ l ++ e ∷ [] → caller_of e ≡ n → length (history x) < 2 ^ 64
      → Allows (Kept history caller_of) slots id (v, c) 0 (λ m. (m + 1) % 2 ^ 64) (Enters history caller_of (step slots 0 1 0 none) (v, c))
  enters slots id v c l x n e number holds has more own small s k len at fits =
      let same : l ≡ k.log = ((k.fits id v at).held l holds).1 in
      subst (λ (d : List (ℕ × Option O)). Going (Kept history caller_of) id (v, d) 0 (λ m. (m + 1) % 2 ^ 64) (Enters history caller_of (step slots 0 1 0 none) (v, d)) s.homes s.views s.words) (sym has)
      (subst (Going (Kept history caller_of) id (v, (0, Some x) ∷ []) 0 (λ m. (m + 1) % 2 ^ 64) (Enters history caller_of (step slots 0 1 0 none) (v, (0, Some x) ∷ [])) s.homes s.views)
      (sym k.words)
      (enters_at s k slots id v x n e number (holds ∙ ap (λ (m : List E). Some m) same) (more ∙ ap (λ (m : List E). m ++ e ∷ []) same) own small at))

  -- where the object's history is longer than it was, it has the entry that was made
  pub enters_made : (slots id : ℕ) (v : View E) (c : List (ℕ × Option O)) (l : List E) (made : Option E) (x : O) (n : ℕ)
      → HasRun history caller_of (v, c) l made x n → length l ≢ length (history x) → length (history x) < 2 ^ 64
      → Allows (Kept history caller_of) slots id (v, c) 0 (λ m. (m + 1) % 2 ^ 64) (Enters history caller_of (step slots 0 1 0 none) (v, c))
  enters_made slots id v c l None x n run apart small = absurd (apart (sym (ap length run.appends)))
  enters_made slots id v c l (Some e) x n run apart small =
      enters slots id v c l x n e run.number run.held run.object run.appends.0 run.appends.1 small
