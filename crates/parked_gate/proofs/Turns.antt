-- The steps of a turn keep the rule: draw, watch, pass on.
use Rattle.std.proofs.Common.{◌≡◌, ◌≢◌, ◌==◌, ℕ, ◌+◌, ◌%◌, ◌<◌, ◌^◌, Bool, true, false, List, [], ◌∷◌, length, set, Option, Some, None, refl, sym, ap, ◌∙◌, subst, arith}
use Rattle.std.proofs.lemmas.Bool.Decides.{nat_tests}
use Rattle.std.proofs.Math.Nat.{mod-eq_of_lt}
use mathlib.Core.Option.{some, none, some-injective}
use mathlib.Core.Option.{Option as Place}
use prog.Atomic.{either}
use lib.ListN.{get_elem?}
use Rattle.atomic_table.specs.Table.{State, Allows, step, keeps, takes, gives}
use Rattle.parked_gate.specs.declared.view.View.{View}
use Rattle.parked_gate.specs.Rule.{turns_of, IsAt, Fits, Kept}
use Rattle.parked_gate.specs.Steps.{queued, holding, rested, Draws, Watches, PassesOn}
use Rattle.parked_gate.proofs.Lists.{Some-injective, None-ne-Some, put, put_here, put_else, set_there, waiting-set}
use Rattle.parked_gate.proofs.Keeping.{Going, four, place_set, each_set, one_holds, stays}

module _ {O E : Type 0} (history : O → List E) (caller_of : E → ℕ) where
  draws_when : (s : State (Option O) (View E)) (k : Kept history caller_of s) (slots id : ℕ) (v : View E) (c : List (ℕ × Option O)) (next : ℕ)
      → v.turn ≡ None → v.held ≡ None → next + 1 < 2 ^ 64 → get_elem? s.views id ≡ some v → (b : Bool) → (k.drawn == next) ≡ b
      → Going (Kept history caller_of) id (v, c) 1 (λ n. either (n == next) (next + 1) n) (Draws (step slots 1 next (next + 1) none) (v, c)) s.homes s.views
      (four (length k.log) k.drawn k.serving k.numbers)
  draws_when s k slots id v c next no_turn empty room at true is =
      let here : k.drawn ≡ next = grind (arith, nat_tests) in
      let w = queued v k.drawn in
      let count = waiting-set s.views id v w at in
      let none_before : turns_of v.turn ≡ 0 = ap turns_of no_turn in
      let queue = k.queue in
      let others : (j : ℕ) (u : View E) → j ≢ id → get_elem? s.views j ≡ some u → Fits caller_of k.log (next + 1) k.serving k.numbers (put k.turns k.drawn id) k.owners k.out j u =
      λ j u _ e. (let f = k.fits j u e in record {
        turn = λ t has. (let was = f.turn t has in let below : t ≢ k.drawn = (λ same. let lt = was.1 in omega arith) in (was.0, (let lt = was.1 in omega arith), put_else k.turns k.drawn id t below ∙ was.2));
        held = f.held;
        number = f.number;
        gift = f.gift;
        seen = f.seen;
        met = f.met;
      }) in
      let mine : Fits caller_of k.log (next + 1) k.serving k.numbers (put k.turns k.drawn id) k.owners k.out id w =
      (let f = k.fits id v at in record {
        turn = λ t has. (let same : k.drawn ≡ t = Some-injective k.drawn t has in
            (omega arith, omega arith, subst (λ (x : ℕ). put k.turns k.drawn id x ≡ id) same (put_here k.turns k.drawn id)));
        held = λ l has. absurd (None-ne-Some l (sym empty ∙ has));
        number = f.number;
        gift = f.gift;
        seen = f.seen;
        met = f.met;
      }) in
      rw is (
        w,
        keeps,
        tt,
        record {
          log = k.log;
          drawn = next + 1;
          serving = k.serving;
          numbers = k.numbers;
          turns = put k.turns k.drawn id;
          owners = k.owners;
          out = k.out;
          words = refl;
          queue = omega arith;
          room = room;
          place = place_set history caller_of k.log s.homes s.views id v w at refl k.out k.place;
          callers = k.callers;
          fits = each_set history caller_of (Fits caller_of k.log (next + 1) k.serving k.numbers (put k.turns k.drawn id) k.owners k.out) s.views id w others mine;
        },
        refl,
      )
  draws_when s k slots id v c next no_turn empty room at false is = rw is (v, keeps, tt, stays history caller_of s k id v at, refl)

  pub draws : (slots id : ℕ) (v : View E) (c : List (ℕ × Option O)) (next : ℕ) → v.turn ≡ None → v.held ≡ None → next + 1 < 2 ^ 64
      → Allows (Kept history caller_of) slots id (v, c) 1 (λ n. either (n == next) (next + 1) n) (Draws (step slots 1 next (next + 1) none) (v, c))
  draws slots id v c next no_turn empty room s k len at small =
      subst (Going (Kept history caller_of) id (v, c) 1 (λ n. either (n == next) (next + 1) n) (Draws (step slots 1 next (next + 1) none) (v, c)) s.homes s.views)
      (sym k.words) (draws_when s k slots id v c next no_turn empty room at (k.drawn == next) refl)

  -- where the turn of a seat is served that doesn't hold the object, the object is at home
  at_home : (s : State (Option O) (View E)) (k : Kept history caller_of s) (id : ℕ) (v : View E) → get_elem? s.views id ≡ some v → v.turn ≡ Some k.serving → v.held ≡ None
      → (out : Option ℕ) → k.out ≡ out → IsAt history k.log s.homes s.views out → (k.out ≡ None) × IsAt history k.log s.homes s.views None
  at_home s k id v at turn empty None is p = (is, p)
  at_home s k id v at turn empty (Some seat) is p =
      let u = p.1.0 in
      let holder = k.fits seat u p.1.1 in
      let theirs = holder.turn k.serving (holder.held k.log p.1.2).2 in
      let mine = (k.fits id v at).turn k.serving turn in
      let here : seat ≡ id = sym theirs.2 ∙ mine.2 in
      let one : u ≡ v = some-injective u v (sym p.1.1 ∙ subst (λ (j : ℕ). get_elem? s.views j ≡ some v) (sym here) at) in
      absurd (None-ne-Some k.log (sym empty ∙ (ap (λ (x : View E). x.held) (sym one) ∙ p.1.2)))

  watches_when : (s : State (Option O) (View E)) (k : Kept history caller_of s) (slots id : ℕ) (v : View E) (c : List (ℕ × Option O)) (t : ℕ)
      → v.turn ≡ Some t → v.held ≡ None → get_elem? s.views id ≡ some v → (b : Bool) → (k.serving == t) ≡ b
      → Going (Kept history caller_of) id (v, c) 2 (λ n. n) (Watches history (step slots 2 0 0 none) (v, c)) s.homes s.views
      (four (length k.log) k.drawn k.serving k.numbers)
  watches_when s k slots id v c t turn empty at true is =
      let here : k.serving ≡ t = grind (arith, nat_tests) in
      let served : v.turn ≡ Some k.serving = turn ∙ ap (λ (n : ℕ). Some n) (sym here) in
      let home = at_home s k id v at served empty k.out refl k.place in
      let x = home.1.0 in
      let same : history x ≡ k.log = home.1.2 in
      let w = holding v (history x) in
      let count = waiting-set s.views id v w at in
      let queue = k.queue in
      let others : (j : ℕ) (u : View E) → j ≢ id → get_elem? s.views j ≡ some u → Fits caller_of k.log k.drawn k.serving k.numbers k.turns k.owners (Some id) j u =
      λ j u _ e. (let f = k.fits j u e in record {
        turn = f.turn;
        held = λ l has. absurd (None-ne-Some j (sym home.0 ∙ (f.held l has).0));
        number = f.number;
        gift = f.gift;
        seen = f.seen;
        met = f.met;
      }) in
      let mine : Fits caller_of k.log k.drawn k.serving k.numbers k.turns k.owners (Some id) id w =
      (let f = k.fits id v at in record {
        turn = f.turn;
        held = λ l has. (refl, sym (Some-injective (history x) l has) ∙ same, served);
        number = f.number;
        gift = f.gift;
        seen = f.seen;
        met = f.met;
      }) in (
        w,
        takes 0 (Some x),
        ap (λ (h : List (Place (Option O))). get_elem? h 0) home.1.1,
        record {
          log = k.log;
          drawn = k.drawn;
          serving = k.serving;
          numbers = k.numbers;
          turns = k.turns;
          owners = k.owners;
          out = Some id;
          words = refl;
          queue = omega arith;
          room = k.room;
          place = (ap (λ (h : List (Place (Option O))). set h 0 none) home.1.1, (w, set_there s.views id v w at, ap (λ (l : List E). Some l) same));
          callers = k.callers;
          fits = each_set history caller_of (Fits caller_of k.log k.drawn k.serving k.numbers k.turns k.owners (Some id)) s.views id w others mine;
        },
        λ t' has. (let one : (k.serving == t') ≡ true = subst (λ (n : ℕ). (k.serving == n) ≡ true) (Some-injective t t' (sym turn ∙ has)) is in
            rw one (x, refl)),
      )
  watches_when s k slots id v c t turn empty at false is = (
    v,
    keeps,
    tt,
    stays history caller_of s k id v at,
    λ t' has. (let one : (k.serving == t') ≡ false = subst (λ (n : ℕ). (k.serving == n) ≡ false) (Some-injective t t' (sym turn ∙ has)) is in
        rw one refl),
  )

  pub watches : (slots id : ℕ) (v : View E) (c : List (ℕ × Option O)) (t : ℕ) → v.turn ≡ Some t → v.held ≡ None
      → Allows (Kept history caller_of) slots id (v, c) 2 (λ n. n) (Watches history (step slots 2 0 0 none) (v, c))
  watches slots id v c t turn empty s k len at small =
      subst (Going (Kept history caller_of) id (v, c) 2 (λ n. n) (Watches history (step slots 2 0 0 none) (v, c)) s.homes s.views)
      (sym k.words) (watches_when s k slots id v c t turn empty at (k.serving == t) refl)

  -- the slot of an object that is out is empty
  slot_empty : (s : State (Option O) (View E)) (k : Kept history caller_of s) (id : ℕ) → k.out ≡ Some id → s.homes ≡ none ∷ []
  slot_empty s k id out = (subst (λ (o : Option ℕ). IsAt history k.log s.homes s.views o) out k.place).0

  passes_on_when : (s : State (Option O) (View E)) (k : Kept history caller_of s) (slots id : ℕ) (v : View E) (x : O) (c : List (ℕ × Option O))
      → v.held ≡ Some (history x) → get_elem? s.views id ≡ some v
      → Going (Kept history caller_of) id (v, (0, Some x) ∷ c) 2 (λ n. (n + 1) % 2 ^ 64) (λ _ after. after ≡ (rested v, c)) s.homes s.views
      (four (length k.log) k.drawn k.serving k.numbers)
  passes_on_when s k slots id v x c holds at =
      let f = k.fits id v at in
      let held = f.held (history x) holds in
      let turn = f.turn k.serving held.2 in
      let w = rested v in
      let count = waiting-set s.views id v w at in
      let had : turns_of v.turn ≡ 1 = ap turns_of held.2 in
      let queue = k.queue in
      let room = k.room in
      let below : k.serving < k.drawn = turn.1 in
      let small : k.serving + 1 < 2 ^ 64 = omega arith in
      let next : (k.serving + 1) % 2 ^ 64 ≡ k.serving + 1 = mod-eq_of_lt small in
      let others : (j : ℕ) (u : View E) → j ≢ id → get_elem? s.views j ≡ some u → Fits caller_of k.log k.drawn (k.serving + 1) k.numbers k.turns k.owners None j u =
      λ j u apart e. (let g = k.fits j u e in record {
        turn = λ t has. (let was = g.turn t has in
            let later : t ≢ k.serving = (λ same. apart (sym was.2 ∙ (ap k.turns same ∙ turn.2))) in
            ((let le = was.0 in omega arith), was.1, was.2));
        held = λ l has. absurd (apart (one_holds history caller_of k id j v u (history x) l at e holds has));
        number = g.number;
        gift = g.gift;
        seen = g.seen;
        met = g.met;
      }) in
      let mine : Fits caller_of k.log k.drawn (k.serving + 1) k.numbers k.turns k.owners None id w =
      record {
        turn = λ t has. absurd (None-ne-Some t has);
        held = λ l has. absurd (None-ne-Some l has);
        number = f.number;
        gift = f.gift;
        seen = f.seen;
        met = f.met;
      } in (
        w,
        gives,
        tt,
        record {
          log = k.log;
          drawn = k.drawn;
          serving = k.serving + 1;
          numbers = k.numbers;
          turns = k.turns;
          owners = k.owners;
          out = None;
          words = ap (λ (n : ℕ). four (length k.log) k.drawn n k.numbers) next;
          queue = omega arith;
          room = k.room;
          place = (x, ap (λ (h : List (Place (Option O))). set h 0 (some (Some x))) (slot_empty s k id held.0), held.1);
          callers = k.callers;
          fits = each_set history caller_of (Fits caller_of k.log k.drawn (k.serving + 1) k.numbers k.turns k.owners None) s.views id w others mine;
        },
        refl,
      )

  pub passes_on : (slots id : ℕ) (v : View E) (x : O) (c : List (ℕ × Option O)) → v.held ≡ Some (history x)
      → Allows (Kept history caller_of) slots id (v, (0, Some x) ∷ c) 2 (λ n. (n + 1) % 2 ^ 64) (PassesOn (step slots 2 1 0 none) (v, (0, Some x) ∷ c))
  passes_on slots id v x c holds s k len at small =
      subst (Going (Kept history caller_of) id (v, (0, Some x) ∷ c) 2 (λ n. (n + 1) % 2 ^ 64) (PassesOn (step slots 2 1 0 none) (v, (0, Some x) ∷ c)) s.homes s.views)
      (sym k.words) (passes_on_when s k slots id v x c holds at)

  pub passes_on_as : (slots id : ℕ) (v : View E) (x : O) (c : List (ℕ × Option O)) → c ≡ (0, Some x) ∷ [] → v.held ≡ Some (history x)
      → Allows (Kept history caller_of) slots id (v, c) 2 (λ n. (n + 1) % 2 ^ 64) (PassesOn (step slots 2 1 0 none) (v, c))
  passes_on_as slots id v x c is holds =
      subst (λ (d : List (ℕ × Option O)). Allows (Kept history caller_of) slots id (v, d) 2 (λ n. (n + 1) % 2 ^ 64) (PassesOn (step slots 2 1 0 none) (v, d)))
      (sym is) (passes_on slots id v x [] holds)
