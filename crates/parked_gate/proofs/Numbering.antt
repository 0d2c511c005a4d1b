-- The steps that make passes and join them keep the rule: number, split, join, compare.
use Rattle.std.proofs.Common.{◌≡◌, ◌≢◌, ◌==◌, ℕ, ◌+◌, ◌<◌, Bool, true, false, List, [], ◌∷◌, ◌++◌, length, set, All, Option, Some, None, refl, sym, ap, ◌∙◌, subst, ⊎_elim, arith}
use Rattle.std.proofs.lemmas.Bool.Decides.{nat_tests}
use mathlib.Core.Option.{some, none}
use mathlib.Core.Option.{Option as Place}
use prog.Atomic.{either}
use lib.ListN.{get_elem?}
use Rattle.atomic_table.specs.Table.{State, Step, Allows, Splits, Joins, step, keeps}
use Rattle.atomic_table.proofs.Lists.{set_else, at_longer}
use Rattle.parked_gate.specs.declared.view.View.{View}
use Rattle.parked_gate.specs.declared.view.Met.{Met}
use Rattle.parked_gate.specs.Histories.{StartsWith, calls_of, longer}
use Rattle.parked_gate.specs.Rule.{turns_of, IsAt, Fits, Kept}
use Rattle.parked_gate.specs.Steps.{SeatOf, endowed, parted, newcomer, met_of, meeting, nobody, compared, Numbers, Compares}
use Rattle.parked_gate.proofs.Lists.{Some-injective, None-ne-Some, put, put_here, put_else, longer_begins, calls_none, calls_between, calls_fresh, at_new, waiting-set, waiting-snoc}
use Rattle.parked_gate.proofs.Keeping.{Going, four, place_set, each_set, view_changes, stays}

module _ {O E : Type 0} (history : O → List E) (caller_of : E → ℕ) where
  numbers_when : (s : State (Option O) (View E)) (k : Kept history caller_of s) (slots id : ℕ) (v : View E) (c : List (ℕ × Option O)) (next n : ℕ)
      → v.number ≡ Some n → get_elem? s.views id ≡ some v → (b : Bool) → (k.numbers == next) ≡ b
      → Going (Kept history caller_of) id (v, c) 3 (λ m. either (m == next) (next + 1) m) (Numbers caller_of (step slots 3 next (next + 1) none) (v, c)) s.homes s.views
      (four (length k.log) k.drawn k.serving k.numbers)
  numbers_when s k slots id v c next n number at true is =
      let here : k.numbers ≡ next = grind (arith, nat_tests) in
      let f = k.fits id v at in
      let w = endowed v k.numbers in
      let count = waiting-set s.views id v w at in
      let queue = k.queue in
      let owners = put k.owners k.numbers id in
      let new : (m : ℕ) → m < k.numbers → (m < next + 1) × (owners m ≡ k.owners m) =
      λ m lt. (let apart : m ≢ k.numbers = (λ same. omega arith) in (omega arith, put_else k.owners k.numbers id m apart)) in
      let fresh : calls_of caller_of k.numbers k.log ≡ [] = calls_fresh caller_of k.numbers k.numbers k.log k.callers (omega arith) in
      let not_own : v.number ≢ Some k.numbers = λ same. (let old = (f.number k.numbers same).0 in omega arith) in
      let others : (j : ℕ) (u : View E) → j ≢ id → get_elem? s.views j ≡ some u → Fits caller_of k.log k.drawn k.serving (next + 1) k.turns owners k.out j u =
      λ j u _ e. (let g = k.fits j u e in record {
        turn = g.turn;
        held = g.held;
        number = λ m has. (let was = g.number m has in ((new m was.0).0, (new m was.0).1 ∙ was.1, was.2));
        gift = λ m has. (let was = g.gift m has in ((new m was.0).0, (new m was.0).1 ∙ was.1, was.2, was.3));
        seen = g.seen;
        met = g.met;
      }) in
      let mine : Fits caller_of k.log k.drawn k.serving (next + 1) k.turns owners k.out id w =
      record {
        turn = f.turn;
        held = f.held;
        number = λ m has. (let was = f.number m has in ((new m was.0).0, (new m was.0).1 ∙ was.1, was.2));
        gift = λ m has.
            subst (λ (y : ℕ). (y < next + 1) × (owners y ≡ id) × (calls_of caller_of y k.log ≡ []) × (v.number ≢ Some y))
            (Some-injective k.numbers m has)
            (omega arith, put_here k.owners k.numbers id, fresh, not_own);
        seen = f.seen;
        met = f.met;
      } in
      let callers : All (λ (y : E). caller_of y < next + 1) k.log = λ j d within. (let old = k.callers j d within in omega arith) in
      rw is (
        w,
        keeps,
        tt,
        record {
          log = k.log;
          drawn = k.drawn;
          serving = k.serving;
          numbers = next + 1;
          turns = k.turns;
          owners = owners;
          out = k.out;
          words = refl;
          queue = omega arith;
          room = k.room;
          place = place_set history caller_of k.log s.homes s.views id v w at refl k.out k.place;
          callers = callers;
          fits = each_set history caller_of (Fits caller_of k.log k.drawn k.serving (next + 1) k.turns owners k.out) s.views id w others mine;
        },
        (refl, not_own, calls_none caller_of k.numbers k.log v.seen f.seen fresh),
      )
  numbers_when s k slots id v c next n number at false is = rw is (v, keeps, tt, stays history caller_of s k id v at, refl)

  pub numbers : (slots id : ℕ) (v : View E) (c : List (ℕ × Option O)) (next n : ℕ) → v.number ≡ Some n
      → Allows (Kept history caller_of) slots id (v, c) 3 (λ m. either (m == next) (next + 1) m) (Numbers caller_of (step slots 3 next (next + 1) none) (v, c))
  numbers slots id v c next n number s k len at small =
      subst (Going (Kept history caller_of) id (v, c) 3 (λ m. either (m == next) (next + 1) m) (Numbers caller_of (step slots 3 next (next + 1) none) (v, c)) s.homes s.views)
      (sym k.words) (numbers_when s k slots id v c next n number at (k.numbers == next) refl)

  compares_at : (s : State (Option O) (View E)) (k : Kept history caller_of s) (slots id : ℕ) (v : View E) (c : List (ℕ × Option O)) (m : Met E)
      → v.met ≡ Some m → get_elem? s.views id ≡ some v
      → Going (Kept history caller_of) id (v, c) 0 (λ n. n) (Compares caller_of (step slots 0 0 0 none) (v, c)) s.homes s.views
      (four (length k.log) k.drawn k.serving k.numbers)
  compares_at s k slots id v c m met at =
      let f = k.fits id v at in
      let met_fits = f.met m met in
      let w = compared v m in
      let both = longer_begins v.seen m.seen k.log f.seen met_fits.0 in
      let mine : Fits caller_of k.log k.drawn k.serving k.numbers k.turns k.owners k.out id w =
      record {
        turn = f.turn;
        held = f.held;
        number = f.number;
        gift = f.gift;
        seen = both.0;
        met = λ y has. absurd (None-ne-Some y has);
      } in
      let own : (n : ℕ) → v.number ≡ Some n → calls_of caller_of n v.seen ≡ v.mine → calls_of caller_of n (longer v.seen m.seen) ≡ v.mine =
      λ n has first. calls_between caller_of n k.log (longer v.seen m.seen) v.seen both.0 both.1 ((f.number n has).2 ∙ sym first) ∙ first in (
        w,
        keeps,
        tt,
        view_changes history caller_of s k id v w at refl refl mine,
        λ y has.
            subst (λ (z : Met E). (◌≡◌ {A = SeatOf O E} (compared v m, c) (compared v z, c))
            × StartsWith (longer v.seen z.seen) v.seen × StartsWith (longer v.seen z.seen) z.seen
            × ((n : ℕ) → z.number ≡ Some n → v.number ≢ Some n)
            × ((n : ℕ) → v.number ≡ Some n → calls_of caller_of n v.seen ≡ v.mine → calls_of caller_of n (longer v.seen z.seen) ≡ v.mine))
            (Some-injective m y (sym met ∙ has))
            (refl, both.1, both.2, met_fits.1, own),
      )

  pub compares : (slots id : ℕ) (v : View E) (c : List (ℕ × Option O)) (m : Met E) → v.met ≡ Some m
      → Allows (Kept history caller_of) slots id (v, c) 0 (λ n. n) (Compares caller_of (step slots 0 0 0 none) (v, c))
  compares slots id v c m met s k len at small =
      subst (Going (Kept history caller_of) id (v, c) 0 (λ n. n) (Compares caller_of (step slots 0 0 0 none) (v, c)) s.homes s.views)
      (sym k.words) (compares_at s k slots id v c m met at)

  -- the object is where it was when a view is added
  place_longer : (log : List E) (homes : List (Place (Option O))) (views : List (View E)) (w : View E) (out : Option ℕ)
      → IsAt history log homes views out → IsAt history log homes (views ++ w ∷ []) out
  place_longer log homes views w None p = p
  place_longer log homes views w (Some seat) p = (p.0, (p.1.0, at_longer views (w ∷ []) seat p.1.0 p.1.1, p.1.2))

  pub splits : (id : ℕ) (v : View E) (n : ℕ) → v.gift ≡ Some n → Splits (Kept history caller_of) id v (parted v) (newcomer v)
  splits id v n gift s k at =
      let f = k.fits id v at in
      let given = f.gift n gift in
      let views = set s.views id (parted v) in
      let seat : ℕ = length views in
      let owners = put k.owners n seat in
      let count = waiting-set s.views id v (parted v) at in
      let more = waiting-snoc views (newcomer v) in
      let queue = k.queue in
      let other : (m : ℕ) → m ≢ n → owners m ≡ k.owners m = λ m apart. put_else k.owners n seat m apart in
      let others : (j : ℕ) (u : View E) → j ≢ id → get_elem? s.views j ≡ some u → Fits caller_of k.log k.drawn k.serving k.numbers k.turns owners k.out j u =
      λ j u apart e. (let g = k.fits j u e in record {
        turn = g.turn;
        held = g.held;
        number = λ m has. (let was = g.number m has in
            (was.0, other m (λ is. apart (sym was.1 ∙ (ap k.owners is ∙ given.1))) ∙ was.1, was.2));
        gift = λ m has. (let was = g.gift m has in
            (was.0, other m (λ is. apart (sym was.1 ∙ (ap k.owners is ∙ given.1))) ∙ was.1, was.2, was.3));
        seen = g.seen;
        met = g.met;
      }) in
      let mine : Fits caller_of k.log k.drawn k.serving k.numbers k.turns owners k.out id (parted v) =
      record {
        turn = f.turn;
        held = f.held;
        number = λ m has. (let was = f.number m has in
            (was.0, other m (λ is. given.3 (has ∙ ap (λ (y : ℕ). Some y) is)) ∙ was.1, was.2));
        gift = λ m has. absurd (None-ne-Some m has);
        seen = f.seen;
        met = f.met;
      } in
      let new : Fits caller_of k.log k.drawn k.serving k.numbers k.turns owners k.out seat (newcomer v) =
      record {
        turn = λ t has. absurd (None-ne-Some t has);
        held = λ l has. absurd (None-ne-Some l has);
        number = λ m has.
            subst (λ (y : ℕ). (y < k.numbers) × (owners y ≡ seat) × (calls_of caller_of y k.log ≡ []))
            (Some-injective n m (sym gift ∙ has))
            (given.0, put_here k.owners n seat, given.2);
        gift = λ m has. absurd (None-ne-Some m has);
        seen = f.seen;
        met = λ y has. absurd (None-ne-Some y has);
      } in
      record {
        log = k.log;
        drawn = k.drawn;
        serving = k.serving;
        numbers = k.numbers;
        turns = k.turns;
        owners = owners;
        out = k.out;
        words = k.words;
        queue = omega arith;
        room = k.room;
        place = place_longer k.log s.homes views (newcomer v) k.out (place_set history caller_of k.log s.homes s.views id v (parted v) at refl k.out k.place);
        callers = k.callers;
        fits = λ j u e. ⊎_elim
            (λ (t : (j < seat) × (get_elem? views j ≡ some u)).
            each_set history caller_of (Fits caller_of k.log k.drawn k.serving k.numbers k.turns owners k.out) s.views id (parted v) others mine j u t.1)
            (λ (t : (j ≡ seat) × (newcomer v ≡ u)).
            subst (λ (y : ℕ × View E). Fits caller_of k.log k.drawn k.serving k.numbers k.turns owners k.out y.0 y.1) (λ i. (sym t.0 i, t.1 i)) new)
            (at_new views (newcomer v) u j e);
      }

  pub splits_unnumbered : (id : ℕ) (v : View E) → v.gift ≡ None → Splits (Kept history caller_of) id v (parted v) (newcomer v)
  splits_unnumbered id v no_gift s k at =
      let f = k.fits id v at in
      let views = set s.views id (parted v) in
      let seat : ℕ = length views in
      let count = waiting-set s.views id v (parted v) at in
      let more = waiting-snoc views (newcomer v) in
      let queue = k.queue in
      let others : (j : ℕ) (u : View E) → j ≢ id → get_elem? s.views j ≡ some u → Fits caller_of k.log k.drawn k.serving k.numbers k.turns k.owners k.out j u =
      λ j u apart e. k.fits j u e in
      let mine : Fits caller_of k.log k.drawn k.serving k.numbers k.turns k.owners k.out id (parted v) =
      record {
        turn = f.turn;
        held = f.held;
        number = f.number;
        gift = λ m has. absurd (None-ne-Some m has);
        seen = f.seen;
        met = f.met;
      } in
      let new : Fits caller_of k.log k.drawn k.serving k.numbers k.turns k.owners k.out seat (newcomer v) =
      record {
        turn = λ t has. absurd (None-ne-Some t has);
        held = λ l has. absurd (None-ne-Some l has);
        number = λ m has. absurd (None-ne-Some m (sym no_gift ∙ has));
        gift = λ m has. absurd (None-ne-Some m has);
        seen = f.seen;
        met = λ y has. absurd (None-ne-Some y has);
      } in
      record {
        log = k.log;
        drawn = k.drawn;
        serving = k.serving;
        numbers = k.numbers;
        turns = k.turns;
        owners = k.owners;
        out = k.out;
        words = k.words;
        queue = omega arith;
        room = k.room;
        place = place_longer k.log s.homes views (newcomer v) k.out (place_set history caller_of k.log s.homes s.views id v (parted v) at refl k.out k.place);
        callers = k.callers;
        fits = λ j u e. ⊎_elim
            (λ (t : (j < seat) × (get_elem? views j ≡ some u)).
            each_set history caller_of (Fits caller_of k.log k.drawn k.serving k.numbers k.turns k.owners k.out) s.views id (parted v) others mine j u t.1)
            (λ (t : (j ≡ seat) × (newcomer v ≡ u)).
            subst (λ (y : ℕ × View E). Fits caller_of k.log k.drawn k.serving k.numbers k.turns k.owners k.out y.0 y.1) (λ i. (sym t.0 i, t.1 i)) new)
            (at_new views (newcomer v) u j e);
      }

  pub joins : (id : ℕ) (v : View E) (other : ℕ) (w : View E) → w.turn ≡ None → w.held ≡ None → Joins (Kept history caller_of) id v other w (meeting v w) nobody
  joins id v other w no_turn empty s k at apart there =
      let f = k.fits id v at in
      let both = meeting v w in
      let views = set s.views id both in
      let was : get_elem? s.views other ≡ some w = sym (set_else s.views id other both apart) ∙ there in
      let g = k.fits other w was in
      let first = waiting-set s.views id v both at in
      let second = waiting-set views other w nobody there in
      let none : turns_of w.turn ≡ 0 = ap turns_of no_turn in
      let queue = k.queue in
      let mine : Fits caller_of k.log k.drawn k.serving k.numbers k.turns k.owners k.out id both =
      record {
        turn = f.turn;
        held = f.held;
        number = f.number;
        gift = f.gift;
        seen = f.seen;
        met = λ m has. (let is = Some-injective record { number = w.number; seen = w.seen } m has in
            subst (λ (y : Met E). StartsWith k.log y.seen × ((n : ℕ) → y.number ≡ Some n → v.number ≢ Some n)) is
            (g.seen, λ n theirs own. apart (sym (g.number n theirs).1 ∙ (f.number n own).1)));
      } in
      let spent : Fits caller_of k.log k.drawn k.serving k.numbers k.turns k.owners k.out other nobody =
      record {
        turn = λ t has. absurd (None-ne-Some t has);
        held = λ l has. absurd (None-ne-Some l has);
        number = λ n has. absurd (None-ne-Some n has);
        gift = λ n has. absurd (None-ne-Some n has);
        seen = (k.log, refl);
        met = λ m has. absurd (None-ne-Some m has);
      } in
      let once = each_set history caller_of (Fits caller_of k.log k.drawn k.serving k.numbers k.turns k.owners k.out) s.views id both (λ j u _ e. k.fits j u e) mine in
      record {
        log = k.log;
        drawn = k.drawn;
        serving = k.serving;
        numbers = k.numbers;
        turns = k.turns;
        owners = k.owners;
        out = k.out;
        words = k.words;
        queue = omega arith;
        room = k.room;
        place = place_set history caller_of k.log s.homes views other w nobody there (sym empty) k.out
            (place_set history caller_of k.log s.homes s.views id v both at refl k.out k.place);
        callers = k.callers;
        fits = each_set history caller_of (Fits caller_of k.log k.drawn k.serving k.numbers k.turns k.owners k.out) views other nobody (λ j u _ e. once j u e) spent;
      }

-- what is known after two seats were made one and compared
pub meets : {O E : Type 0} (caller_of : E → ℕ) (t : Step (Option O)) (v w : View E) (c : List (ℕ × Option O)) (found : ℕ) (joined after : SeatOf O E)
    → ◌≡◌ {A = SeatOf O E} joined (meeting v w, c) → Compares caller_of t joined found after
    → (◌≡◌ {A = SeatOf O E} after (compared v (met_of w), c)) × StartsWith after.0.seen v.seen × StartsWith after.0.seen w.seen
    × ((n : ℕ) → w.number ≡ Some n → v.number ≢ Some n)
    × ((n : ℕ) → v.number ≡ Some n → calls_of caller_of n v.seen ≡ v.mine → calls_of caller_of n after.0.seen ≡ v.mine)
meets {O} {E} caller_of t v w c found joined after is told =
    let known = subst (λ (m : SeatOf O E). Compares caller_of t m found after) is told (met_of w) refl in
    let seen : longer v.seen w.seen ≡ after.0.seen = sym (ap (λ (m : SeatOf O E). m.0.seen) known.0) in (
      known.0,
      subst (λ (l : List E). StartsWith l v.seen) seen known.1,
      subst (λ (l : List E). StartsWith l w.seen) seen known.2,
      known.3,
      λ n number own. subst (λ (l : List E). calls_of caller_of n l ≡ v.mine) seen (known.4 n number own),
    )
