-- What a step leaves as it was: the other views, the place of the object, and all of it where nothing changes.
use Rattle.std.proofs.Common.{◌≡◌, ◌≢◌, ℕ, List, [], ◌∷◌, length, set, Option, Some, None, refl, sym, ap, ◌∙◌, subst, ⊎_elim, arith}
use Rattle.std.specs.Prelude.{slice_index}
use mathlib.Core.Option.{some, some-injective}
use mathlib.Core.Option.{Option as Place}
use mathlib.Core.Logic.{dite}
use native.Mathlib.Decide.{ℕ_discrete}
use lib.ListN.{get_elem?}
use Rattle.atomic_table.specs.Table.{State, Act, Me, Valid, stepped, carried_after, rest}
use Rattle.atomic_table.proofs.Lists.{at_set, set_else}
use Rattle.parked_gate.specs.declared.view.View.{View}
use Rattle.parked_gate.specs.Rule.{turns_of, IsAt, Fits, Kept}
use Rattle.parked_gate.proofs.Lists.{Some-injective, set_there, waiting-set}

-- how a step may go on where the words are these
abbrev pub Going : {S V : Type 0} → (State S V → Type 0) → ℕ → Me S V → ℕ → (ℕ → ℕ) → (ℕ → Me S V → Type 0) → List (Place S) → List V → List ℕ → Type 0
Going {S} {V} holds id me i f then homes views words =
    (w : V) × (a : Act S) × Valid homes me.1 a
    × holds (stepped record { words = words; homes = homes; views = views } i (f (slice_index words i)) id me.1 w a)
    × then (slice_index words i) (w, carried_after me.1 a)

-- the words, once they are known
abbrev pub four : ℕ → ℕ → ℕ → ℕ → List ℕ
four a b c d = a ∷ b ∷ c ∷ d ∷ []

module _ {O E : Type 0} (history : O → List E) (caller_of : E → ℕ) where
  -- the object is where it was, if the view that changes holds what it held
  pub place_set : (log : List E) (homes : List (Place (Option O))) (views : List (View E)) (id : ℕ) (v w : View E) → get_elem? views id ≡ some v → w.held ≡ v.held
      → (out : Option ℕ) → IsAt history log homes views out → IsAt history log homes (set views id w) out
  place_set log homes views id v w at same None p = p
  place_set log homes views id v w at same (Some seat) p =
      let u = p.1.0 in (
        p.0,
        dite (ℕ_discrete seat id)
            (λ here.
            let there : get_elem? views seat ≡ some v = subst (λ (j : ℕ). get_elem? views j ≡ some v) (sym here) at in
            let one : u ≡ v = some-injective u v (sym p.1.1 ∙ there) in
            (w, subst (λ (j : ℕ). get_elem? (set views id w) j ≡ some w) (sym here) (set_there views id v w at), same ∙ (ap (λ (x : View E). x.held) (sym one) ∙ p.1.2)))
            (λ apart. (u, set_else views id seat w apart ∙ p.1.1, p.1.2)),
      )

  -- one view changes, and what holds of all views holds again
  pub each_set : (P : ℕ → View E → Type 0) (views : List (View E)) (id : ℕ) (w : View E)
      → ((j : ℕ) (u : View E) → j ≢ id → get_elem? views j ≡ some u → P j u) → P id w
      → (j : ℕ) (u : View E) → get_elem? (set views id w) j ≡ some u → P j u
  each_set P views id w others mine j u e =
      ⊎_elim
      (λ (t : (j ≡ id) × (w ≡ u)). subst (λ (y : ℕ × View E). P y.0 y.1) (λ i. (sym t.0 i, t.1 i)) mine)
      (λ (t : (j ≢ id) × (get_elem? views j ≡ some u)). others j u t.0 t.1)
      (at_set views id j w u e)

  -- two views that hold the object are one seat's
  pub one_holds : {s : State (Option O) (View E)} (k : Kept history caller_of s) (i j : ℕ) (v u : View E) (l m : List E)
      → get_elem? s.views i ≡ some v → get_elem? s.views j ≡ some u → v.held ≡ Some l → u.held ≡ Some m → j ≡ i
  one_holds k i j v u l m at_i at_j v_holds u_holds =
      Some-injective j i (sym ((k.fits j u at_j).held m u_holds).0 ∙ ((k.fits i v at_i).held l v_holds).0)

  -- a view changes, but neither its turn nor what it holds
  pub view_changes : (s : State (Option O) (View E)) (k : Kept history caller_of s) (id : ℕ) (v w : View E)
      → get_elem? s.views id ≡ some v → w.turn ≡ v.turn → w.held ≡ v.held
      → Fits caller_of k.log k.drawn k.serving k.numbers k.turns k.owners k.out id w
      → Kept history caller_of record { words = four (length k.log) k.drawn k.serving k.numbers; homes = s.homes; views = set s.views id w }
  view_changes s k id v w at turn held fits =
      let count = waiting-set s.views id v w at in
      let same : turns_of w.turn ≡ turns_of v.turn = ap turns_of turn in
      let queue = k.queue in
      record {
        log = k.log;
        drawn = k.drawn;
        serving = k.serving;
        numbers = k.numbers;
        turns = k.turns;
        owners = k.owners;
        out = k.out;
        words = refl;
        queue = omega arith;
        room = k.room;
        place = place_set k.log s.homes s.views id v w at held k.out k.place;
        callers = k.callers;
        fits = each_set (Fits caller_of k.log k.drawn k.serving k.numbers k.turns k.owners k.out) s.views id w (λ j u _ e. k.fits j u e) fits;
      }

  -- nothing changes
  pub stays : (s : State (Option O) (View E)) (k : Kept history caller_of s) (id : ℕ) (v : View E) → get_elem? s.views id ≡ some v
      → Kept history caller_of record { words = four (length k.log) k.drawn k.serving k.numbers; homes = s.homes; views = set s.views id v }
  stays s k id v at = view_changes s k id v v at refl refl (k.fits id v at)

-- the slot that was taken last, where it is the only one
pub first_slot : {S : Type 0} {c : List (ℕ × S)} {x : S} → c ≡ (0, x) ∷ [] → c ≡ (0, x) ∷ rest c
first_slot {S} {c} {x} is = is ∙ ap (λ (l : List (ℕ × S)). (0, x) ∷ l) (sym (ap rest is))
