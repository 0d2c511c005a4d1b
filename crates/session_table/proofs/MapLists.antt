-- Entries of an ordered map, whose values are seen as something else.
use Rattle.std.proofs.Common.{◌≡◌, Bool, true, false, cond, List, [], ◌∷◌, map, Some, refl, sym, ◌∙◌, ap}
use Rattle.std.specs.BTreeMap.{insert_entry}
use Rattle.std.specs.Map.{lookup, remove_entry, set_value}
use Rattle.std.specs.Option.{option_map}
use Rattle.std.specs.Ordering.{match_ordering}
use Rattle.std.specs.declared.cmp.Ordering.{Ordering}
use Rattle.std.specs.declared.cmp.Ordering.TheVariants.{Less, Equal, Greater}

module _ {K X Y : Type 0} (see : X → Y) where
  abbrev pub seen : K × X → K × Y
  seen e = (e.0, see e.1)

  pub lookup-seen : (test : K → Bool) (es : List (K × X)) → lookup test (map seen es) ≡ option_map see (lookup test es)
  lookup-seen test [] = refl
  lookup-seen test (e ∷ es) = by (test e.0) (lookup-seen test es)
    where
      by : (b : Bool) → lookup test (map seen es) ≡ option_map see (lookup test es)
          → cond b (Some (see e.1)) (lookup test (map seen es)) ≡ option_map see (cond b (Some e.1) (lookup test es))
      by true later = refl
      by false later = later

  pub remove-seen : (test : K → Bool) (es : List (K × X)) → map seen (remove_entry test es) ≡ remove_entry test (map seen es)
  remove-seen test [] = refl
  remove-seen test (e ∷ es) = by (test e.0) (remove-seen test es)
    where
      by : (b : Bool) → map seen (remove_entry test es) ≡ remove_entry test (map seen es)
          → map seen (cond b es (e ∷ remove_entry test es)) ≡ cond b (map seen es) (seen e ∷ remove_entry test (map seen es))
      by true later = refl
      by false later = ap (λ l. seen e ∷ l) later

  -- a value that is seen as the one before it changes nothing
  pub set-seen : (test : K → Bool) (es : List (K × X)) (v w : X) → lookup test es ≡ Some v → see w ≡ see v → map seen (set_value test es w) ≡ map seen es
  set-seen test [] v w found same = absurd (cc)
  set-seen test (e ∷ es) v w found same = by (test e.0) found (λ is. set-seen test es v w is same)
    where
      by : (b : Bool) → cond b (Some e.1) (lookup test es) ≡ Some v → (lookup test es ≡ Some v → map seen (set_value test es w) ≡ map seen es)
          → map seen (cond b ((e.0, w) ∷ es) (e ∷ set_value test es w)) ≡ map seen (e ∷ es)
      by true is later =
          let was : e.1 ≡ v = cc in
          ap (λ y. (e.0, y) ∷ map seen es) (same ∙ ap see (sym was))
      by false is later = ap (λ l. seen e ∷ l) (later is)

  pub insert-seen : (cmp : K → K → Ordering) (es : List (K × X)) (k : K) (v : X) → map seen (insert_entry cmp es k v) ≡ insert_entry cmp (map seen es) k (see v)
  insert-seen cmp [] k v = refl
  insert-seen cmp (e ∷ es) k v = by (cmp k e.0) (insert-seen cmp es k v)
    where
      by : (o : Ordering) → map seen (insert_entry cmp es k v) ≡ insert_entry cmp (map seen es) k (see v)
          → map seen (match_ordering o ((k, v) ∷ e ∷ es) ((e.0, v) ∷ es) (e ∷ insert_entry cmp es k v))
          ≡ match_ordering o ((k, see v) ∷ seen e ∷ map seen es) ((e.0, see v) ∷ map seen es) (seen e ∷ insert_entry cmp (map seen es) k (see v))
      by Less later = refl
      by Equal later = refl
      by Greater later = ap (λ l. seen e ∷ l) later
