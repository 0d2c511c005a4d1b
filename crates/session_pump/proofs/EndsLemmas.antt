-- A back end that failed is exchanged for a spare.
use Rattle.std.proofs.Common.{◌≡◌, ◌<◌, ◌≤◌, ◌+◌, ◌∙◌, ℕ, List, length, Option, map, get_or, set, refl, sym, ap, subst, option_map}
use Rattle.std.proofs.lemmas.List.{map-set}
use Rattle.std.proofs.lemmas.Option.{slice_get-map, slice_get_past, slice_get_read}
use Rattle.xmpp_backend.specs.Counts.{Counts, counted_on}
use Rattle.xmpp_backend.specs.Told.{Told}
use Rattle.session_pump.specs.Ends.{End, Ends, end_of, ends_of, exchanged, exchanged_for}
use Rattle.session_pump.specs.declared.hosts.Stand.{Stand}

abbrev ends : List ℕ → End → List End → ℕ → ℕ → Ends
ends name standing spares used failures = record { name = name; standing = standing; spares = spares; used = used; failures = failures }

module _ {E : Type 0} (told : E → Option Told) (counts : E → Counts) where
  abbrev facts : E → End
  facts x = end_of told counts x

  exchanged_with : (old : Stand E) (spare : E) → old.used < length old.host.spares.items → spare ≡ get_or old.host.spares.items old.used spare
      → ends old.host.name (facts spare) (map facts (set old.host.spares.items old.used old.host.end)) (old.used + 1) (counted_on old.failures)
      ≡ exchanged (ends_of told counts old)
  exchanged_with old spare within read =
      ap (λ (xs : List End). ends old.host.name (facts spare) xs (old.used + 1) (counted_on old.failures)) (map-set facts old.host.spares.items old.used old.host.end)
      ∙ ap (λ (o : Option End). exchanged_for o (ends_of told counts old))
      (sym (slice_get-map facts old.host.spares.items old.used
      ∙ ap (option_map facts) (slice_get_read old.host.spares.items (length old.host.spares.items) old.used spare refl within read)))

  exchanged_not : (old : Stand E) → length old.host.spares.items ≤ old.used
      → ends old.host.name (facts old.host.end) (map facts old.host.spares.items) old.used (counted_on old.failures) ≡ exchanged (ends_of told counts old)
  exchanged_not old past =
      ap (λ (o : Option End). exchanged_for o (ends_of told counts old))
      (sym (slice_get-map facts old.host.spares.items old.used ∙ ap (option_map facts) (slice_get_past old.host.spares.items old.used past)))

  module _ (old mid : Stand E) (counted : mid ≡ record old { failures = counted_on old.failures }) where
    -- for the first that wasn't used
    pub exchanged_to : (spare x y : E) → x ≡ spare → y ≡ mid.host.end → mid.used < length mid.host.spares.items → spare ≡ get_or mid.host.spares.items mid.used spare
        → ends mid.host.name (facts x) (map facts (set mid.host.spares.items mid.used y)) (mid.used + 1) mid.failures ≡ exchanged (ends_of told counts old)
    exchanged_to spare x y first second within read =
        ap (λ (e : E). ends mid.host.name (facts e) (map facts (set mid.host.spares.items mid.used y)) (mid.used + 1) mid.failures) first
        ∙ ap (λ (e : E). ends mid.host.name (facts spare) (map facts (set mid.host.spares.items mid.used e)) (mid.used + 1) mid.failures) second
        ∙ subst (λ (m : Stand E). m.used < length m.host.spares.items → spare ≡ get_or m.host.spares.items m.used spare
        → ends m.host.name (facts spare) (map facts (set m.host.spares.items m.used m.host.end)) (m.used + 1) m.failures ≡ exchanged (ends_of told counts old))
        (sym counted) (λ w r. exchanged_with old spare w r) within read

    -- for none, where each was used
    pub exchanged_to_none : length mid.host.spares.items ≤ mid.used
        → ends mid.host.name (facts mid.host.end) (map facts mid.host.spares.items) mid.used mid.failures ≡ exchanged (ends_of told counts old)
    exchanged_to_none past =
        subst (λ (m : Stand E). length m.host.spares.items ≤ m.used
        → ends m.host.name (facts m.host.end) (map facts m.host.spares.items) m.used m.failures ≡ exchanged (ends_of told counts old))
        (sym counted) (λ p. exchanged_not old p) past
