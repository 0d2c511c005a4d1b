-- A greeting that one answer may take.
use Rattle.std.proofs.Common.{◌≡◌, ◌≤◌, ℕ, ◌+◌, true, List, [], ◌∷◌, fold, length, map, refl, subst}
use Rattle.std.specs.Prelude.{IsTrue, sum_by}
use Rattle.std.specs.List.{list_all}
use Rattle.bosh_types.specs.Limits.{longest_stanza, most_waiting}
use Rattle.body_cutter.specs.Cutting.{is_stanza}
use Rattle.session_attrs.specs.Serving.{may_greet}
use Rattle.session_attrs.proofs.ServingLemmas.{greeting_parts}
use Rattle.session_core.specs.declared.outward.Outward.TheVariants.{Stanza}
use Rattle.session_core.specs.Copy.{unnamed}
use Rattle.session_core.specs.Outward.{size_of, size_of_all}

sizes_from : (size : ℕ) (greeting : List (List ℕ)) → fold (λ n (stanza : List ℕ). n + length stanza) size greeting
    ≡ fold (λ n item. n + size_of item) size (map (Stanza unnamed) greeting)
sizes_from size [] = refl
sizes_from size (stanza ∷ greeting) = sizes_from (size + length stanza) greeting

sizes_are : (greeting : List (List ℕ)) → sum_by (λ stanza. length stanza) greeting ≡ size_of_all (map (Stanza unnamed) greeting)
sizes_are greeting = sizes_from 0 greeting

-- one answer may take it
pub greeting_fits : (greeting : List (List ℕ)) → may_greet greeting ≡ true
    → IsTrue (list_all is_stanza greeting) × (length greeting ≤ most_waiting) × (size_of_all (map (Stanza unnamed) greeting) ≤ longest_stanza)
greeting_fits greeting may =
    let parts = greeting_parts greeting may in
    (parts.0, parts.1, subst (λ size. size ≤ longest_stanza) (sizes_are greeting) parts.2)
