-- A world's host and greeting can be served.
use Rattle.std.proofs.Common.{◌≡◌, ◌≤◌, ℕ, ◌&&◌, Bool, true, false, List, [], ◌∷◌, length, map, refl, sym, ◌∙◌, ap, arith}
use Rattle.std.specs.Prelude.{nat_le, sum_by}
use Rattle.std.proofs.lemmas.Bool.{and_parts}
use Rattle.std.proofs.lemmas.Bool.Decides.{nat_tests}
use Rattle.std.proofs.lemmas.List.Sums.{sum_by-cons}
use Rattle.bosh_types.specs.Limits.{longest_stanza, most_waiting}
use Rattle.session_attrs.specs.Serving.{is_allowed_text, is_host_name, may_greet}
use Rattle.session_core.specs.declared.outward.Outward.TheVariants.{Stanza}
use Rattle.session_core.specs.Copy.{unnamed}
use Rattle.session_core.specs.Outward.{size_of, size_of_all}
use Rattle.bosh_client.specs.declared.setup.ClientSetup.{ClientSetup}
use Rattle.bosh_client.specs.Setup.{is_setup}
use Rattle.world_laws.specs.Setup.{IsWorldSetup}
use Rattle.two_ends.specs.Serves.{serves}

and_all : (a b : Bool) → a ≡ true → b ≡ true → (a && b) ≡ true
and_all true b one two = two
and_all false b one two = absurd (cc)

within : (n m : ℕ) → n ≤ m → nat_le n m ≡ true
within n m is = grind (arith, nat_tests, is)

sizes_are : (greeting : List (List ℕ)) → sum_by (λ (stanza : List ℕ). length stanza) greeting ≡ size_of_all (map (Stanza unnamed) greeting)
sizes_are [] = refl
sizes_are (bytes ∷ greeting) =
    omega (arith, sizes_are greeting, sum_by-cons (λ (stanza : List ℕ). length stanza) bytes greeting, sum_by-cons size_of (Stanza unnamed bytes) (map (Stanza unnamed) greeting))

text_allowed : (setup : ClientSetup) → is_setup setup ≡ true → is_allowed_text setup.to ≡ true
unfolding is_setup
text_allowed setup is = (and_parts _ (is_allowed_text setup.to) is).1

pub world_serves : (host : List ℕ) (greeting : List (List ℕ)) (setup : ClientSetup) → IsWorldSetup host greeting setup → serves host greeting ≡ true
unfolding is_host_name may_greet
world_serves host greeting setup is =
    let long = is.host_is in
    let size : sum_by (λ (stanza : List ℕ). length stanza) greeting ≤ longest_stanza = omega (arith, is.short, sizes_are greeting) in
    and_all (is_host_name host) (may_greet greeting)
    (and_all _ _ (and_all _ _ (within 1 (length host) (is.host_is).1) (within (length host) 1023 (is.host_is).2)) (ap is_allowed_text (sym is.to) ∙ text_allowed setup is.client))
    (and_all _ _ is.stanzas (and_all _ _ (within (length greeting) most_waiting is.few) (within (sum_by (λ (stanza : List ℕ). length stanza) greeting) longest_stanza size)))
