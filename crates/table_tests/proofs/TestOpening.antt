-- What the tests open a session with: its host's name may stand in an answer, and so may an empty greeting.
use Rattle.std.proofs.Common.{◌≡◌, ◌≤◌, ℕ, List, [], length, refl, sym, subst, arith, rules, inl, inr}
use Rattle.std.specs.Prelude.{◌⊎◌, codes, map, IsTrue}
use Rattle.std.specs.List.{list_all}
use Rattle.std.proofs.lemmas.Str.{IsUtf8-from_is_utf8}
use Rattle.body_cutter.specs.BodyText.{IsText}
use Rattle.body_cutter.specs.Cutting.{is_stanza}
use Rattle.bosh_types.specs.Limits.{most_waiting, longest_stanza}
use Rattle.session_core.specs.declared.outward.Outward.TheVariants.{Stanza}
use Rattle.session_core.specs.Outward.{size_of_all}
use Rattle.body_cutter.proofs.Rows.{cuts_compute}
use Rattle.server_ports.specs.Names.{IsNamePart}

abbrev pub IsHost : List ℕ → Type 0
IsHost host = IsText host × (1 ≤ length host) × (length host ≤ 1023)

own_host : IsHost (codes "example.org")
unfolding cuts_compute
own_host = ((IsUtf8-from_is_utf8 (codes "example.org") refl, refl), omega arith, omega arith)

other_host : IsHost (codes "example.com")
unfolding cuts_compute
other_host = ((IsUtf8-from_is_utf8 (codes "example.com") refl, refl), omega arith, omega arith)

pub is_host : (host : List ℕ) → host ≡ codes "example.org" → IsHost host
is_host host is = subst IsHost (sym is) own_host

-- either host of the tests
pub is_either : (host : List ℕ) → (host ≡ codes "example.com") ⊎ (host ≡ codes "example.org") → IsHost host
is_either host (inl is) = subst IsHost (sym is) other_host
is_either host (inr is) = subst IsHost (sym is) own_host

abbrev MayGreet : List (List ℕ) → Type 0
MayGreet greeting = IsTrue (list_all is_stanza greeting) × (length greeting ≤ most_waiting) × (size_of_all (map (Stanza 0) greeting) ≤ longest_stanza)

none_may_greet : MayGreet []
none_may_greet = (refl, omega arith, omega arith)

pub empty_may_greet : (greeting : List (List ℕ)) → greeting ≡ [] → MayGreet greeting
empty_may_greet greeting is = subst MayGreet (sym is) none_may_greet

own_name : IsNamePart (codes "s")
own_name = search (rules, arith)

pub is_name : (name : List ℕ) → name ≡ codes "s" → IsNamePart name
is_name name is = subst IsNamePart (sym is) own_name
