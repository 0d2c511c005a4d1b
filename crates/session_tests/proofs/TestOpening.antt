-- What the tests open a session with: the names of it and of its host may stand in an answer, and so may an empty greeting.
use Rattle.std.proofs.Common.{◌≡◌, ◌≤◌, ℕ, List, [], length, refl, sym, subst, arith}
use Rattle.std.specs.Prelude.{codes, map, IsTrue}
use Rattle.std.specs.List.{list_all}
use Rattle.std.proofs.lemmas.Str.{IsUtf8-from_is_utf8}
use Rattle.body_cutter.specs.BodyText.{IsText}
use Rattle.body_cutter.specs.Cutting.{is_stanza}
use Rattle.bosh_types.specs.Limits.{most_waiting, longest_stanza}
use Rattle.session_core.specs.declared.outward.Outward.TheVariants.{Stanza}
use Rattle.session_core.specs.Outward.{size_of_all}
use Rattle.body_cutter.proofs.Rows.{cuts_compute}

pub sid_is_text : IsText (codes "s1") × (1 ≤ length (codes "s1")) × (length (codes "s1") ≤ 64)
unfolding cuts_compute
sid_is_text = ((IsUtf8-from_is_utf8 (codes "s1") refl, refl), omega arith, omega arith)

pub host_is_text : IsText (codes "example.org") × (1 ≤ length (codes "example.org")) × (length (codes "example.org") ≤ 1023)
unfolding cuts_compute
host_is_text = ((IsUtf8-from_is_utf8 (codes "example.org") refl, refl), omega arith, omega arith)

abbrev pub MayGreet : List (List ℕ) → Type 0
MayGreet greeting = IsTrue (list_all is_stanza greeting) × (length greeting ≤ most_waiting) × (size_of_all (map (Stanza 0) greeting) ≤ longest_stanza)

none_may_greet : MayGreet []
none_may_greet = (refl, omega arith, omega arith)

pub empty_may_greet : (greeting : List (List ℕ)) → greeting ≡ [] → MayGreet greeting
empty_may_greet greeting is = subst MayGreet (sym is) none_may_greet
