-- Texts one after the other are a text.
use Rattle.std.proofs.Common.{◌≡◌, ℕ, Bool, true, false, ◌&&◌, List, [], ◌∷◌, ◌++◌, refl, ap}
use Rattle.std.specs.Prelude.{Option, None, Some, nat_lt}
use Rattle.std.proofs.lemmas.Bool.{ltb-true}
use Rattle.std.proofs.lemmas.Str.{IsUtf8-append, IsUtf8-nil}
use Rattle.body_cutter.specs.declared.place.Wide.{Wide}
use Rattle.body_cutter.specs.declared.place.Wide.TheVariants.{Whole, One, Two, Three, AfterE0, AfterEd, AfterEf, AfterEfBf, AfterF0, AfterF4}
use Rattle.body_cutter.specs.Chars.{wide_next, ends_whole, is_whole}
use Rattle.body_cutter.specs.BodyText.{IsText}
use Rattle.body_cutter.proofs.Leads.{both}
use Rattle.body_cutter.proofs.Utf8Allowed.{whole_is_utf8}
use Rattle.body_cutter.proofs.Utf8Takes.{begins_one}

at_end : (wide : Wide) (text : List ℕ) → is_whole wide ≡ true → ends_whole Whole text ≡ true → ends_whole wide text ≡ true
at_end Whole text w t = t
at_end One text w t = cc
at_end Two text w t = cc
at_end Three text w t = cc
at_end AfterE0 text w t = cc
at_end AfterEd text w t = cc
at_end AfterEf text w t = cc
at_end AfterEfBf text w t = cc
at_end AfterF0 text w t = cc
at_end AfterF4 text w t = cc

-- what is left of a test goes on with the next character's state
pub goes_on : (o : Option Wide) (text other : List ℕ) → (elim o [ None ↦ false | Some next ↦ ends_whole next text ]) ≡ true → ((next : Wide) → ends_whole next text ≡ true → ends_whole next other ≡ true) →
    (elim o [ None ↦ false | Some next ↦ ends_whole next other ]) ≡ true
goes_on None text other e f = e
goes_on (Some next) text other e f = f next e

ends_append : (text other : List ℕ) (wide : Wide) → ends_whole wide text ≡ true → ends_whole Whole other ≡ true → ends_whole wide (text ++ other) ≡ true
unfolding ends_whole
ends_append [] other wide e o = at_end wide other e o
ends_append (b ∷ text) other wide e o = goes_on (wide_next wide b) text (text ++ other) e (λ next k. ends_append text other next k o)

pub text_append : (text other : List ℕ) → IsText text → IsText other → IsText (text ++ other)
text_append text other t o = (IsUtf8-append text other t.0 o.0, ends_append text other Whole t.1 o.1)

text_nothing : IsText []
unfolding ends_whole
text_nothing = (IsUtf8-nil, refl)

-- an ASCII byte is a text
ascii_text : (b : ℕ) → nat_lt b 128 ≡ true → IsText (b ∷ [])
unfolding ends_whole
ascii_text b h =
    let ends = ap (λ (o : Option Wide). elim o [ None ↦ false | Some next ↦ ends_whole next [] ]) (begins_one b (ltb-true b 128 h)) in
    (whole_is_utf8 (b ∷ []) ends, ends)

abbrev pub all_ascii : List ℕ → Bool
all_ascii [] = true
all_ascii (b ∷ bytes) = nat_lt b 128 && all_ascii bytes

pub texts_ascii : (bytes : List ℕ) → all_ascii bytes ≡ true → IsText bytes
texts_ascii [] h = text_nothing
texts_ascii (b ∷ bytes) h =
    let k = both (nat_lt b 128) (all_ascii bytes) h in
    text_append (b ∷ []) bytes (ascii_text b k.0) (texts_ascii bytes k.1)
