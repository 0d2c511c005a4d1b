-- The characters of a text, and its bytes.
use Rattle.std.specs.Prelude.{◌≡◌, ℕ, Bool, true, false, ◌&&◌, ◌||◌, nat_lt, nat_le, List, [], ◌∷◌, encode_utf8_all, Option, None, Some}
use Rattle.std.specs.List.{list_all}
use Rattle.body_cutter.specs.declared.place.Wide.{Wide}
use Rattle.body_cutter.specs.declared.place.Wide.TheVariants.{Whole, AfterEfBf}
use Rattle.body_cutter.specs.Chars.{is_allowed, is_whole, after_tail, wide_next}

-- the text is the UTF-8 (RFC 3629 section 3) of characters that pass
pub record IsUtf8Of (passes : ℕ → Bool) (text : List ℕ) : Type 0 where
  pub characters : List ℕ
  pub pass : list_all passes characters ≡ true
  pub spell : encode_utf8_all characters ≡ text

-- a character below U+0080, or an allowed one (XML 1.0 section 2.2)
abbrev pub is_tabled : ℕ → Bool
is_tabled character = nat_lt character 128 || is_allowed character

-- what is left of a character, allowed or not, after one byte more (RFC 3629 section 4)
unfoldable pub utf8_next : Wide → ℕ → Option Wide
utf8_next AfterEfBf b = after_tail (nat_le 0x80 b && nat_lt b 0xc0) Whole
utf8_next wide b = wide_next wide b

-- what is left of the last character after these bytes; none where no UTF-8 goes on so
unfoldable pub utf8_rest : Wide → List ℕ → Option Wide
utf8_rest wide [] = Some wide
utf8_rest wide (b ∷ text) = elim (utf8_next wide b) [ None ↦ None | Some next ↦ utf8_rest next text ]

-- whether the last character is whole
abbrev pub is_utf8_end : Option Wide → Bool
is_utf8_end None = false
is_utf8_end (Some wide) = is_whole wide

-- what is left of the last character with a piece more, where that is told
abbrev pub rest_with : Option Wide → List ℕ → Option Wide
rest_with None piece = None
rest_with (Some wide) piece = utf8_rest wide piece
