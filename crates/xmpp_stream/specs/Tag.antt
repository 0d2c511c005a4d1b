-- Where a tag ends.
use Rattle.std.specs.Prelude.{◌≡◌, ℕ, Bool, false, ◌+◌, ◌==◌, List, [], ◌∷◌, length, Option, None, Some, if◌then◌else◌}
use Rattle.body_cutter.specs.Grammar.{is_quote}

-- there is a first byte, and it is one of these
abbrev pub first_is : (ℕ → Bool) → List ℕ → Bool
first_is test [] = false
first_is test (b ∷ text) = test b

-- the quote of the value that is open after a byte, where this one was before it
abbrev pub quote_after : Option ℕ → ℕ → Option ℕ
quote_after None b = if is_quote b then Some b else None
quote_after (Some quote) b = if b == quote then None else Some quote

-- a `>` outside of all values
abbrev pub ends_tag : Option ℕ → ℕ → Bool
ends_tag None b = b == 62
ends_tag (Some quote) b = false

-- how many bytes a tag has up to its end, the first `>` outside of all values, where so many stood before
unfoldable pub tag_end : ℕ → Option ℕ → List ℕ → Option ℕ
tag_end at quote [] = None
tag_end at quote (b ∷ text) = if ends_tag quote b then Some (at + 1) else tag_end (at + 1) (quote_after quote b) text

-- the text is one tag, and no byte more
abbrev pub IsTag : List ℕ → Type 0
IsTag text = tag_end 0 None text ≡ Some (length text)
