-- Bytes that end inside a request's target (RFC 9112, section 3).
use Rattle.std.specs.Prelude.{ℕ, ◌==◌, ◌&&◌, Bool, false, List, [], ◌∷◌, if◌then◌else◌}
use Rattle.std.specs.List.{list_all}
use Rattle.httparse.specs.Ascii.{line_feed, carriage_return, space}
use Rattle.httparse.specs.Grammar.{is_token_byte, is_uri_byte}

-- the bytes after the empty lines at the front (RFC 9112, section 2.2)
abbrev pub after_blank : List ℕ → List ℕ
after_blank [] = []
after_blank (a ∷ []) = if a == line_feed then [] else a ∷ []
after_blank (a ∷ b ∷ rest) =
    if a == line_feed then after_blank (b ∷ rest) else (
    if a == carriage_return && b == line_feed then after_blank rest else
    a ∷ b ∷ rest)

-- the bytes from the first that belongs to no token
abbrev pub after_token : List ℕ → List ℕ
after_token [] = []
after_token (byte ∷ rest) = if is_token_byte byte then after_token rest else byte ∷ rest

-- the first byte belongs to a token
abbrev pub begins_token : List ℕ → Bool
begins_token [] = false
begins_token (byte ∷ rest) = is_token_byte byte

-- a space, and then bytes of a target alone
abbrev pub is_begun_target : List ℕ → Bool
is_begun_target [] = false
is_begun_target (byte ∷ rest) = byte == space && list_all is_uri_byte rest

-- empty lines, a method, a space, and then bytes of a target alone
abbrev pub ends_in_target : List ℕ → Bool
ends_in_target bytes = begins_token (after_blank bytes) && is_begun_target (after_token (after_blank bytes))
