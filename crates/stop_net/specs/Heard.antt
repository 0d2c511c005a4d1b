-- When the whole head of a request came.
use Rattle.std.specs.Prelude.{ℕ, Bool, false, ◌&&◌, ◌||◌, ◌==◌, List, [], ◌∷◌}
use Rattle.stop_net.specs.declared.heard.Heard.{Heard}

-- nothing but CRs stand before the first LF, and there is one
unfoldable pub ends_line : List ℕ → Bool
ends_line [] = false
ends_line (byte ∷ text) = (byte == 10) || ((byte == 13) && ends_line text)

-- an empty line stands behind another one, as at the end of the head of a request (RFC 9112, section 2.1)
unfoldable pub has_head : List ℕ → Bool
has_head [] = false
has_head (byte ∷ text) = ((byte == 10) && ends_line text) || has_head text

-- the whole head came, if these bytes come behind what was heard
abbrev pub asked_by : Heard → List ℕ → Bool
asked_by heard text = heard.is_asked || ((heard.is_empty && ends_line text) || has_head text)
