-- The parts of a text, one after the other.
use Rattle.std.proofs.Common.{◌≡◌, List, ℕ, [], ◌∷◌, ◌++◌, append_assoc, append-nil}
use Rattle.std.specs.List.{concat}

-- the parts of a request
pub post_parts : (line host kind name digits crlf body : List ℕ) → concat (line ∷ host ∷ kind ∷ name ∷ digits ∷ crlf ∷ crlf ∷ body ∷ []) ≡ line ++ host ++ (kind ++ name ++ digits ++ crlf) ++ crlf ++ body
post_parts line host kind name digits crlf body = simp (append_assoc, append-nil)

-- the parts of a response
pub response_parts : (version code space phrase crlf kind name digits allow connection body : List ℕ) → concat (version ∷ code ∷ space ∷ phrase ∷ crlf ∷ kind ∷ name ∷ digits ∷ crlf ∷ allow ∷ connection ∷ crlf ∷ body ∷ []) ≡ version ++ code ++ space ++ phrase ++ crlf ++ (kind ++ name ++ digits ++ crlf) ++ (allow ++ connection) ++ crlf ++ body
response_parts version code space phrase crlf kind name digits allow connection body = simp (append_assoc, append-nil)
