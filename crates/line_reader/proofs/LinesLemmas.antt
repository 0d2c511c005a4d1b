-- Lines: where the first LF is, and what stands before and after it.
use Rattle.std.proofs.Common.{ℕ, zero, suc, ◌≡◌, ◌+◌, ◌-◌, ◌<◌, ◌≤◌, ◌==◌, List, [], ◌∷◌, ◌++◌, Some, None, Bool, true, false, nat_lt, not, add-one, length, take, drop, get_or, position, refl, sym, ◌∙◌, ap, subst, arith, if◌then◌else◌}
use Rattle.std.proofs.lemmas.Grind.{common_steps}
use Rattle.std.proofs.lemmas.Bool.{eqb-true, ltb-true}
use Rattle.std.proofs.lemmas.Bool.Decides.{nat_tests}
use Rattle.std.proofs.lemmas.List.{drop-take, drop-drop, length-take}
use Rattle.std.proofs.lemmas.List.Sums.{split_at_first, passes_at_first}
use Rattle.std.specs.List.{position_or_len}
use Rattle.line_reader.specs.Lines.{line_feed, onto_lines, lines_of, IsFirstLonger, IsUnbroken, MovesPiece}

abbrev pub is_feed : ℕ → Bool
is_feed byte = byte == 10

one_more : (n : ℕ) → suc n ≡ 1 + n
one_more n = omega (arith, add-one n)

found : (here : Bool) (n i : ℕ) → (if here then Some n else None) ≡ Some i → (here ≡ true) × (n ≡ i)
found true n i is = (refl, cc)
found false n i is = cc

not_found : (here : Bool) (n : ℕ) → (if here then Some n else None) ≡ None → here ≡ false
not_found true n is = cc
not_found false n is = refl

-- no LF stands before the first one
before_step : (byte : ℕ) (bytes : List ℕ) (n : ℕ) (here : Bool) → is_feed byte ≡ here → IsUnbroken (take n bytes) → IsUnbroken (take (if not here then 1 + n else 0) (byte ∷ bytes))
before_step byte bytes n true is more = tt
before_step byte bytes n false is more = subst (λ k. IsUnbroken (take k (byte ∷ bytes))) (one_more n) (is, more)

before_first_feed : (bytes : List ℕ) → IsUnbroken (take (position_or_len is_feed bytes) bytes)
before_first_feed [] = tt
before_first_feed (byte ∷ bytes) = before_step byte bytes (position_or_len is_feed bytes) (is_feed byte) refl (before_first_feed bytes)

-- what stands before and after the first LF
pub split_at_feed : (bytes : List ℕ) (i : ℕ) → position is_feed bytes ≡ Some i → (i < length bytes) × (bytes ≡ take i bytes ++ line_feed ∷ drop (i + 1) bytes) × IsUnbroken (take i bytes)
split_at_feed bytes i is =
    let n = position_or_len is_feed bytes in
    let f = found (nat_lt (position_or_len is_feed bytes) (length bytes)) (position_or_len is_feed bytes) i is in
    let within : position_or_len is_feed bytes < length bytes = ltb-true (position_or_len is_feed bytes) (length bytes) f.0 in
    let feed : get_or bytes (position_or_len is_feed bytes) 0 ≡ 10 = eqb-true _ 10 (passes_at_first is_feed bytes 0 within) in
    let split : bytes ≡ take (position_or_len is_feed bytes) bytes ++ line_feed ∷ drop (position_or_len is_feed bytes + 1) bytes = split_at_first is_feed bytes 0 within ∙ ap (λ byte. take (position_or_len is_feed bytes) bytes ++ byte ∷ drop (position_or_len is_feed bytes + 1) bytes) feed in
    subst (λ k. (k < length bytes) × (bytes ≡ take k bytes ++ line_feed ∷ drop (k + 1) bytes) × IsUnbroken (take k bytes)) f.1 (within, split, before_first_feed bytes)

-- where there is no LF
pub no_feed : (bytes : List ℕ) → position is_feed bytes ≡ None → IsUnbroken bytes
no_feed bytes none =
    let past : nat_lt (position_or_len is_feed bytes) (length bytes) ≡ false = not_found (nat_lt (position_or_len is_feed bytes) (length bytes)) (position_or_len is_feed bytes) none in
    let whole : take (position_or_len is_feed bytes) bytes ≡ bytes = grind (arith, common_steps, nat_tests) in
    subst IsUnbroken whole (before_first_feed bytes)

pub IsUnbroken-append : (front rest : List ℕ) → IsUnbroken front → IsUnbroken rest → IsUnbroken (front ++ rest)
IsUnbroken-append [] rest f r = r
IsUnbroken-append (byte ∷ front) rest f r = (f.0, IsUnbroken-append front rest f.1 r)

onto_first : (byte : ℕ) (line : List ℕ) (others : List (List ℕ)) → (byte == line_feed) ≡ false → onto_lines byte (line ∷ others) ≡ (byte ∷ line) ∷ others
onto_first byte line others is = ap (λ b. if b then [] ∷ line ∷ others else (byte ∷ line) ∷ others) is

-- LF ends an empty line
feed_first : (lines : List (List ℕ)) → onto_lines line_feed lines ≡ [] ∷ lines
feed_first [] = refl
feed_first (line ∷ others) = refl

-- a line up to its LF is the first line
pub lines_of-ended : (line rest : List ℕ) → IsUnbroken line → lines_of (line ++ line_feed ∷ rest) ≡ line ∷ lines_of rest
lines_of-ended [] rest whole = feed_first (lines_of rest)
lines_of-ended (byte ∷ line) rest whole = ap (onto_lines byte) (lines_of-ended line rest whole.1) ∙ onto_first byte line (lines_of rest) whole.0

-- a last line without LF counts
pub lines_of-last : (byte : ℕ) (line : List ℕ) → IsUnbroken (byte ∷ line) → lines_of (byte ∷ line) ≡ (byte ∷ line) ∷ []
lines_of-last byte [] whole = ap (λ b. (if b then [] else byte ∷ []) ∷ []) whole.0
lines_of-last byte (next ∷ line) whole = ap (onto_lines byte) (lines_of-last next line whole.1) ∙ onto_first byte (next ∷ line) [] whole.0

-- one byte more before the first line
longer_onto : (byte most : ℕ) (lines : List (List ℕ)) → (byte == line_feed) ≡ false → IsFirstLonger most lines → IsFirstLonger (suc most) (onto_lines byte lines)
longer_onto byte most [] is longer = absurd longer
longer_onto byte most (line ∷ others) is longer = subst (IsFirstLonger (suc most)) (sym (onto_first byte line others is)) (omega (arith, longer, add-one most, add-one (length line)))

some_onto : (byte : ℕ) (lines : List (List ℕ)) → (byte == line_feed) ≡ false → IsFirstLonger 0 (onto_lines byte lines)
some_onto byte [] is = subst (IsFirstLonger 0) (ap (λ b. (if b then [] else byte ∷ []) ∷ []) (sym is)) (omega arith)
some_onto byte (line ∷ others) is = subst (IsFirstLonger 0) (sym (onto_first byte line others is)) (omega (arith, add-one (length line)))

-- a line that is too long already is too long whatever follows
pub lines_of-long : (line rest : List ℕ) (most : ℕ) → IsUnbroken line → most < length line → IsFirstLonger most (lines_of (line ++ rest))
lines_of-long [] rest most whole longer = absurd (omega arith)
lines_of-long (byte ∷ line) rest zero whole longer = some_onto byte (lines_of (line ++ rest)) whole.0
lines_of-long (byte ∷ line) rest (suc most) whole longer = longer_onto byte most (lines_of (line ++ rest)) whole.0 (lines_of-long line rest most whole.1 (omega (arith, longer, add-one most, add-one (length line))))

-- what is left of a range after some bytes of it
pub range_after : (bytes : List ℕ) (start end n : ℕ) → start + n ≤ end → drop n (take (end - start) (drop start bytes)) ≡ take (end - (start + n)) (drop (start + n) bytes)
range_after bytes start end n within =
    let parts : end - start ≡ n + (end - (start + n)) = omega arith in
    ap (λ k. drop n (take k (drop start bytes))) parts ∙ drop-take n (end - (start + n)) (drop start bytes) ∙ ap (take (end - (start + n))) (drop-drop n start bytes)

-- a piece that an LF ended was moved onto the line
pub piece_ended : (items now line line' : List ℕ) (start end i : ℕ) → take (end - start) (drop start items) ≡ now → Some i ≡ position is_feed (take (end - start) (drop start items)) → line' ≡ line ++ take i (take (end - start) (drop start items)) → MovesPiece true now (take (end - (start + (i + 1))) (drop (start + (i + 1)) items)) line line'
piece_ended items now line line' start end i is found moved =
    let s = split_at_feed (take (end - start) (drop start items)) i (sym found) in
    let within : start + (i + 1) ≤ end = omega (arith, s.0, length-take (end - start) (drop start items)) in (
      take i (take (end - start) (drop start items)),
      sym is ∙ s.1 ∙ ap (λ rest. take i (take (end - start) (drop start items)) ++ line_feed ∷ rest) (range_after items start end (i + 1) within),
      moved,
      s.2,
    )

-- all that was left was moved onto the line
pub piece_whole : (items now line line' : List ℕ) (start end : ℕ) → take (end - start) (drop start items) ≡ now → None ≡ position is_feed (take (end - start) (drop start items)) → line' ≡ line ++ take (end - start) (drop start items) → MovesPiece false now (take (end - end) (drop end items)) line line'
piece_whole items now line line' start end is none moved =
    (ap (λ k. take k (drop end items)) nothing, moved ∙ ap (λ left. line ++ left) is, subst IsUnbroken is (no_feed (take (end - start) (drop start items)) (sym none)))
  where
    nothing : end - end ≡ 0
    nothing = omega arith
