-- Reading a line piece by piece, where the bytes are told.
use Rattle.std.proofs.Common.{ℕ, ◌≡◌, ◌<◌, ◌≤◌, List, [], ◌∷◌, ◌++◌, Option, Some, None, Bool, true, false, nat_lt, length, refl, sym, ◌∙◌, ap, subst, append_assoc, append-nil, arith, if◌then◌else◌}
use Rattle.std.proofs.lemmas.Bool.{ltb-true}
use Rattle.std.proofs.lemmas.Bool.Decides.{nat_tests}
use Rattle.std.proofs.Math.Dec.{eqb-suc-zero}
use Rattle.std.specs.Io.KnownBytes.{Keeps, IsAtEnd, prepend_known}
use Rattle.line_reader.specs.declared.lines.NextLine.TheVariants.{Line, TooLong, NoLine}
use Rattle.bosh_types.specs.Limits.{longest_line}
use Rattle.line_reader.specs.Lines.{line_feed, lines_of, Reads, IsFirstLonger, IsUnbroken, MovesPiece, ended_line_of, last_line_of}
use Rattle.line_reader.proofs.LinesLemmas.{IsUnbroken-append, lines_of-ended, lines_of-last, lines_of-long}

-- this much of the next line has been read, and it has no LF
pub record HasRead (old new : Option (List ℕ)) (line : List ℕ) : Type 0 where
  pub same : Keeps old (prepend_known line new)
  pub whole : IsUnbroken line

pub nothing_read : (old : Option (List ℕ)) → HasRead old old []
nothing_read None = record { same = tt; whole = tt }
nothing_read (Some bytes) = record { same = refl; whole = tt }

-- the source gave more
pub filled : (old mid new : Option (List ℕ)) (line : List ℕ) → HasRead old mid line → Keeps mid new → HasRead old new line
filled None mid new line has keeps = record { same = tt; whole = has.whole }
filled (Some bytes) None new line has keeps = absurd has.same
filled (Some bytes) (Some rest) None line has keeps = absurd keeps
filled (Some bytes) (Some rest) (Some rest') line has keeps = record { same = ap (λ r. line ++ r) keeps ∙ has.same; whole = has.whole }

-- a piece without LF
pub more_read : (old src : Option (List ℕ)) (left left' line line' : List ℕ) → HasRead old (prepend_known left src) line → MovesPiece false left left' line line' → HasRead old (prepend_known left' src) line'
more_read None src left left' line line' has moved = record { same = tt; whole = subst IsUnbroken (sym moved.1) (IsUnbroken-append line left has.whole moved.2) }
more_read (Some bytes) None left left' line line' has moved = absurd has.same
more_read (Some bytes) (Some rest) left left' line line' has moved = record {
  same = ap (λ l. l ++ (left' ++ rest)) moved.1 ∙ append_assoc line left (left' ++ rest) ∙ ap (λ l. line ++ (left ++ (l ++ rest))) moved.0 ∙ has.same;
  whole = subst IsUnbroken (sym moved.1) (IsUnbroken-append line left has.whole moved.2);
}

-- what a whole line is
ended_is : (bytes line rest : List ℕ) (long : Bool) → nat_lt longest_line (length line) ≡ long → IsUnbroken line → bytes ≡ line ++ line_feed ∷ rest → Reads (Some bytes) (Some rest) (if long then TooLong else Line line)
ended_is bytes line rest true long whole is = subst (IsFirstLonger longest_line) (sym (ap lines_of is ∙ lines_of-ended line rest whole)) (ltb-true longest_line (length line) long)
ended_is bytes line rest false short whole is = (ap lines_of is ∙ lines_of-ended line rest whole, grind (arith, nat_tests))

-- a piece that an LF ended
pub line_ended : (old src : Option (List ℕ)) (left left' line line' : List ℕ) → HasRead old (prepend_known left src) line → MovesPiece true left left' line line' → Reads old (prepend_known left' src) (ended_line_of line')
line_ended None src left left' line line' has moved = tt
line_ended (Some bytes) None left left' line line' has moved = absurd has.same
line_ended (Some bytes) (Some rest) left left' line line' has moved =
    let parts : bytes ≡ line' ++ line_feed ∷ (left' ++ rest) =
    sym has.same ∙ ap (λ l. line ++ (l ++ rest)) moved.1
    ∙ ap (λ l. line ++ l) (append_assoc moved.0 (line_feed ∷ left') rest)
    ∙ sym (append_assoc line moved.0 (line_feed ∷ (left' ++ rest)))
    ∙ ap (λ l. l ++ line_feed ∷ (left' ++ rest)) (sym moved.2) in
    ended_is bytes line' (left' ++ rest) (nat_lt longest_line (length line')) refl (subst IsUnbroken (sym moved.2) (IsUnbroken-append line moved.0 has.whole moved.3)) parts

-- what is left at the end is the last line, or there is none
last_is : (bytes rest line : List ℕ) → IsUnbroken line → length line ≤ longest_line → bytes ≡ line → rest ≡ [] → Reads (Some bytes) (Some rest) (last_line_of line)
last_is bytes rest [] whole short is none = ap lines_of is
last_is bytes rest (byte ∷ line) whole short is none =
    subst (λ b. Reads (Some bytes) (Some rest) (if b then NoLine else Line (byte ∷ line))) (sym (eqb-suc-zero (length line)))
    (ap lines_of is ∙ lines_of-last byte line whole ∙ ap (λ r. (byte ∷ line) ∷ lines_of r) (sym none), short)

-- the source came to its end
pub source_ended : (old mid new : Option (List ℕ)) (line : List ℕ) → HasRead old mid line → Keeps mid new → IsAtEnd mid → length line ≤ longest_line → Reads old new (last_line_of line)
source_ended None mid new line has keeps end short = tt
source_ended (Some bytes) None new line has keeps end short = absurd has.same
source_ended (Some bytes) (Some rest) None line has keeps end short = absurd keeps
source_ended (Some bytes) (Some rest) (Some rest') line has keeps end short =
    last_is bytes rest' line has.whole short (sym has.same ∙ ap (λ r. line ++ r) end ∙ append-nil line) (keeps ∙ end)

-- the line is too long already
pub too_long : (old src : Option (List ℕ)) (left line : List ℕ) → HasRead old (prepend_known left src) line → longest_line < length line → Reads old (prepend_known left src) TooLong
too_long None src left line has longer = tt
too_long (Some bytes) None left line has longer = absurd has.same
too_long (Some bytes) (Some rest) left line has longer = subst (λ b. IsFirstLonger longest_line (lines_of b)) has.same (lines_of-long line (left ++ rest) longest_line has.whole longer)
