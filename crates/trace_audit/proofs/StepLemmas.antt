-- What was read so far is a trace that holds, and what the next line makes of it.
use Rattle.std.proofs.Common.{◌≡◌, ℕ, ◌+◌, ◌≤◌, ◌<◌, true, false, List, [], ◌∷◌, ◌++◌, Option, Some, None, length, map, refl, sym, ◌∙◌, ap, subst, append_assoc, append-nil, length-append, arith, if◌then◌else◌}
use Rattle.std.specs.Prelude.{nat_le, nat_lt, IfSome, ⊤}
use Rattle.std.specs.Io.KnownBytes.{prepend_known}
use Rattle.std.proofs.lemmas.Bool.Decides.{nat_tests}
use Rattle.std.proofs.lemmas.List.{map-append}
use Rattle.bosh_types.specs.Limits.{longest_line, most_lines}
use Rattle.line_reader.specs.Lines.{IsFirstLonger, Reads, lines_of}
use Rattle.line_reader.specs.declared.lines.NextLine.{NextLine}
use Rattle.line_reader.specs.declared.lines.NextLine.TheVariants.{Line as NextIs, TooLong, NoLine}
use Rattle.trace_audit.specs.declared.bodies.Posted.{Posted}
use Rattle.trace_audit.specs.declared.heard.Heard.{Heard}
use Rattle.trace_audit.specs.declared.line.BadKind.{BadKind}
use Rattle.trace_audit.specs.declared.line.BadKind.TheVariants.{Count, End as EndKind, Length}
use Rattle.trace_audit.specs.declared.line.LineRead.{LineRead}
use Rattle.trace_audit.specs.declared.line.LineRead.TheVariants.{Line, BadLine}
use Rattle.trace_audit.specs.declared.line.TraceLine.{TraceLine}
use Rattle.trace_audit.specs.declared.line.TraceLine.TheVariants.{Gave, Sent, Came, In, Answer, Took, Got, End}
use Rattle.trace_audit.specs.declared.outcome.Audited.TheVariants.{No, Bad}
use Rattle.trace_audit.specs.declared.outcome.Rule.{Rule}
use Rattle.trace_audit.specs.declared.tally.Tally.{Tally}
use Rattle.trace_audit.specs.Bodies.{posted_of}
use Rattle.trace_audit.specs.Line.{line_of, read_of}
use Rattle.trace_audit.specs.Outcome.{AreUnended, Audits, Counts, GoesOn, is_end, line_read_of, next_in, next_of}
use Rattle.trace_audit.specs.Prefixes.{KeepsBothPrefixes}
use Rattle.trace_audit.specs.Rules.{Holds, broken_by, first_failed, sent_tests}
use Rattle.trace_audit.specs.Stands.{Judges, Stands}
use Rattle.trace_audit.specs.Tally.{no_lines, with_line, yes_of}
use Rattle.trace_audit.specs.Told.{Told, after, sent_by, passed_by, got_by, if_some, told}
use Rattle.trace_audit.proofs.KeepsLemmas.{told_more}

pub record Going (text rest : List ℕ) (heard : Heard) (tally : Tally) (n : ℕ) : Type 0 where
  pub lines : List TraceLine
  pub read : List (List ℕ)
  pub parts : lines_of text ≡ read ++ lines_of rest
  pub say : map read_of read ≡ map Line lines
  pub unended : AreUnended lines
  pub holds : Holds lines
  pub stands : Stands heard (told lines)
  pub counts : Counts lines tally.requests tally.passed tally.got
  pub n_is : n ≡ length lines + 1

abbrev pub GoingOn : Option (List ℕ) → Option (List ℕ) → Heard → Tally → ℕ → Type 0
GoingOn None rest heard tally n = ⊤
GoingOn (Some text) None heard tally n = ⊥
GoingOn (Some text) (Some rest) heard tally n = Going text rest heard tally n

none_told : (before : List TraceLine) (line : TraceLine) (after : List TraceLine) → [] ≡ before ++ line ∷ after → broken_by (told before) line ≡ None
none_told [] line after is = cc
none_told (other ∷ before) line after is = cc

pub begins : (left : Option (List ℕ)) (room : List ℕ) (heard : Heard) → room ≡ [] → Stands heard (told []) → GoingOn left (prepend_known room left) heard no_lines 1
begins None room heard none stands = tt
begins (Some text) room heard none stands = record {
  lines = [];
  read = [];
  parts = ap (λ r. lines_of (r ++ text)) (sym none);
  say = refl;
  unended = tt;
  holds = none_told;
  stands = stands;
  counts = record { requests_are = refl; passed_are = refl; got_are = refl };
  n_is = refl;
}

-- the next line

short_line : (line : List ℕ) → length line ≤ longest_line → read_of line ≡ line_of line
short_line line short = ap (λ b. if b then BadLine Length else line_of line) (not_long (length line) short) where
  not_long : (n : ℕ) → n ≤ longest_line → nat_lt longest_line n ≡ false
  not_long n short = grind (arith, nat_tests)

not_full : (count : ℕ) → count < most_lines → nat_le most_lines count ≡ false
not_full count few = grind (arith, nat_tests)

longer_line : (n : ℕ) → longest_line < n → nat_lt longest_line n ≡ true
longer_line n longer = grind (arith, nat_tests)

first_longer : (count : ℕ) (lines : List (List ℕ)) → count < most_lines → IsFirstLonger longest_line lines → next_of count lines ≡ BadLine Length
first_longer count [] few longer = absurd longer
first_longer count (line ∷ others) few longer =
    ap (λ b. if b then BadLine Count else read_of line) (not_full count few) ∙ ap (λ b. if b then BadLine Length else line_of line) (longer_line (length line) longer)

next_read : (count : ℕ) (bytes rest : List ℕ) (r : NextLine) → Reads (Some bytes) (Some rest) r → count < most_lines → next_of count (lines_of bytes) ≡ line_read_of r
next_read count bytes rest (NextIs line) reads few =
    ap (λ l. next_of count l) reads.0 ∙ ap (λ b. if b then BadLine Count else read_of line) (not_full count few) ∙ short_line line reads.1
next_read count bytes rest TooLong reads few = first_longer count (lines_of bytes) few reads
next_read count bytes rest NoLine reads few = ap (λ l. next_of count l) reads ∙ ap (λ b. if b then BadLine Count else BadLine EndKind) (not_full count few)

goes_on : (text rest : List ℕ) (heard : Heard) (tally : Tally) (n : ℕ) (g : Going text rest heard tally n) → n ≤ most_lines → (next : LineRead) → next_of (length g.lines) (lines_of rest) ≡ next → GoesOn text g.lines next
goes_on text rest heard tally n g few next is = record { read = g.read; left = lines_of rest; parts = g.parts; say = g.say; unended = g.unended; few = omega (arith, few, g.n_is); next_is = is }

pub bad_line : (text before rest : Option (List ℕ)) (heard : Heard) (tally : Tally) (n : ℕ) (r : NextLine) (kind : BadKind) → GoingOn text before heard tally n → n ≤ most_lines
    → Reads before rest r → BadLine kind ≡ line_read_of r → IfSome text (λ t. Audits t (Bad n kind))
bad_line None before rest heard tally n r kind going few reads is = tt
bad_line (Some text) None rest heard tally n r kind going few reads is = absurd going
bad_line (Some text) (Some bytes) None heard tally n r kind going few reads is = absurd reads
bad_line (Some text) (Some bytes) (Some rest) heard tally n r kind going few reads is =
    (going.lines, goes_on text bytes heard tally n going few (BadLine kind) (next_read (length going.lines) bytes rest r reads (omega (arith, few, going.n_is)) ∙ sym is), going.holds, going.n_is)

end_is : (line : TraceLine) → is_end line ≡ true → line ≡ End
end_is End is = refl
end_is (Gave stanza) is = cc
end_is (Sent body) is = cc
end_is (Came body) is = cc
end_is (In item) is = cc
end_is (Answer rid body) is = cc
end_is (Took rid) is = cc
end_is (Got stanza) is = cc

pub end_line : (text before rest : Option (List ℕ)) (heard : Heard) (tally : Tally) (n : ℕ) (r : NextLine) (line : TraceLine) → ((lines : List TraceLine) → Holds lines → KeepsBothPrefixes lines)
    → GoingOn text before heard tally n → n ≤ most_lines → Reads before rest r → Line line ≡ line_read_of r → is_end line ≡ true → IfSome text (λ t. Audits t (yes_of tally))
end_line None before rest heard tally n r line keep going few reads is ends = tt
end_line (Some text) None rest heard tally n r line keep going few reads is ends = absurd going
end_line (Some text) (Some bytes) None heard tally n r line keep going few reads is ends = absurd reads
end_line (Some text) (Some bytes) (Some rest) heard tally n r line keep going few reads is ends = (
  going.lines,
  goes_on text bytes heard tally n going few (Line End) (next_read (length going.lines) bytes rest r reads (omega (arith, few, going.n_is)) ∙ sym is ∙ ap (λ l. Line l) (end_is line ends)),
  going.holds,
  keep going.lines going.holds,
  going.counts,
)

pub broken_line : (text before rest : Option (List ℕ)) (heard new : Heard) (tally : Tally) (n : ℕ) (r : NextLine) (line : TraceLine) (broken : Option Rule) (rule : Rule)
    → GoingOn text before heard tally n → n ≤ most_lines → Reads before rest r → Line line ≡ line_read_of r
    → ((t : Told) → Stands heard t → Judges broken new t line) → broken ≡ Some rule → IfSome text (λ t. Audits t (No n rule))
broken_line None before rest heard new tally n r line broken rule going few reads is judged some = tt
broken_line (Some text) None rest heard new tally n r line broken rule going few reads is judged some = absurd going
broken_line (Some text) (Some bytes) None heard new tally n r line broken rule going few reads is judged some = absurd reads
broken_line (Some text) (Some bytes) (Some rest) heard new tally n r line broken rule going few reads is judged some = (
  going.lines,
  line,
  goes_on text bytes heard tally n going few (Line line) (next_read (length going.lines) bytes rest r reads (omega (arith, few, going.n_is)) ∙ sym is),
  (going.holds, sym (judged (told going.lines) going.stands).0 ∙ some),
  going.n_is,
)

-- one line more

heads : {X : Type 0} (x y : X) (xs ys : List X) → (x ∷ xs) ≡ (y ∷ ys) → (x ≡ y) × (xs ≡ ys)
heads x y xs ys is = (cc, cc)

held_more : (lines : List TraceLine) (line : TraceLine) (first : List TraceLine) → ((xs : List TraceLine) (l : TraceLine) (ys : List TraceLine) → lines ≡ xs ++ l ∷ ys → broken_by (told (first ++ xs)) l ≡ None)
    → broken_by (told (first ++ lines)) line ≡ None
    → (xs : List TraceLine) (l : TraceLine) (ys : List TraceLine) → lines ++ line ∷ [] ≡ xs ++ l ∷ ys → broken_by (told (first ++ xs)) l ≡ None
held_more [] line first holds none [] l ys is = subst (λ m. broken_by (told (first ++ [])) m ≡ None) (heads line l [] ys is).0 none
held_more [] line first holds none (x ∷ []) l ys is = absurd (some_left ys (heads line x [] (l ∷ ys) is).1) where
  some_left : (ys : List TraceLine) → [] ≡ l ∷ ys → ⊥
  some_left ys is = cc
held_more [] line first holds none (x ∷ y ∷ xs) l ys is = absurd (some_left (heads line x [] (y ∷ (xs ++ l ∷ ys)) is).1) where
  some_left : [] ≡ y ∷ (xs ++ l ∷ ys) → ⊥
  some_left is = cc
held_more (other ∷ lines) line first holds none [] l ys is = subst (λ m. broken_by (told (first ++ [])) m ≡ None) (heads other l (lines ++ line ∷ []) ys is).0 (holds [] other lines refl)
held_more (other ∷ lines) line first holds none (x ∷ xs) l ys is =
    let parts = heads other x (lines ++ line ∷ []) (xs ++ l ∷ ys) is in
    let grown = held_more lines line (first ++ other ∷ [])
    (λ us m vs so. subst (λ (b : List TraceLine). broken_by (told b) m ≡ None) (sym (append_assoc first (other ∷ []) us)) (holds (other ∷ us) m vs (ap (λ (k : List TraceLine). other ∷ k) so)))
    (subst (λ (b : List TraceLine). broken_by (told b) line ≡ None) (sym (append_assoc first (other ∷ []) lines)) none) in
    subst (λ (m : TraceLine). broken_by (told (first ++ m ∷ xs)) l ≡ None) parts.0
    (subst (λ (b : List TraceLine). broken_by (told b) l ≡ None) (append_assoc first (other ∷ []) xs) (grown xs l ys parts.1))

unended_more : (lines : List TraceLine) (line : TraceLine) → AreUnended lines → is_end line ≡ false → AreUnended (lines ++ line ∷ [])
unended_more [] line unended goes = (goes, tt)
unended_more (other ∷ lines) line unended goes = (unended.0, unended_more lines line unended.1 goes)

-- a request that is sent as it should be is one
one_sent : (t : Told) (body : List ℕ) → broken_by t (Sent body) ≡ None → length (if_some (posted_of body)) ≡ 1
unfolding broken_by
one_sent t body none = by_read (posted_of body) none where
  by_read : (o : Option Posted) → first_failed (sent_tests t.sent o) ≡ None → length (if_some o) ≡ 1
  by_read None none = cc
  by_read (Some p) none = refl

counts_more : (lines : List TraceLine) (line : TraceLine) (tally : Tally) → broken_by (told lines) line ≡ None → Counts lines tally.requests tally.passed tally.got
    → Counts (lines ++ line ∷ []) (with_line tally line).requests (with_line tally line).passed (with_line tally line).got
counts_more lines line tally none counts = record {
  requests_are = requests line none ∙ sym (ap (λ (t : Told). length t.sent) (told_more lines line));
  passed_are = passed line ∙ sym (ap (λ (t : Told). length t.passed) (told_more lines line));
  got_are = got line ∙ sym (ap (λ (t : Told). length t.got) (told_more lines line));
} where
  same : {X : Type 0} (xs : List X) (n : ℕ) → n ≡ length xs → n ≡ length (xs ++ [])
  same xs n is = is ∙ sym (ap length (append-nil xs))

  more : {X : Type 0} (xs : List X) (x : X) (n : ℕ) → n ≡ length xs → n + 1 ≡ length (xs ++ x ∷ [])
  more xs x n is = ap (λ m. m + 1) is ∙ sym (length-append xs (x ∷ []))

  requests : (line : TraceLine) → broken_by (told lines) line ≡ None → (with_line tally line).requests ≡ length ((told lines).sent ++ sent_by line)
  requests (Sent body) none = omega (arith, counts.requests_are, length-append (told lines).sent (if_some (posted_of body)), one_sent (told lines) body none)
  requests (Gave stanza) none = same _ _ counts.requests_are
  requests (Came body) none = same _ _ counts.requests_are
  requests (In item) none = same _ _ counts.requests_are
  requests (Answer rid body) none = same _ _ counts.requests_are
  requests (Took rid) none = same _ _ counts.requests_are
  requests (Got stanza) none = same _ _ counts.requests_are
  requests End none = same _ _ counts.requests_are

  passed : (line : TraceLine) → (with_line tally line).passed ≡ length ((told lines).passed ++ passed_by line)
  passed (In item) = more _ item _ counts.passed_are
  passed (Sent body) = same _ _ counts.passed_are
  passed (Gave stanza) = same _ _ counts.passed_are
  passed (Came body) = same _ _ counts.passed_are
  passed (Answer rid body) = same _ _ counts.passed_are
  passed (Took rid) = same _ _ counts.passed_are
  passed (Got stanza) = same _ _ counts.passed_are
  passed End = same _ _ counts.passed_are

  got : (line : TraceLine) → (with_line tally line).got ≡ length ((told lines).got ++ got_by line)
  got (Got stanza) = more _ stanza _ counts.got_are
  got (Sent body) = same _ _ counts.got_are
  got (Gave stanza) = same _ _ counts.got_are
  got (Came body) = same _ _ counts.got_are
  got (In item) = same _ _ counts.got_are
  got (Answer rid body) = same _ _ counts.got_are
  got (Took rid) = same _ _ counts.got_are
  got End = same _ _ counts.got_are

-- the line was read as one
read_line : (bytes rest : List ℕ) (r : NextLine) (line : TraceLine) → Reads (Some bytes) (Some rest) r → Line line ≡ line_read_of r → (raw : List ℕ) × (lines_of bytes ≡ raw ∷ lines_of rest) × (read_of raw ≡ Line line)
read_line bytes rest (NextIs raw) line reads is = (raw, reads.0, short_line raw reads.1 ∙ sym is)
read_line bytes rest TooLong line reads is = cc
read_line bytes rest NoLine line reads is = cc

pub goes_line : (text before rest : Option (List ℕ)) (heard new : Heard) (tally : Tally) (n : ℕ) (r : NextLine) (line : TraceLine) (broken : Option Rule)
    → GoingOn text before heard tally n → Reads before rest r → Line line ≡ line_read_of r → is_end line ≡ false
    → ((t : Told) → Stands heard t → Judges broken new t line) → broken ≡ None → GoingOn text rest new (with_line tally line) (n + 1)
goes_line None before rest heard new tally n r line broken going reads is goes judged none = tt
goes_line (Some text) None rest heard new tally n r line broken going reads is goes judged none = absurd going
goes_line (Some text) (Some bytes) None heard new tally n r line broken going reads is goes judged none = absurd reads
goes_line (Some text) (Some bytes) (Some rest) heard new tally n r line broken going reads is goes judged none =
    let raw = read_line bytes rest r line reads is in
    let ok = judged (told going.lines) going.stands in
    let held : broken_by (told going.lines) line ≡ None = sym ok.0 ∙ none in
    record {
      lines = going.lines ++ line ∷ [];
      read = going.read ++ raw.0 ∷ [];
      parts = going.parts ∙ ap (λ l. going.read ++ l) raw.1 ∙ sym (append_assoc going.read (raw.0 ∷ []) (lines_of rest));
      say = map-append read_of going.read (raw.0 ∷ []) ∙ ap (λ l. l ++ read_of raw.0 ∷ []) going.say ∙ ap (λ x. map Line going.lines ++ x ∷ []) raw.2 ∙ sym (map-append Line going.lines (line ∷ []));
      unended = unended_more going.lines line going.unended goes;
      holds = held_more going.lines line [] going.holds held;
      stands = subst (Stands new) (sym (told_more going.lines line)) (ok.1 none);
      counts = counts_more going.lines line tally held going.counts;
      n_is = omega (arith, going.n_is, length-append going.lines (line ∷ []));
    }

-- after a million lines without an end
full : (count : ℕ) (left : List (List ℕ)) → most_lines ≤ count → next_of count left ≡ BadLine Count
full count left many = ap (λ b. if b then BadLine Count else next_in left) (reached count many) where
  reached : (count : ℕ) → most_lines ≤ count → nat_le most_lines count ≡ true
  reached count many = grind (arith, nat_tests)

pub too_many : (text rest : Option (List ℕ)) (heard : Heard) (tally : Tally) (n m : ℕ) → GoingOn text rest heard tally n → n ≡ m → m ≡ most_lines + 1 → IfSome text (λ t. Audits t (Bad m Count))
too_many None rest heard tally n m going same is = tt
too_many (Some text) None heard tally n m going same is = absurd going
too_many (Some text) (Some rest) heard tally n m going same is = (
  going.lines,
  record { read = going.read; left = lines_of rest; parts = going.parts; say = going.say; unended = going.unended; few = omega (arith, going.n_is, same, is); next_is = full (length going.lines) (lines_of rest) (omega (arith, going.n_is, same, is)) },
  going.holds,
  sym same ∙ going.n_is,
)

-- each count is below the number of the line
pub below : (tally : Tally) (line : TraceLine) (n : ℕ) → tally.requests < n → tally.passed < n → tally.got < n
    → ((with_line tally line).requests < n + 1) × ((with_line tally line).passed < n + 1) × ((with_line tally line).got < n + 1)
below tally (Sent body) n a b c = (omega (arith, a), omega (arith, b), omega (arith, c))
below tally (In item) n a b c = (omega (arith, a), omega (arith, b), omega (arith, c))
below tally (Got stanza) n a b c = (omega (arith, a), omega (arith, b), omega (arith, c))
below tally (Gave stanza) n a b c = (omega (arith, a), omega (arith, b), omega (arith, c))
below tally (Came body) n a b c = (omega (arith, a), omega (arith, b), omega (arith, c))
below tally (Answer rid body) n a b c = (omega (arith, a), omega (arith, b), omega (arith, c))
below tally (Took rid) n a b c = (omega (arith, a), omega (arith, b), omega (arith, c))
below tally End n a b c = (omega (arith, a), omega (arith, b), omega (arith, c))
