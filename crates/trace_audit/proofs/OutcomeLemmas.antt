-- A text has one outcome.
use Rattle.std.proofs.Common.{◌≡◌, ℕ, ◌+◌, ◌≤◌, ◌<◌, false, List, [], ◌∷◌, ◌++◌, Option, Some, None, length, map, refl, sym, ◌∙◌, ap, subst, append_assoc, append-nil, length-append, arith, if◌then◌else◌}
use Rattle.std.specs.Prelude.{nat_le}
use Rattle.std.proofs.lemmas.Bool.Decides.{nat_tests}
use Rattle.bosh_types.specs.Limits.{most_lines}
use Rattle.line_reader.specs.Lines.{lines_of}
use Rattle.trace_audit.specs.declared.line.BadKind.{BadKind}
use Rattle.trace_audit.specs.declared.line.BadKind.TheVariants.{Count}
use Rattle.trace_audit.specs.declared.line.LineRead.{LineRead}
use Rattle.trace_audit.specs.declared.line.LineRead.TheVariants.{Line, BadLine}
use Rattle.trace_audit.specs.declared.line.TraceLine.{TraceLine}
use Rattle.trace_audit.specs.declared.line.TraceLine.TheVariants.{End}
use Rattle.trace_audit.specs.declared.outcome.Audited.{Audited}
use Rattle.trace_audit.specs.declared.outcome.Audited.TheVariants.{Yes, No, Bad}
use Rattle.trace_audit.specs.declared.outcome.Rule.{Rule}
use Rattle.trace_audit.specs.Line.{read_of}
use Rattle.trace_audit.specs.Outcome.{AreUnended, Audits, GoesOn, is_end, next_of}
use Rattle.trace_audit.specs.Rules.{Holds, broken_by}
use Rattle.trace_audit.specs.Told.{told}

-- what is said where this comes next
abbrev yes_after : List TraceLine → Audited
yes_after lines = Yes (length (told lines).sent) (length (told lines).passed) (length (told lines).got)

heads : {X : Type 0} (x y : X) (xs ys : List X) → (x ∷ xs) ≡ (y ∷ ys) → (x ≡ y) × (xs ≡ ys)
heads x y xs ys is = (cc, cc)

-- what is said where this line comes after these, and this of the rest
abbrev by_rule : ℕ → Option Rule → Audited → Audited
by_rule count (Some rule) rest = No (count + 1) rule
by_rule count None rest = rest

abbrev by_line : List TraceLine → TraceLine → Audited → Audited
by_line before line rest = if is_end line then yes_after before else by_rule (length before) (broken_by (told before) line) rest

-- the outcome, line by line
abbrev pub judge_from : List TraceLine → List (List ℕ) → Audited
judge_from before [] = elim (next_of (length before) []) [ BadLine kind ↦ Bad (length before + 1) kind | Line line ↦ by_line before line (Bad 0 Count) ]
judge_from before (raw ∷ raws) =
    elim (next_of (length before) (raw ∷ raws)) [ BadLine kind ↦ Bad (length before + 1) kind | Line line ↦ by_line before line (judge_from (before ++ line ∷ []) raws) ]

-- where this comes next
judge_bad : (before : List TraceLine) (left : List (List ℕ)) (kind : BadKind) → next_of (length before) left ≡ BadLine kind → judge_from before left ≡ Bad (length before + 1) kind
judge_bad before [] kind is = ap (λ r. elim r [ BadLine kind ↦ Bad (length before + 1) kind | Line line ↦ by_line before line (Bad 0 Count) ]) is
judge_bad before (raw ∷ raws) kind is =
    ap (λ r. elim r [ BadLine kind ↦ Bad (length before + 1) kind | Line line ↦ by_line before line (judge_from (before ++ line ∷ []) raws) ]) is

judge_end : (before : List TraceLine) (left : List (List ℕ)) → next_of (length before) left ≡ Line End → judge_from before left ≡ yes_after before
judge_end before [] is = ap (λ r. elim r [ BadLine kind ↦ Bad (length before + 1) kind | Line line ↦ by_line before line (Bad 0 Count) ]) is
judge_end before (raw ∷ raws) is =
    ap (λ r. elim r [ BadLine kind ↦ Bad (length before + 1) kind | Line line ↦ by_line before line (judge_from (before ++ line ∷ []) raws) ]) is

by_line_broken : (before : List TraceLine) (line : TraceLine) (rule : Rule) (rest : Audited) → is_end line ≡ false → broken_by (told before) line ≡ Some rule → by_line before line rest ≡ No (length before + 1) rule
by_line_broken before line rule rest goes_on broken =
    ap (λ b. if b then yes_after before else by_rule (length before) (broken_by (told before) line) rest) goes_on ∙ ap (λ o. by_rule (length before) o rest) broken

by_line_held : (before : List TraceLine) (line : TraceLine) (rest : Audited) → is_end line ≡ false → broken_by (told before) line ≡ None → by_line before line rest ≡ rest
by_line_held before line rest goes_on held =
    ap (λ b. if b then yes_after before else by_rule (length before) (broken_by (told before) line) rest) goes_on ∙ ap (λ o. by_rule (length before) o rest) held

judge_broken : (before : List TraceLine) (left : List (List ℕ)) (line : TraceLine) (rule : Rule) → is_end line ≡ false → broken_by (told before) line ≡ Some rule
    → next_of (length before) left ≡ Line line → judge_from before left ≡ No (length before + 1) rule
judge_broken before [] line rule goes_on broken is =
    ap (λ r. elim r [ BadLine kind ↦ Bad (length before + 1) kind | Line line ↦ by_line before line (Bad 0 Count) ]) is ∙ by_line_broken before line rule _ goes_on broken
judge_broken before (raw ∷ raws) line rule goes_on broken is =
    ap (λ r. elim r [ BadLine kind ↦ Bad (length before + 1) kind | Line line ↦ by_line before line (judge_from (before ++ line ∷ []) raws) ]) is ∙ by_line_broken before line rule _ goes_on broken

next_is : (count : ℕ) (raw : List ℕ) (raws : List (List ℕ)) → count < most_lines → next_of count (raw ∷ raws) ≡ read_of raw
next_is count raw raws few = ap (λ b. if b then BadLine Count else read_of raw) (not_reached count few) where
  not_reached : (count : ℕ) → count < most_lines → nat_le most_lines count ≡ false
  not_reached count few = grind (arith, nat_tests)

-- lines that hold lead on
judge_on : (before : List TraceLine) (read : List (List ℕ)) (lines : List TraceLine) (left : List (List ℕ)) → map read_of read ≡ map Line lines → AreUnended lines
    → length before + length lines ≤ most_lines
    → ((xs : List TraceLine) (line : TraceLine) (ys : List TraceLine) → lines ≡ xs ++ line ∷ ys → broken_by (told (before ++ xs)) line ≡ None)
    → judge_from before (read ++ left) ≡ judge_from (before ++ lines) left
judge_on before [] [] left say unended few holds = ap (λ (b : List TraceLine). judge_from b left) (sym (append-nil before))
judge_on before [] (line ∷ lines) left say unended few holds = cc
judge_on before (raw ∷ read) [] left say unended few holds = cc
judge_on before (raw ∷ read) (line ∷ lines) left say unended few holds =
    let here : broken_by (told before) line ≡ None = subst (λ (b : List TraceLine). broken_by (told b) line ≡ None) (append-nil before) (holds [] line lines refl) in
    let says = heads (read_of raw) (Line line) (map read_of read) (map Line lines) say in
    ap (λ r. elim r [ BadLine kind ↦ Bad (length before + 1) kind | Line line ↦ by_line before line (judge_from (before ++ line ∷ []) (read ++ left)) ])
    (next_is (length before) raw (read ++ left) (omega (arith, few)) ∙ says.0)
    ∙ by_line_held before line (judge_from (before ++ line ∷ []) (read ++ left)) unended.0 here
    ∙ judge_on (before ++ line ∷ []) read lines left says.1 unended.1 (omega (arith, few, length-append before (line ∷ [])))
    (λ xs next ys is. subst (λ (b : List TraceLine). broken_by (told b) next ≡ None) (sym (append_assoc before (line ∷ []) xs)) (holds (line ∷ xs) next ys (ap (λ (m : List TraceLine). line ∷ m) is)))
    ∙ ap (λ (b : List TraceLine). judge_from b left) (append_assoc before (line ∷ []) lines)

-- what goes on after lines that hold
judge_goes : (text : List ℕ) (lines : List TraceLine) (next : LineRead) (goes : GoesOn text lines next) → Holds lines → judge_from [] (lines_of text) ≡ judge_from lines goes.left
judge_goes text lines next goes holds =
    ap (λ l. judge_from [] l) goes.parts ∙ judge_on [] goes.read lines goes.left goes.say goes.unended (omega (arith, goes.few)) holds

unbroken_end : (lines : List TraceLine) (line : TraceLine) (rule : Rule) → broken_by (told lines) line ≡ Some rule → is_end line ≡ false
unfolding broken_by
unbroken_end lines line rule broken = elim_end line broken where
  elim_end : (line : TraceLine) → broken_by (told lines) line ≡ Some rule → is_end line ≡ false
  elim_end End broken = cc
  elim_end line broken = refl

-- the outcome of a text
outcome_is : (text : List ℕ) (outcome : Audited) → Audits text outcome → outcome ≡ judge_from [] (lines_of text)
outcome_is text (Yes requests passed got) audits =
    let counts = audits.4 in
    ap (λ n. Yes n passed got) counts.requests_are ∙ ap (λ n. Yes (length (told audits.0).sent) n got) counts.passed_are
    ∙ ap (λ n. Yes (length (told audits.0).sent) (length (told audits.0).passed) n) counts.got_are
    ∙ sym (judge_goes text audits.0 (Line End) audits.1 audits.2 ∙ judge_end audits.0 audits.1.left audits.1.next_is)
outcome_is text (No n rule) audits =
    let goes = audits.2 in
    ap (λ n. No n rule) audits.4
    ∙ sym (judge_goes text audits.0 (Line audits.1) goes audits.3.0 ∙ judge_broken audits.0 goes.left audits.1 rule (unbroken_end audits.0 audits.1 rule audits.3.1) audits.3.1 goes.next_is)
outcome_is text (Bad n kind) audits =
    ap (λ n. Bad n kind) audits.3
    ∙ sym (judge_goes text audits.0 (BadLine kind) audits.1 audits.2 ∙ judge_bad audits.0 audits.1.left kind audits.1.next_is)

pub one_outcome : (text : List ℕ) (one other : Audited) → Audits text one → Audits text other → one ≡ other
one_outcome text one other audits audits' = outcome_is text one audits ∙ sym (outcome_is text other audits')
