-- One line of a script of two ends, and the whole of it.
use Rattle.std.proofs.Common.{ℕ, ◌≡◌, ◌+◌, ◌<◌, ◌≤◌, List, [], ◌∷◌, ◌++◌, Option, Some, None, IfSome, true, false, nat_lt, length, refl, sym, ◌∙◌, ap, subst, append_assoc, append-nil, arith, if◌then◌else◌}
use Rattle.std.proofs.lemmas.Bool.Decides.{nat_tests}
use Rattle.std.specs.Io.KnownBytes.{Appends, prepend_known}
use Rattle.std.proofs.KnownBytes.{Appends-trans, Appends-nil, prepend_known-nil}
use Rattle.bosh_ports.specs.Sink.{AppendsFront}
use Rattle.bosh_types.specs.Limits.{longest_line, most_lines}
use Rattle.line_reader.specs.Lines.{lines_of, IsFirstLonger, Reads}
use Rattle.line_reader.specs.declared.lines.NextLine.{NextLine}
use Rattle.line_reader.specs.declared.lines.NextLine.TheVariants as reads
use Rattle.script_text.specs.declared.line.BadKind.TheVariants.{Count, End, Length}
use Rattle.script_text.specs.declared.driven.Driven.{Driven}
use Rattle.script_text.specs.declared.driven.Driven.TheVariants as driven
use Rattle.script_text.proofs.GivenLemmas.{AppendsFront-after, AppendsFront-part}
use Rattle.session_laws.proofs.Tests.{if_false, if_true}
use Rattle.pair_text.specs.declared.report.PairReport.{PairReport}
use Rattle.pair_text.specs.declared.report.PairReport.TheVariants.{Bad}
use Rattle.pair_text.specs.declared.run.Effect.{Effect}
use Rattle.pair_text.specs.declared.run.Next.TheVariants as nexts
use Rattle.pair_text.specs.declared.run.Run.{Run}
use Rattle.pair_text.specs.declared.run.Run.TheVariants as runs
use Rattle.pair_text.specs.Line.{pair_line_of}
use Rattle.pair_text.specs.Report.{pair_line_text, pair_report_text}
use Rattle.pair_text.specs.Script.{Pair, PairStep, PlainPairNext, PlainPairRun, Beginning, Goes, Ends, ReportsPair, after_step, bad_at, bad_step, ended_with, line_step, pair_of, pair_on, read_step, step_by}
use Rattle.pair_text.specs.Stands.{Does, IsNext, IsRun}

-- What was given to the sink.

-- of a text, this is left
pub record HasGiven (old new : Option (List ℕ)) (whole rest : List ℕ) : Type 0 where
  pub written : List ℕ
  pub parts : whole ≡ written ++ rest
  pub gave : Appends old new written

nothing_given : (old : Option (List ℕ)) (whole : List ℕ) → HasGiven old old whole whole
nothing_given old whole = record { written = []; parts = refl; gave = Appends-nil old }

more_given : (old mid new : Option (List ℕ)) (whole part rest : List ℕ) → HasGiven old mid whole (part ++ rest) → Appends mid new part → HasGiven old new whole rest
more_given old mid new whole part rest has more = record {
  written = has.written ++ part;
  parts = has.parts ∙ sym (append_assoc has.written part rest);
  gave = Appends-trans old mid new has.written part has.gave more;
}

front_given : (old mid new : Option (List ℕ)) (whole part rest : List ℕ) → HasGiven old mid whole (part ++ rest) → AppendsFront mid new part → AppendsFront old new whole
front_given old mid new whole part rest has gave =
    subst (AppendsFront old new) (sym has.parts)
    (AppendsFront-after old mid new has.written (part ++ rest) has.gave (AppendsFront-part mid new part rest gave))

all_given : (old new : Option (List ℕ)) (whole : List ℕ) → HasGiven old new whole [] → Appends old new whole
all_given old new whole has = subst (Appends old new) (sym (has.parts ∙ append-nil has.written)) has.gave

text_append : (report others : List PairReport) → pair_report_text (report ++ others) ≡ pair_report_text report ++ pair_report_text others
text_append [] others = refl
text_append (line ∷ report) others =
    ap (λ text. pair_line_text line ++ 10 ∷ text) (text_append report others)
    ∙ sym (append_assoc (pair_line_text line) (10 ∷ pair_report_text report) (pair_report_text others))

-- What a line does.

abbrev next_pair : PlainPairRun → ℕ → PairStep → PlainPairNext → List (List ℕ) → Pair
next_pair run n step (Goes after) others = after_step step (pair_on after (n + 1) others)
next_pair run n step (Ends outcome) others = ended_with run step outcome

abbrev pair_by : PlainPairRun → ℕ → PairStep → List (List ℕ) → Pair
pair_by run n step others = next_pair run n step step.next others

by_next : (run : PlainPairRun) (n : ℕ) (step : PairStep) (next : PlainPairNext) (others : List (List ℕ)) → (elim next [
  | Goes after ↦ after_step step (pair_on after (n + 1) others)
  | Ends outcome ↦ ended_with run step outcome
]) ≡ next_pair run n step next others
by_next run n step (Goes after) others = refl
by_next run n step (Ends outcome) others = refl

not_past : (n : ℕ) → n ≤ most_lines → nat_lt most_lines n ≡ false
not_past n within = grind (arith, nat_tests)

past : (n : ℕ) → most_lines < n → nat_lt most_lines n ≡ true
past n beyond = grind (arith, nat_tests)

from_line : (run : PlainPairRun) (n : ℕ) (line : List ℕ) (others : List (List ℕ)) (step : PairStep) → n ≤ most_lines → line_step run n line ≡ step
    → pair_on run n (line ∷ others) ≡ pair_by run n step others
from_line run n line others step within is =
    if_false (nat_lt most_lines n) _ _ (not_past n within)
    ∙ by_next run n (line_step run n line) (line_step run n line).next others
    ∙ ap (λ s. pair_by run n s others) is

short_step : (run : PlainPairRun) (n : ℕ) (line : List ℕ) → length line ≤ longest_line → line_step run n line ≡ step_by run n (pair_line_of line)
short_step run n line short =
    let test : nat_lt longest_line (length line) ≡ false = grind (arith, nat_tests) in
    if_false (nat_lt longest_line (length line)) (bad_step n Length) (step_by run n (pair_line_of line)) test

long_step : (run : PlainPairRun) (n : ℕ) (line : List ℕ) → longest_line < length line → line_step run n line ≡ bad_step n Length
long_step run n line long =
    let test : nat_lt longest_line (length line) ≡ true = grind (arith, nat_tests) in
    if_true (nat_lt longest_line (length line)) (bad_step n Length) (step_by run n (pair_line_of line)) test

long_first : (run : PlainPairRun) (n : ℕ) (lines rest : List (List ℕ)) → n ≤ most_lines → IsFirstLonger longest_line lines
    → pair_on run n lines ≡ pair_by run n (bad_step n Length) rest
long_first run n [] rest within long = absurd long
long_first run n (line ∷ others) rest within long = from_line run n line others (bad_step n Length) within (long_step run n line long)

-- reading the next line is one step of the script
step : (run : PlainPairRun) (n : ℕ) (bytes rest : List ℕ) (read : NextLine) → n ≤ most_lines → Reads (Some bytes) (Some rest) read
    → pair_on run n (lines_of bytes) ≡ pair_by run n (read_step run n read) (lines_of rest)
step run n bytes rest (reads.Line line) within read =
    ap (pair_on run n) read.0 ∙ from_line run n line (lines_of rest) (step_by run n (pair_line_of line)) within (short_step run n line read.1)
step run n bytes rest reads.TooLong within read = long_first run n (lines_of bytes) (lines_of rest) within read
step run n bytes rest reads.NoLine within read =
    ap (pair_on run n) read ∙ ap (λ b. bad_at run n (if b then Count else End)) (not_past n within)

-- past the most lines nothing is read
counted_out : (run : PlainPairRun) (n : ℕ) (lines : List (List ℕ)) → most_lines < n → pair_on run n lines ≡ bad_at run n Count
counted_out run n [] beyond = ap (λ b. bad_at run n (if b then Count else End)) (past n beyond)
counted_out run n (line ∷ others) beyond = if_true (nat_lt most_lines n) _ _ (past n beyond)

-- where a line doesn't end the script: what it is run over then, and the rest of it
record Further (run : PlainPairRun) (n : ℕ) (step : PairStep) (next : PlainPairNext) (after : Run) (others : List (List ℕ)) : Type 0 where
  plain : PlainPairRun
  stands : IsRun after plain
  rest : next_pair run n step next others ≡ after_step step (pair_on plain (n + 1) others)

goes_further : (run : PlainPairRun) (n : ℕ) (step : PairStep) (next : PlainPairNext) (after : Run) (others : List (List ℕ)) → IsNext (nexts.Goes after) next
    → Further run n step next after others
goes_further run n step (Goes plain) after others is = record { plain = plain; stands = is; rest = refl }
goes_further run n step (Ends outcome) after others is = absurd is

-- where it does
ends_here : (run : PlainPairRun) (n : ℕ) (step : PairStep) (next : PlainPairNext) (outcome : Driven) (others : List (List ℕ)) → IsNext (nexts.Ends outcome) next
    → next_pair run n step next others ≡ ended_with run step outcome
ends_here run n step (Goes plain) outcome others is = absurd is
ends_here run n step (Ends other) outcome others is = ap (ended_with run step) (sym is)

-- in either case the line's part of the report comes first
comes_first : (run : PlainPairRun) (n : ℕ) (step : PairStep) (next : PlainPairNext) (others : List (List ℕ))
    → (rest : List PairReport) × ((next_pair run n step next others).report ≡ step.lines ++ rest)
comes_first run n step (Goes after) others = ((pair_on after (n + 1) others).report, refl)
comes_first run n step (Ends outcome) others = ([], sym (append-nil step.lines))

-- What is left of a script for a run of the code, where what was done of it is in the report.

abbrev pub text_of : Pair → List ℕ
text_of pair = pair_report_text pair.report

pub record GoesOn (script rest : List ℕ) (run : Run) (n : ℕ) (old new : Option (List ℕ)) : Type 0 where
  pub plain : PlainPairRun
  pub stands : IsRun run plain
  pub given : HasGiven old new (text_of (pair_of script)) (text_of (pair_on plain n (lines_of rest)))
  pub outcome : (pair_of script).outcome ≡ (pair_on plain n (lines_of rest)).outcome

-- the same where the source tells its bytes
abbrev pub Going : Option (List ℕ) → Option (List ℕ) → Run → ℕ → Option (List ℕ) → Option (List ℕ) → Type 0
Going None unread run n old new = Unit {0}
Going (Some script) None run n old new = ⊥
Going (Some script) (Some rest) run n old new = GoesOn script rest run n old new

begins : (script : Option (List ℕ)) (old : Option (List ℕ)) → Going script script runs.Beginning 1 old old
begins None old = tt
begins (Some script) old = record {
  plain = Beginning;
  stands = tt;
  given = nothing_given old (text_of (pair_of script));
  outcome = refl;
}

-- where a reader holds nothing, what is unread is what the source has left
pub begins_held : (src : Option (List ℕ)) (held : List ℕ) (old : Option (List ℕ)) → held ≡ [] → Going src (prepend_known held src) runs.Beginning 1 old old
begins_held src held old none = subst (λ unread. Going src unread runs.Beginning 1 old old) (sym (ap (λ h. prepend_known h src) none ∙ prepend_known-nil src)) (begins src old)

-- what the code does with a line, whatever its run stands for
abbrev pub Did : Run → ℕ → NextLine → Effect → Type 0
Did run n read effect = (plain : PlainPairRun) → IsRun run plain → Does effect (read_step plain n read)

-- the text of a line's part of the report, and of what follows it
then_text : (pair : Pair) (lines rest : List PairReport) → pair.report ≡ lines ++ rest → text_of pair ≡ pair_report_text lines ++ pair_report_text rest
then_text pair lines rest is = ap pair_report_text is ∙ text_append lines rest

-- one line more
pub goes : (script unread unread' : Option (List ℕ)) (run after : Run) (n : ℕ) (read : NextLine) (effect : Effect) (old mid new : Option (List ℕ)) → n ≤ most_lines
    → Going script unread run n old mid → Reads unread unread' read → Did run n read effect → effect.next ≡ nexts.Goes after
    → Appends mid new (pair_report_text effect.lines.items) → Going script unread' after (n + 1) old new
goes None unread unread' run after n read effect old mid new within has reads did is gave = tt
goes (Some script) None unread' run after n read effect old mid new within has reads did is gave = absurd has
goes (Some script) (Some rest) None run after n read effect old mid new within has reads did is gave = absurd reads
goes (Some script) (Some rest) (Some rest') run after n read effect old mid new within has reads did is gave =
    let st = read_step has.plain n read in
    let does = did has.plain has.stands in
    let further = goes_further has.plain n st st.next after (lines_of rest') (subst (λ k. IsNext k st.next) is does.next) in
    let same = step has.plain n rest rest' read within reads ∙ further.rest in
    let tail = pair_on further.plain (n + 1) (lines_of rest') in
    record {
      plain = further.plain;
      stands = further.stands;
      given = more_given old mid new (text_of (pair_of script)) (pair_report_text st.lines) (text_of tail)
          (subst (HasGiven old mid (text_of (pair_of script))) (then_text (pair_on has.plain n (lines_of rest)) st.lines tail.report (ap (λ pair. pair.report) same)) has.given)
          (subst (λ l. Appends mid new (pair_report_text l)) does.lines gave);
      outcome = has.outcome ∙ ap (λ pair. pair.outcome) same;
    }

-- the line at which the script ends
pub ends : (script unread unread' : Option (List ℕ)) (run : Run) (n : ℕ) (read : NextLine) (effect : Effect) (outcome : Driven) (old mid new : Option (List ℕ)) → n ≤ most_lines
    → Going script unread run n old mid → Reads unread unread' read → Did run n read effect → effect.next ≡ nexts.Ends outcome
    → Appends mid new (pair_report_text effect.lines.items) → IfSome script (λ s. ReportsPair (pair_of s) outcome old new)
ends None unread unread' run n read effect outcome old mid new within has reads did is gave = tt
ends (Some script) None unread' run n read effect outcome old mid new within has reads did is gave = absurd has
ends (Some script) (Some rest) None run n read effect outcome old mid new within has reads did is gave = absurd reads
ends (Some script) (Some rest) (Some rest') run n read effect outcome old mid new within has reads did is gave =
    let st = read_step has.plain n read in
    let does = did has.plain has.stands in
    let same = step has.plain n rest rest' read within reads ∙ ends_here has.plain n st st.next outcome (lines_of rest') (subst (λ k. IsNext k st.next) is does.next) in
    let left = then_text (pair_on has.plain n (lines_of rest)) st.lines [] (ap (λ pair. pair.report) same ∙ sym (append-nil st.lines)) in (
      sym (has.outcome ∙ ap (λ pair. pair.outcome) same),
      all_given old new (text_of (pair_of script)) (more_given old mid new (text_of (pair_of script)) (pair_report_text st.lines) []
          (subst (HasGiven old mid (text_of (pair_of script))) left has.given) (subst (λ l. Appends mid new (pair_report_text l)) does.lines gave)),
    )

-- a line of which a front was given
pub halts : (script unread unread' : Option (List ℕ)) (run : Run) (n : ℕ) (read : NextLine) (effect : Effect) (old mid new : Option (List ℕ)) → n ≤ most_lines
    → Going script unread run n old mid → Reads unread unread' read → Did run n read effect → AppendsFront mid new (pair_report_text effect.lines.items)
    → IfSome script (λ s. AppendsFront old new (pair_report_text (pair_of s).report))
halts None unread unread' run n read effect old mid new within has reads did gave = tt
halts (Some script) None unread' run n read effect old mid new within has reads did gave = absurd has
halts (Some script) (Some rest) None run n read effect old mid new within has reads did gave = absurd reads
halts (Some script) (Some rest) (Some rest') run n read effect old mid new within has reads did gave =
    let st = read_step has.plain n read in
    let does = did has.plain has.stands in
    let same = step has.plain n rest rest' read within reads in
    let first = comes_first has.plain n st st.next (lines_of rest') in
    front_given old mid new (text_of (pair_of script)) (pair_report_text st.lines) (pair_report_text first.0)
    (subst (HasGiven old mid (text_of (pair_of script))) (then_text (pair_on has.plain n (lines_of rest)) st.lines first.0 (ap (λ pair. pair.report) same ∙ first.1)) has.given)
    (subst (λ l. AppendsFront mid new (pair_report_text l)) does.lines gave)

-- nothing more was given
pub halts_there : (script unread : Option (List ℕ)) (run : Run) (n : ℕ) (old new : Option (List ℕ)) → Going script unread run n old new
    → IfSome script (λ s. AppendsFront old new (pair_report_text (pair_of s).report))
halts_there None unread run n old new has = tt
halts_there (Some script) None run n old new has = absurd has
halts_there (Some script) (Some rest) run n old new has =
    (has.given.written, text_of (pair_on has.plain n (lines_of rest)), has.given.parts, has.given.gave)

count_left : (script rest : List ℕ) (run : Run) (n : ℕ) (old mid : Option (List ℕ)) → most_lines < n → (has : GoesOn script rest run n old mid)
    → HasGiven old mid (text_of (pair_of script)) (pair_report_text (Bad n Count ∷ []) ++ [])
count_left script rest run n old mid beyond has =
    subst (HasGiven old mid (text_of (pair_of script)))
    (then_text (pair_on has.plain n (lines_of rest)) (Bad n Count ∷ []) [] (ap (λ pair. pair.report) (counted_out has.plain n (lines_of rest) beyond))) has.given

-- the script has too many lines
pub too_many : (script unread : Option (List ℕ)) (run : Run) (n : ℕ) (old mid new : Option (List ℕ)) → most_lines < n → Going script unread run n old mid
    → Appends mid new (pair_report_text (Bad n Count ∷ [])) → IfSome script (λ s. ReportsPair (pair_of s) (driven.Bad n Count) old new)
too_many None unread run n old mid new beyond has gave = tt
too_many (Some script) None run n old mid new beyond has gave = absurd has
too_many (Some script) (Some rest) run n old mid new beyond has gave = (
  sym (has.outcome ∙ ap (λ pair. pair.outcome) (counted_out has.plain n (lines_of rest) beyond)),
  all_given old new (text_of (pair_of script)) (more_given old mid new (text_of (pair_of script)) (pair_report_text (Bad n Count ∷ [])) []
      (count_left script rest run n old mid beyond has) gave),
)

pub too_many_part : (script unread : Option (List ℕ)) (run : Run) (n : ℕ) (old mid new : Option (List ℕ)) → most_lines < n → Going script unread run n old mid
    → AppendsFront mid new (pair_report_text (Bad n Count ∷ [])) → IfSome script (λ s. AppendsFront old new (pair_report_text (pair_of s).report))
too_many_part None unread run n old mid new beyond has gave = tt
too_many_part (Some script) None run n old mid new beyond has gave = absurd has
too_many_part (Some script) (Some rest) run n old mid new beyond has gave =
    front_given old mid new (text_of (pair_of script)) (pair_report_text (Bad n Count ∷ [])) [] (count_left script rest run n old mid beyond has) gave

-- the line after the last one that is read
pub Going-at : (script unread : Option (List ℕ)) (run : Run) (n m : ℕ) (old new : Option (List ℕ)) → n ≡ m → Going script unread run n old new → Going script unread run m old new
Going-at script unread run n m old new same has = subst (λ k. Going script unread run k old new) same has
