-- One line of a script, and the whole of it.
use Rattle.std.proofs.Common.{ℕ, ◌≡◌, ◌+◌, ◌<◌, ◌≤◌, List, [], ◌∷◌, ◌++◌, Option, Some, None, IfSome, true, false, nat_lt, length, refl, sym, ◌∙◌, ap, subst, append-nil, arith, if◌then◌else◌}
use Rattle.std.proofs.lemmas.Bool.Decides.{nat_tests}
use Rattle.std.specs.Io.KnownBytes.{Appends, prepend_known}
use Rattle.std.proofs.KnownBytes.{prepend_known-nil}
use Rattle.bosh_ports.specs.Sink.{AppendsFront}
use Rattle.bosh_types.specs.Limits.{longest_line, most_lines}
use Rattle.script_text.specs.declared.line.BadKind.TheVariants.{Count, End, Length}
use Rattle.script_text.specs.declared.line.LineRead.{LineRead}
use Rattle.script_text.specs.declared.line.LineRead.TheVariants.{BadLine}
use Rattle.line_reader.specs.declared.lines.NextLine.{NextLine}
use Rattle.line_reader.specs.declared.lines.NextLine.TheVariants.{Line as IsLine, TooLong, NoLine}
use Rattle.script_text.specs.declared.driven.Driven.{Driven}
use Rattle.script_text.specs.declared.driven.Driven.TheVariants.{Bad}
use Rattle.script_text.specs.declared.report.ReportLine.{ReportLine}
use Rattle.script_text.specs.declared.report.ReportLine.TheVariants.{Bad as SaysBad}
use Rattle.script_text.specs.declared.run.Effect.{Effect}
use Rattle.script_text.specs.declared.run.Next.TheVariants as nexts
use Rattle.script_text.specs.declared.run.Run.{Run}
use Rattle.script_text.specs.declared.run.Run.TheVariants as runs
use Rattle.script_text.specs.Line.{line_of}
use Rattle.line_reader.specs.Lines.{lines_of, IsFirstLonger, Reads}
use Rattle.script_text.specs.Report.{report_text}
use Rattle.script_text.specs.Script.{PlainRun, Beginning, PlainNext, Goes, Ends, Step, Drive, step_by, within_length, said, ended_with, after_step, bad_at, drive_on, drive_of, Reports}
use Rattle.script_text.specs.Stands.{Does, IsNext, IsRun}
use Rattle.script_text.specs.Step.{read_of}
use Rattle.script_text.proofs.GivenLemmas.{HasReported, nothing_reported, more_reported, front_reported, so_far_reported, all_reported}

-- a script from a line on, by what the line does
abbrev pub next_drive : PlainRun → ℕ → Step → PlainNext → List (List ℕ) → Drive
next_drive run n step (Goes after) others = after_step step (drive_on after (n + 1) others)
next_drive run n step (Ends outcome) others = ended_with run step outcome

abbrev pub drive_by : PlainRun → ℕ → Step → List (List ℕ) → Drive
drive_by run n step others = next_drive run n step step.next others

by_next : (run : PlainRun) (n : ℕ) (step : Step) (next : PlainNext) (others : List (List ℕ)) → (elim next [
  | Goes after ↦ after_step step (drive_on after (n + 1) others)
  | Ends outcome ↦ ended_with run step outcome
]) ≡ next_drive run n step next others
by_next run n step (Goes after) others = refl
by_next run n step (Ends outcome) others = refl

pub not_past : (n : ℕ) → n ≤ most_lines → nat_lt most_lines n ≡ false
not_past n within = grind (arith, nat_tests)

pub past : (n : ℕ) → most_lines < n → nat_lt most_lines n ≡ true
past n beyond = grind (arith, nat_tests)

short_enough : (line : List ℕ) (read : LineRead) → length line ≤ longest_line → within_length line read ≡ read
short_enough line read short =
    let test : nat_lt longest_line (length line) ≡ false = grind (arith, nat_tests) in
    ap (λ b. if b then BadLine Length else read) test

long_enough : (line : List ℕ) (read : LineRead) → longest_line < length line → within_length line read ≡ BadLine Length
long_enough line read long =
    let test : nat_lt longest_line (length line) ≡ true = grind (arith, nat_tests) in
    ap (λ b. if b then BadLine Length else read) test

-- the script from a line on, by what was read
from_line : (run : PlainRun) (n : ℕ) (line : List ℕ) (others : List (List ℕ)) (read : LineRead) → said n line ≡ read → drive_on run n (line ∷ others) ≡ drive_by run n (step_by run n read) others
from_line run n line others read is =
    by_next run n (step_by run n (said n line)) (step_by run n (said n line)).next others
    ∙ ap (λ r. drive_by run n (step_by run n r) others) is

pub read_short_enough : (n : ℕ) (line : List ℕ) → n ≤ most_lines → length line ≤ longest_line → said n line ≡ line_of line
read_short_enough n line within short =
    ap (λ b. if b then BadLine Count else within_length line (line_of line)) (not_past n within) ∙ short_enough line (line_of line) short

pub read_long : (n : ℕ) (line : List ℕ) → n ≤ most_lines → longest_line < length line → said n line ≡ BadLine Length
read_long n line within long =
    ap (λ b. if b then BadLine Count else within_length line (line_of line)) (not_past n within) ∙ long_enough line (line_of line) long

-- where the first line is too long
long_first : (run : PlainRun) (n : ℕ) (lines rest : List (List ℕ)) → n ≤ most_lines → IsFirstLonger longest_line lines → drive_on run n lines ≡ drive_by run n (step_by run n (BadLine Length)) rest
long_first run n [] rest within long = absurd long
long_first run n (line ∷ others) rest within long = from_line run n line others (BadLine Length) (read_long n line within long)

-- reading the next line is one step of the script
step : (run : PlainRun) (n : ℕ) (bytes rest : List ℕ) (read : NextLine) → n ≤ most_lines → Reads (Some bytes) (Some rest) read → drive_on run n (lines_of bytes) ≡ drive_by run n (step_by run n (read_of read)) (lines_of rest)
step run n bytes rest (IsLine line) within reads =
    ap (drive_on run n) reads.0 ∙ from_line run n line (lines_of rest) (line_of line) (read_short_enough n line within reads.1)
step run n bytes rest TooLong within reads = long_first run n (lines_of bytes) (lines_of rest) within reads
step run n bytes rest NoLine within reads =
    ap (drive_on run n) reads ∙ ap (λ b. bad_at run n (if b then Count else End)) (not_past n within)

-- where a line doesn't end the script: what it is run over then, and the rest of it
record Further (run : PlainRun) (n : ℕ) (step : Step) (next : PlainNext) (after : Run) (others : List (List ℕ)) : Type 0 where
  plain : PlainRun
  stands : IsRun after plain
  rest : next_drive run n step next others ≡ after_step step (drive_on plain (n + 1) others)

goes_further : (run : PlainRun) (n : ℕ) (step : Step) (next : PlainNext) (after : Run) (others : List (List ℕ)) → IsNext (nexts.Goes after) next → Further run n step next after others
goes_further run n step (Goes plain) after others is = record { plain = plain; stands = is; rest = refl }
goes_further run n step (Ends outcome) after others is = absurd is

-- where it does
ends_here : (run : PlainRun) (n : ℕ) (step : Step) (next : PlainNext) (outcome : Driven) (others : List (List ℕ)) → IsNext (nexts.Ends outcome) next → next_drive run n step next others ≡ ended_with run step outcome
ends_here run n step (Goes plain) outcome others is = absurd is
ends_here run n step (Ends other) outcome others is = ap (ended_with run step) (sym is)

-- in either case the line's part of the report comes first
comes_first : (run : PlainRun) (n : ℕ) (step : Step) (next : PlainNext) (others : List (List ℕ)) → (rest : List ReportLine) × ((next_drive run n step next others).report ≡ step.lines ++ rest)
comes_first run n step (Goes after) others = ((drive_on after (n + 1) others).report, refl)
comes_first run n step (Ends outcome) others = ([], sym (append-nil step.lines))

-- past the most lines nothing is read
counted_out : (run : PlainRun) (n : ℕ) (lines : List (List ℕ)) → most_lines < n → drive_on run n lines ≡ bad_at run n Count
counted_out run n [] beyond = ap (λ b. bad_at run n (if b then Count else End)) (past n beyond)
counted_out run n (line ∷ others) beyond =
    from_line run n line others (BadLine Count) (ap (λ b. if b then BadLine Count else within_length line (line_of line)) (past n beyond))

-- a whole script over what it begins with
abbrev pub drive_all : PlainRun → List ℕ → Drive
drive_all first script = drive_on first 1 (lines_of script)

-- what is left of a script for a run of the code, where what was done of it is in the report
pub record GoesOn (whole : List ℕ → Drive) (script rest : List ℕ) (run : Run) (n : ℕ) (old new : Option (List ℕ)) : Type 0 where
  pub plain : PlainRun
  pub stands : IsRun run plain
  pub given : HasReported old new (whole script).report (drive_on plain n (lines_of rest)).report
  pub outcome : (whole script).outcome ≡ (drive_on plain n (lines_of rest)).outcome

-- the same where the source tells its bytes
abbrev pub Going : (List ℕ → Drive) → Option (List ℕ) → Option (List ℕ) → Run → ℕ → Option (List ℕ) → Option (List ℕ) → Type 0
Going whole None unread run n old new = Unit {0}
Going whole (Some script) None run n old new = ⊥
Going whole (Some script) (Some rest) run n old new = GoesOn whole script rest run n old new

-- nothing was read yet
begins : (first : PlainRun) (run : Run) → IsRun run first → (script : Option (List ℕ)) (old : Option (List ℕ)) → Going (drive_all first) script script run 1 old old
begins first run is None old = tt
begins first run is (Some script) old = record {
  plain = first;
  stands = is;
  given = nothing_reported old (drive_all first script).report;
  outcome = refl;
}

-- what the code does with a line, whatever its run stands for
abbrev pub Did : Run → ℕ → NextLine → Effect → Type 0
Did run n read effect = (plain : PlainRun) → IsRun run plain → Does effect (step_by plain n (read_of read))

-- what the rest of a report is, is what was given of it followed by that
left_as : (old mid : Option (List ℕ)) (whole : List ReportLine) (drive other : Drive) → drive ≡ other → HasReported old mid whole drive.report → HasReported old mid whole other.report
left_as old mid whole drive other same has = subst (λ (d : Drive). HasReported old mid whole d.report) same has

-- one line more
pub goes : (whole : List ℕ → Drive) (script unread unread' : Option (List ℕ)) (run after : Run) (n : ℕ) (read : NextLine) (effect : Effect) (old mid new : Option (List ℕ)) → n ≤ most_lines → Going whole script unread run n old mid → Reads unread unread' read → Did run n read effect → effect.next ≡ nexts.Goes after → Appends mid new (report_text effect.lines.items) → Going whole script unread' after (n + 1) old new
goes whole None unread unread' run after n read effect old mid new within has reads did is gave = tt
goes whole (Some script) None unread' run after n read effect old mid new within has reads did is gave = absurd has
goes whole (Some script) (Some rest) None run after n read effect old mid new within has reads did is gave = absurd reads
goes whole (Some script) (Some rest) (Some rest') run after n read effect old mid new within has reads did is gave =
    let st = step_by has.plain n (read_of read) in
    let does = did has.plain has.stands in
    let further = goes_further has.plain n st st.next after (lines_of rest') (subst (λ k. IsNext k st.next) is does.next) in
    let same = step has.plain n rest rest' read within reads ∙ further.rest in
    record {
      plain = further.plain;
      stands = further.stands;
      given = more_reported old mid new (whole script).report st.lines (drive_on further.plain (n + 1) (lines_of rest')).report
          (left_as old mid (whole script).report _ _ same has.given) (subst (λ l. Appends mid new (report_text l)) does.lines gave);
      outcome = has.outcome ∙ ap (λ d. d.outcome) same;
    }

-- the line at which the script ends
pub ends : (whole : List ℕ → Drive) (script unread unread' : Option (List ℕ)) (run : Run) (n : ℕ) (read : NextLine) (effect : Effect) (outcome : Driven) (old mid new : Option (List ℕ)) → n ≤ most_lines → Going whole script unread run n old mid → Reads unread unread' read → Did run n read effect → effect.next ≡ nexts.Ends outcome → Appends mid new (report_text effect.lines.items) → IfSome script (λ s. Reports (whole s) outcome old new)
ends whole None unread unread' run n read effect outcome old mid new within has reads did is gave = tt
ends whole (Some script) None unread' run n read effect outcome old mid new within has reads did is gave = absurd has
ends whole (Some script) (Some rest) None run n read effect outcome old mid new within has reads did is gave = absurd reads
ends whole (Some script) (Some rest) (Some rest') run n read effect outcome old mid new within has reads did is gave =
    let st = step_by has.plain n (read_of read) in
    let does = did has.plain has.stands in
    let same = step has.plain n rest rest' read within reads ∙ ends_here has.plain n st st.next outcome (lines_of rest') (subst (λ k. IsNext k st.next) is does.next) in
    let left : (drive_on has.plain n (lines_of rest)).report ≡ st.lines ++ [] = ap (λ d. d.report) same ∙ sym (append-nil st.lines) in (
      sym (has.outcome ∙ ap (λ d. d.outcome) same),
      all_reported old new (whole script).report (more_reported old mid new (whole script).report st.lines [] (subst (HasReported old mid (whole script).report) left has.given) (subst (λ l. Appends mid new (report_text l)) does.lines gave)),
    )

-- a line of which a front was given
pub halts : (whole : List ℕ → Drive) (script unread unread' : Option (List ℕ)) (run : Run) (n : ℕ) (read : NextLine) (effect : Effect) (old mid new : Option (List ℕ)) → n ≤ most_lines → Going whole script unread run n old mid → Reads unread unread' read → Did run n read effect → AppendsFront mid new (report_text effect.lines.items) → IfSome script (λ s. AppendsFront old new (report_text (whole s).report))
halts whole None unread unread' run n read effect old mid new within has reads did gave = tt
halts whole (Some script) None unread' run n read effect old mid new within has reads did gave = absurd has
halts whole (Some script) (Some rest) None run n read effect old mid new within has reads did gave = absurd reads
halts whole (Some script) (Some rest) (Some rest') run n read effect old mid new within has reads did gave =
    let st = step_by has.plain n (read_of read) in
    let does = did has.plain has.stands in
    let same = step has.plain n rest rest' read within reads in
    let f = comes_first has.plain n st st.next (lines_of rest') in
    front_reported old mid new (whole script).report st.lines f.0 (subst (HasReported old mid (whole script).report) (ap (λ d. d.report) same ∙ f.1) has.given) (subst (λ l. AppendsFront mid new (report_text l)) does.lines gave)

-- nothing more was given
pub halts_there : (whole : List ℕ → Drive) (script unread : Option (List ℕ)) (run : Run) (n : ℕ) (old new : Option (List ℕ)) → Going whole script unread run n old new → IfSome script (λ s. AppendsFront old new (report_text (whole s).report))
halts_there whole None unread run n old new has = tt
halts_there whole (Some script) None run n old new has = absurd has
halts_there whole (Some script) (Some rest) run n old new has = so_far_reported old new (whole script).report (drive_on has.plain n (lines_of rest)).report has.given

-- the script has too many lines
pub too_many : (whole : List ℕ → Drive) (script unread : Option (List ℕ)) (run : Run) (n : ℕ) (old mid new : Option (List ℕ)) → most_lines < n → Going whole script unread run n old mid → Appends mid new (report_text (SaysBad n Count ∷ [])) → IfSome script (λ s. Reports (whole s) (Bad n Count) old new)
too_many whole None unread run n old mid new beyond has gave = tt
too_many whole (Some script) None run n old mid new beyond has gave = absurd has
too_many whole (Some script) (Some rest) run n old mid new beyond has gave =
    let same = counted_out has.plain n (lines_of rest) beyond in (
      sym (has.outcome ∙ ap (λ d. d.outcome) same),
      all_reported old new (whole script).report (more_reported old mid new (whole script).report (SaysBad n Count ∷ []) [] (left_as old mid (whole script).report _ _ same has.given) gave),
    )

pub too_many_part : (whole : List ℕ → Drive) (script unread : Option (List ℕ)) (run : Run) (n : ℕ) (old mid new : Option (List ℕ)) → most_lines < n → Going whole script unread run n old mid → AppendsFront mid new (report_text (SaysBad n Count ∷ [])) → IfSome script (λ s. AppendsFront old new (report_text (whole s).report))
too_many_part whole None unread run n old mid new beyond has gave = tt
too_many_part whole (Some script) None run n old mid new beyond has gave = absurd has
too_many_part whole (Some script) (Some rest) run n old mid new beyond has gave =
    let same = counted_out has.plain n (lines_of rest) beyond in
    front_reported old mid new (whole script).report (SaysBad n Count ∷ []) [] (left_as old mid (whole script).report _ _ same has.given) gave

-- a reader that holds nothing reads what the source has left
pub reads_source : (src new : Option (List ℕ)) (held : List ℕ) (read : NextLine) → held ≡ [] → Reads (prepend_known held src) new read → Reads src new read
reads_source src new held read none reads = subst (λ unread. Reads unread new read) (ap (λ h. prepend_known h src) none ∙ prepend_known-nil src) reads

-- where a reader holds nothing, what is unread is what the source has left
pub begins_held : (first : PlainRun) (run : Run) → IsRun run first → (src : Option (List ℕ)) (held : List ℕ) (old : Option (List ℕ)) → held ≡ [] → Going (drive_all first) src (prepend_known held src) run 1 old old
begins_held first run is src held old none = subst (λ unread. Going (drive_all first) src unread run 1 old old) (sym (ap (λ h. prepend_known h src) none ∙ prepend_known-nil src)) (begins first run is src old)

-- a script that begins with no session
pub begins_new : (src : Option (List ℕ)) (held : List ℕ) (old : Option (List ℕ)) → held ≡ [] → Going drive_of src (prepend_known held src) runs.Beginning 1 old old
begins_new src held old none = begins_held Beginning runs.Beginning tt src held old none

-- the line after the last one that is read
pub Going-at : (whole : List ℕ → Drive) (script unread : Option (List ℕ)) (run : Run) (n m : ℕ) (old new : Option (List ℕ)) → n ≡ m → Going whole script unread run n old new → Going whole script unread run m old new
Going-at whole script unread run n m old new same has = subst (λ k. Going whole script unread run k old new) same has
