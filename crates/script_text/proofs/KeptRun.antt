-- A script over a file, line by line.
use Rattle.std.proofs.Common.{◌≡◌, inl, inr, ℕ, zero, suc, ◌+◌, ◌<◌, ◌≤◌, List, [], ◌∷◌, ◌++◌, Option, Some, None, drop, refl, sym, subst, ◌∙◌, ap, add-one, arith, if◌then◌else◌}
use Rattle.std.specs.Prelude.{◌⊎◌, nat_lt, slice_get}
use Rattle.std.proofs.lemmas.List.{append-nil}
use Rattle.std.specs.Io.KnownBytes.{Appends}
use Rattle.std.proofs.KnownBytes.{Appends-nil}
use Rattle.bosh_ports.specs.Sink.{AppendsFront}
use Rattle.bosh_types.specs.Limits.{longest_line, most_lines}
use Rattle.journal_store.specs.Crash.{EachCrash}
use Rattle.journal_store.specs.Entries.{AreEntriesOf}
use Rattle.journal_store.specs.declared.reading.SessionEntry.{SessionEntry}
use Rattle.journal_store.proofs.Moments.{then_crash, weaker}
use Rattle.line_reader.specs.Lines.{IsFirstLonger, Reads, lines_of}
use Rattle.line_reader.specs.declared.lines.NextLine.{NextLine}
use Rattle.line_reader.specs.declared.lines.NextLine.TheVariants.{Line as IsLine, TooLong, NoLine}
use Rattle.session_store.specs.Store.{Stores}
use Rattle.session_store.specs.declared.store.Store.{Store}
use Rattle.script_text.specs.declared.driven.Driven.{Driven}
use Rattle.script_text.specs.declared.driven.Driven.TheVariants.{Bad}
use Rattle.script_text.specs.declared.line.BadKind.TheVariants.{Count, End, Length}
use Rattle.script_text.specs.declared.line.LineRead.{LineRead}
use Rattle.script_text.specs.declared.line.LineRead.TheVariants.{BadLine}
use Rattle.script_text.specs.declared.report.ReportLine.TheVariants.{Bad as SaysBad}
use Rattle.script_text.specs.declared.run.Effect.{Effect}
use Rattle.script_text.specs.declared.run.Next.TheVariants as nexts
use Rattle.script_text.specs.declared.run.Run.{Run}
use Rattle.script_text.specs.Kept.{HasEither, HasJournalsOf, HasKept, HasReached, HaveJournals, IsBodies, KeepsUp, Reached, onward, reached, read_at}
use Rattle.script_text.specs.Line.{line_of}
use Rattle.script_text.specs.Live.{PlainLive}
use Rattle.script_text.specs.Manager.{PlainManager}
use Rattle.script_text.specs.Report.{report_text}
use Rattle.script_text.specs.Script.{PlainRun, Goes, Ends, PlainNext, Step, run_after, said, step_by, within_length}
use Rattle.script_text.specs.Stands.{Does, IsNext, IsRun}
use Rattle.script_text.specs.Step.{read_of}
use Rattle.script_text.proofs.GivenLemmas.{second_part, two_parts}
use Rattle.script_text.proofs.GrowLemmas.{step_bodies}
use Rattle.script_text.proofs.KeptSteps.{last_kept, rest_crash}
use Rattle.script_text.proofs.StepLemmas.{Did, not_past, past, read_long, read_short_enough}

-- all is a front of all
pub whole_front : (old new : Option (List ℕ)) (bytes : List ℕ) → Appends old new bytes → AppendsFront old new bytes
whole_front old new bytes gave = (bytes, [], sym (append-nil bytes), gave)

-- ---- a line of a script, and the lines that are left

line_at : (lines : List (List ℕ)) (count : ℕ) (line : List ℕ) (others : List (List ℕ)) → drop count lines ≡ line ∷ others → slice_get lines count ≡ Some line
line_at [] zero line others is = absurd (cc)
line_at [] (suc count) line others is = absurd (cc)
line_at (first ∷ lines) zero line others is =
    let same : first ≡ line = cc in
    ap Some same
line_at (first ∷ lines) (suc count) line others is = line_at lines count line others is

none_at : (lines : List (List ℕ)) (count : ℕ) → drop count lines ≡ [] → slice_get lines count ≡ None
none_at [] zero is = refl
none_at [] (suc count) is = refl
none_at (first ∷ lines) zero is = absurd (cc)
none_at (first ∷ lines) (suc count) is = none_at lines count is

behind_line : (lines : List (List ℕ)) (count : ℕ) (line : List ℕ) (others : List (List ℕ)) → drop count lines ≡ line ∷ others → drop (suc count) lines ≡ others
behind_line [] zero line others is = absurd (cc)
behind_line [] (suc count) line others is = absurd (cc)
behind_line (first ∷ lines) zero line others is = cc
behind_line (first ∷ lines) (suc count) line others is = behind_line lines count line others is

abbrev read_by : ℕ → Option (List ℕ) → LineRead
read_by place line = elim line [ None ↦ BadLine (if nat_lt most_lines (place + 1) then Count else End) | Some line ↦ said (place + 1) line ]

long_at : (lines all : List (List ℕ)) (count : ℕ) → count + 1 ≤ most_lines → drop count all ≡ lines → IsFirstLonger longest_line lines → read_at all count ≡ BadLine Length
long_at [] all count within is long = absurd long
long_at (line ∷ others) all count within is long = ap (read_by count) (line_at all count line others is) ∙ read_long (count + 1) line within long

-- what is read is what the line says
read_is : (all : List (List ℕ)) (count : ℕ) (bytes rest : List ℕ) (read : NextLine) → count + 1 ≤ most_lines → drop count all ≡ lines_of bytes → Reads (Some bytes) (Some rest) read → read_at all count ≡ read_of read
read_is all count bytes rest (IsLine line) within is reads =
    ap (read_by count) (line_at all count line (lines_of rest) (is ∙ reads.0)) ∙ read_short_enough (count + 1) line within reads.1
read_is all count bytes rest TooLong within is reads = long_at (lines_of bytes) all count within is reads
read_is all count bytes rest NoLine within is reads =
    ap (read_by count) (none_at all count (is ∙ reads)) ∙ ap (λ b. BadLine (if b then Count else End)) (not_past (count + 1) within)

-- past the most lines nothing is read
read_past : (all : List (List ℕ)) (count : ℕ) → most_lines < count + 1 → read_at all count ≡ BadLine Count
read_past all count beyond = by (slice_get all count) refl
  where
    by : (o : Option (List ℕ)) → slice_get all count ≡ o → read_at all count ≡ BadLine Count
    by None is = ap (read_by count) is ∙ ap (λ b. BadLine (if b then Count else End)) (past (count + 1) beyond)
    by (Some line) is = ap (read_by count) is ∙ ap (λ b. if b then BadLine Count else within_length line (line_of line)) (past (count + 1) beyond)

module _ {D : Type 0} (seen : D → List ℕ) (time : D → ℕ) (left : D → ℕ → List ℕ → Type 0) (m : PlainManager) (ended : List PlainLive) (script : List ℕ) (first : Store D) (old : Option (List ℕ)) where
  abbrev lines : List (List ℕ)
  lines = lines_of script

  abbrev after : ℕ → Reached
  after count = reached m lines count

  next_after : (count : ℕ) → onward (after count) (step_by (after count).run (count + 1) (read_at lines count)) ≡ after (suc count)
  unfolding reached
  next_after count = refl

  -- so many lines were read, stored and reported
  pub record RunsOver (store : Store D) (rest : List ℕ) (run : Run) (n : ℕ) (new : Option (List ℕ)) : Type 0 where
    pub count : ℕ
    pub number : n ≡ count + 1
    pub runs : IsRun run (after count).run
    pub bodies : IsBodies (after count).run
    pub lines_left : drop count lines ≡ lines_of rest
    pub given : Appends old new (report_text (after count).report)
    pub kept : HasKept seen time left store ended (after count)
    pub crash : EachCrash time left first.journals.file.disk store.journals.file.disk (HasJournalsOf m ended script)

  -- none was
  pub none_run : (run : Run) → IsRun run (after 0).run → (entries : List SessionEntry) → Stores seen time left first entries [] → HaveJournals entries (ended ++ m.live) m.opened → RunsOver first script run 1 old
  unfolding reached
  none_run run is entries stores have = record {
    count = 0;
    number = refl;
    runs = is;
    bodies = (m, refl);
    lines_left = refl;
    given = Appends-nil old;
    kept = (entries, stores, have);
    crash = weaker time left first.journals.file.disk first.journals.file.disk (λ image. AreEntriesOf image entries) (HasJournalsOf m ended script)
        (rest_crash seen time left first.journals.file entries (stores.file).file)
        (λ image are. (0, record { entries = entries; are = are; have = have }));
  }

  module _ (store : Store D) (rest : List ℕ) (run : Run) (n : ℕ) (mid : Option (List ℕ)) (over : RunsOver store rest run n mid) (rest' : List ℕ) (read : NextLine) (effect : Effect)
      (within : n ≤ most_lines) (reads : Reads (Some rest) (Some rest') read) (did : Did run n read effect) where
    abbrev pub r : Reached
    r = after over.count

    abbrev pub step : Step
    step = step_by r.run n (read_of read)

    does : Does effect step
    does = did r.run over.runs

    then_is : onward r step ≡ after (suc over.count)
    then_is =
        let same : read_at lines over.count ≡ read_of read = read_is lines over.count rest rest' read (omega (arith, within, over.number)) over.lines_left reads in
        ap (λ k. onward r (step_by r.run k (read_of read))) over.number
        ∙ ap (λ (said : LineRead). onward r (step_by r.run (over.count + 1) said)) (sym same)
        ∙ next_after over.count

    either_some : (image : List ℕ) → HasEither ended r (onward r step) image → HasJournalsOf m ended script image
    either_some image (inl has) = (over.count, has)
    either_some image (inr has) = (suc over.count, subst (λ (f : Reached). HasReached ended f image) then_is has)

    -- a crash in the line
    pub crash_in : (then_store : Store D) → EachCrash time left store.journals.file.disk then_store.journals.file.disk (HasEither ended r (onward r step))
        → EachCrash time left first.journals.file.disk then_store.journals.file.disk (HasJournalsOf m ended script)
    crash_in then_store crash =
        then_crash time left first.journals.file.disk store.journals.file.disk then_store.journals.file.disk (HasJournalsOf m ended script) over.crash
        (weaker time left store.journals.file.disk then_store.journals.file.disk (HasEither ended r (onward r step)) (HasJournalsOf m ended script) crash either_some)

    kept_then : (then_store : Store D) → HasKept seen time left then_store ended (onward r step) → HasKept seen time left then_store ended (after (suc over.count))
    kept_then then_store kept = subst (λ (f : Reached). HasKept seen time left then_store ended f) then_is kept

    report_then : (after (suc over.count)).report ≡ r.report ++ effect.lines.items
    report_then = ap (λ (f : Reached). f.report) (sym then_is) ∙ ap (λ l. r.report ++ l) (sym does.lines)

    -- the lines that are left then
    pub lines_then : (next : Run) → effect.next ≡ nexts.Goes next → drop (suc over.count) lines ≡ lines_of rest'
    lines_then next goes = by read reads (subst (λ k. IsNext k step.next) goes does.next)
      where
        by : (read : NextLine) → Reads (Some rest) (Some rest') read → IsNext (nexts.Goes next) (step_by r.run n (read_of read)).next → drop (suc over.count) lines ≡ lines_of rest'
        by (IsLine line) reads is = behind_line lines over.count line (lines_of rest') (over.lines_left ∙ reads.0)
        by TooLong reads is = absurd is
        by NoLine reads is = absurd is

    -- one line more
    module _ (then_store : Store D) (new : Option (List ℕ)) (kept : HasKept seen time left then_store ended (onward r step))
        (crash : EachCrash time left store.journals.file.disk then_store.journals.file.disk (HasEither ended r (onward r step))) where
      runs_to : (next : Run) → effect.next ≡ nexts.Goes next → (o : PlainNext) → step.next ≡ o → IsNext (nexts.Goes next) o → IsRun next (run_after r.run step.next)
      runs_to next goes (Goes plain) is stands = subst (λ p. IsRun next (run_after r.run p)) (sym is) stands
      runs_to next goes (Ends outcome) is stands = absurd stands

      pub one_run : (next : Run) → effect.next ≡ nexts.Goes next → drop (suc over.count) lines ≡ lines_of rest' → Appends mid new (report_text effect.lines.items) → RunsOver then_store rest' next (n + 1) new
      one_run next goes lines_are gave = record {
        count = suc over.count;
        number = omega (arith, over.number);
        runs = subst (λ (f : Reached). IsRun next f.run) then_is (runs_to next goes step.next refl (subst (λ k. IsNext k step.next) goes does.next));
        bodies = subst (λ (f : Reached). IsBodies f.run) then_is (step_bodies r.run over.bodies n (read_of read));
        lines_left = lines_are;
        given = subst (λ l. Appends old new (report_text l)) (sym report_then) (two_parts old mid new r.report effect.lines.items over.given gave);
        kept = kept_then then_store kept;
        crash = crash_in then_store crash;
      }

      -- or a front of its report was given
      pub up_in : AppendsFront mid new (report_text effect.lines.items) → KeepsUp time left m ended script then_store.journals.file.disk old new
      up_in gave = record {
        count = suc over.count;
        given = subst (λ l. AppendsFront old new (report_text l)) (sym report_then) (second_part old mid new r.report effect.lines.items over.given gave);
        since = time then_store.journals.file.disk;
        later = omega arith;
        crash = λ image is.
            let has = kept_then then_store kept in
            inl (record { entries = has.0; are = (rest_crash seen time left then_store.journals.file has.0 ((has.1).file).file).each image is; have = has.2 });
      }

    -- the line was stored or not, and nothing of its report was given
    pub up_stopped : (then_store : Store D) → EachCrash time left store.journals.file.disk then_store.journals.file.disk (HasEither ended r (onward r step))
        → KeepsUp time left m ended script then_store.journals.file.disk old mid
    up_stopped then_store crash = record {
      count = over.count;
      given = whole_front old mid (report_text r.report) over.given;
      since = time store.journals.file.disk;
      later = crash.later;
      crash = λ image is. by image (crash.each image is);
    }
      where
        by : (image : List ℕ) → HasEither ended r (onward r step) image → HasReached ended (after over.count) image ⊎ HasReached ended (after (over.count + 1)) image
        by image (inl has) = inl has
        by image (inr has) = inr (subst (λ k. HasReached ended (after k) image) (sym (add-one over.count)) (subst (λ (f : Reached). HasReached ended f image) then_is has))

  -- nothing was done of a line
  pub up_there : (store : Store D) (rest : List ℕ) (run : Run) (n : ℕ) (new : Option (List ℕ)) → RunsOver store rest run n new → KeepsUp time left m ended script store.journals.file.disk old new
  up_there store rest run n new over = record {
    count = over.count;
    given = whole_front old new (report_text (after over.count).report) over.given;
    since = time store.journals.file.disk;
    later = omega arith;
    crash = λ image is.
        let has = over.kept in
        inl (record { entries = has.0; are = (rest_crash seen time left store.journals.file has.0 ((has.1).file).file).each image is; have = has.2 });
  }

  -- the script has too many lines
  pub up_past : (store : Store D) (rest : List ℕ) (run : Run) (n : ℕ) (mid new : Option (List ℕ)) → RunsOver store rest run n mid → most_lines < n → AppendsFront mid new (report_text (SaysBad n Count ∷ []))
      → KeepsUp time left m ended script store.journals.file.disk old new
  up_past store rest run n mid new over beyond gave = record {
    count = suc over.count;
    given = subst (λ l. AppendsFront old new (report_text l)) report_then (second_part old mid new (after over.count).report (SaysBad n Count ∷ []) over.given gave);
    since = time store.journals.file.disk;
    later = omega arith;
    crash = λ image is.
        let has = subst (λ (f : Reached). HasKept seen time left store ended f) then_is kept_then in
        inl (record { entries = has.0; are = (rest_crash seen time left store.journals.file has.0 ((has.1).file).file).each image is; have = has.2 });
  }
    where
      past_end : read_at lines over.count ≡ BadLine Count
      past_end = read_past lines over.count (omega (arith, beyond, over.number))

      then_is : onward (after over.count) (step_by (after over.count).run (over.count + 1) (BadLine Count)) ≡ after (suc over.count)
      then_is = ap (λ (said : LineRead). onward (after over.count) (step_by (after over.count).run (over.count + 1) said)) (sym past_end) ∙ next_after over.count

      kept_then : HasKept seen time left store ended (onward (after over.count) (step_by (after over.count).run (over.count + 1) (BadLine Count)))
      kept_then = last_kept seen time left ended (after over.count) over.bodies (over.count + 1) (BadLine Count) (Bad (over.count + 1) Count) refl store over.kept

      report_then : (after over.count).report ++ (SaysBad n Count ∷ []) ≡ (after (suc over.count)).report
      report_then = ap (λ k. (after over.count).report ++ (SaysBad k Count ∷ [])) over.number ∙ ap (λ (f : Reached). f.report) then_is
