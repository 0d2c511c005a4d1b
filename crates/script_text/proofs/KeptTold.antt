-- A script over a file, where the source tells its bytes.
use Rattle.std.proofs.Common.{◌≡◌, ℕ, suc, ◌+◌, ◌<◌, ◌≤◌, List, [], ◌++◌, ◌∷◌, Option, Some, None, Result, Ok, Err, IsErrOf, drop, refl, sym, subst, ◌∙◌, ap, arith}
use Rattle.std.specs.Prelude.{IfSome}
use Rattle.std.specs.Io.KnownBytes.{Appends, prepend_known}
use Rattle.std.proofs.KnownBytes.{prepend_known-nil}
use Rattle.bosh_ports.specs.Sink.{AppendsFront}
use Rattle.bosh_types.specs.Limits.{most_lines}
use Rattle.journal_store.specs.Crash.{EachCrash}
use Rattle.journal_store.specs.declared.reading.SessionEntry.{SessionEntry}
use Rattle.line_reader.specs.Lines.{Reads, lines_of}
use Rattle.line_reader.specs.declared.lines.NextLine.{NextLine}
use Rattle.line_reader.specs.declared.lines.NextLine.TheVariants.{Line as IsLine, TooLong, NoLine}
use Rattle.session_store.specs.Store.{Stores}
use Rattle.session_store.specs.declared.store.Store.{Store}
use Rattle.script_text.specs.declared.driven.Driven.TheVariants.{Bad}
use Rattle.script_text.specs.declared.line.BadKind.TheVariants.{Count}
use Rattle.script_text.specs.declared.live.Live.{Live}
use Rattle.script_text.specs.declared.manager.Manager.{Manager}
use Rattle.script_text.specs.declared.report.ReportLine.TheVariants.{Bad as SaysBad}
use Rattle.script_text.specs.declared.run.Effect.{Effect}
use Rattle.script_text.specs.declared.run.Next.{Next}
use Rattle.script_text.specs.declared.run.Next.TheVariants as nexts
use Rattle.script_text.specs.declared.run.Run.{Run}
use Rattle.script_text.specs.declared.run.Run.TheVariants as runs
use Rattle.script_text.specs.Kept.{HasEither, HasJournalsOf, HasKept, HaveJournals, IsBodies, KeepsUp, Reached, onward, reached}
use Rattle.script_text.specs.Live.{PlainLive}
use Rattle.script_text.specs.Manager.{PlainManager}
use Rattle.script_text.specs.Report.{report_text}
use Rattle.script_text.specs.Script.{PlainRun, step_by}
use Rattle.script_text.specs.Stands.{AreLive, IsManager, IsNext}
use Rattle.script_text.specs.Step.{read_of}
use Rattle.script_text.proofs.KeptRun.{RunsOver, crash_in, lines_then, none_run, one_run, up_in, up_past, up_stopped, up_there}
use Rattle.script_text.proofs.StepLemmas.{Did}

-- what went well is no error
pub not_err : {T E : Type 0} (r : Result T E) (x : T) (e : E) → r ≡ Ok x → IsErrOf r e → ⊥
not_err (Ok y) x e is err = absurd (cc)
not_err (Err f) x e is err = absurd (cc)

-- what is told for each plain manager
pub if_some_each : (manager : Manager) (script : Option (List ℕ)) (P : PlainManager → List ℕ → Type 0) → ((m : PlainManager) → IsManager manager m → IfSome script (P m))
    → IfSome script (λ s. (m : PlainManager) → IsManager manager m → P m s)
if_some_each manager None P each = tt
if_some_each manager (Some script) P each = λ m is. each m is

module _ {D : Type 0} (seen : D → List ℕ) (time : D → ℕ) (left : D → ℕ → List ℕ → Type 0) (manager : Manager) (first : Store D) (old : Option (List ℕ)) where
  -- what holds for each plain manager that the sessions stand for, and whatever ended before
  abbrev pub ForEach : (PlainManager → List PlainLive → Type 0) → Type 0
  ForEach P = (m : PlainManager) (ended : List PlainLive) (entries : List SessionEntry) → IsManager manager m → Stores seen time left first entries [] → HaveJournals entries (ended ++ m.live) m.opened → P m ended

  abbrev pub RunsTold : Option (List ℕ) → Option (List ℕ) → Store D → Run → ℕ → Option (List ℕ) → Type 0
  RunsTold None unread store run n new = Unit {0}
  RunsTold (Some script) None store run n new = ⊥
  RunsTold (Some script) (Some rest) store run n new = ForEach (λ m ended. RunsOver seen time left m ended script first old store rest run n new)

  abbrev pub UpTold : Option (List ℕ) → D → Option (List ℕ) → Type 0
  UpTold script disk new = IfSome script (λ s. ForEach (λ m ended. KeepsUp time left m ended s disk old new))

  abbrev pub CrashTold : Option (List ℕ) → D → Type 0
  CrashTold script disk = IfSome script (λ s. ForEach (λ m ended. EachCrash time left first.journals.file.disk disk (HasJournalsOf m ended s)))

  pub begins_told : (script : Option (List ℕ)) → RunsTold script script first (runs.Bodies manager) 1 old
  unfolding reached
  begins_told None = tt
  begins_told (Some script) = λ m ended entries is stores have. none_run seen time left m ended script first old (runs.Bodies manager) is entries stores have

  pub begins_kept : (src : Option (List ℕ)) (held : List ℕ) → held ≡ [] → RunsTold src (prepend_known held src) first (runs.Bodies manager) 1 old
  begins_kept src held none = subst (λ unread. RunsTold src unread first (runs.Bodies manager) 1 old) (sym (ap (λ h. prepend_known h src) none ∙ prepend_known-nil src)) (begins_told src)

  -- the line after the last one that is read
  pub told_at : (script unread : Option (List ℕ)) (store : Store D) (run : Run) (n k : ℕ) (new : Option (List ℕ)) → n ≡ k → RunsTold script unread store run n new → RunsTold script unread store run k new
  told_at script unread store run n k new same has = subst (λ i. RunsTold script unread store run i new) same has

  -- nothing was done of a line
  pub up_told : (script unread : Option (List ℕ)) (store : Store D) (run : Run) (n : ℕ) (new : Option (List ℕ)) → RunsTold script unread store run n new → UpTold script store.journals.file.disk new
  up_told None unread store run n new has = tt
  up_told (Some script) None store run n new has = absurd has
  up_told (Some script) (Some rest) store run n new has = λ m ended entries is stores have. up_there seen time left m ended script first old store rest run n new (has m ended entries is stores have)

  pub crash_told : (script unread : Option (List ℕ)) (store : Store D) (run : Run) (n : ℕ) (new : Option (List ℕ)) → RunsTold script unread store run n new → CrashTold script store.journals.file.disk
  crash_told None unread store run n new has = tt
  crash_told (Some script) None store run n new has = absurd has
  crash_told (Some script) (Some rest) store run n new has = λ m ended entries is stores have. (has m ended entries is stores have).crash

  module _ (script unread unread' : Option (List ℕ)) (store then_store : Store D) (run : Run) (n : ℕ) (mid : Option (List ℕ)) (read : NextLine) (effect : Effect) (overs : List Live)
      (within : n ≤ most_lines) (has : RunsTold script unread store run n mid) (reads : Reads unread unread' read) (did : Did run n read effect) (same : overs ≡ effect.over.items)
      (crashes : (ended : List PlainLive) (r : Reached) → IsBodies r.run → AreLive overs (step_by r.run n (read_of read)).over → IsNext effect.next (step_by r.run n (read_of read)).next
      → HasKept seen time left store ended r → EachCrash time left store.journals.file.disk then_store.journals.file.disk (HasEither ended r (onward r (step_by r.run n (read_of read))))) where
    module _ (m : PlainManager) (ended : List PlainLive) (s rest rest' : List ℕ) (over : RunsOver seen time left m ended s first old store rest run n mid) (line : Reads (Some rest) (Some rest') read) where
      crash_of : EachCrash time left store.journals.file.disk then_store.journals.file.disk
          (HasEither ended (reached m (lines_of s) over.count) (onward (reached m (lines_of s) over.count) (step_by (reached m (lines_of s) over.count).run n (read_of read))))
      crash_of =
          let r = reached m (lines_of s) over.count in
          let does = did r.run over.runs in
          crashes ended r over.bodies (subst (λ l. AreLive l (step_by r.run n (read_of read)).over) (sym same) does.over) does.next over.kept

    -- the line may be stored or not
    pub up_line : UpTold script then_store.journals.file.disk mid
    up_line = by script unread unread' has reads
      where
        by : (script unread unread' : Option (List ℕ)) → RunsTold script unread store run n mid → Reads unread unread' read → UpTold script then_store.journals.file.disk mid
        by None unread unread' has reads = tt
        by (Some s) None unread' has reads = absurd has
        by (Some s) (Some rest) None has reads = absurd reads
        by (Some s) (Some rest) (Some rest') has reads = λ m ended entries is stores have.
            let over = has m ended entries is stores have in
            up_stopped seen time left m ended s first old store rest run n mid over rest' read effect within reads did then_store (crash_of m ended s rest rest' over reads)

    pub crash_line : CrashTold script then_store.journals.file.disk
    crash_line = by script unread unread' has reads
      where
        by : (script unread unread' : Option (List ℕ)) → RunsTold script unread store run n mid → Reads unread unread' read → CrashTold script then_store.journals.file.disk
        by None unread unread' has reads = tt
        by (Some s) None unread' has reads = absurd has
        by (Some s) (Some rest) None has reads = absurd reads
        by (Some s) (Some rest) (Some rest') has reads = λ m ended entries is stores have.
            let over = has m ended entries is stores have in
            crash_in seen time left m ended s first old store rest run n mid over rest' read effect within reads did then_store (crash_of m ended s rest rest' over reads)

    module _ (new : Option (List ℕ))
        (keeps : (ended : List PlainLive) (r : Reached) → IsBodies r.run → AreLive overs (step_by r.run n (read_of read)).over → IsNext effect.next (step_by r.run n (read_of read)).next
        → HasKept seen time left store ended r → HasKept seen time left then_store ended (onward r (step_by r.run n (read_of read)))) where
      module _ (m : PlainManager) (ended : List PlainLive) (s rest rest' : List ℕ) (over : RunsOver seen time left m ended s first old store rest run n mid) where
        kept_of : HasKept seen time left then_store ended (onward (reached m (lines_of s) over.count) (step_by (reached m (lines_of s) over.count).run n (read_of read)))
        kept_of =
            let r = reached m (lines_of s) over.count in
            let does = did r.run over.runs in
            keeps ended r over.bodies (subst (λ l. AreLive l (step_by r.run n (read_of read)).over) (sym same) does.over) does.next over.kept

      -- a front of its report was given
      pub up_given : AppendsFront mid new (report_text effect.lines.items) → UpTold script then_store.journals.file.disk new
      up_given gave = by script unread unread' has reads
        where
          by : (script unread unread' : Option (List ℕ)) → RunsTold script unread store run n mid → Reads unread unread' read → UpTold script then_store.journals.file.disk new
          by None unread unread' has reads = tt
          by (Some s) None unread' has reads = absurd has
          by (Some s) (Some rest) None has reads = absurd reads
          by (Some s) (Some rest) (Some rest') has reads = λ m ended entries is stores have.
              let over = has m ended entries is stores have in
              up_in seen time left m ended s first old store rest run n mid over rest' read effect within reads did then_store new (kept_of m ended s rest rest' over) (crash_of m ended s rest rest' over reads) gave

      -- or all of it, and the script goes on
      pub goes_told : (next : Run) → effect.next ≡ nexts.Goes next → Appends mid new (report_text effect.lines.items) → RunsTold script unread' then_store next (n + 1) new
      goes_told next goes gave = by script unread unread' has reads
        where
          by : (script unread unread' : Option (List ℕ)) → RunsTold script unread store run n mid → Reads unread unread' read → RunsTold script unread' then_store next (n + 1) new
          by None unread unread' has reads = tt
          by (Some s) None unread' has reads = absurd has
          by (Some s) (Some rest) None has reads = absurd reads
          by (Some s) (Some rest) (Some rest') has reads = λ m ended entries is stores have.
              let over = has m ended entries is stores have in
              one_run seen time left m ended s first old store rest run n mid over rest' read effect within reads did then_store new (kept_of m ended s rest rest' over) (crash_of m ended s rest rest' over reads) next goes
              (lines_then seen time left m ended s first old store rest run n mid over rest' read effect within reads did next goes) gave

  -- the script has too many lines
  pub up_many : (script unread : Option (List ℕ)) (store : Store D) (run : Run) (n : ℕ) (mid new : Option (List ℕ)) → most_lines < n → RunsTold script unread store run n mid
      → AppendsFront mid new (report_text (SaysBad n Count ∷ [])) → UpTold script store.journals.file.disk new
  up_many None unread store run n mid new beyond has gave = tt
  up_many (Some script) None store run n mid new beyond has gave = absurd has
  up_many (Some script) (Some rest) store run n mid new beyond has gave = λ m ended entries is stores have.
      up_past seen time left m ended script first old store rest run n mid new (has m ended entries is stores have) beyond gave
