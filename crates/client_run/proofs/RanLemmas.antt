-- How a client ran, by what talking and its workers came to.
use Rattle.std.proofs.Common.{◌≡◌, ◌≤◌, ◌⊎◌, ℕ, Bool, true, false, ◌&&◌, ◌||◌, List, [], ◌++◌, Some, None, inl, inr, refl, sym, true≢false, ◌∙◌, ap, subst, append_assoc, append-nil}
use Rattle.std.specs.Prelude.{◌≢◌, Option, Result, Ok, Err, IsErr, IfSome, is_some}
use Rattle.std.specs.List.{list_all, list_any}
use Rattle.std.proofs.lemmas.Grind.{flat_map-append}
use Rattle.std.proofs.lemmas.List.Folds.{list_all-append, list_any-append}
use Rattle.std.specs.declared.alloc.AllocError.{AllocError}
use Rattle.bosh_client.specs.PlainClient.{PlainClient, end_of}
use Rattle.bosh_client.specs.declared.replies.ClientEnd.{ClientEnd}
use Rattle.body_cutter.specs.Cutting.{is_stanza}
use Rattle.bosh_ports.specs.Faults.{HasRisen}
use Rattle.bosh_ports.proofs.FaultLemmas.{HasRisen-after, HasRisen-before}
use Rattle.bosh_types.specs.declared.condition.Condition.{Condition}
use Rattle.line_reader.specs.Lines.{lines_of}
use Rattle.parked_gate.specs.Histories.{StartsWith}
use Rattle.parked_gate.specs.Passes.{Known}
use Rattle.server_ports.specs.Counts.{Counts}
use Rattle.client_run.specs.declared.draining.Written.{Written}
use Rattle.client_run.specs.declared.draining.Written.TheVariants as written
use Rattle.client_run.specs.declared.entry.Entry.{Entry}
use Rattle.client_run.specs.declared.gathering.Gathered.{Gathered}
use Rattle.client_run.specs.declared.gathering.Gathered.TheVariants as gathered
use Rattle.client_run.specs.declared.running.ClientRan.{ClientRan}
use Rattle.client_run.specs.declared.running.ClientRan.TheVariants as ran
use Rattle.client_run.specs.declared.attending.Attended.{Attended}
use Rattle.client_run.specs.declared.attending.Attended.TheVariants as attended
use Rattle.client_run.specs.Adding.{Adds, AddsOnly, IsTalk, by_call, is_entry, is_hand_out, is_of_talk, is_terminate, stanza_of, stanzas_in}
use Rattle.client_run.specs.Asking.{LooksBy}
use Rattle.client_run.specs.Attending.{AttendsBy}
use Rattle.client_run.specs.Handing.{Drains, Out, Writes, WritesLast, line, nothing}
use Rattle.client_run.specs.History.{After}
use Rattle.client_run.specs.Input.{IsFirstBad, PutsAll, TakesNoMore, WasFull}
use Rattle.client_run.specs.Lingering.{LingersBy, Spoke}
use Rattle.client_run.specs.Queueing.{AsksLast}
use Rattle.client_run.specs.Ran.{Closes, Concludes, ConversesBy, EndsWith, FinishesBy, IsSpent, Ran, RanBy, Scene, WasEmptied, ran_by, ran_spent, scene_of, well}
use Rattle.client_run.specs.Running.{Gathers, GatheredTells, IsOver, TakesBoth, WasOver, is_done}
use Rattle.client_run.specs.Worked.{IsDone}
use Rattle.client_run.proofs.AddingLemmas.{none_handed}
use Rattle.client_run.proofs.RiseLemmas.{calls_begin, starts_by, starts_later, starts_same}
use Rattle.client_run.proofs.RunningLemmas.{both_finished, finished_later, still_over, was_later}
use Rattle.client_run.proofs.TalkLemmas.{handed_spoken}

-- The client's end, as it is seen last.

no_end : (o : Option ClientEnd) → None ≡ o → is_some o ≡ true → ⊥
no_end None none some = absurd (cc)
no_end (Some end) none some = absurd (cc)

done_by : (c : PlainClient) → None ≡ end_of c → IsOver c → IsDone c
done_by c none (inl ended) = absurd (no_end (end_of c) none ended)
done_by c none (inr left) = inr (sym none, left)

spent_by : (c : PlainClient) → None ≡ end_of c → IsOver c → IsSpent c
spent_by c none (inl ended) = absurd (no_end (end_of c) none ended)
spent_by c none (inr left) = (sym none, left)

none_by : (stuck : Bool) (old new : Known Entry) → LooksBy old new None → Concludes stuck old new (ran_spent stuck)
unfolding Concludes
none_by true old new looks = (
  refl,
  λ was. record {
    plain = looks.says.plain;
    is = looks.says.is;
    holds = spent_by looks.says.plain looks.says.holds (still_over new.seen looks.says.plain (was_later old.seen new.seen was looks.begins) looks.says.is);
  },
)
none_by false old new looks = λ was. record {
  plain = looks.says.plain;
  is = looks.says.is;
  holds = done_by looks.says.plain looks.says.holds (still_over new.seen looks.says.plain (was_later old.seen new.seen was looks.begins) looks.says.is);
}

pub concluded_none : (stuck : Bool) (old new : Known Entry) (result : ClientRan) → LooksBy old new None → result ≡ ran_spent stuck → Concludes stuck old new result
concluded_none stuck old new result looks is = subst (Concludes stuck old new) (sym is) (none_by stuck old new looks)

concluded_by : (stuck : Bool) (old new : Known Entry) (condition : Option Condition) → After new.seen (λ c. Some (record { condition = condition }) ≡ end_of c) → Concludes stuck old new (ran_by condition)
unfolding Concludes
concluded_by stuck old new None after = λ was. record { plain = after.plain; is = after.is; holds = inl (sym after.holds) }
concluded_by stuck old new (Some condition) after = record { plain = after.plain; is = after.is; holds = sym after.holds }

pub concluded_some : (stuck : Bool) (old new : Known Entry) (end : ClientEnd) (result : ClientRan) → LooksBy old new (Some end) → result ≡ ran_by end.condition → Concludes stuck old new result
concluded_some stuck old new end result looks is = subst (Concludes stuck old new) (sym is) (concluded_by stuck old new end.condition looks.says)

-- How it is finished.

pub finish_failed : (t : Result Attended AllocError) (g : Gathered) (old new : Known Entry) (writes later : ℕ) (n : ℕ) → t ≡ Ok (attended.Bad n) → FinishesBy t g old new writes later (Ok (ran.Bad n))
unfolding FinishesBy
finish_failed t g old new writes later n is = is

pub finish_read : (t : Result Attended AllocError) (g : Gathered) (old new : Known Entry) (writes later : ℕ) → t ≡ Ok attended.ReadFault → FinishesBy t g old new writes later (Ok ran.ReadFault)
unfolding FinishesBy
finish_read t g old new writes later is = is

pub finish_written : (t : Result Attended AllocError) (g : Gathered) (old new : Known Entry) (writes later : ℕ) → t ≡ Ok attended.WriteFault → new ≡ old → FinishesBy t g old new writes later (Ok ran.WriteFault)
unfolding FinishesBy
finish_written t g old new writes later is same = inl (is, same)

pub finish_wanting : (t : Result Attended AllocError) (g : Gathered) (old new : Known Entry) (writes later : ℕ) (error : AllocError) → FinishesBy t g old new writes later (Err error)
unfolding FinishesBy
finish_wanting t g old new writes later error = tt

pub finish_net : (stuck : Bool) (g : Gathered) (old new : Known Entry) (writes later : ℕ) → g ≡ gathered.NetFault → FinishesBy (Ok (well stuck)) g old new writes later (Ok ran.NetFault)
unfolding FinishesBy
finish_net stuck g old new writes later is = (stuck, refl, is)

pub finish_refused : (stuck : Bool) (g : Gathered) (old new : Known Entry) (writes later : ℕ) (status : ℕ) → g ≡ gathered.Refused status → FinishesBy (Ok (well stuck)) g old new writes later (Ok (ran.Refused status))
unfolding FinishesBy
finish_refused stuck g old new writes later status is = (stuck, refl, is)

pub finish_risen : (stuck : Bool) (g : Gathered) (old new : Known Entry) (writes later : ℕ) → g ≡ gathered.Over → HasRisen writes later → StartsWith new.seen old.seen → FinishesBy (Ok (well stuck)) g old new writes later (Ok ran.WriteFault)
unfolding FinishesBy
finish_risen stuck g old new writes later is risen seen = inr (stuck, refl, is, risen, seen)

pub finish_over : (stuck : Bool) (g : Gathered) (old last new : Known Entry) (writes later : ℕ) (r : ClientRan) → g ≡ gathered.Over → later ≡ writes → StartsWith new.seen old.seen → AddsOnly is_hand_out old last → (WasOver old.seen → WasOver last.seen) → (WasOver old.seen → WasEmptied new.seen) → new.mine ≡ last.mine → Concludes stuck last new r
    → FinishesBy (Ok (well stuck)) g old new writes later (Ok r)
unfolding FinishesBy Concludes
finish_over stuck g old last new writes later ran.SpawnFault is still seen handed begins emptied mine concludes = absurd concludes
finish_over stuck g old last new writes later ran.NetFault is still seen handed begins emptied mine concludes = absurd concludes
finish_over stuck g old last new writes later (ran.Refused status) is still seen handed begins emptied mine concludes = absurd concludes
finish_over stuck g old last new writes later (ran.Bad n) is still seen handed begins emptied mine concludes = absurd concludes
finish_over stuck g old last new writes later ran.ReadFault is still seen handed begins emptied mine concludes = absurd concludes
finish_over stuck g old last new writes later ran.WriteFault is still seen handed begins emptied mine concludes = absurd concludes
finish_over stuck g old last new writes later ran.Stuck is still seen handed begins emptied mine concludes = (stuck, refl, is, record { last = last; seen = seen; handed = handed; mine = mine; begins = begins; emptied = emptied; concludes = concludes }, still)
finish_over stuck g old last new writes later (ran.Ended condition) is still seen handed begins emptied mine concludes = (stuck, refl, is, record { last = last; seen = seen; handed = handed; mine = mine; begins = begins; emptied = emptied; concludes = concludes }, still)
finish_over stuck g old last new writes later ran.Done is still seen handed begins emptied mine concludes = (stuck, refl, is, record { last = last; seen = seen; handed = handed; mine = mine; begins = begins; emptied = emptied; concludes = concludes }, still)

pub finish_as : (t t' : Result Attended AllocError) (g : Gathered) (old new : Known Entry) (writes later : ℕ) (result : Result ClientRan AllocError) → t ≡ t' → FinishesBy t' g old new writes later result → FinishesBy t g old new writes later result
finish_as t t' g old new writes later result is f = subst (λ t. FinishesBy t g old new writes later result) (sym is) f

-- What was seen goes on while stanzas are written.

writes_begin : (s t : Out) → Writes s t → StartsWith t.known.seen s.known.seen
writes_begin s t nothing = starts_same s.known.seen
writes_begin s t (line {t = mid} new given stanza writes hands appends) = starts_later s.known.seen mid.known.seen new.seen (writes_begin s mid writes) (calls_begin mid.known new hands.called)

last_begins : (s t : Out) (result : Result Written AllocError) → WritesLast s t result → StartsWith t.known.seen s.known.seen
last_begins s t (Ok written.Done) last = calls_begin s.known t.known last.0.called
last_begins s t (Ok written.WriteFault) last = calls_begin s.known t.known last.1.called
last_begins s t (Err error) last = calls_begin s.known t.known last.0

pub drains_begin : (s t : Out) (new : Known Entry) (result : Result Written AllocError) → Drains s t result → StartsWith new.seen t.known.seen → StartsWith new.seen s.known.seen
drains_begin s t new result d later = starts_later s.known.seen t.known.seen new.seen (starts_later s.known.seen d.last.known.seen t.known.seen (writes_begin s d.last d.writes) (last_begins d.last t result d.ends)) later

pub drains_over : (s t : Out) (result : Result Written AllocError) → Drains s t result → WasOver s.known.seen → WasOver t.known.seen
drains_over s t result d was = was_later s.known.seen t.known.seen was (starts_later s.known.seen d.last.known.seen t.known.seen (writes_begin s d.last d.writes) (last_begins d.last t result d.ends))

-- writing that is done leaves nothing
pub emptied_by : (s t : Out) (new : Known Entry) → Drains s t (Ok written.Done) → StartsWith new.seen t.known.seen → WasOver s.known.seen → WasEmptied new.seen
emptied_by s t new d later was =
    let asked = none_handed d.last.known t.known d.ends.0 in
    record {
      log = asked.before;
      begins = starts_later asked.before t.known.seen new.seen (starts_by d.last.known.number asked.before t.known.seen asked.made asked.seen) later;
      over = was_later s.known.seen asked.before was (starts_later s.known.seen d.last.known.seen asked.before (writes_begin s d.last d.writes) asked.begins);
      empty = record { plain = asked.says.plain; is = asked.says.is; holds = sym asked.says.reply_is };
    }

pub not_failed : {w : Result Written AllocError} → w ≡ Ok written.Done → w ≡ Ok written.WriteFault → ⊥
not_failed done failed = absurd (cc)

pub no_true : {X : Type 0} (b : Bool) → b ≡ false → b ≡ true → X
no_true b off is = absurd (true≢false (sym is ∙ off))

-- Entries of talking, and then what was handed out last.

talk_handed : (input : Option (List ℕ)) (xs ys : List Entry) → IsTalk input xs → list_all (is_entry is_hand_out) ys ≡ true → IsTalk input (xs ++ ys)
talk_handed input xs ys talk handed =
    let spoken = handed_spoken ys handed in
    let same : stanzas_in (xs ++ ys) ≡ stanzas_in xs =
    flat_map-append (λ e. by_call [] stanza_of e.entered) xs ys ∙ ap (λ more. stanzas_in xs ++ more) spoken.put ∙ append-nil (stanzas_in xs) in
    record {
      only = list_all-append (is_entry is_of_talk) xs ys ∙ ap (λ b. b && list_all (is_entry is_of_talk) ys) talk.only ∙ spoken.only;
      stanzas = ap (λ stanzas. list_all is_stanza stanzas) same ∙ talk.stanzas;
      lines = subst (λ stanzas. IfSome input (λ bytes. (rest : List (List ℕ)) × (lines_of bytes ≡ stanzas ++ rest))) (sym same) talk.lines;
      closes = closes_on talk.closes spoken.open_yet same;
    }
  where
    closes_on : (list_any (is_entry is_terminate) xs ≡ false) ⊎ IfSome input (λ bytes. lines_of bytes ≡ stanzas_in xs) → list_any (is_entry is_terminate) ys ≡ false → stanzas_in (xs ++ ys) ≡ stanzas_in xs
        → (list_any (is_entry is_terminate) (xs ++ ys) ≡ false) ⊎ IfSome input (λ bytes. lines_of bytes ≡ stanzas_in (xs ++ ys))
    closes_on (inl open_yet) others same = inl (list_any-append (is_entry is_terminate) xs ys ∙ ap (λ b. b || list_any (is_entry is_terminate) ys) open_yet ∙ others)
    closes_on (inr whole) others same = inr (subst (λ stanzas. IfSome input (λ bytes. lines_of bytes ≡ stanzas)) (sym same) whole)

adds_last : (input : Option (List ℕ)) (old mid gathered last new : Known Entry) → Adds old mid (IsTalk input) → gathered.mine ≡ mid.mine → AddsOnly is_hand_out gathered last → new.mine ≡ last.mine → Adds old new (IsTalk input)
adds_last input old mid gathered last new talk same handed mine = record {
  added = talk.added ++ handed.added;
  mine = mine ∙ handed.mine ∙ ap (λ front. front ++ handed.added) (same ∙ talk.mine) ∙ append_assoc old.mine talk.added handed.added;
  holds = talk_handed input talk.added handed.added talk.holds handed.holds;
}

-- The whole.

pub ran_err : (input : Option (List ℕ)) (s t : Scene) (result : Result ClientRan AllocError) → IsErr result → RanBy input s t result
unfolding RanBy
ran_err input s t (Ok r) is = absurd (cc)
ran_err input s t (Err error) is = tt

pub ran_wanting : (input : Option (List ℕ)) (s t : Scene) (error : AllocError) → RanBy input s t (Err error)
unfolding RanBy
ran_wanting input s t error = tt

pub ran_net : (input : Option (List ℕ)) (s t : Scene) → HasRisen s.counts.faults t.counts.faults → RanBy input s t (Ok ran.NetFault)
unfolding RanBy
ran_net input s t risen = risen

pub ran_spawn : (input : Option (List ℕ)) (s t : Scene) → HasRisen s.refusals t.refusals → RanBy input s t (Ok ran.SpawnFault)
unfolding RanBy
ran_spawn input s t risen = risen

module _ (input : Option (List ℕ)) (s : Scene) (mid all new : Known Entry) (reads writes last_writes : ℕ) (refusals : ℕ) (counts : Counts) (t : Result Attended AllocError) (g : Gathered)
    (converses : LingersBy input s.known mid s.reads reads s.writes writes t) (gathers : Gathers mid all s.counts counts g) (takes : TakesBoth all.seen s.counts counts g) (falls : s.writes ≤ writes) (last_falls : writes ≤ last_writes) where
  abbrev pub later : Scene
  later = scene_of new counts refusals reads last_writes

  fault_tells : g ≡ gathered.NetFault → HasRisen s.counts.faults counts.faults
  fault_tells is = subst (GatheredTells all.seen s.counts counts) is gathers.tells

  over_tells : g ≡ gathered.Over → WasOver all.seen × HasRisen s.counts.dialled counts.dialled
  over_tells is = subst (GatheredTells all.seen s.counts counts) is gathers.tells

  bad_tells : (n : ℕ) → t ≡ Ok (attended.Bad n) → IfSome input (λ bytes. IsFirstBad (lines_of bytes) n)
  unfolding LingersBy
  bad_tells n is = (subst (LingersBy input s.known mid s.reads reads s.writes writes) is converses).0

  read_tells : t ≡ Ok attended.ReadFault → HasRisen s.reads reads
  unfolding LingersBy
  read_tells is = (subst (LingersBy input s.known mid s.reads reads s.writes writes) is converses).0

  write_tells : t ≡ Ok attended.WriteFault → HasRisen s.writes writes
  unfolding LingersBy
  write_tells is = (subst (LingersBy input s.known mid s.reads reads s.writes writes) is converses).0

  refused_tells : (status : ℕ) → g ≡ gathered.Refused status → (status ≢ 200) × HasRisen s.counts.dialled counts.dialled
  refused_tells status is = subst (GatheredTells all.seen s.counts counts) is gathers.tells

  well_adds : (stuck : Bool) → LingersBy input s.known mid s.reads reads s.writes writes (Ok (well stuck)) → Adds s.known mid (IsTalk input)
  unfolding LingersBy
  well_adds true so = adds_last input s.known so.0.mid so.0.mid mid mid so.0.adds refl so.0.handed refl
  well_adds false so = adds_last input s.known so.0.mid so.0.mid mid mid so.0.adds refl so.0.handed refl

  done_tells : (stuck : Bool) → t ≡ Ok (well stuck) → Adds s.known mid (IsTalk input)
  done_tells stuck is = well_adds stuck (subst (LingersBy input s.known mid s.reads reads s.writes writes) is converses)

  full_tells : (stuck : Bool) → stuck ≡ true → t ≡ Ok (well stuck) → WasFull s.known.seen mid.seen
  unfolding LingersBy
  full_tells true was is =
      let so = (subst (LingersBy input s.known mid s.reads reads s.writes writes) is converses).0 in
      record { log = so.holds.log; since = so.holds.since; until = starts_later so.holds.log so.mid.seen mid.seen so.holds.until so.begins; full = so.holds.full }
  full_tells false was is = absurd (cc)

  full_later : StartsWith new.seen mid.seen → WasFull s.known.seen mid.seen → WasFull s.known.seen new.seen
  full_later begins full = record { log = full.log; since = full.since; until = starts_later full.log mid.seen new.seen full.until begins; full = full.full }

  ran_to : (stuck : Bool) (r : ClientRan) (P : PlainClient → Type 0) → t ≡ Ok (well stuck) → g ≡ gathered.Over → (closes : Closes stuck all new r) → After new.seen P → Ran input s later P
  ran_to stuck r P done over closes after = record {
    after = after;
    emptied = closes.emptied (over_tells over).0;
    dialled = (over_tells over).1;
    adds = adds_last input s.known mid all closes.last new (done_tells stuck done) gathers.mine closes.handed closes.mine;
    workers = finished_later all.seen new.seen s.counts counts closes.seen (both_finished all.seen s.counts counts g over takes);
  }

  written_after : t ≡ Ok attended.WriteFault → HasRisen s.writes last_writes
  written_after is = HasRisen-after s.writes writes last_writes (write_tells is) last_falls

  written_then : HasRisen writes last_writes → HasRisen s.writes last_writes
  written_then risen = HasRisen-before s.writes writes last_writes falls last_falls risen

  pub ran_finished : (result : Result ClientRan AllocError) → FinishesBy t g all new writes last_writes result → RanBy input s later result
  unfolding RanBy FinishesBy Concludes
  ran_finished (Ok ran.SpawnFault) f = absurd f
  ran_finished (Ok ran.NetFault) f = fault_tells f.2
  ran_finished (Ok (ran.Refused status)) f = refused_tells status f.2
  ran_finished (Ok (ran.Bad n)) f = bad_tells n f
  ran_finished (Ok ran.ReadFault) f = read_tells f
  ran_finished (Ok ran.WriteFault) (inl f) = written_after f.0
  ran_finished (Ok ran.WriteFault) (inr f) = written_then f.3
  ran_finished (Ok ran.Stuck) f =
      (ran_to f.0 ran.Stuck IsSpent f.1 f.2 f.3 (f.3.concludes.1 (f.3.begins (over_tells f.2).0)), full_later (starts_later mid.seen all.seen new.seen gathers.begins f.3.seen) (full_tells f.0 f.3.concludes.0 f.1))
  ran_finished (Ok (ran.Ended condition)) f = ran_to f.0 (ran.Ended condition) (EndsWith condition) f.1 f.2 f.3 f.3.concludes
  ran_finished (Ok ran.Done) f = ran_to f.0 ran.Done IsDone f.1 f.2 f.3 (f.3.concludes (f.3.begins (over_tells f.2).0))
  ran_finished (Err error) f = tt

-- talking, by its clauses
pub conversed : (input : Option (List ℕ)) (old mid new : Known Entry) (reads later_reads writes later_writes : ℕ) (t : Attended)
    → (is_done t ≡ true → new ≡ mid) → AttendsBy input old mid (Ok t)
    → (t ≡ attended.ReadFault → HasRisen reads later_reads) → (t ≡ attended.WriteFault → HasRisen writes later_writes)
    → (◌≢◌ {A = Result Attended AllocError} (Ok t) (Ok attended.ReadFault) → later_reads ≡ reads) → (◌≢◌ {A = Result Attended AllocError} (Ok t) (Ok attended.WriteFault) → later_writes ≡ writes)
    → (is_done t ≡ false → AsksLast old new)
    → ConversesBy input old new reads later_reads writes later_writes (Ok t)
unfolding AttendsBy ConversesBy
conversed input old mid new reads later_reads writes later_writes attended.Done same attends read write no_read no_write asks =
    (subst (λ known. Adds old known (IsTalk input)) (sym (same refl)) attends.0, subst (λ known. PutsAll input old known ⊎ TakesNoMore known) (sym (same refl)) attends.1, no_read (λ is. absurd (cc)), no_write (λ is. absurd (cc)))
conversed input old mid new reads later_reads writes later_writes attended.Stuck same attends read write no_read no_write asks =
    (subst (λ known. Adds old known (IsTalk input)) (sym (same refl)) attends.0, subst (λ known. WasFull old.seen known.seen) (sym (same refl)) attends.1, no_read (λ is. absurd (cc)), no_write (λ is. absurd (cc)))
conversed input old mid new reads later_reads writes later_writes (attended.Bad n) same attends read write no_read no_write asks = (attends, asks refl, no_read (λ is. absurd (cc)))
conversed input old mid new reads later_reads writes later_writes attended.ReadFault same attends read write no_read no_write asks = (read refl, asks refl)
conversed input old mid new reads later_reads writes later_writes attended.WriteFault same attends read write no_read no_write asks = (write refl, asks refl, no_read (λ is. absurd (cc)))

pub conversed_not : (input : Option (List ℕ)) (old new : Known Entry) (reads later_reads writes later_writes : ℕ) (error : AllocError) → AsksLast old new → ConversesBy input old new reads later_reads writes later_writes (Err error)
unfolding ConversesBy
conversed_not input old new reads later_reads writes later_writes error asks = asks
