-- Turns, one after the other, and what of one number is kept by them.
use Rattle.std.proofs.Common.{◌≡◌, ◌≢◌, ◌⊎◌, ◌<◌, ◌^◌, ℕ, zero, suc, List, [], ◌∷◌, ◌++◌, filter, take, drop, Option, Some, None, IfSome, Result, refl, sym, ◌∙◌, ap, subst, inl, inr, append_assoc, append-nil, true≢false}
use Rattle.std.specs.Prelude.{⊤, IsSome, ◌==◌, option_map, slice_get}
use Rattle.std.specs.BTreeMap.{is_at}
use Rattle.std.specs.Map.{lookup}
use Rattle.std.specs.Ordering.{nat_cmp}
use Rattle.std.proofs.lemmas.List.{take-append-drop}
use Rattle.std.specs.declared.alloc.AllocError.{AllocError}
use Rattle.parked_gate.specs.Histories.{StartsWith}
use Rattle.session_table.specs.declared.calls.LiveSession.{LiveSession}
use Rattle.session_table.specs.declared.entry.Entry.{Entry}
use Rattle.session_table.specs.declared.handle.SessionHandle.{SessionHandle}
use Rattle.session_table.specs.History.{IsLegal}
use Rattle.session_table.specs.Purses.{Holds, Sessions, held}
use Rattle.session_table.specs.Replies.{live_sessions}
use Rattle.xmpp_backend.specs.Told.{Told, on_wire, wires_of}
use Rattle.session_pump.specs.Dues.{AskDues, AsksDue, asked, asked_none, asked_one}
use Rattle.session_pump.specs.Dues as dues
use Rattle.session_pump.specs.Ends.{End, Ends}
use Rattle.session_pump.specs.NumberedTurns.{ServesNumber, TellsFailures, TurnsFor, asked_in_vain, has_no_copy, is_not_live, none_failed, not_begun, not_counted, told_all, told_nobody, turned_for, was_held, was_looked_up}
use Rattle.session_pump.specs.Hosts.{HostFacts}
use Rattle.session_pump.specs.Sides.{line_facts}
use Rattle.session_pump.specs.Pumping.{Each, EachPlace, Pumping, Step, and_one, line_of, next_place, no_place, none_yet}
use Rattle.session_pump.specs.Turns.{CountsLive, PollsAt, ServesOne, ShutsDown, ShutsOne, TellsOne, Turns, asked_not, counted, not_asked, shut, shut_before, shut_not, shuts_all, shuts_nobody, streams_of, turned, wanted}
use Rattle.session_pump.specs.declared.line.Line.{Line}
use Rattle.session_pump.specs.declared.line.Side.{Side}
use Rattle.bosh_types.specs.declared.ending.Closing.TheVariants.{SystemShutdown}
use Rattle.bosh_types.specs.declared.inward.Inward.{Inward}
use Rattle.parked_gate.specs.Passes.{known}
use Rattle.pump_laws.specs.CallsMade.{CallMade, carried, taken}
use Rattle.pump_laws.specs.InTurn.{Every, IsNothing, ends_at, in_turn, passed_in_turn, passed_on}
use Rattle.pump_laws.specs.Passing.{CanFail, HandsInOrder, PassedOf, PassesInOrder, StreamHands, StreamPasses}
use Rattle.session_pump.specs.Rows.{Row, no_call, one_more}
use Rattle.pump_laws.specs.Rows.{AllTell, IsNew, IsNewHost, IsUnused}
use Rattle.session_pump.specs.Rows as rows
use Rattle.pump_laws.proofs.BenchLemmas.{every_append, every_first, every_last, every_mapped}
use Rattle.pump_laws.proofs.CallLemmas.{carries_closings, carries_look}
use Rattle.pump_laws.proofs.KeepsLemmas.{Good, IdleAt, IsProper, IsProperSide, Keeps, LineKeeps, SideKeeps, host_at, is_gone, none_some, same_of, unmet, was_met}
use Rattle.pump_laws.proofs.SideLemmas.{its_kept, wire_of}
use Rattle.pump_laws.specs.Handing.{IsIdle, KeepsNone, stanza_for, told_by, told_for, told_in_turn}
use Rattle.std.specs.List.{filter_map}
use Rattle.pump_laws.proofs.NumberLemmas.{Has, IsGone, IsOpening, contains_has, has_first, has_last, live_apart, live_isnt_gone, live_opened}
use Rattle.pump_laws.proofs.PollingLemmas.{polls_at_keeps, polls_at_starts}
use Rattle.pump_laws.proofs.ServingLemmas.{finds_keeps, finds_starts, found_number, serves_held_keeps, serves_held_starts, serves_one_keeps, serves_one_starts, tells_one_keeps, tells_one_starts}
use Rattle.pump_laws.proofs.StepLemmas.{called_starts, good_as, good_directory, good_noted, good_session, good_sessions, session_starts, starts_same, starts_then}

-- ---- each in turn

each_keeps : {A : Type 0} (P : Pumping → Type 0) (Does : A → Step) → ((x : A) (a b : Pumping) (result : Result ⊤ AllocError) → Does x a b result → P a → P b)
    → {a : Pumping} {xs : List A} {b : Pumping} {result : Result ⊤ AllocError} → Each Does a xs b result → P a → P b
each_keeps P Does keeps none_yet p = p
each_keeps P Does keeps (and_one {b = b} {c = c} {next = next} x before does) p = keeps x b c next does (each_keeps P Does keeps before p)

places_keep : (P : Pumping → Type 0) (Does : ℕ → Step) → ((x : ℕ) (a b : Pumping) (result : Result ⊤ AllocError) → Does x a b result → P a → P b)
    → {a : Pumping} {count : ℕ} {b : Pumping} {result : Result ⊤ AllocError} → EachPlace Does a count b result → P a → P b
places_keep P Does keeps no_place p = p
places_keep P Does keeps (next_place {b = b} {c = c} {next = next} place before does) p = keeps place b c next does (places_keep P Does keeps before p)

-- what was seen of the directory goes on from this
abbrev GoesOn : List Entry → Pumping → Type 0
GoesOn log a = StartsWith a.directory.seen log

polled_on : (moment : Option ℕ) (log : List Entry) {a : Pumping} {count : ℕ} {b : Pumping} {result : Result ⊤ AllocError} → EachPlace (PollsAt moment) a count b result → GoesOn log a → GoesOn log b
polled_on moment log each starts =
    places_keep (GoesOn log) (PollsAt moment) (λ x a b r does s. starts_then log a.directory.seen b.directory.seen s (polls_at_starts moment x a b r does)) each starts

told_on : (moment : Option ℕ) (log : List Entry) {a : Pumping} {xs : List LiveSession} {b : Pumping} {result : Result ⊤ AllocError} → Each (TellsOne moment) a xs b result → GoesOn log a → GoesOn log b
told_on moment log each starts =
    each_keeps (GoesOn log) (TellsOne moment) (λ x a b r does s. starts_then log a.directory.seen b.directory.seen s (tells_one_starts moment x a b r does)) each starts

served_on : (moment : Option ℕ) (log : List Entry) {a : Pumping} {xs : List LiveSession} {b : Pumping} {result : Result ⊤ AllocError} → Each (ServesOne moment) a xs b result → GoesOn log a → GoesOn log b
served_on moment log each starts =
    each_keeps (GoesOn log) (ServesOne moment) (λ x a b r does s. starts_then log a.directory.seen b.directory.seen s (serves_one_starts moment x a b r does)) each starts

polls_keep : {B G : Type 0} (n : ℕ) (moment : Option ℕ) {a : Pumping} {count : ℕ} {b : Pumping} {result : Result ⊤ AllocError} → EachPlace (PollsAt moment) a count b result → Good B G n a → Good B G n b
polls_keep {B} {G} n moment each g = places_keep (Good B G n) (PollsAt moment) (λ x a b r does good. polls_at_keeps n moment x a b r does good) each g

tells_keep : {B G : Type 0} (n : ℕ) (moment : Option ℕ) {a : Pumping} {xs : List LiveSession} {b : Pumping} {result : Result ⊤ AllocError} → Each (TellsOne moment) a xs b result → Good B G n a → Good B G n b
tells_keep {B} {G} n moment each g = each_keeps (Good B G n) (TellsOne moment) (λ x a b r does good. tells_one_keeps moment n x a b r does good) each g

counts_keep : {B G : Type 0} (n : ℕ) (a b : Pumping) (done : Result ⊤ AllocError) (result : Result ℕ AllocError) → CountsLive a b done result → Good B G n a → Good B G n b
counts_keep n a b done result (counted live asks) g = good_directory n a b (λ k l says. says.begins) asks g
counts_keep n a b done result (asked_not error asks) g = good_directory n a b (λ k l says. says.begins) asks g
counts_keep n a b done result (wanted error other) g = g

counts_starts : (a b : Pumping) (done : Result ⊤ AllocError) (result : Result ℕ AllocError) → CountsLive a b done result → StartsWith b.directory.seen a.directory.seen
counts_starts a b done result (counted live asks) = asks.learns.begins
counts_starts a b done result (asked_not error asks) = asks.learns.begins
counts_starts a b done result (wanted error other) = starts_same a.directory.seen

shuts_starts : (moment : Option ℕ) (session : LiveSession) (a b : Pumping) (result : Result ⊤ AllocError) → ShutsOne moment session a b result → StartsWith b.directory.seen a.directory.seen
shuts_starts moment session a b result (shut_before asks) = called_starts _ a.directory b.directory asks.learns
shuts_starts moment session a b result (shut_not error asks) = asks.learns.begins
shuts_starts moment session a c result (shut {b = b} m finds asks) =
    starts_then a.directory.seen b.directory.seen c.directory.seen (finds_starts m session.sid a b finds) (session_starts m b c asks)

shut_on : (moment : Option ℕ) (log : List Entry) {a : Pumping} {xs : List LiveSession} {b : Pumping} {result : Result ⊤ AllocError} → Each (ShutsOne moment) a xs b result → GoesOn log a → GoesOn log b
shut_on moment log each starts =
    each_keeps (GoesOn log) (ShutsOne moment) (λ x a b r does s. starts_then log a.directory.seen b.directory.seen s (shuts_starts moment x a b r does)) each starts

number_starts : (moment : Option ℕ) (m : ℕ) (a b : Pumping) (result : Result ⊤ AllocError) → ServesNumber moment m a b result → StartsWith b.directory.seen a.directory.seen
number_starts moment m a b result (was_held sid holds serves) = serves_held_starts moment m sid a b result serves
number_starts moment m a c result (was_looked_up {b = b} live session nobody asks there number serves) =
    starts_then a.directory.seen b.directory.seen c.directory.seen asks.learns.begins (serves_one_starts moment session b c result serves)
number_starts moment m a b result (is_not_live live nobody asks nowhere) = asks.learns.begins
number_starts moment m a b result (asked_in_vain error nobody asks) = asks.learns.begins
number_starts moment m a b result (has_no_copy error) = starts_same a.directory.seen

tells_failures_starts : (moment : Option ℕ) (before : List ℕ) (a b : Pumping) (result : Result ⊤ AllocError) → TellsFailures moment before a b result → StartsWith b.directory.seen a.directory.seen
tells_failures_starts moment before a b result (none_failed same) = starts_same a.directory.seen
tells_failures_starts moment before a c result (told_all {b = b} live asks each) =
    starts_then a.directory.seen b.directory.seen c.directory.seen asks.learns.begins (told_on moment b.directory.seen each (starts_same b.directory.seen))
tells_failures_starts moment before a b result (told_nobody error asks) = asks.learns.begins
tells_failures_starts moment before a b result (not_counted error) = starts_same a.directory.seen

-- ---- a turn

module _ (B : Type 0) (n : ℕ) (small : n < 2 ^ 32) (final : List Entry) (legal : IsLegal final) where
  module _ (moment : Option ℕ) (log : List Entry) (live : List LiveSession) (is_live : live ≡ live_sessions log) (begins : StartsWith final log) where
    -- it was gone before, or was removed by one of these
    abbrev GoneBy : List LiveSession → Type 0
    GoneBy xs = IsGone n log ⊎ ((y : LiveSession) × Has xs y × (y.number ≡ n))

    each_served : {a : Pumping} {xs : List LiveSession} {b : Pumping} {result : Result ⊤ AllocError} → Each (ServesOne moment) a xs b result → (rest : List LiveSession) → live ≡ xs ++ rest
        → GoesOn log a → Good B (IsGone n log) n a → Good B (GoneBy xs) n b
    each_served none_yet rest is starts g = good_as n _ (λ gone why. inl why) g
    each_served {a = a} (and_one {xs = xs} {b = b} {c = c} {next = next} x before does) rest is starts g =
        good_as n c (λ gone why. by why)
        (serves_one_keeps n small final legal log begins x there moment b c next (served_on moment log before starts) not_gone does
        (each_served before (x ∷ rest) whole starts g))
      where
        whole : live ≡ xs ++ x ∷ rest
        whole = is ∙ append_assoc xs (x ∷ []) rest

        there : Has (live_sessions log) x
        there = subst (λ l. Has l x) (sym whole ∙ is_live) (has_last xs (x ∷ rest) x (inl refl))

        not_gone : x.number ≡ n → GoneBy xs → ⊥
        not_gone same (inl gone) = live_isnt_gone log x there (subst (λ k. IsGone k log) (sym same) gone)
        not_gone same (inr (y, earlier, its)) = live_apart log xs rest x y (sym is_live ∙ whole) earlier (its ∙ sym same)

        by : GoneBy xs ⊎ (x.number ≡ n) → GoneBy (xs ++ x ∷ [])
        by (inl (inl gone)) = inl gone
        by (inl (inr (y, earlier, its))) = inr (y, has_first xs (x ∷ []) y earlier, its)
        by (inr same) = inr (x, has_last xs (x ∷ []) x (inl refl), same)

  turn_keeps : (moment : Option ℕ) (a b : Pumping) (result : Result ℕ AllocError) → Turns moment a b result → StartsWith final b.directory.seen → Good B ⊤ n a → Good B ⊤ n b
  turn_keeps moment a b result (not_asked error asks) starts g = good_directory n a b (λ k l says. says.begins) asks g
  turn_keeps moment a f result (turned {b = b} {c = c} {d = d} {e = e} {served = served} {polled = polled} {told = told} live asks each_serve each_poll each_tell counts) starts g =
      let log : List Entry = b.directory.seen in
      let on_c : GoesOn log c = served_on moment log each_serve (starts_same log) in
      let on_d : GoesOn log d = polled_on moment log each_poll on_c in
      let on_e : GoesOn log e = told_on moment log each_tell on_d in
      let on_f : GoesOn log f = starts_then log e.directory.seen f.directory.seen on_e (counts_starts e f _ result counts) in
      let begun : Good B (IsGone n log) n b = good_as n b (λ gone why. gone) (good_directory n a b (λ k l says. says.begins) asks g) in
      let done : Good B (GoneBy moment log live asks.learns.says (starts_then log f.directory.seen final on_f starts) live) n c =
      each_served moment log live asks.learns.says (starts_then log f.directory.seen final on_f starts) each_serve [] (sym (append-nil live)) (starts_same log) begun in
      counts_keep n e f _ result counts (tells_keep n moment each_tell (polls_keep n moment each_poll (good_as n c (λ gone why. tt) done)))

  -- ---- a turn for some

  held_opening : {G : Type 0} (sid : List ℕ) (a : Pumping) → Good B G n a → Holds a.sessions n sid → IsOpening n sid a.directory.seen
  held_opening {G} sid a g holds = by g.keeps
    where
      by : Keeps B G n (held a.sessions n) (line_of a.lines n) (host_at a.hosts) a.directory.seen → IsOpening n sid a.directory.seen
      by (unmet none held_so nothing) = subst (λ t. IsOpening n t a.directory.seen) holds.named (held_so holds.handle holds.is).opened
      by (was_met h line is there opened k) =
          subst (λ t. IsOpening n t a.directory.seen) (ap (λ (x : SessionHandle). x.sid) (same_of (held a.sessions n) h holds.handle is holds.is) ∙ holds.named) opened
      by (is_gone none nobody gone why) = absurd (none_some (held a.sessions n) holds.handle nobody holds.is)

  number_keeps : (moment : Option ℕ) (m : ℕ) (a b : Pumping) (result : Result ⊤ AllocError) → ServesNumber moment m a b result → StartsWith final b.directory.seen → Good B ⊤ n a → Good B ⊤ n b
  number_keeps moment m a b result (was_held sid holds serves) starts g =
      good_as n b (λ gone why. tt)
      (serves_held_keeps moment n m sid a b result small (λ same. held_opening sid a g (subst (λ k. Holds a.sessions k sid) same holds)) serves g)
  number_keeps moment m a c result (was_looked_up {b = b} live session nobody asks there number serves) starts g =
      let log : List Entry = b.directory.seen in
      let begun : Good B (IsGone n log) n b = good_as n b (λ gone why. gone) (good_directory n a b (λ k l says. says.begins) asks g) in
      let is : Has (live_sessions log) session = subst (λ l. Has l session) asks.learns.says (contains_has live session there) in
      let from : StartsWith final log = starts_then log c.directory.seen final (serves_one_starts moment session b c result serves) starts in
      good_as n c (λ gone why. tt)
      (serves_one_keeps n small final legal log from session is moment b c result (starts_same log)
      (λ same gone. live_isnt_gone log session is (subst (λ k. IsGone k log) (sym same) gone)) serves begun)
  number_keeps moment m a b result (is_not_live live nobody asks nowhere) starts g = good_directory n a b (λ k l says. says.begins) asks g
  number_keeps moment m a b result (asked_in_vain error nobody asks) starts g = good_directory n a b (λ k l says. says.begins) asks g
  number_keeps moment m a b result (has_no_copy error) starts g = g

  -- of each in turn, where what was seen in the end goes on from what was seen then
  numbers_keep : (moment : Option ℕ) {a : Pumping} {numbers : List ℕ} {b : Pumping} {result : Result ⊤ AllocError} → Each (ServesNumber moment) a numbers b result → StartsWith final b.directory.seen → Good B ⊤ n a → Good B ⊤ n b
  numbers_keep moment none_yet starts g = g
  numbers_keep moment (and_one {b = b} {c = c} {next = next} m before does) starts g =
      number_keeps moment m b c next does starts
      (numbers_keep moment before (starts_then b.directory.seen c.directory.seen final (number_starts moment m b c next does) starts) g)

  tells_failures_keep : {G : Type 0} (moment : Option ℕ) (before : List ℕ) (a b : Pumping) (result : Result ⊤ AllocError) → TellsFailures moment before a b result → Good B G n a → Good B G n b
  tells_failures_keep moment before a b result (none_failed same) g = g
  tells_failures_keep moment before a c result (told_all {b = b} live asks each) g = tells_keep n moment each (good_directory n a b (λ k l says. says.begins) asks g)
  tells_failures_keep moment before a b result (told_nobody error asks) g = good_directory n a b (λ k l says. says.begins) asks g
  tells_failures_keep moment before a b result (not_counted error) g = g

  turn_for_keeps : (moment : Option ℕ) (numbers : List ℕ) (a b : Pumping) (result : Result ⊤ AllocError) → TurnsFor moment numbers a b result → StartsWith final b.directory.seen → Good B ⊤ n a → Good B ⊤ n b
  turn_for_keeps moment numbers a b result (not_begun error) starts g = g
  turn_for_keeps moment numbers a d result (turned_for {b = b} {c = c} {told = told} each_serve each_poll tells) starts g =
      let on_c : GoesOn b.directory.seen c = polled_on moment b.directory.seen each_poll (starts_same b.directory.seen) in
      let on_d : GoesOn b.directory.seen d = starts_then b.directory.seen c.directory.seen d.directory.seen on_c (tells_failures_starts moment _ c d told tells) in
      tells_failures_keep moment _ c d told tells (polls_keep n moment each_poll (numbers_keep moment each_serve (starts_then b.directory.seen d.directory.seen final on_d starts) g))

  -- ---- the end

  module _ (moment : Option ℕ) (log : List Entry) (begins : StartsWith final log) where
    shuts_keep : (session : LiveSession) (a b : Pumping) (result : Result ⊤ AllocError) → Has (live_sessions log) session → GoesOn log a → ShutsOne moment session a b result
        → Good B (IsGone n log) n a → Good B (IsGone n log) n b
    shuts_keep session a b result is starts (shut_before asks) g = good_directory n a b (λ k l says. called_starts _ k l says) asks g
    shuts_keep session a b result is starts (shut_not error asks) g = good_directory n a b (λ k l says. says.begins) asks g
    shuts_keep session a c result is starts (shut {b = b} m finds asks) g =
        let its : m ≡ session.number = found_number log final session m a b is begins legal finds in
        good_session n m b c (λ k l says. carries_closings moment SystemShutdown k (streams_of (line_of b.lines m)) result l says) asks
        (finds_keeps n m session.sid a b finds log (λ same. subst (λ k. IsOpening k session.sid log) (sym its ∙ same) (live_opened log session is))
        (starts_then log a.directory.seen b.directory.seen starts (finds_starts m session.sid a b finds))
        (λ same gone. live_isnt_gone log session is (subst (λ k. IsGone k log) (sym same ∙ its) gone)) g)

    each_shut : (live : List LiveSession) → live ≡ live_sessions log → {a : Pumping} {xs : List LiveSession} {b : Pumping} {result : Result ⊤ AllocError} → Each (ShutsOne moment) a xs b result
        → (rest : List LiveSession) → live ≡ xs ++ rest → GoesOn log a → Good B (IsGone n log) n a → Good B (IsGone n log) n b × GoesOn log b
    each_shut live is_live none_yet rest is starts g = (g, starts)
    each_shut live is_live (and_one {xs = xs} {b = b} {c = c} {next = next} x before does) rest is starts g =
        let whole : live ≡ xs ++ x ∷ rest = is ∙ append_assoc xs (x ∷ []) rest in
        let there : Has (live_sessions log) x = subst (λ l. Has l x) (sym whole ∙ is_live) (has_last xs (x ∷ rest) x (inl refl)) in
        let r : Good B (IsGone n log) n b × GoesOn log b = each_shut live is_live before (x ∷ rest) whole starts g in
        (shuts_keep x b c next there r.1 does r.0, starts_then log b.directory.seen c.directory.seen r.1 (shuts_starts moment x b c next does))

  shut_down_keeps : (moment : Option ℕ) (a b : Pumping) (result : Result ⊤ AllocError) → ShutsDown moment a b result → StartsWith final b.directory.seen → Good B ⊤ n a → Good B ⊤ n b
  shut_down_keeps moment a b result (shuts_nobody error asks) starts g = good_directory n a b (λ k l says. says.begins) asks g
  shut_down_keeps moment a c result (shuts_all {b = b} live asks each) starts g =
      let log : List Entry = b.directory.seen in
      let from : StartsWith final log = starts_then log c.directory.seen final (shut_on moment log each (starts_same log)) starts in
      let begun : Good B (IsGone n log) n b = good_as n b (λ gone why. gone) (good_directory n a b (λ k l says. says.begins) asks g) in
      good_as n c (λ gone why. tt) (each_shut moment log from live asks.learns.says each [] (sym (append-nil live)) (starts_same log) begun).0

  -- ---- sessions are asked when they are due

  asks_due_keep : {G : Type 0} (m : ℕ) (a : Pumping) (sessions : Sessions) → AsksDue m a.sessions sessions → Good B G n a → Good B G n (record a { sessions = sessions })
  asks_due_keep m a sessions (dues.not_held nobody) g = g
  asks_due_keep m a sessions (asked due t others) g = good_sessions n m a sessions _ (λ k l says. carries_look k l says) t others g

  ask_dues_keep : {G : Type 0} (a : Pumping) (numbers : List ℕ) (sessions : Sessions) → AskDues a.sessions numbers sessions → Good B G n a → Good B G n (record a { sessions = sessions })
  ask_dues_keep a numbers sessions asked_none g = g
  ask_dues_keep a numbers sessions (asked_one {l = l} number before asks) g =
      asks_due_keep number (record a { sessions = l }) sessions asks (ask_dues_keep a _ l before g)

  -- ---- calls of a pump

  calls_keep : (a b : Pumping) → rows.Calls a b → StartsWith final b.directory.seen → Good B ⊤ n a → Good B ⊤ n b
  calls_keep a b (rows.turned {moment = moment} {result = result} turns) starts g = turn_keeps moment a b result turns starts g
  calls_keep a b (rows.turned_for {moment = moment} {numbers = numbers} {result = result} turns) starts g = turn_for_keeps moment numbers a b result turns starts g
  calls_keep a b (rows.shut_down {moment = moment} {result = result} shuts) starts g = shut_down_keeps moment a b result shuts starts g
  calls_keep a b (rows.asked_dues {numbers = numbers} sessions later asks) starts g =
      good_noted n (record a { sessions = sessions }) later (ask_dues_keep a numbers sessions asks g)

turn_starts : (moment : Option ℕ) (a b : Pumping) (result : Result ℕ AllocError) → Turns moment a b result → StartsWith b.directory.seen a.directory.seen
turn_starts moment a b result (not_asked error asks) = asks.learns.begins
turn_starts moment a f result (turned {b = b} {c = c} {d = d} {e = e} live asks each_serve each_poll each_tell counts) =
    starts_then a.directory.seen b.directory.seen f.directory.seen asks.learns.begins
    (starts_then b.directory.seen e.directory.seen f.directory.seen
    (told_on moment b.directory.seen each_tell (polled_on moment b.directory.seen each_poll (served_on moment b.directory.seen each_serve (starts_same b.directory.seen))))
    (counts_starts e f _ result counts))

turn_for_starts : (moment : Option ℕ) (numbers : List ℕ) (a b : Pumping) (result : Result ⊤ AllocError) → TurnsFor moment numbers a b result → StartsWith b.directory.seen a.directory.seen
turn_for_starts moment numbers a b result (not_begun error) = starts_same a.directory.seen
turn_for_starts moment numbers a d result (turned_for {b = b} {c = c} {told = told} each_serve each_poll tells) =
    starts_then a.directory.seen c.directory.seen d.directory.seen
    (polled_on moment a.directory.seen each_poll
    (each_keeps (GoesOn a.directory.seen) (ServesNumber moment) (λ x k l r does s. starts_then a.directory.seen k.directory.seen l.directory.seen s (number_starts moment x k l r does))
    each_serve (starts_same a.directory.seen)))
    (tells_failures_starts moment _ c d told tells)

shut_down_starts : (moment : Option ℕ) (a b : Pumping) (result : Result ⊤ AllocError) → ShutsDown moment a b result → StartsWith b.directory.seen a.directory.seen
shut_down_starts moment a b result (shuts_nobody error asks) = asks.learns.begins
shut_down_starts moment a c result (shuts_all {b = b} live asks each) =
    starts_then a.directory.seen b.directory.seen c.directory.seen asks.learns.begins (shut_on moment b.directory.seen each (starts_same b.directory.seen))

calls_starts : (a b : Pumping) → rows.Calls a b → StartsWith b.directory.seen a.directory.seen
calls_starts a b (rows.turned {moment = moment} {result = result} turns) = turn_starts moment a b result turns
calls_starts a b (rows.turned_for {moment = moment} {numbers = numbers} {result = result} turns) = turn_for_starts moment numbers a b result turns
calls_starts a b (rows.shut_down {moment = moment} {result = result} shuts) = shut_down_starts moment a b result shuts
calls_starts a b (rows.asked_dues sessions later asks) = starts_same a.directory.seen

-- ---- from the beginning

empty_lookup : {X : Type 0} (n : ℕ) (es : List (ℕ × X)) → es ≡ [] → lookup (is_at (nat_cmp n)) es ≡ None
empty_lookup n es empty = ap (lookup (is_at (nat_cmp n))) empty

unused_nothing : (wire : ℕ) (end : End) → IsUnused end → IsNothing (passed_on wire end)
unused_nothing wire end unused = by end.told unused
  where
    by : (o : Option Told) → IfSome o (λ (told : Told). (told.opened ≡ []) × (told.passed ≡ []) × (told.given ≡ [])) → IsNothing (option_map (λ (told : Told). on_wire wire told.passed) o)
    by None unused = tt
    by (Some told) (opened, passed, given) = ap (on_wire wire) passed

every_as : {A : Type 0} (P Q : A → Type 0) → ((x : A) → P x → Q x) → (xs : List A) → Every P xs → Every Q xs
every_as P Q so [] of_all = tt
every_as P Q so (x ∷ xs) of_all = (so x of_all.0, every_as P Q so xs of_all.1)

new_nothing : (wire : ℕ) (host : HostFacts) → IsNewHost host → Every IsNothing (passed_in_turn wire host.ends)
new_nothing wire host new =
    let e : Ends = host.ends in
    let spares : Every (λ (end : End). IsNothing (passed_on wire end)) (take e.used e.spares ++ drop e.used e.spares) =
    subst (λ xs. Every (λ (end : End). IsNothing (passed_on wire end)) xs) (sym (take-append-drop e.used e.spares))
    (every_as IsUnused (λ end. IsNothing (passed_on wire end)) (λ end unused. unused_nothing wire end unused) e.spares new.unused.1) in
    every_mapped IsNothing (passed_on wire) (in_turn e)
    (every_append _ (take e.used e.spares) (e.standing ∷ drop e.used e.spares) (every_first _ (take e.used e.spares) (drop e.used e.spares) spares)
    (unused_nothing wire e.standing new.unused.0, every_last _ (take e.used e.spares) (drop e.used e.spares) spares))

every_got : (P : HostFacts → Type 0) (hosts : List HostFacts) (place : ℕ) (host : HostFacts) → Every P hosts → slice_get hosts place ≡ Some host → P host
every_got P [] place host of_all is = absurd (none_some None host refl is)
every_got P (x ∷ xs) zero host of_all is = subst P (same_of (Some x) x host refl is) of_all.0
every_got P (x ∷ xs) (suc place) host of_all is = every_got P xs place host of_all.1 is

idle_end : (n : ℕ) (end : End) → IsUnused end → IsSome end.told → IsIdle (told_for n end)
idle_end n end unused tells = by end.told unused tells
  where
    by : (o : Option Told) → IfSome o (λ (told : Told). (told.opened ≡ []) × (told.passed ≡ []) × (told.given ≡ [])) → IsSome o → IsIdle (option_map (told_by n) o)
    by None unused tells = absurd (true≢false (sym tells))
    by (Some told) (opened, passed, given) tells =
        ap (λ xs. Some (record { opened = filter (λ other. other == n) (wires_of xs); stanzas = filter_map (stanza_for n) told.given })) opened
        ∙ ap (λ xs. Some (record { opened = []; stanzas = filter_map (stanza_for n) xs })) given

both_every : {A : Type 0} (P Q R : A → Type 0) → ((x : A) → P x → Q x → R x) → (xs : List A) → Every P xs → Every Q xs → Every R xs
both_every P Q R so [] of_p of_q = tt
both_every P Q R so (x ∷ xs) of_p of_q = (so x of_p.0 of_q.0, both_every P Q R so xs of_p.1 of_q.1)

new_idle : (n : ℕ) (host : HostFacts) → IsNewHost host → Every (λ (end : End). IsSome end.told) (host.ends.standing ∷ host.ends.spares) → Every IsIdle (told_in_turn n host.ends)
new_idle n host new tell =
    let e : Ends = host.ends in
    let all : Every (λ (end : End). IsIdle (told_for n end)) (e.standing ∷ e.spares) =
    both_every IsUnused (λ (end : End). IsSome end.told) (λ (end : End). IsIdle (told_for n end)) (λ end unused tells. idle_end n end unused tells) (e.standing ∷ e.spares) new.unused tell in
    let spares : Every (λ (end : End). IsIdle (told_for n end)) (take e.used e.spares ++ drop e.used e.spares) =
    subst (λ xs. Every (λ (end : End). IsIdle (told_for n end)) xs) (sym (take-append-drop e.used e.spares)) all.1 in
    every_mapped IsIdle (told_for n) (in_turn e)
    (every_append _ (take e.used e.spares) (e.standing ∷ drop e.used e.spares) (every_first _ (take e.used e.spares) (drop e.used e.spares) spares)
    (all.0, every_last _ (take e.used e.spares) (drop e.used e.spares) spares))

begins_good : (n : ℕ) (a : Pumping) → IsNew a → Good (AllTell a) ⊤ n a
begins_good n a new = record {
  keeps = unmet (empty_lookup n a.lines.entries new.lines) (λ h is. absurd (none_some (held a.sessions n) h (empty_lookup n a.sessions.entries new.sessions) is))
      (λ q small place host is. record {
        passed = new_nothing (wire_of n q) host (every_got IsNewHost a.hosts place host new.hosts is);
        given = λ tell. record {
          idle = new_idle (wire_of n q) host (every_got IsNewHost a.hosts place host new.hosts is)
              (every_got (λ (host : HostFacts). Every (λ (end : End). IsSome end.told) (host.ends.standing ∷ host.ends.spares)) a.hosts place host tell is);
          none = subst (KeepsNone (wire_of n q)) (sym (every_got IsNewHost a.hosts place host new.hosts is).kept) tt;
        };
      });
  proper = λ m line is. absurd (none_some (line_of a.lines m) line (empty_lookup m a.lines.entries new.lines) is);
}

row_good : (B : Type 0) (n : ℕ) → n < 2 ^ 32 → (final : List Entry) → IsLegal final → (a b : Pumping) → Row a b → StartsWith final b.directory.seen → Good B ⊤ n a → Good B ⊤ n b
row_good B n small final legal a b no_call starts g = g
row_good B n small final legal a c (one_more {b = b} row calls) starts g =
    calls_keep B n small final legal b c calls starts
    (row_good B n small final legal a b row (starts_then b.directory.seen c.directory.seen final (calls_starts b c calls) starts) g)

-- who has a line then was met
pub record HasMet (B : Type 0) (n : ℕ) (b : Pumping) (line : Line) : Type 0 where
  pub handle : SessionHandle
  pub at : held b.sessions n ≡ Some handle
  pub proper : IsProper n (line_facts line)
  pub keeps : LineKeeps B n (host_at b.hosts) (line_facts line) (known handle.pass).mine

row_met : (a b : Pumping) → IsNew a → Row a b → IsLegal b.directory.seen → (n : ℕ) (line : Line) → n < 2 ^ 32 → line_of b.lines n ≡ Some line → HasMet (AllTell a) n b line
row_met a b new row legal n line small is =
    let g : Good (AllTell a) ⊤ n b = row_good (AllTell a) n small b.directory.seen legal a b row (starts_same b.directory.seen) (begins_good n a new) in
    by (g.proper n line is) g.keeps
  where
    by : IsProper n (line_facts line) → Keeps (AllTell a) ⊤ n (held b.sessions n) (line_of b.lines n) (host_at b.hosts) b.directory.seen → HasMet (AllTell a) n b line
    by proper (unmet none held_so nothing) = absurd (none_some (line_of b.lines n) line none is)
    by proper (was_met h other at there opened k) = record {
      handle = h;
      at = at;
      proper = proper;
      keeps = subst (λ (x : Line). LineKeeps (AllTell a) n (host_at b.hosts) (line_facts x) (known h.pass).mine) (same_of (line_of b.lines n) other line there is) k;
    }
    by proper (is_gone none nobody gone why) = absurd (none_some (line_of b.lines n) line none is)

-- a host by its back ends
record HostOf (hosts : List HostFacts) (place : ℕ) (ends : Ends) : Type 0 where
  host : HostFacts
  there : host_at hosts place ≡ Some host
  its : host.ends ≡ ends

host_of : (hosts : List HostFacts) (place : ℕ) (ends : Ends) → ends_at hosts place ≡ Some ends → HostOf hosts place ends
host_of hosts place ends is = by (slice_get hosts place) refl is
  where
    by : (o : Option HostFacts) → slice_get hosts place ≡ o → option_map (λ (host : HostFacts). host.ends) o ≡ Some ends → HostOf hosts place ends
    by None got is = absurd (none_some None ends refl is)
    by (Some host) got is = record { host = host; there = got; its = same_of (Some host.ends) host.ends ends refl is }

stream_passes : (B : Type 0) (b : Pumping) (n : ℕ) (made : List CallMade) (kept : Option Inward) (side : Side) → IsProperSide n side → SideKeeps B (host_at b.hosts) made kept side
    → StreamPasses b n (taken made) kept side
stream_passes B b n made kept side p k = record {
  wire = p.wire;
  here = λ place ends its_ends to few.
      let h : HostOf b.hosts place ends = host_of b.hosts place ends its_ends in
      subst (PassedOf side.wire (carried side.stream (taken made)) side.stage (its_kept side.stream kept)) h.its (k.here place h.host h.there to (subst CanFail (sym h.its) few));
  elsewhere = λ place ends its_ends away.
      let h : HostOf b.hosts place ends = host_of b.hosts place ends its_ends in
      subst (λ e. Every IsNothing (passed_in_turn side.wire e)) h.its (k.elsewhere place h.host h.there away).passed;
}

pub row_passes : (a b : Pumping) → IsNew a → Row a b → IsLegal b.directory.seen → (number : ℕ) (line : Line) → number < 2 ^ 32 → line_of b.lines number ≡ Some line
    → PassesInOrder b number line
row_passes a b new row legal n line small is =
    let m : HasMet (AllTell a) n b line = row_met a b new row legal n line small is in
    record {
      handle = m.handle;
      held_as = m.at;
      calls = m.keeps.calls;
      made = m.keeps.made;
      once = m.keeps.once;
      streams = λ place side there. stream_passes (AllTell a) b n m.keeps.calls line.kept side (m.proper.sides place side there) (m.keeps.has place side there);
      unmet = λ stream few none place ends its_ends.
          let h : HostOf b.hosts place ends = host_of b.hosts place ends its_ends in
          subst (λ e. Every IsNothing (passed_in_turn (wire_of n stream) e)) h.its ((m.keeps.hasnt stream few none).nothing place h.host h.there).passed;
    }

pub row_hands : (a b : Pumping) → IsNew a → AllTell a → Row a b → IsLegal b.directory.seen → (number : ℕ) (line : Line) → number < 2 ^ 32 → line_of b.lines number ≡ Some line
    → HandsInOrder b number line
row_hands a b new tell row legal n line small is =
    let m : HasMet (AllTell a) n b line = row_met a b new row legal n line small is in
    record {
      handle = m.handle;
      held_as = m.at;
      calls = m.keeps.calls;
      made = m.keeps.made;
      streams = λ place side there.
          let k : SideKeeps (AllTell a) (host_at b.hosts) m.keeps.calls line.kept side = m.keeps.has place side there in
          record {
            here = λ q host its_host to. k.gives q host its_host to tell;
            elsewhere = λ q host its_host away.
                let i : IdleAt side.wire host = (k.elsewhere q host its_host away).given tell in
                (i.idle, i.none);
          };
      unmet = λ stream few none place host its_host.
          let i : IdleAt (wire_of n stream) host = ((m.keeps.hasnt stream few none).nothing place host its_host).given tell in
          (i.idle, i.none);
    }
