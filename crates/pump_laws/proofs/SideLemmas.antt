-- Moves of the pump for one stream, and what the back ends of its host were passed on its wire and gave on it.
use Rattle.std.proofs.Common.{◌*◌, ◌/◌, ◌%◌, ◌+◌, ◌<◌, ◌≡◌, ◌≢◌, ◌⊎◌, ℕ, Bool, true, false, cond, List, [], ◌∷◌, ◌++◌, filter, Option, Some, None, IfSome, Result, Ok, Err, refl, sym, ◌∙◌, ap, subst, inl, inr, append_assoc, append-nil, arith, ne_eqb, eqb-true, eq-eqb, true≢false}
use Rattle.std.specs.Prelude.{⊤, ◌&&◌, ◌==◌, option_map, option_to_list}
use Rattle.std.specs.declared.alloc.AllocError.{AllocError}
use Rattle.bosh_types.specs.Limits.{most_streams}
use Rattle.bosh_types.specs.declared.ending.Closing.TheVariants.{RemoteConnectionFailed}
use Rattle.bosh_types.specs.declared.inward.Inward.{Inward}
use Rattle.bosh_types.specs.declared.inward.Inward.TheVariants as inward
use Rattle.parked_gate.specs.Passes.{Known}
use Rattle.session_journal.specs.declared.call.Call.TheVariants as calls
use Rattle.session_journal.specs.declared.entry.Entry.{Entry}
use Rattle.xmpp_backend.specs.Told.{Becomes, Told, closed_too, on_wire, opened_too, passed_too, resumed_too}
use Rattle.session_pump.specs.Ends.{Ends, HasFailed, telling}
use Rattle.session_pump.specs.Sides.{Strand, StrandMove, asks_room, closes, does_nothing, fails_at, fails_to_close, fails_to_open, gives, gives_last, is_for, is_opening, lets_go, opens, passes, refuses, stream_of, tells_cut, wants}
use Rattle.session_pump.specs.Taking.{Refuses, Takes}
use Rattle.session_pump.specs.Turns.{ClosesWire, closes_it, fails_at_it}
use Rattle.session_pump.specs.Turns as turns
use Rattle.session_pump.specs.declared.line.Owing.{Owing}
use Rattle.session_pump.specs.declared.line.Side.{Side}
use Rattle.session_pump.specs.declared.line.Stage.{Stage}
use Rattle.session_pump.specs.declared.line.Stage.TheVariants as stages
use Rattle.pump_laws.specs.Handing.{GaveOf, ToldFor, is_of, stanza_in, stanzas_kept, told_by, told_in_turn}
use Rattle.pump_laws.specs.CallsMade.{Handed}
use Rattle.pump_laws.specs.InTurn.{Begins, Every, IsNothing, passed_in_turn, passed_on}
use Rattle.pump_laws.specs.Passing.{CanFail, PassedOf, is_no_more, is_open, isnt_opened}
use Rattle.pump_laws.proofs.BenchLemmas.{Drifts, became_still, drift_passed, drifts_few, drifts_on, drifts_one, drifts_passed, failed_drifts, failed_more, is_one, no_drift, not_both, some_number, spares_nothing, standing_nothing, tells_still}
use Rattle.pump_laws.proofs.CallLemmas.{Brings, Carries, brings_once, brings_taken, carries_asked, carries_call, carries_once, carries_refuses, carries_same, err_gives_none, err_takes_none, given_on_other, given_on_this, on_more, on_stream, one_on_other, one_on_this}
use Rattle.pump_laws.proofs.GaveLemmas.{became_told, failed_told, gave_as, gave_opened, opened_elsewhere, owed_opened, stands_told}

-- ---- the wires of a session

abbrev pub wire_of : ℕ → ℕ → ℕ
wire_of number stream = number * most_streams + stream

pub wires_apart : (n m q r : ℕ) → q < most_streams → r < most_streams → m ≢ n → wire_of m r ≢ wire_of n q
wires_apart n m q r small also apart same = apart (omega (arith, same, small, also))

pub streams_apart : (n q r : ℕ) → r ≢ q → wire_of n r ≢ wire_of n q
streams_apart n q r apart same = apart (omega (arith, same))

number_of : (n q : ℕ) → q < most_streams → wire_of n q / most_streams ≡ n
number_of n q small = omega (arith, small)

stream_in : (n q : ℕ) → q < most_streams → wire_of n q % most_streams ≡ q
stream_in n q small = omega (arith, small)

and_so : (a b : Bool) → a ≡ true → b ≡ true → (a && b) ≡ true
and_so true b is also = also
and_so false b is also = absurd (true≢false (sym is))

pub and_first : (a b : Bool) → (a && b) ≡ true → a ≡ true
and_first true b is = refl
and_first false b is = absurd (true≢false (sym is))

pub and_last : (a b : Bool) → (a && b) ≡ true → b ≡ true
and_last true b is = is
and_last false b is = absurd (true≢false (sym is))

pub and_not : (a b : Bool) → a ≡ false → (a && b) ≡ false
and_not true b is = absurd (true≢false is)
and_not false b is = refl

and_nor : (a b : Bool) → b ≡ false → (a && b) ≡ false
and_nor true b is = is
and_nor false b is = refl

-- what is kept for a session and a stream is of their wire, and of no other
pub of_both : (n q : ℕ) (owing : Owing) → q < most_streams → owing.number ≡ n → owing.stream ≡ q → is_of (wire_of n q) owing ≡ true
of_both n q owing small number stream =
    and_so (owing.number == wire_of n q / most_streams) (owing.stream == wire_of n q % most_streams)
    (eq-eqb owing.number (wire_of n q / most_streams) (number ∙ sym (number_of n q small)))
    (eq-eqb owing.stream (wire_of n q % most_streams) (stream ∙ sym (stream_in n q small)))

pub of_another : (n q : ℕ) (owing : Owing) → q < most_streams → owing.number ≢ n → is_of (wire_of n q) owing ≡ false
of_another n q owing small apart =
    and_not (owing.number == wire_of n q / most_streams) (owing.stream == wire_of n q % most_streams)
    (ne_eqb owing.number (wire_of n q / most_streams) (λ same. apart (same ∙ number_of n q small)))

pub of_another_stream : (n q : ℕ) (owing : Owing) → q < most_streams → owing.stream ≢ q → is_of (wire_of n q) owing ≡ false
of_another_stream n q owing small apart =
    and_nor (owing.number == wire_of n q / most_streams) (owing.stream == wire_of n q % most_streams)
    (ne_eqb owing.stream (wire_of n q % most_streams) (λ same. apart (same ∙ stream_in n q small)))

-- ---- what is told of a wire

-- what a back end tells of a wire stays where it tells something else
pub still_told : (n : ℕ) (e : Ends) (told : Option Told) (change : Told → Told) → ((t : Told) → told_by n (change t) ≡ told_by n t) → Becomes e.standing.told told change
    → told_in_turn n (telling told e) ≡ told_in_turn n e
still_told n e told change same is = stands_told n e (record e.standing { told = told }) (became_told n e.standing.told told change same is)

-- of this wire the back ends were passed nothing more, and tell nothing more
pub record LeavesWire (wire : ℕ) (e f : Ends) : Type 0 where
  pub drifts : Drifts wire e f
  pub told : told_in_turn wire f ≡ told_in_turn wire e

pub leaves_none : (wire : ℕ) (e : Ends) → LeavesWire wire e e
leaves_none wire e = record { drifts = no_drift; told = refl }

leaves_failed : (wire : ℕ) (e f : Ends) → HasFailed e f → LeavesWire wire e f
leaves_failed wire e f h = record { drifts = failed_drifts wire e f h; told = failed_told wire e f h }

leaves_told : (wire : ℕ) (e : Ends) (told : Option Told) (change : Told → Told) → ((t : Told) → on_wire wire (change t).passed ≡ on_wire wire t.passed)
    → ((t : Told) → told_by wire (change t) ≡ told_by wire t) → Becomes e.standing.told told change → LeavesWire wire e (telling told e)
leaves_told wire e told change passed same is = record { drifts = drifts_on no_drift (tells_still wire e told change passed is); told = still_told wire e told change same is }

on_other : (wire other : ℕ) (xs : List (ℕ × Inward)) (item : Inward) → other ≢ wire → on_wire wire (xs ++ (other, item) ∷ []) ≡ on_wire wire xs
on_other wire other xs item apart =
    on_more wire xs ((other, item) ∷ []) ∙ (ap (λ ys. on_wire wire xs ++ ys) (one_on_other wire other item apart) ∙ append-nil (on_wire wire xs))

on_this : (wire : ℕ) (xs : List (ℕ × Inward)) (item : Inward) → on_wire wire (xs ++ (wire, item) ∷ []) ≡ on_wire wire xs ++ item ∷ []
on_this wire xs item = on_more wire xs ((wire, item) ∷ []) ∙ ap (λ ys. on_wire wire xs ++ ys) (one_on_this wire wire item refl)

-- ---- what is kept of a stream

-- what is kept that goes to the back end of this stream
abbrev pub its_kept : ℕ → Option Inward → List Inward
its_kept stream kept = filter (is_for stream) (option_to_list kept)

pub kept_one : (stream : ℕ) (kept : Option Inward) (item : Inward) → kept ≡ Some item → is_for stream item ≡ true → its_kept stream kept ≡ item ∷ []
kept_one stream kept item is for = ap (its_kept stream) is ∙ ap (λ b. cond b (item ∷ []) []) for

pub kept_none : (stream : ℕ) (kept : Option Inward) (item : Inward) → kept ≡ Some item → is_for stream item ≡ false → its_kept stream kept ≡ []
kept_none stream kept item is not_for = ap (its_kept stream) is ∙ ap (λ b. cond b (item ∷ []) []) not_for

-- what goes to the back end of a stream is of that stream, and opens none
pub for_stream : (stream : ℕ) (item : Inward) → is_for stream item ≡ true → stream_of item ≡ stream
for_stream stream (inward.Item number text) for = eqb-true number stream for
for_stream stream (inward.Restart number) for = eqb-true number stream for
for_stream stream (inward.Open number to) for = absurd (true≢false (sym for))
for_stream stream (inward.Close number) for = absurd (true≢false (sym for))

pub for_passes : (stream : ℕ) (item : Inward) → is_for stream item ≡ true → is_opening item ≡ false
for_passes stream (inward.Item number text) for = refl
for_passes stream (inward.Restart number) for = refl
for_passes stream (inward.Open number to) for = absurd (true≢false (sym for))
for_passes stream (inward.Close number) for = refl

pub not_for_other : (stream : ℕ) (item : Inward) → stream_of item ≢ stream → is_for stream item ≡ false
not_for_other stream (inward.Item number text) apart = ne_eqb number stream apart
not_for_other stream (inward.Restart number) apart = ne_eqb number stream apart
not_for_other stream (inward.Open number to) apart = refl
not_for_other stream (inward.Close number) apart = refl

pub not_for_opening : (stream : ℕ) (item : Inward) → is_opening item ≡ true → is_for stream item ≡ false
not_for_opening stream (inward.Item number text) opening = absurd (true≢false (sym opening))
not_for_opening stream (inward.Restart number) opening = absurd (true≢false (sym opening))
not_for_opening stream (inward.Open number to) opening = refl
not_for_opening stream (inward.Close number) opening = absurd (true≢false (sym opening))

-- ---- what was passed on its wire

passed_no_more : (wire : ℕ) (all : List Inward) (stage : Stage) (kept less : List Inward) (e : Ends) → stage ≢ stages.Unopened → (stage ≡ stages.Opened e.failures → ⊥)
    → PassedOf wire all stage kept e → PassedOf wire all stage less e
passed_no_more wire all stage kept less e opened closed (isnt_opened is nothing whole) = absurd (opened is)
passed_no_more wire all stage kept less e opened closed (is_open is spares says) = absurd (closed is)
passed_no_more wire all stage kept less e opened closed (is_no_more was before one) = is_no_more was before one

stage_lost : (wire : ℕ) (all : List Inward) (stage : Stage) (kept less : List Inward) (e : Ends) (on : ℕ) → stage ≡ stages.Opened on
    → PassedOf wire all stage kept e → PassedOf wire all stages.Lost less e
stage_lost wire all stage kept less e on was (isnt_opened is nothing whole) = absurd (not_both stage on is was)
stage_lost wire all stage kept less e on was (is_open is spares says) = is_no_more (λ e. cc) (λ on at. absurd (cc)) (is_one wire all kept e spares says)
stage_lost wire all stage kept less e on was (is_no_more opened before one) = is_no_more (λ e. cc) (λ on at. absurd (cc)) one

-- what is taken is kept
pub item_taken : (wire : ℕ) (all more : List Inward) (stage : Stage) (e : Ends) → PassedOf wire all stage [] e
    → PassedOf wire (all ++ more) stage more e
item_taken wire all more stage e (isnt_opened is nothing whole) = isnt_opened is nothing (ap (λ xs. xs ++ more) whole)
item_taken wire all more stage e (is_open is spares says) = is_open is spares (by (passed_on wire e.standing) says)
  where
    by : (o : Option (List Inward)) → IfSome o (λ passed. all ≡ passed ++ []) → IfSome o (λ passed. all ++ more ≡ passed ++ more)
    by None says = tt
    by (Some passed) says = ap (λ xs. xs ++ more) (says ∙ append-nil passed)
item_taken wire all more stage e (is_no_more opened before one) = is_no_more opened before (record {
  earlier = one.earlier;
  one = one.one;
  later = one.later;
  are = one.are;
  none_earlier = one.none_earlier;
  none_later = one.none_later;
  says = by one.one one.says;
})
  where
    by : (o : Option (List Inward)) → IfSome o (λ passed. Begins passed all) → IfSome o (λ passed. Begins passed (all ++ more))
    by None says = tt
    by (Some passed) (rest, is) = (rest ++ more, ap (λ xs. xs ++ more) is ∙ append_assoc passed rest more)

item_passed : (wire : ℕ) (all : List Inward) (stage : Stage) (item : Inward) (e : Ends) (told : Option Told) → stage ≡ stages.Opened e.failures
    → Becomes e.standing.told told (passed_too wire item) → PassedOf wire all stage (item ∷ []) e → PassedOf wire all stage [] (telling told e)
item_passed wire all stage item e told opening becomes (isnt_opened is nothing whole) = absurd (not_both stage e.failures is opening)
item_passed wire all stage item e told opening becomes (is_open is spares says) = is_open is spares (by e.standing.told told becomes says)
  where
    by : (old new : Option Told) → Becomes old new (passed_too wire item)
        → IfSome (option_map (λ (told : Told). on_wire wire told.passed) old) (λ passed. all ≡ passed ++ item ∷ [])
        → IfSome (option_map (λ (told : Told). on_wire wire told.passed) new) (λ passed. all ≡ passed ++ [])
    by None new is says =
        subst (λ o. IfSome (option_map (λ (told : Told). on_wire wire told.passed) o) (λ passed. all ≡ passed ++ [])) (sym is) tt
    by (Some t) new is says =
        subst (λ o. IfSome (option_map (λ (told : Told). on_wire wire told.passed) o) (λ passed. all ≡ passed ++ [])) (sym is)
        (says ∙ (sym (on_this wire t.passed item) ∙ sym (append-nil (on_wire wire (t.passed ++ (wire, item) ∷ [])))))
item_passed wire all stage item e told opening becomes (is_no_more opened before one) = absurd (omega (arith, before e.failures opening))

-- nothing was passed, and so all that was taken is kept
unpassed : (wire : ℕ) (all : List Inward) (kept : List Inward) (e : Ends) → Every IsNothing (passed_in_turn wire e) → all ≡ kept
    → IfSome (passed_on wire e.standing) (λ passed. all ≡ passed ++ kept)
unpassed wire all kept e nothing whole = by (passed_on wire e.standing) (standing_nothing wire e nothing)
  where
    by : (o : Option (List Inward)) → IsNothing o → IfSome o (λ passed. all ≡ passed ++ kept)
    by None empty = tt
    by (Some passed) empty = whole ∙ ap (λ xs. xs ++ kept) (sym empty)

now_open : (wire : ℕ) (all : List Inward) (stage : Stage) (kept : List Inward) (e : Ends) (told : Option Told) (change : Told → Told)
    → ((t : Told) → on_wire wire (change t).passed ≡ on_wire wire t.passed) → stage ≡ stages.Unopened → Becomes e.standing.told told change
    → PassedOf wire all stage kept e → PassedOf wire all (stages.Opened e.failures) kept (telling told e)
now_open wire all stage kept e told change same unopened is (isnt_opened was nothing whole) =
    is_open refl (spares_nothing wire e nothing)
    (subst (λ o. IfSome o (λ passed. all ≡ passed ++ kept)) (sym (became_still wire e.standing.told told change same is)) (unpassed wire all kept e nothing whole))
now_open wire all stage kept e told change same unopened is (is_open at spares says) = absurd (not_both stage e.failures unopened at)
now_open wire all stage kept e told change same unopened is (is_no_more opened before one) = absurd (opened unopened)

open_in_vain : (wire : ℕ) (all : List Inward) (stage : Stage) (kept : List Inward) (e f : Ends) → stage ≡ stages.Unopened → HasFailed e f → CanFail f
    → PassedOf wire all stage kept e → PassedOf wire all (stages.Opened e.failures) kept f
open_in_vain wire all stage kept e f unopened h few (isnt_opened was nothing whole) =
    is_no_more (λ e. cc) (λ on at. omega (arith, some_number (stages.Opened e.failures) on e.failures at refl, failed_more e f h few))
    (drifts_one wire e f (failed_drifts wire e f h) _ (is_one wire all kept e (spares_nothing wire e nothing) (unpassed wire all kept e nothing whole)))
open_in_vain wire all stage kept e f unopened h few (is_open at spares says) = absurd (not_both stage e.failures unopened at)
open_in_vain wire all stage kept e f unopened h few (is_no_more opened before one) = absurd (opened unopened)

-- ---- what a move of a stream does

-- what was given of its session, as it was when it was kept
pub gave_taken : (n : ℕ) (all more : List (List ℕ)) (stage : Stage) (owing : Owing) (kept : Option Owing) (told : List (Option ToldFor)) → more ≡ option_to_list (stanza_in owing.given)
    → GaveOf n all stage (Some owing) kept told → GaveOf n (all ++ more) stage None kept told
gave_taken n all more stage owing kept told is it =
    let opened : stage ≢ stages.Unopened = owed_opened n all stage owing kept told it in
    subst (λ xs. GaveOf n (all ++ xs) stage None kept told) (sym is)
    (gave_as n all (all ++ option_to_list (stanza_in owing.given)) stage stage (Some owing) None kept kept told opened
    (sym (append_assoc all (option_to_list (stanza_in owing.given)) (stanzas_kept n kept))) opened it)

lost_gives : (n : ℕ) (all : List (List ℕ)) (stage : Stage) (owed kept : Option Owing) (told : List (Option ToldFor)) (on : ℕ) → stage ≡ stages.Opened on
    → GaveOf n all stage owed kept told → GaveOf n all stages.Lost owed kept told
lost_gives n all stage owed kept told on was it =
    gave_as n all all stage stages.Lost owed owed kept kept told (λ e. cc) refl (λ unopened. not_both stage on unopened was) it

same_becomes : (o : Option Told) → Becomes o o (λ told. told)
same_becomes None = refl
same_becomes (Some told) = refl

-- what its side owes was given on it
abbrev pub OwesOwn : Side → Type 0
OwesOwn side = IfSome side.owed (λ owing. owing.stream ≡ side.stream)

-- the item that was kept is kept no longer: it was of this stream, and opened none
pub record LetsGo (s t : Strand) : Type 0 where
  pub item : Inward
  pub was : s.kept ≡ Some item
  pub is : t.kept ≡ None
  pub of : stream_of item ≡ s.side.stream
  pub passes : is_opening item ≡ false

-- what stays of a stream, and what becomes of it: its side goes on being that of the stream at its host; its session gave it what it owed, or
-- nothing; and what goes over other wires is as before
pub record Steps (s t : Strand) : Type 0 where
  pub stream : t.side.stream ≡ s.side.stream
  pub wire : t.side.wire ≡ s.side.wire
  pub host : t.side.host ≡ s.side.host
  pub owed : (t.side.owed ≡ s.side.owed) ⊎ (t.side.owed ≡ None)
  pub kept : (t.kept ≡ s.kept) ⊎ LetsGo s t
  pub gave : List Handed
  pub brings : Brings gave s.known t.known
  pub apart : (number : ℕ) → s.side.stream ≢ number → on_wire number gave ≡ []
  pub others : (wire : ℕ) → s.side.wire ≢ wire → LeavesWire wire s.ends t.ends
  pub passed : (all : List Inward) → CanFail t.ends → (CanFail s.ends → PassedOf s.side.wire all s.side.stage (its_kept s.side.stream s.kept) s.ends)
      → PassedOf s.side.wire all t.side.stage (its_kept s.side.stream t.kept) t.ends
  pub gives : (all : List (List ℕ)) (kept : Option Owing) → GaveOf s.side.wire all s.side.stage s.side.owed kept (told_in_turn s.side.wire s.ends)
      → GaveOf s.side.wire (all ++ on_wire s.side.stream gave) t.side.stage t.side.owed kept (told_in_turn s.side.wire t.ends)

-- its session is called, and nothing comes of it
known_steps : (s : Strand) (new : Known Entry) → Carries s.known new → Steps s (record s { known = new })
known_steps s new carries = record {
  stream = refl;
  wire = refl;
  host = refl;
  owed = inl refl;
  kept = inl refl;
  gave = [];
  brings = carries;
  apart = λ number away. refl;
  others = λ wire away. leaves_none wire s.ends;
  passed = λ all few was. was few;
  gives = λ all kept it. subst (λ xs. GaveOf s.side.wire xs s.side.stage s.side.owed kept (told_in_turn s.side.wire s.ends)) (sym (append-nil all)) it;
}

-- a back end is called, or changes, and nothing comes to its session
ends_steps : (s : Strand) (kept : Option Inward) (stage : Stage) (ends : Ends) → (kept ≡ s.kept) ⊎ LetsGo s (record s { kept = kept; ends = ends; side = record s.side { stage = stage } })
    → ((wire : ℕ) → s.side.wire ≢ wire → LeavesWire wire s.ends ends)
    → ((all : List Inward) → CanFail ends → (CanFail s.ends → PassedOf s.side.wire all s.side.stage (its_kept s.side.stream s.kept) s.ends)
    → PassedOf s.side.wire all stage (its_kept s.side.stream kept) ends)
    → ((all : List (List ℕ)) (keeps : Option Owing) → GaveOf s.side.wire all s.side.stage s.side.owed keeps (told_in_turn s.side.wire s.ends)
    → GaveOf s.side.wire all stage s.side.owed keeps (told_in_turn s.side.wire ends))
    → Steps s (record s { kept = kept; ends = ends; side = record s.side { stage = stage } })
ends_steps s kept stage ends lets others passed hands = record {
  stream = refl;
  wire = refl;
  host = refl;
  owed = inl refl;
  kept = lets;
  gave = [];
  brings = carries_same s.known s.known refl;
  apart = λ number away. refl;
  others = others;
  passed = passed;
  gives = λ all keeps it. subst (λ xs. GaveOf s.side.wire xs stage s.side.owed keeps (told_in_turn s.side.wire ends)) (sym (append-nil all)) (hands all keeps it);
}

-- of the wire nothing is told but what is told of others too
still_steps : (s : Strand) (ends : Ends) → ((wire : ℕ) → LeavesWire wire s.ends ends) → Steps s (record s { ends = ends })
still_steps s ends leaves =
    ends_steps s s.kept s.side.stage ends (inl refl) (λ wire away. leaves wire)
    (λ all few was. drifts_passed s.side.wire all s.side.stage (its_kept s.side.stream s.kept) s.ends ends (leaves s.side.wire).drifts few
    (was (drifts_few s.side.wire s.ends ends (leaves s.side.wire).drifts few)))
    (λ all keeps it. subst (GaveOf s.side.wire all s.side.stage s.side.owed keeps) (sym (leaves s.side.wire).told) it)

-- the wire was open, and is no more
lost_steps : (s : Strand) (kept : Option Inward) (ends : Ends) → (kept ≡ s.kept) ⊎ LetsGo s (record s { kept = kept; ends = ends; side = record s.side { stage = stages.Lost } })
    → s.side.stage ≡ stages.Opened s.ends.failures → ((wire : ℕ) → LeavesWire wire s.ends ends) → Steps s (record s { kept = kept; ends = ends; side = record s.side { stage = stages.Lost } })
lost_steps s kept ends lets opening leaves =
    ends_steps s kept stages.Lost ends lets (λ wire away. leaves wire)
    (λ all few was. stage_lost s.side.wire all s.side.stage (its_kept s.side.stream s.kept) (its_kept s.side.stream kept) ends s.ends.failures opening
    (drifts_passed s.side.wire all s.side.stage (its_kept s.side.stream s.kept) s.ends ends (leaves s.side.wire).drifts few
    (was (drifts_few s.side.wire s.ends ends (leaves s.side.wire).drifts few))))
    (λ all keeps it. lost_gives s.side.wire all s.side.stage s.side.owed keeps (told_in_turn s.side.wire ends) s.ends.failures opening
    (subst (GaveOf s.side.wire all s.side.stage s.side.owed keeps) (sym (leaves s.side.wire).told) it))

telling_leaves : (s : Strand) (told : Option Told) (change : Told → Told) → ((wire : ℕ) (t : Told) → on_wire wire (change t).passed ≡ on_wire wire t.passed)
    → ((wire : ℕ) (t : Told) → told_by wire (change t) ≡ told_by wire t) → Becomes s.ends.standing.told told change → (wire : ℕ) → LeavesWire wire s.ends (telling told s.ends)
telling_leaves s told change passed same is wire = leaves_told wire s.ends told change (passed wire) (same wire) is

opens_steps : (s : Strand) (told : Option Told) → s.side.stage ≡ stages.Unopened → Becomes s.ends.standing.told told (opened_too s.side.wire s.ends.name)
    → Steps s (record s { ends = telling told s.ends; side = record s.side { stage = stages.Opened s.ends.failures } })
opens_steps s told unopened is =
    ends_steps s s.kept (stages.Opened s.ends.failures) (telling told s.ends) (inl refl)
    (λ wire away. leaves_told wire s.ends told (opened_too s.side.wire s.ends.name) (λ t. refl) (λ (t : Told). opened_elsewhere wire s.side.wire s.ends.name t away) is)
    (λ all few was. now_open s.side.wire all s.side.stage (its_kept s.side.stream s.kept) s.ends told (opened_too s.side.wire s.ends.name) (λ t. refl) unopened is (was few))
    (λ all keeps it. gave_opened s.side.wire all s.side.stage (stages.Opened s.ends.failures) s.side.owed keeps s.ends (record s.ends.standing { told = told }) (opened_too s.side.wire s.ends.name)
    (λ t. refl) unopened (λ e. cc) is it)

in_vain_steps : (s : Strand) (ends : Ends) → s.side.stage ≡ stages.Unopened → HasFailed s.ends ends
    → Steps s (record s { ends = ends; side = record s.side { stage = stages.Opened s.ends.failures } })
in_vain_steps s ends unopened h =
    ends_steps s s.kept (stages.Opened s.ends.failures) ends (inl refl) (λ wire away. leaves_failed wire s.ends ends h)
    (λ all few was. open_in_vain s.side.wire all s.side.stage (its_kept s.side.stream s.kept) s.ends ends unopened h few
    (was (drifts_few s.side.wire s.ends ends (failed_drifts s.side.wire s.ends ends h) few)))
    (λ all keeps it. subst (GaveOf s.side.wire all (stages.Opened s.ends.failures) s.side.owed keeps) (sym (failed_told s.side.wire s.ends ends h))
    (gave_opened s.side.wire all s.side.stage (stages.Opened s.ends.failures) s.side.owed keeps s.ends s.ends.standing (λ told. told) (λ t. refl) unopened (λ e. cc)
    (same_becomes s.ends.standing.told) it))

passes_steps : (s : Strand) (item : Inward) (told : Option Told) → s.side.stage ≡ stages.Opened s.ends.failures → s.kept ≡ Some item → is_for s.side.stream item ≡ true
    → Becomes s.ends.standing.told told (passed_too s.side.wire item) → Steps s (record s { ends = telling told s.ends; kept = None })
passes_steps s item told opening has for is =
    ends_steps s None s.side.stage (telling told s.ends)
    (inr (record { item = item; was = has; is = refl; of = for_stream s.side.stream item for; passes = for_passes s.side.stream item for }))
    (λ wire away. leaves_told wire s.ends told (passed_too s.side.wire item) (λ (t : Told). on_other wire s.side.wire t.passed item away) (λ t. refl) is)
    (λ all few was. item_passed s.side.wire all s.side.stage item s.ends told opening is
    (subst (λ xs. PassedOf s.side.wire all s.side.stage xs s.ends) (kept_one s.side.stream s.kept item has for) (was few)))
    (λ all keeps it. subst (GaveOf s.side.wire all s.side.stage s.side.owed keeps) (sym (still_told s.side.wire s.ends told (passed_too s.side.wire item) (λ t. refl) is)) it)

fails_steps : (s : Strand) (item : Inward) (ends : Ends) → s.side.stage ≡ stages.Opened s.ends.failures → s.kept ≡ Some item → is_for s.side.stream item ≡ true → HasFailed s.ends ends
    → Steps s (record s { ends = ends; kept = None })
fails_steps s item ends opening has for h =
    ends_steps s None s.side.stage ends
    (inr (record { item = item; was = has; is = refl; of = for_stream s.side.stream item for; passes = for_passes s.side.stream item for }))
    (λ wire away. leaves_failed wire s.ends ends h)
    (λ all few was. passed_no_more s.side.wire all s.side.stage (its_kept s.side.stream s.kept) [] ends (λ unopened. not_both s.side.stage s.ends.failures unopened opening)
    (λ still. omega (arith, some_number s.side.stage s.ends.failures ends.failures opening still, failed_more s.ends ends h few))
    (drifts_passed s.side.wire all s.side.stage (its_kept s.side.stream s.kept) s.ends ends (failed_drifts s.side.wire s.ends ends h) few
    (was (drifts_few s.side.wire s.ends ends (failed_drifts s.side.wire s.ends ends h) few))))
    (λ all keeps it. subst (GaveOf s.side.wire all s.side.stage s.side.owed keeps) (sym (failed_told s.side.wire s.ends ends h)) it)

lets_go_steps : (s : Strand) (item : Inward) → s.kept ≡ Some item → stream_of item ≡ s.side.stream → is_opening item ≡ false → s.side.stage ≢ stages.Unopened
    → (s.side.stage ≡ stages.Opened s.ends.failures → ⊥) → Steps s (record s { kept = None })
lets_go_steps s item has of passing opened closed =
    ends_steps s None s.side.stage s.ends (inr (record { item = item; was = has; is = refl; of = of; passes = passing })) (λ wire away. leaves_none wire s.ends)
    (λ all few was. passed_no_more s.side.wire all s.side.stage (its_kept s.side.stream s.kept) [] s.ends opened closed (was few))
    (λ all keeps it. it)

tells_steps : (s : Strand) (new : Known Entry) (on : ℕ) → s.side.stage ≡ stages.Opened on → Carries s.known new → Steps s (record s { known = new; side = record s.side { stage = stages.Lost } })
tells_steps s new on was carries = record {
  stream = refl;
  wire = refl;
  host = refl;
  owed = inl refl;
  kept = inl refl;
  gave = [];
  brings = carries;
  apart = λ number away. refl;
  others = λ wire away. leaves_none wire s.ends;
  passed = λ all few before. stage_lost s.side.wire all s.side.stage (its_kept s.side.stream s.kept) (its_kept s.side.stream s.kept) s.ends on was (before few);
  gives = λ all kept it. subst (λ xs. GaveOf s.side.wire xs stages.Lost s.side.owed kept (told_in_turn s.side.wire s.ends)) (sym (append-nil all))
      (lost_gives s.side.wire all s.side.stage s.side.owed kept (told_in_turn s.side.wire s.ends) on was it);
}

owes_this : (side : Side) (owing : Owing) → side.owed ≡ Some owing → OwesOwn side → owing.stream ≡ side.stream
owes_this side owing owes own = subst (λ (o : Option Owing). IfSome o (λ owing. owing.stream ≡ side.stream)) owes own

-- what it owes is given
gives_steps : (s : Strand) (new : Known Entry) (owing : Owing) (ends : Ends) → s.side.owed ≡ Some owing → OwesOwn s.side → Brings (on_stream owing.stream owing.given) s.known new
    → ((wire : ℕ) → LeavesWire wire s.ends ends) → Steps s (record s { known = new; side = record s.side { owed = None }; ends = ends })
gives_steps s new owing ends owes own brings leaves = record {
  stream = refl;
  wire = refl;
  host = refl;
  owed = inr refl;
  kept = inl refl;
  gave = on_stream owing.stream owing.given;
  brings = brings;
  apart = λ number away. given_on_other number owing.stream owing.given (λ same. away (sym (owes_this s.side owing owes own) ∙ same));
  others = λ wire away. leaves wire;
  passed = λ all few was. drifts_passed s.side.wire all s.side.stage (its_kept s.side.stream s.kept) s.ends ends (leaves s.side.wire).drifts few
      (was (drifts_few s.side.wire s.ends ends (leaves s.side.wire).drifts few));
  gives = λ all kept it. gave_taken s.side.wire all (on_wire s.side.stream (on_stream owing.stream owing.given)) s.side.stage owing kept (told_in_turn s.side.wire ends)
      (given_on_this s.side.stream owing.stream owing.given (owes_this s.side owing owes own))
      (subst (GaveOf s.side.wire all s.side.stage (Some owing) kept) (sym (leaves s.side.wire).told)
      (subst (λ (o : Option Owing). GaveOf s.side.wire all s.side.stage o kept (told_in_turn s.side.wire s.ends)) owes it));
}

pub move_steps : (moment : Option ℕ) (s t : Strand) → StrandMove moment s t → OwesOwn s.side → Steps s t
move_steps moment s t (wants new call error c) own = known_steps s new (carries_call call (Err error) s.known new (err_takes_none call error) (err_gives_none call error) c)
move_steps moment s t (opens told unopened is) own = opens_steps s told unopened is
move_steps moment s t (fails_to_open ends unopened h) own = in_vain_steps s ends unopened h
move_steps moment s t (passes item told opening has for is) own = passes_steps s item told opening has for is
move_steps moment s t (fails_at item ends opening has for h) own = fails_steps s item ends opening has for h
move_steps moment s t (closes told opening has is) own =
    lost_steps s None (telling told s.ends) (inr (record { item = inward.Close s.side.stream; was = has; is = refl; of = refl; passes = refl })) opening
    (telling_leaves s told (closed_too s.side.wire) (λ wire t. refl) (λ wire t. refl) is)
move_steps moment s t (fails_to_close ends opening has h) own =
    lost_steps s None ends (inr (record { item = inward.Close s.side.stream; was = has; is = refl; of = refl; passes = refl })) opening (λ wire. leaves_failed wire s.ends ends h)
move_steps moment s t (lets_go item has of passing opened closed) own = lets_go_steps s item has of passing opened closed
move_steps moment s t (does_nothing told is) own = still_steps s (telling told s.ends) (telling_leaves s told (λ told. told) (λ wire t. refl) (λ wire t. refl) is)
move_steps moment s t (tells_cut new now reply cut at c) own =
    tells_steps s new cut.0 cut.1 (carries_call (calls.BackClosed s.side.stream RemoteConnectionFailed now) (Ok reply) s.known new refl refl c)
move_steps moment s t (asks_room owing new owes asked) own = known_steps s new (carries_asked s.known new asked)
move_steps moment s t (refuses owing new owes once) own =
    known_steps s new (carries_once owing (Refuses moment owing.stream owing.given) (λ k m r. carries_refuses moment owing.stream owing.given k m r) s.known new once)
move_steps moment s t (gives owing new told owes once opening is) own =
    gives_steps s new owing (telling told s.ends) owes own
    (brings_once (on_stream owing.stream owing.given) owing (Takes moment owing.stream owing.given) (λ k m r. brings_taken moment owing.stream owing.given k m r) s.known new once)
    (telling_leaves s told (resumed_too owing.wire) (λ wire t. refl) (λ wire t. refl) is)
move_steps moment s t (gives_last owing new owes once closed) own =
    gives_steps s new owing s.ends owes own
    (brings_once (on_stream owing.stream owing.given) owing (Takes moment owing.stream owing.given) (λ k m r. brings_taken moment owing.stream owing.given k m r) s.known new once)
    (λ wire. leaves_none wire s.ends)

-- and the closing of a wire whose session is to be removed
pub closing_steps : (s t : Strand) (result : Result ⊤ AllocError) → ClosesWire s t result → Steps s t
closing_steps s t result (closes_it told opening is) =
    lost_steps s s.kept (telling told s.ends) (inl refl) opening (telling_leaves s told (closed_too s.side.wire) (λ wire t. refl) (λ wire t. refl) is)
closing_steps s t result (fails_at_it ends opening h) = still_steps s ends (λ wire. leaves_failed wire s.ends ends h)
closing_steps s t result (turns.wants_memory told error is) = still_steps s (telling told s.ends) (telling_leaves s told (λ told. told) (λ wire t. refl) (λ wire t. refl) is)
