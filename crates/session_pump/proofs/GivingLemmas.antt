-- What becomes of what is given to a session, and moves with it.
use Rattle.std.proofs.Common.{◌≡◌, ◌≢◌, ◌/◌, ◌+◌, ◌<◌, ℕ, zero, suc, Bool, List, [], ◌∷◌, length, Option, Some, None, Result, Ok, Err, refl, sym, subst, ap, ◌∙◌, false, true≢false}
use Rattle.std.specs.Bool.{⊤}
use Rattle.std.specs.Prelude.{IfSome, is_some, not, ◌||◌, ◌&&◌, ◌==◌, ◌%◌, true, slice_get}
use Rattle.std.specs.List.{list_any}
use Rattle.std.proofs.lemmas.Option.{none-some, same_Some}
use Rattle.std.specs.Result.{IsErr}
use Rattle.std.specs.declared.alloc.AllocError.{AllocError}
use Rattle.bosh_types.specs.declared.ending.Closing.{Closing}
use Rattle.bosh_types.specs.declared.ending.Ending.{Ending}
use Rattle.parked_gate.specs.Passes.{Known, Looks}
use Rattle.session_core.specs.declared.replies.Taken.{Taken}
use Rattle.session_core.specs.declared.replies.Taken.TheVariants as takings
use Rattle.session_core.specs.declared.replies.Waiting.{Waiting}
use Rattle.session_journal.specs.declared.asking.Answer.{Answer}
use Rattle.session_journal.specs.declared.asking.Answer.TheVariants as answers
use Rattle.session_journal.specs.declared.asking.Question.TheVariants as questions
use Rattle.session_journal.specs.Seen.{Answers}
use Rattle.session_journal.specs.declared.call.Call.{Call}
use Rattle.session_journal.specs.declared.call.Call.TheVariants as calls
use Rattle.session_journal.specs.declared.call.Reply.{Reply}
use Rattle.session_journal.specs.declared.call.Reply.TheVariants as replies
use Rattle.session_journal.specs.declared.entry.Entry.{Entry}
use Rattle.session_table.specs.Purses.{OthersStay, Sessions, Turned, held}
use Rattle.xmpp_backend.specs.Counts.{counted_on}
use Rattle.xmpp_backend.specs.Told.{given_too, held_too}
use Rattle.xmpp_backend.specs.declared.backend.Given.{Given}
use Rattle.xmpp_backend.specs.declared.backend.Given.TheVariants as given
use Rattle.session_pump.specs.Ends.{Changes, Ends, GivesOn, HasFailed, Shifts, answering, idling}
use Rattle.session_pump.specs.Taking.{FindsNoRoom, Gives, HasRoom, IsAsked, IsReady, LacksRoom, OnceReady, Refuses, Takes, Tried, called, finds_room, has_room, is_full, lacks_room}
use Rattle.session_pump.specs.Giving.{ComesFirst, is_open_here, is_opened_at, owes_on, GiveMoves, GivesOnce, GivesTimes, HadNoRoom, HostSide, PollGave, PollsHost, RunsDry, again, asks, does_nothing, fails, finds_nothing, gives, had_no_room, had_nothing, had_one_before, has_failed, is_held, is_refused, lets_go, more, most_polls, moves, never, none, polls, wants_memory}
use Rattle.session_pump.specs.Pumping.{LineTurns, Lines, line_of}
use Rattle.session_pump.specs.declared.line.Line.{Line}
use Rattle.session_pump.specs.declared.line.Side.{Side}
use Rattle.session_pump.specs.Sides.{line_facts, with_side}
use Rattle.session_pump.specs.Calling.{Called, ClosesStream, IsAt}
use Rattle.bosh_types.specs.Limits.{most_streams}
use Rattle.session_pump.specs.declared.line.Owing.{Owing}
use Rattle.session_pump.specs.declared.giving.Giving.{Giving}
use Rattle.session_pump.specs.declared.giving.Giving.TheVariants as givings
use Rattle.session_pump.proofs.MovesLemmas.{ends_are}
use Rattle.session_pump.proofs.TurnedLemmas.{some_same, turned_as, turned_then}

says_so : (moment : Option ℕ) (now stream : ℕ) (text : List ℕ) (giving : Giving) (reply : Reply) (k m : Known Entry)
    → (giving ≡ givings.Done → (taken : Taken) × (reply ≡ replies.Back taken) × (taken ≢ takings.Full)) → (giving ≡ givings.Full → reply ≡ replies.Back takings.Full)
    → IsAt moment now → Called (calls.Back stream text now) (Ok reply) k m → Gives moment stream (given.Stanza text) (Ok giving) k m
says_so moment now stream text givings.Done reply k m done full at call =
    let taken = done refl in
    (now, taken.0, at, taken.2, subst (λ r. Called (calls.Back stream text now) (Ok r) k m) taken.1 call)
says_so moment now stream text givings.Full reply k m done full at call = (now, at, subst (λ r. Called (calls.Back stream text now) (Ok r) k m) (full refl) call)

-- a stanza was given
pub given_so : (moment : Option ℕ) (number now stream : ℕ) (text text' : List ℕ) (giving : Giving) (reply : Reply) (a b : Sessions)
    → (giving ≡ givings.Done → (taken : Taken) × (reply ≡ replies.Back taken) × (taken ≢ takings.Full)) → (giving ≡ givings.Full → reply ≡ replies.Back takings.Full)
    → text' ≡ text → IsAt moment now → Turned number a b (Called (calls.Back stream text' now) (Ok reply))
    → Turned number a b (Gives moment stream (given.Stanza text) (Ok giving))
given_so moment number now stream text text' giving reply a b done full same at turned =
    turned_as number a b (Called (calls.Back stream text' now) (Ok reply)) (Gives moment stream (given.Stanza text) (Ok giving))
    (λ k m call. says_so moment now stream text giving reply k m done full at
    (subst (λ t. Called (calls.Back stream t now) (Ok reply) k m) same call))
    turned

-- there was no memory for the call
pub tried_so : (number : ℕ) (a b : Sessions) (call : Call) (error : AllocError) → Turned number a b (Called call (Err error)) → Turned number a b Tried
tried_so number a b call error turned = turned_as number a b (Called call (Err error)) Tried (λ k m made. called call error made) turned

-- the stream was to be closed, and there was no memory
pub close_tried : (moment : Option ℕ) (number stream : ℕ) (closing : Closing) (a b : Sessions) (error : AllocError) → Turned number a b (ClosesStream moment stream closing (Err error)) → Turned number a b Tried
close_tried moment number stream closing a b error turned =
    turned_as number a b (ClosesStream moment stream closing (Err error)) Tried (λ k m made. called (calls.BackClosed stream closing made.0) error made.1) turned

-- what isn't so for the one is so for the other
pub owing_so : (b : Bool) → not b ≡ false → b ≡ true
owing_so true is = refl
owing_so false is = absurd (true≢false is)

-- a side that was found stands in the line that the session has
pub found_here : (lines : Lines) (number stream place failures : ℕ) (line : Line) (found : Option ℕ) → line_of lines number ≡ Some line
    → IfSome found (λ at. at < length line.sides.items)
    → IfSome found (λ at. (side : Side) × (slice_get line.sides.items at ≡ Some side) × (is_open_here stream place failures side ≡ true))
    → IfSome found (λ at. (line : Line) × (side : Side) × (line_of lines number ≡ Some line) × (at < length line.sides.items)
    × (slice_get line.sides.items at ≡ Some side) × (is_open_here stream place failures side ≡ true))
found_here lines number stream place failures line None is within here = tt
found_here lines number stream place failures line (Some at) is within here = (line, here.0, is, within, here.1, here.2)

-- a host at this place with this kept, these back ends, sessions and lines
abbrev pub host : ℕ → Option Owing → Ends → Sessions → Lines → HostSide
host place kept ends sessions lines = record { place = place; kept = kept; ends = ends; sessions = sessions; lines = lines }

pub gives_then : {moment : Option ℕ} {h i j : HostSide} → GiveMoves moment h i → GiveMoves moment i j → GiveMoves moment h j
gives_then first none = first
gives_then first (more rest last) = more (gives_then first rest) last

pub looks_any : {P : List Entry → Type 0} {k m : Known Entry} → Looks P k m → Looks (λ _. Unit {0}) k m
looks_any looks = record { begins = looks.begins; says = tt; mine = looks.mine; earlier = looks.earlier; learnt = looks.learnt }

-- it was given once that was ready
pub once_ready : (number : ℕ) (owing : Owing) (s t u : Sessions) (Given : Known Entry → Known Entry → Type 0) → Turned number s t (IsReady owing) → Turned number t u Given
    → Turned number s u (OnceReady owing Given)
once_ready number owing s t u Given ready turned = turned_then number s t u (IsReady owing) Given (OnceReady owing Given) (λ k l m is given. (l, is, given)) ready turned

both_stay : (number : ℕ) (s t u : Sessions) → OthersStay number s t → OthersStay number t u → OthersStay number s u
both_stay number s t u first second other apart = second other apart ∙ first other apart

idled_as : (place : ℕ) (R : HostSide → Type 0) (kept kept' : Option Owing) (e f : Ends) (s : Sessions) (l : Lines) → kept' ≡ kept
    → Shifts (λ told. told) counted_on (λ count. count) e f
    → R (host place kept (idling f.standing.told e) s l) → R (host place kept' f s l)
idled_as place R kept kept' e f s l same shifts is =
    subst (λ (k : Option Owing). R (host place k f s l)) (sym same)
    (subst (λ (ends : Ends). R (host place kept ends s l)) (ends_are (λ told. told) counted_on (λ count. count) e f shifts) is)

and_left : (x y : Bool) → (x && y) ≡ true → x ≡ true
and_left true y is = refl
and_left false y is = is

-- nothing waits with the side of this stream
owes_none : (stream : ℕ) (sides : List Side) (at : ℕ) (side : Side) → list_any (owes_on stream) sides ≡ false → slice_get sides at ≡ Some side → (side.stream == stream) ≡ true
    → side.owed ≡ None
owes_none stream [] at side clear is of = absurd (none-some side is)
owes_none stream (x ∷ xs) zero side clear is of =
    by side.owed (subst (λ (b : Bool). (b && is_some side.owed) ≡ false) of
    (subst (λ (y : Side). owes_on stream y ≡ false) (same_Some x side is) (or_left (owes_on stream x) (list_any (owes_on stream) xs) clear)))
  where
    by : (o : Option Owing) → is_some o ≡ false → o ≡ None
    by None is = refl
    by (Some owing) is = absurd (true≢false is)

    or_left : (x y : Bool) → (x || y) ≡ false → x ≡ false
    or_left false y is = refl
    or_left true y is = absurd (true≢false is)
owes_none stream (x ∷ xs) (suc at) side clear is of = owes_none stream xs at side (or_right (owes_on stream x) (list_any (owes_on stream) xs) clear) is of
  where
    or_right : (x y : Bool) → (x || y) ≡ false → y ≡ false
    or_right false y is = is
    or_right true y is = absurd (true≢false is)

-- the side that was found is the one that was lent
pub here_so : (place : ℕ) (l : Lines) (number stream failures at : ℕ) (line : Line) (side : Side)
    → (found : Line) × (it : Side) × (line_of l number ≡ Some found) × (at < length found.sides.items) × (slice_get found.sides.items at ≡ Some it)
    × (is_open_here stream place failures it ≡ true) → line_of l number ≡ Some line → slice_get line.sides.items at ≡ Some side → is_open_here stream place failures side ≡ true
here_so place l number stream failures at line side found is there =
    let same : found.0 ≡ line = some_same found.0 line (sym found.2 ∙ is) in
    let it : found.1 ≡ side = some_same found.1 side (sym found.4 ∙ subst (λ (x : Line). slice_get x.sides.items at ≡ Some side) (sym same) there) in
    subst (λ (s : Side). is_open_here stream place failures s ≡ true) it found.5

module _ {moment : Option ℕ} {place : ℕ} where
  -- its session is no more
  pub is_gone : (kept : Option Owing) (owing : Owing) (ends : Ends) (s : Sessions) (l : Lines) → kept ≡ Some owing → held s owing.number ≡ None
      → GiveMoves moment (host place kept ends s l) (host place None ends s l)
  is_gone kept owing ends s l is gone = more none (lets_go owing is gone)

  pub kept_by : (kept : Option Owing) (owing : Owing) (ends : Ends) (s : Sessions) (l : Lines) (h : HostSide) → kept ≡ Some owing
      → GiveMoves moment (host place (Some owing) ends s l) h → GiveMoves moment (host place kept ends s l) h
  kept_by kept owing ends s l h is = subst (λ (k : Option Owing). GiveMoves moment (host place k ends s l) h) (sym is)

  -- its session was asked for room
  pub is_asked : (kept : Option Owing) (owing : Owing) (ends : Ends) (s t : Sessions) (l : Lines) → kept ≡ Some owing
      → Turned owing.number s t IsAsked → OthersStay owing.number s t → GiveMoves moment (host place kept ends s l) (host place (Some owing) ends t l)
  is_asked kept owing ends s t l is turned others = kept_by kept owing ends s l (host place (Some owing) ends t l) is (more none (asks owing t refl turned others))

  -- its session took it
  pub is_taken : (kept : Option Owing) (owing : Owing) (ends : Ends) (s t u : Sessions) (l : Lines) (giving : Giving) → kept ≡ Some owing → giving ≡ givings.Done
      → ComesFirst owing.number owing.stream l → Turned owing.number s t (IsReady owing) → OthersStay owing.number s t
      → Turned owing.number t u (Gives moment owing.stream owing.given (Ok giving)) → OthersStay owing.number t u
      → GiveMoves moment (host place kept ends s l) (host place None ends u l)
  is_taken kept owing ends s t u l giving is done first ready stay turned others =
      kept_by kept owing ends s l (host place None ends u l) is
      (more none (gives owing u refl first
      (once_ready owing.number owing s t u (Takes moment owing.stream owing.given) ready (subst (λ g. Turned owing.number t u (Gives moment owing.stream owing.given (Ok g))) done turned))
      (both_stay owing.number s t u stay others)))

  -- its session has no room
  pub is_full_for : (kept : Option Owing) (owing later : Owing) (ends : Ends) (s t u : Sessions) (l : Lines) (giving : Giving) → kept ≡ Some owing → giving ≡ givings.Full
      → ComesFirst owing.number owing.stream l → later.number ≡ owing.number → later.stream ≡ owing.stream → later.wire ≡ owing.wire → later.given ≡ owing.given → later.was_refused ≡ true
      → Turned owing.number s t (IsReady owing) → OthersStay owing.number s t
      → Turned owing.number t u (Gives moment owing.stream owing.given (Ok giving)) → OthersStay owing.number t u
      → GiveMoves moment (host place kept ends s l) (host place (Some later) ends u l)
  is_full_for kept owing later ends s t u l giving is full first number of wire same marked ready stay turned others =
      kept_by kept owing ends s l (host place (Some later) ends u l) is
      (more none (is_refused owing later u refl first number of wire same marked
      (once_ready owing.number owing s t u (Refuses moment owing.stream owing.given) ready (subst (λ g. Turned owing.number t u (Gives moment owing.stream owing.given (Ok g))) full turned))
      (both_stay owing.number s t u stay others)))

  -- there was no memory for it
  pub is_wanted : (kept : Option Owing) (owing : Owing) (ends : Ends) (s t u : Sessions) (l : Lines) → kept ≡ Some owing
      → Turned owing.number s t IsAsked → OthersStay owing.number s t → Turned owing.number t u Tried → OthersStay owing.number t u
      → GiveMoves moment (host place kept ends s l) (host place (Some owing) ends u l)
  is_wanted kept owing ends s t u l is asked stay turned others =
      gives_then (is_asked kept owing ends s t l is asked stay) (more none (wants_memory owing.number u turned others))

  -- it had nothing to give
  pub is_idle : (kept kept' : Option Owing) (e f : Ends) (s : Sessions) (l : Lines) → kept ≡ None → kept' ≡ kept → Shifts (λ told. told) counted_on (λ count. count) e f
      → RunsDry moment (host place kept e s l) (host place kept' f s l)
  is_idle kept kept' e f s l empty same shifts =
      idled_as place (RunsDry moment (host place kept e s l)) kept kept' e f s l same shifts (had_nothing f.standing.told none empty shifts.told)

  pub idle_moves : (kept kept' : Option Owing) (e f : Ends) (s : Sessions) (l : Lines) → kept ≡ None → kept' ≡ kept → Shifts (λ told. told) counted_on (λ count. count) e f
      → GiveMoves moment (host place kept e s l) (host place kept' f s l)
  idle_moves kept kept' e f s l empty same shifts =
      idled_as place (GiveMoves moment (host place kept e s l)) kept kept' e f s l same shifts (more none (finds_nothing f.standing.told empty shifts.told))

  -- there was no memory for a poll
  pub polls_not : (kept kept' : Option Owing) (e f : Ends) (s : Sessions) (l : Lines) → kept' ≡ kept → Changes (λ told. told) e f
      → GiveMoves moment (host place kept e s l) (host place kept' f s l)
  polls_not kept kept' e f s l same changes =
      subst (λ (k : Option Owing). GiveMoves moment (host place kept e s l) (host place k f s l)) (sym same)
      (subst (λ (ends : Ends). GiveMoves moment (host place kept e s l) (host place kept ends s l)) (ends_are (λ told. told) (λ count. count) (λ count. count) e f changes)
      (more none (does_nothing f.standing.told changes.told)))

  -- it failed
  pub failed_so : (kept kept' : Option Owing) (e f : Ends) (s : Sessions) (l : Lines) → kept ≡ None → kept' ≡ kept → HasFailed e f
      → RunsDry moment (host place kept e s l) (host place kept' f s l)
  failed_so kept kept' e f s l empty same failed =
      subst (λ (k : Option Owing). RunsDry moment (host place kept e s l) (host place k f s l)) (sym same) (has_failed f none empty failed)

  pub failure_moves : (kept kept' : Option Owing) (e f : Ends) (s : Sessions) (l : Lines) → kept ≡ None → kept' ≡ kept → HasFailed e f
      → GiveMoves moment (host place kept e s l) (host place kept' f s l)
  failure_moves kept kept' e f s l empty same failed =
      subst (λ (k : Option Owing). GiveMoves moment (host place kept e s l) (host place k f s l)) (sym same) (more none (fails f empty failed))

  -- it is kept with the side of its stream, and its wire is held
  pub held_back : (kept : Option Owing) (owing : Owing) (e f : Ends) (s : Sessions) (l l' : Lines) (line later : Line) (at : ℕ) (side : Side) → kept ≡ Some owing → owing.was_refused ≡ true
      → line_of l owing.number ≡ Some line → slice_get line.sides.items at ≡ Some side → is_open_here owing.stream place e.failures side ≡ true → side.owed ≡ None
      → LineTurns owing.number l l' line later → line_facts later ≡ with_side at (record side { owed = Some owing }) (line_facts line) → Changes (held_too owing.wire) e f
      → GiveMoves moment (host place kept e s l) (host place None f s l')
  held_back kept owing e f s l l' line later at side is marked before there here empty turns same changes =
      subst (λ (ends : Ends). GiveMoves moment (host place kept e s l) (host place None ends s l')) (ends_are (held_too owing.wire) (λ count. count) (λ count. count) e f changes)
      (more none (is_held owing line later at side l' f.standing.told is marked (record { is = before; there = there; open_here = here }) empty turns same changes.told))

  pub held_back_by : (kept kept' : Option Owing) (number stream : ℕ) (owing : Owing) (e f : Ends) (s : Sessions) (l l' : Lines) (line later : Line) (at : ℕ) (side : Side)
      → (other : Owing) × (kept ≡ Some other) × (other.number ≡ number) × (other.stream ≡ stream) × (other.was_refused ≡ true) → kept ≡ Some owing → line_of l number ≡ Some line
      → slice_get line.sides.items at ≡ Some side → is_open_here stream place e.failures side ≡ true → ComesFirst number stream l
      → LineTurns number l l' line later → line_facts later ≡ with_side at (record side { owed = Some owing }) (line_facts line) → Changes (held_too owing.wire) e f → kept' ≡ None
      → GiveMoves moment (host place kept e s l) (host place kept' f s l')
  held_back_by kept kept' number stream owing e f s l l' line later at side was is before there here first turns same changes empty =
      let it : was.0 ≡ owing = some_same was.0 owing (sym was.1 ∙ is) in
      let numbered : number ≡ owing.number = sym was.2 ∙ ap (λ (o : Owing). o.number) it in
      let of : stream ≡ owing.stream = sym was.3 ∙ ap (λ (o : Owing). o.stream) it in
      let marked : owing.was_refused ≡ true = subst (λ (o : Owing). o.was_refused ≡ true) it was.4 in
      let nothing : side.owed ≡ None = owes_none stream line.sides.items at side (subst (λ (o : Option Line). IfSome o (λ line. list_any (owes_on stream) line.sides.items ≡ false)) before first) there
      (and_left (side.stream == stream) (is_opened_at place e.failures side.host side.stage) here) in
      subst (λ (k : Option Owing). GiveMoves moment (host place kept e s l) (host place k f s l')) (sym empty)
      (held_back kept owing e f s l l' line later at side is marked (subst (λ n. line_of l n ≡ Some line) numbered before) there
      (subst (λ n. is_open_here n place e.failures side ≡ true) of here) nothing
      (subst (λ n. LineTurns n l l' line later) numbered turns) same changes)

  -- something waits before what is kept
  pub waits_behind : (kept : Option Owing) (owing : Owing) (ends : Ends) (s : Sessions) (l : Lines) → kept ≡ Some owing
      → (line : Line) × (line_of l owing.number ≡ Some line) × (list_any (owes_on owing.stream) line.sides.items ≡ true)
      → RunsDry moment (host place kept ends s l) (host place (Some owing) ends s l)
  waits_behind kept owing ends s l is waits =
      subst (λ (k : Option Owing). RunsDry moment (host place kept ends s l) (host place k ends s l)) is (had_one_before owing waits.0 none is waits.1 waits.2)

  -- nothing of the host changed since
  pub over_still : {h : HostSide} (kept kept' : Option Owing) (e e' : Ends) (s : Sessions) (l l' : Lines) → kept' ≡ kept → e' ≡ e → l' ≡ l
      → RunsDry moment h (host place kept e s l) → RunsDry moment h (host place kept' e' s l')
  over_still {h} kept kept' e e' s l l' same ends lines over =
      subst (λ (k : Option Owing). RunsDry moment h (host place k e' s l')) (sym same)
      (subst (λ (x : Ends). RunsDry moment h (host place kept x s l')) (sym ends)
      (subst (λ (x : Lines). RunsDry moment h (host place kept e s x)) (sym lines) over))

  -- there is no room for what is kept, by what the session answered, and its wire isn't open here
  pub has_no_room : (kept : Option Owing) (owing : Owing) (ends : Ends) (s t : Sessions) (l : Lines) → kept ≡ Some owing
      → Turned owing.number s t (Looks (LacksRoom owing.given)) → OthersStay owing.number s t
      → IfSome (line_of l owing.number) (λ line. list_any (is_open_here owing.stream place ends.failures) line.sides.items ≡ false)
      → RunsDry moment (host place kept ends s l) (host place (Some owing) ends t l)
  has_no_room kept owing ends s t l is asked others elsewhere = had_no_room (record {
    before = host place kept ends s l;
    moves = none;
    owing = owing;
    later = owing;
    sessions = t;
    kept = is;
    number = refl;
    stream = refl;
    given = refl;
    found = turned_as owing.number s t (Looks (LacksRoom owing.given)) (FindsNoRoom moment owing) (λ k m looks. lacks_room looks) asked;
    others = others;
    elsewhere = elsewhere;
    is = refl;
  })

  -- its session refused it
  pub was_refused : (kept : Option Owing) (owing later : Owing) (ends : Ends) (s t u : Sessions) (l : Lines) (giving : Giving) → kept ≡ Some owing → giving ≡ givings.Full
      → later.number ≡ owing.number → later.stream ≡ owing.stream → later.given ≡ owing.given → Turned owing.number s t (IsReady owing) → OthersStay owing.number s t
      → Turned owing.number t u (Gives moment owing.stream owing.given (Ok giving)) → OthersStay owing.number t u
      → IfSome (line_of l owing.number) (λ line. list_any (is_open_here owing.stream place ends.failures) line.sides.items ≡ false)
      → RunsDry moment (host place kept ends s l) (host place (Some later) ends u l)
  was_refused kept owing later ends s t u l giving is full number of same ready stay turned others elsewhere = had_no_room (record {
    before = host place kept ends s l;
    moves = none;
    owing = owing;
    later = later;
    sessions = u;
    kept = is;
    number = number;
    stream = of;
    given = same;
    found = turned_as owing.number s u (OnceReady owing (Refuses moment owing.stream owing.given)) (FindsNoRoom moment owing) (λ k m refuses. is_full refuses)
        (once_ready owing.number owing s t u (Refuses moment owing.stream owing.given) ready (subst (λ g. Turned owing.number t u (Gives moment owing.stream owing.given (Ok g))) full turned));
    others = both_stay owing.number s t u stay others;
    elsewhere = elsewhere;
    is = refl;
  })

polled_as : (place : ℕ) (kept : Option Owing) (owing : Owing) (e f : Ends) (s : Sessions) (l : Lines) → answering f.standing.told e ≡ f
    → host place (Some owing) f s l ≡ record (host place kept e s l) { kept = Some owing; ends = answering f.standing.told e }
polled_as place kept owing e f s l same = ap (λ (ends : Ends). host place (Some owing) ends s l) (sym same)

-- the back end gave something on a wire that was opened
pub has_polled : (place : ℕ) (kept kept' : Option Owing) (owing : Owing) (wire : ℕ) (what : Given) (e f : Ends) (s : Sessions) (l : Lines) → kept ≡ None → kept' ≡ Some owing
    → owing.number ≡ wire / most_streams → owing.stream ≡ wire % most_streams → owing.wire ≡ wire → owing.given ≡ what → owing.was_refused ≡ false → GivesOn wire what e f
    → PollGave (host place kept e s l) (host place kept' f s l)
has_polled place kept kept' owing wire what e f s l empty is number of on same fresh found =
    let shifts = subst (λ g. Shifts (given_too wire g) (λ count. count) counted_on e f) (sym same) found.2 in
    record {
      owing = owing;
      wire = wire;
      told = f.standing.told;
      empty = empty;
      number = number;
      stream = of;
      on = on;
      fresh = fresh;
      opened = found.0;
      unheld = found.1;
      given = shifts.told;
      is = ap (λ (k : Option Owing). host place k f s l) is ∙ polled_as place kept owing e f s l (ends_are (given_too wire owing.given) (λ count. count) counted_on e f shifts);
    }

-- that is a move
pub poll_moves : {moment : Option ℕ} {h i : HostSide} → PollGave h i → GiveMoves moment h i
poll_moves gave = more none (polls gave)

pub times_moves : {moment : Option ℕ} {count : ℕ} {h i : HostSide} → GivesTimes moment count h i → GiveMoves moment h i
times_moves never = none
times_moves (moves rest move) = more (times_moves rest) move
times_moves (again rest gave) = more (times_moves rest) (polls gave)

-- moves go on
pub times_then : {moment : Option ℕ} {count : ℕ} {h i j : HostSide} → GivesTimes moment count h i → GiveMoves moment i j → GivesTimes moment count h j
times_then first none = first
times_then first (more rest last) = moves (times_then first rest) last

-- it gave something once more
pub gave_again : {moment : Option ℕ} {count : ℕ} {h i j : HostSide} → GivesTimes moment count h i → GivesOnce moment i j → GivesTimes moment (count + 1) h j
gave_again first once = again (times_then first once.1) once.2

no_room_after : {moment : Option ℕ} {h i j : HostSide} → GiveMoves moment h i → HadNoRoom moment i j → HadNoRoom moment h j
no_room_after first full = record {
  before = full.before;
  moves = gives_then first full.moves;
  owing = full.owing;
  later = full.later;
  sessions = full.sessions;
  kept = full.kept;
  number = full.number;
  stream = full.stream;
  given = full.given;
  found = full.found;
  others = full.others;
  elsewhere = full.elsewhere;
  is = full.is;
}

-- it is at its end after more moves too
pub over_after : {moment : Option ℕ} {h i j : HostSide} → GiveMoves moment h i → RunsDry moment i j → RunsDry moment h j
over_after first (had_nothing told rest empty stays) = had_nothing told (gives_then first rest) empty stays
over_after first (has_failed ends rest empty failed) = has_failed ends (gives_then first rest) empty failed
over_after first (had_one_before owing line rest kept is waits) = had_one_before owing line (gives_then first rest) kept is waits
over_after first (had_no_room full) = had_no_room (no_room_after first full)

pub looks_as : {P Q : List Entry → Type 0} {k m : Known Entry} → ((log : List Entry) → P log → Q log) → Looks P k m → Looks Q k m
looks_as {k = k} {m = m} by looks = record { begins = looks.begins; says = by m.seen looks.says; mine = looks.mine; earlier = looks.earlier; learnt = looks.learnt }

pub ok_same : {X E : Type 0} (x y : X) → ◌≡◌ {A = Result X E} (Ok x) (Ok y) → x ≡ y
ok_same x y is = cc

-- the session answered that so much waits
pub lacks_so : (number : ℕ) (a b : Sessions) (what : Given) (answer : Answer)
    → (waiting : Waiting) × (text : List ℕ) × (what ≡ given.Stanza text) × (answer ≡ answers.Load waiting None) × (has_room waiting (length text) ≡ false)
    → Turned number a b (Looks (λ log. Answers log questions.Load (Ok answer))) → Turned number a b (Looks (LacksRoom what))
lacks_so number a b what answer found turned =
    turned_as number a b (Looks (λ log. Answers log questions.Load (Ok answer))) (Looks (LacksRoom what))
    (λ k m looks. looks_as
    (λ log says. subst (λ (x : Given). LacksRoom x log) (sym found.2) (found.0, subst (λ (x : Answer). Answers log questions.Load (Ok x)) found.3 says, found.4))
    looks)
    turned

has_room_by : (what : Given) (log : List Entry) (answer : Answer)
    → ((text : List ℕ) → what ≡ given.Stanza text
    → (waiting : Waiting) × (ending : Option Ending) × (answer ≡ answers.Load waiting ending) × ((is_some ending || has_room waiting (length text)) ≡ true))
    → Answers log questions.Load (Ok answer) → HasRoom what log
has_room_by (given.Stanza text) log answer says answered =
    let found = says text refl in
    (found.0, found.1, subst (λ (x : Answer). Answers log questions.Load (Ok x)) found.2 answered, found.3)
has_room_by (given.Closed closing) log answer says answered = tt

-- the session answered that there is room, or that it has ended
pub ready_so : (number : ℕ) (a b : Sessions) (owing : Owing) (answer : Answer)
    → ((text : List ℕ) → owing.given ≡ given.Stanza text
    → (waiting : Waiting) × (ending : Option Ending) × (answer ≡ answers.Load waiting ending) × ((is_some ending || has_room waiting (length text)) ≡ true))
    → Turned number a b (Looks (λ log. Answers log questions.Load (Ok answer))) → Turned number a b (IsReady owing)
ready_so number a b owing answer says turned =
    turned_as number a b (Looks (λ log. Answers log questions.Load (Ok answer))) (IsReady owing)
    (λ k m looks. finds_room (looks_as (λ log answered. has_room_by owing.given log answer says answered) looks)) turned

-- there was no memory for it
pub polls_err : {moment : Option ℕ} {h j : HostSide} (result : Result ⊤ AllocError) → IsErr result → GiveMoves moment h j → PollsHost moment h j result
polls_err (Ok done) err made = absurd (true≢false (sym err))
polls_err (Err error) err made = made

pub gave_so_often : {moment : Option ℕ} (count : ℕ) (h j : HostSide) → count ≡ most_polls → GivesTimes moment count h j → GivesTimes moment most_polls h j
gave_so_often {moment} count h j same times = subst (λ (n : ℕ). GivesTimes moment n h j) same times
