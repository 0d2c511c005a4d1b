-- What is known of a session that was served.
use Rattle.std.proofs.Common.{◌≡◌, ◌≢◌, ◌⊎◌, inl, inr, ◌≤◌, ◌+◌, ℕ, Bool, true, false, List, map, length, set, Option, Some, None, IfSome, Result, Ok, Err, refl, sym, ap, subst, ◌∙◌, true≢false}
use Rattle.std.specs.Prelude.{IsSome, OnOk, OnErr, slice_get}
use Rattle.std.specs.Bool.{⊤}
use Rattle.std.specs.Result.{IsErr}
use Rattle.std.specs.declared.alloc.AllocError.{AllocError}
use Rattle.std.proofs.lemmas.Option.{none-some, same_Some}
use Rattle.bosh_types.specs.declared.ending.Closing.{Closing}
use Rattle.bosh_types.specs.declared.ending.Closing.TheVariants.{RemoteConnectionFailed}
use Rattle.bosh_types.specs.declared.inward.Inward.{Inward}
use Rattle.parked_gate.specs.Passes.{Known, Looks}
use Rattle.session_journal.specs.declared.call.Call.TheVariants as calls
use Rattle.session_journal.specs.declared.call.Reply.{Reply}
use Rattle.session_journal.specs.declared.entry.Entry.{Entry}
use Rattle.session_table.specs.Purses.{Sessions, Turned, held}
use Rattle.session_pump.specs.Ends.{Changes, Ends}
use Rattle.session_pump.specs.Calling.{Called, ClosesStream, IsAt, Ticks}
use Rattle.session_pump.specs.Hosts.{HostFacts}
use Rattle.session_pump.specs.Sides.{AreOpened, HasNoHost, IsCutAmong, LineFacts, Moves, PassesAll, Served, Serves, Strand, StrandMove, StrandMoves, TellsCut, Tries, TriesAt, TriesEach, TriesOrMoves, TriesOwed, TriesStrand, asks_room, gives, gives_last, goes_on, has_no_room, more, none, on_strand, on_stream, owes_nothing, owes_nowhere, refuses, serving, strand, tells_cut, tells_nowhere, ticks, tried_none, tried_one, tries, wants, wants_memory, was_given, with_side}
use Rattle.session_pump.specs.Taking.{Gives, IsAsked, IsReady, LacksRoom, OnceReady, Refuses, Takes, Tried, called, is_full, lacks_room, looked, untried}
use Rattle.session_pump.specs.declared.giving.Giving.{Giving}
use Rattle.session_pump.specs.declared.giving.Giving.TheVariants as givings
use Rattle.session_pump.specs.declared.line.Owing.{Owing}
use Rattle.session_pump.specs.declared.line.Side.{Side}
use Rattle.session_pump.specs.declared.line.Stage.{Stage}
use Rattle.session_pump.specs.declared.line.Stage.TheVariants as stages
use Rattle.xmpp_backend.specs.Told.{resumed_too}
use Rattle.session_pump.proofs.GivingLemmas.{looks_any, once_ready}
use Rattle.session_pump.proofs.ListLemmas.{got_map, got_past, set_same}
use Rattle.session_pump.proofs.MovesLemmas.{ends_are, moves_then, one_move, one_strand}
use Rattle.session_pump.proofs.PassingLemmas.{From, left_as, lifted_as}
use Rattle.session_pump.proofs.TurnedLemmas.{turned_as, turned_none, turned_then}

pub on_ok : {P : Type 0} (result : Result ⊤ AllocError) → P → OnOk result P
on_ok (Ok done) is = is
on_ok (Err error) is = tt

-- time passed at the clock's moment
pub ticks_at : (moment : Option ℕ) (number now : ℕ) (a b : Sessions) (reply : Reply) → IsAt moment now → Turned number a b (Called (calls.Tick now) (Ok reply))
    → Turned number a b (Ticks moment (Ok tt))
ticks_at moment number now a b reply at turned =
    turned_as number a b (Called (calls.Tick now) (Ok reply)) (Ticks moment (Ok tt)) (λ k m called. (now, reply, at, called)) turned

pub ticks_not : (moment : Option ℕ) (number now : ℕ) (a b : Sessions) (error : AllocError) → Turned number a b (Called (calls.Tick now) (Err error))
    → Turned number a b (Ticks moment (Err error))
ticks_not moment number now a b error turned =
    turned_as number a b (Called (calls.Tick now) (Err error)) (Ticks moment (Err error)) (λ k m called. (now, called)) turned

pub closes_at : (moment : Option ℕ) (number now stream : ℕ) (closing : Closing) (a b : Sessions) (reply : Reply) → IsAt moment now
    → Turned number a b (Called (calls.BackClosed stream closing now) (Ok reply)) → Turned number a b (ClosesStream moment stream closing (Ok tt))
closes_at moment number now stream closing a b reply at turned =
    turned_as number a b (Called (calls.BackClosed stream closing now) (Ok reply)) (ClosesStream moment stream closing (Ok tt))
    (λ k m called. (now, reply, at, called)) turned

pub closes_not : (moment : Option ℕ) (number now stream : ℕ) (closing : Closing) (a b : Sessions) (error : AllocError)
    → Turned number a b (Called (calls.BackClosed stream closing now) (Err error)) → Turned number a b (ClosesStream moment stream closing (Err error))
closes_not moment number now stream closing a b error turned =
    turned_as number a b (Called (calls.BackClosed stream closing now) (Err error)) (ClosesStream moment stream closing (Err error))
    (λ k m called. (now, called)) turned

-- the moves of a stream from one side and back ends to others
abbrev pub FromSide : Option ℕ → Option Inward → Side → Ends → Side → Ends → Known Entry → Known Entry → Type 0
FromSide moment kept s e s' e' old new = StrandMoves moment (strand old kept s e) (strand new kept s' e')

-- the session was told that the back end of a stream failed
pub cut_told : {moment : Option ℕ} (kept : Option Inward) (number : ℕ) (a b : Sessions) (s : Side) (e : Ends) → (on : ℕ) × (s.stage ≡ stages.Opened on) × (on ≢ e.failures)
    → Turned number a b (ClosesStream moment s.stream RemoteConnectionFailed (Ok tt)) → Turned number a b (FromSide moment kept s e (record s { stage = stages.Lost }) e)
cut_told {moment} kept number a b s e cut turned =
    turned_as number a b (ClosesStream moment s.stream RemoteConnectionFailed (Ok tt)) (FromSide moment kept s e (record s { stage = stages.Lost }) e)
    (λ k m told. one_strand (tells_cut m told.0 told.1 cut told.2 told.3)) turned

pub cut_untold : {moment : Option ℕ} (kept : Option Inward) (number : ℕ) (a b : Sessions) (s : Side) (e : Ends) (error : AllocError)
    → Turned number a b (ClosesStream moment s.stream RemoteConnectionFailed (Err error)) → Turned number a b (FromSide moment kept s e s e)
cut_untold {moment} kept number a b s e error turned =
    turned_as number a b (ClosesStream moment s.stream RemoteConnectionFailed (Err error)) (FromSide moment kept s e s e)
    (λ k m told. one_strand (wants m (calls.BackClosed s.stream RemoteConnectionFailed told.0) error told.1)) turned

serves_err : (moment : Option ℕ) (s t : Served) (result : Result ⊤ AllocError) → IsErr result → Moves moment s t → Serves moment s t result
serves_err moment s t (Ok done) err moves = absurd (true≢false (sym err))
serves_err moment s t (Err error) err moves = moves

-- there was no memory for the first moves
pub serves_early : {moment : Option ℕ} (number : ℕ) (a b : Sessions) (l l' : LineFacts) (h h' : List HostFacts) (result : Result ⊤ AllocError) → IsErr result
    → Turned number a b (From moment l h l' h') → Turned number a b (λ old new. Serves moment (serving old l h) (serving new l' h') result)
serves_early {moment} number a b l l' h h' result err turned =
    turned_as number a b (From moment l h l' h') (λ old new. Serves moment (serving old l h) (serving new l' h') result)
    (λ k m moves. serves_err moment (serving k l h) (serving m l' h') result err moves) turned

-- there was none for time to pass
pub serves_untimed : {moment : Option ℕ} (number : ℕ) (a b c : Sessions) (l l' : LineFacts) (h h' : List HostFacts) (error : AllocError) (result : Result ⊤ AllocError) → IsErr result
    → Turned number a b (From moment l h l' h') → Turned number b c (Ticks moment (Err error))
    → Turned number a c (λ old new. Serves moment (serving old l h) (serving new l' h') result)
serves_untimed {moment} number a b c l l' h h' error result err turned lacks =
    turned_then number a b c (From moment l h l' h') (Ticks moment (Err error)) (λ old new. Serves moment (serving old l h) (serving new l' h') result)
    (λ k m n moves called. serves_err moment (serving k l h) (serving n l' h') result err (more moves (wants_memory n (calls.Tick called.0) error called.1)))
    turned lacks

-- ---- what was tried are moves

owed_moves : {moment : Option ℕ} {s t : Strand} → TriesOwed moment s t → StrandMove moment s t
owed_moves (was_given owing is move empty) = move
owed_moves (has_no_room owing new is (is_full refused)) = refuses owing new is refused
owed_moves (has_no_room owing new is (lacks_room asked)) = asks_room owing new is (looked (looks_any asked))

tried_moves : {moment : Option ℕ} {place : ℕ} {s t : Served} → TriesAt moment place s t → Moves moment s t
tried_moves (owes_nothing side is empty) = none
tried_moves (owes_nowhere side is nowhere) = none
tried_moves {place = place} (tries (on_strand side at host is to there owed)) = one_move (on_stream place (on_strand side at host is to there (owed_moves owed)))

pub each_moves : {moment : Option ℕ} {s : Served} {count : ℕ} {t : Served} → TriesEach moment s count t → Moves moment s t
each_moves tried_none = none
each_moves (tried_one place rest last) = moves_then (each_moves rest) (tried_moves last)

-- ---- a session is served

abbrev pub TriesFrom : Option ℕ → LineFacts → List HostFacts → LineFacts → List HostFacts → Result ⊤ AllocError → Known Entry → Known Entry → Type 0
TriesFrom moment l h l' h' result old new = Tries moment (serving old l h) (serving new l' h') result

abbrev pub TellsFrom : Option ℕ → LineFacts → List HostFacts → LineFacts → List HostFacts → Result ⊤ AllocError → Known Entry → Known Entry → Type 0
TellsFrom moment l h l' h' result old new = TellsCut moment (serving old l h) (serving new l' h') result

told_moves : (moment : Option ℕ) (s t : Served) (result : Result ⊤ AllocError) → TellsCut moment s t result → Moves moment s t
told_moves moment s t (Ok done) told = told.0
told_moves moment s t (Err error) moves = moves

-- it was told of its streams whose back ends failed
pub tells_on : {moment : Option ℕ} (number : ℕ) (a b c : Sessions) (l l' l'' : LineFacts) (h h' h'' : List HostFacts) (result : Result ⊤ AllocError)
    → Turned number a b (From moment l h l' h') → Turned number b c (TellsFrom moment l' h' l'' h'' result) → Turned number a c (From moment l h l'' h'')
tells_on {moment} number a b c l l' l'' h h' h'' result first told =
    turned_then number a b c (From moment l h l' h') (TellsFrom moment l' h' l'' h'' result) (From moment l h l'' h'')
    (λ k m n x y. moves_then x (told_moves moment (serving m l' h') (serving n l'' h'') result y)) first told

-- there was no memory to give what the session had no room for
pub serves_untried : {moment : Option ℕ} (number : ℕ) (a b c d : Sessions) (l l' l'' : LineFacts) (h h' h'' : List HostFacts) (error : AllocError) (result : Result ⊤ AllocError) → IsErr result
    → Turned number a b (From moment l h l' h') → Turned number b c (Ticks moment (Ok tt)) → Turned number c d (TriesFrom moment l' h' l'' h'' (Err error))
    → Turned number a d (λ old new. Serves moment (serving old l h) (serving new l'' h'') result)
serves_untried {moment} number a b c d l l' l'' h h' h'' error result err turned ticked tried =
    turned_then number a c d (From moment l h l' h') (TriesFrom moment l' h' l'' h'' (Err error)) (λ old new. Serves moment (serving old l h) (serving new l'' h'') result)
    (λ k m n first rest. serves_err moment (serving k l h) (serving n l'' h'') result err (moves_then first rest))
    (turned_then number a b c (From moment l h l' h') (Ticks moment (Ok tt)) (From moment l h l' h')
    (λ k m n moves called. more moves (ticks n called.0 (Ok called.1) called.2 called.3)) turned ticked)
    tried

serves_rest : (moment : Option ℕ) (k m n o p : Known Entry) (l l' l'' lz : LineFacts) (h h' h'' hz : List HostFacts) (result : Result ⊤ AllocError) → AreOpened l'.sides
    → From moment l h l' h' k m → Ticks moment (Ok tt) m n → TriesEach moment (serving n l' h') (length l'.sides) (serving o l'' h'')
    → PassesAll moment (serving o l'' h'') (serving p lz hz) result → Serves moment (serving k l h) (serving p lz hz) result
serves_rest moment k m n o p l l' l'' lz h h' h'' hz (Ok done) opened moves ticked tried passes = record {
  first = serving m l' h';
  opens = moves;
  opened = opened;
  now = ticked.0;
  at = ticked.2;
  reply = ticked.1;
  later = n;
  ticks = ticked.3;
  tried = serving o l'' h'';
  tries = tried;
  passes = passes;
}
serves_rest moment k m n o p l l' l'' lz h h' h'' hz (Err error) opened moves ticked tried passes =
    moves_then (moves_then (more moves (ticks n ticked.0 (Ok ticked.1) ticked.2 ticked.3)) (each_moves tried)) passes

pub serves_on : {moment : Option ℕ} (number : ℕ) (a b c d e : Sessions) (l l' l'' lz : LineFacts) (h h' h'' hz : List HostFacts) (result : Result ⊤ AllocError) → AreOpened l'.sides
    → Turned number a b (From moment l h l' h') → Turned number b c (Ticks moment (Ok tt)) → Turned number c d (TriesFrom moment l' h' l'' h'' (Ok tt))
    → Turned number d e (λ old new. PassesAll moment (serving old l'' h'') (serving new lz hz) result)
    → Turned number a e (λ old new. Serves moment (serving old l h) (serving new lz hz) result)
serves_on {moment} number a b c d e l l' l'' lz h h' h'' hz result opened turned ticked tried passes =
    turned_then number a d e
    (λ old new. (m : Known Entry) × (n : Known Entry) × From moment l h l' h' old m × Ticks moment (Ok tt) m n
    × TriesEach moment (serving n l' h') (length l'.sides) (serving new l'' h''))
    (λ old new. PassesAll moment (serving old l'' h'') (serving new lz hz) result)
    (λ old new. Serves moment (serving old l h) (serving new lz hz) result)
    (λ k o p first rest. serves_rest moment k first.0 first.1 o p l l' l'' lz h h' h'' hz result opened first.2 first.3 first.4 rest)
    (turned_then number a c d
    (λ old new. (m : Known Entry) × From moment l h l' h' old m × Ticks moment (Ok tt) m new)
    (TriesFrom moment l' h' l'' h'' (Ok tt))
    (λ old new. (m : Known Entry) × (n : Known Entry) × From moment l h l' h' old m × Ticks moment (Ok tt) m n
    × TriesEach moment (serving n l' h') (length l'.sides) (serving new l'' h''))
    (λ k n o first rest. (first.0, n, first.1, first.2, rest))
    (turned_then number a b c (From moment l h l' h') (Ticks moment (Ok tt)) (λ old new. (m : Known Entry) × From moment l h l' h' old m × Ticks moment (Ok tt) m new)
    (λ k m n moves called. (m, moves, called)) turned ticked)
    tried)
    passes

-- ---- one stream

-- moves of a stream at its host that was lent
pub lifted_turned : {moment : Option ℕ} {X : Type 0} (facts : X → HostFacts) (stands : List X) (number place at : ℕ) (a b : Sessions) (line : LineFacts) (side side' : Side) (stand stand' : X)
    → slice_get line.sides place ≡ Some side → side.host ≡ Some at → slice_get stands at ≡ Some stand → (facts stand').kept ≡ (facts stand).kept
    → Turned number a b (FromSide moment line.kept side (facts stand).ends side' (facts stand').ends)
    → Turned number a b (From moment line (map facts stands) (with_side place side' line) (map facts (set stands at stand')))
lifted_turned {moment} facts stands number place at a b line side side' stand stand' is to there kept turned =
    turned_as number a b (FromSide moment line.kept side (facts stand).ends side' (facts stand').ends)
    (From moment line (map facts stands) (with_side place side' line) (map facts (set stands at stand')))
    (λ k m moves. lifted_as facts stands place at line side stand stand' k (strand m line.kept side' (facts stand').ends) is to there kept refl moves) turned

-- where the host is only looked at
pub lifted_still : {moment : Option ℕ} {X : Type 0} (facts : X → HostFacts) (stands : List X) (number place at : ℕ) (a b : Sessions) (line : LineFacts) (side side' : Side) (stand : X)
    → slice_get line.sides place ≡ Some side → side.host ≡ Some at → slice_get stands at ≡ Some stand
    → Turned number a b (FromSide moment line.kept side (facts stand).ends side' (facts stand).ends)
    → Turned number a b (From moment line (map facts stands) (with_side place side' line) (map facts stands))
lifted_still {moment} facts stands number place at a b line side side' stand is to there turned =
    subst (λ xs. Turned number a b (From moment line (map facts stands) (with_side place side' line) (map facts xs))) (set_same stands at stand there)
    (lifted_turned facts stands number place at a b line side side' stand stand is to there refl turned)

-- nothing was done to it
pub side_stays : {moment : Option ℕ} (number place : ℕ) (a : Sessions) (line : LineFacts) (side : Side) (h : List HostFacts) → slice_get line.sides place ≡ Some side → IsSome (held a number)
    → Turned number a a (From moment line h (with_side place side line) h)
side_stays {moment} number place a line side h is some =
    turned_none number a (From moment line h (with_side place side line) h) some
    (λ k. subst (λ (sides : List Side). Moves moment (serving k line h) (serving k (record line { sides = sides }) h)) (sym (set_same line.sides place side is)) none)

-- its session was told that it has no host, or there was no memory for that
pub told_nowhere : {moment : Option ℕ} (number place : ℕ) (a b : Sessions) (line : LineFacts) (side side' : Side) (h : List HostFacts) (result : Result ⊤ AllocError)
    → slice_get line.sides place ≡ Some side → side.stage ≡ stages.Unopened → HasNoHost h side
    → Turned number a b (ClosesStream moment side.stream RemoteConnectionFailed result) → OnOk result (side' ≡ record side { stage = stages.Lost }) → OnErr result (side' ≡ side)
    → Turned number a b (From moment line h (with_side place side' line) h)
told_nowhere {moment} number place a b line side side' h (Ok done) is unopened nowhere turned lost same =
    subst (λ (s : Side). Turned number a b (From moment line h (with_side place s line) h)) (sym lost)
    (turned_as number a b (ClosesStream moment side.stream RemoteConnectionFailed (Ok tt)) (From moment line h (with_side place (record side { stage = stages.Lost }) line) h)
    (λ k m told. one_move (tells_nowhere place side m told.0 told.1 is unopened nowhere told.2 told.3)) turned)
told_nowhere {moment} number place a b line side side' h (Err error) is unopened nowhere turned lost same =
    subst (λ (sides : List Side). Turned number a b (From moment line h (record line { sides = sides }) h)) (sym (set_same line.sides place side' (is ∙ ap Some (sym same))))
    (turned_as number a b (ClosesStream moment side.stream RemoteConnectionFailed (Err error)) (From moment line h line h)
    (λ k m told. one_move (wants_memory m (calls.BackClosed side.stream RemoteConnectionFailed told.0) error told.1)) turned)

abbrev lost_bool : Stage → Bool
lost_bool stages.Lost = true
lost_bool stages.Unopened = false
lost_bool (stages.Opened on) = false

pub not_unopened : (side side' : Side) (result : Result ⊤ AllocError) → OnOk result (side' ≡ record side { stage = stages.Lost }) → OnOk result (side'.stage ≢ stages.Unopened)
not_unopened side side' (Ok done) lost = λ is. true≢false (ap lost_bool (sym (ap (λ (s : Side). s.stage) lost) ∙ is))
not_unopened side side' (Err error) lost = tt

-- none of it is cut, where it has no host
pub uncut_nowhere : (h : List HostFacts) (side : Side) → HasNoHost h side → IsCutAmong h side → ⊥
uncut_nowhere h side nowhere cut =
    none-some cut.host (sym (got_past h cut.at (subst (λ (o : Option ℕ). IfSome o (λ at. length h ≤ at)) cut.to nowhere)) ∙ cut.there)

-- nor where the back end that stands there is the one that it was opened on
pub uncut_so : {X : Type 0} (facts : X → HostFacts) (stands : List X) (side side' : Side) (at : ℕ) (stand : X) (result : Result ⊤ AllocError) → side.host ≡ Some at → side'.host ≡ side.host
    → slice_get stands at ≡ Some stand → OnOk result ((on : ℕ) → side'.stage ≡ stages.Opened on → on ≡ (facts stand).ends.failures)
    → OnOk result (IsCutAmong (map facts stands) side' → ⊥)
uncut_so facts stands side side' at stand (Ok done) to same there uncut = λ cut.
    let here : cut.at ≡ at = same_Some cut.at at (sym cut.to ∙ same ∙ to) in
    let host : cut.host ≡ facts stand = same_Some cut.host (facts stand) (sym cut.there ∙ ap (slice_get (map facts stands)) here ∙ got_map facts stands at stand there) in
    cut.failed (uncut cut.on cut.opened ∙ ap (λ (h : HostFacts). h.ends.failures) (sym host))
uncut_so facts stands side side' at stand (Err error) to same there uncut = tt

-- ---- what a session had no room for

pub no_owing : (owed : Option Owing) → ((owing : Owing) → owed ≡ Some owing → ⊥) → owed ≡ None
no_owing None nothing = refl
no_owing (Some owing) nothing = absurd (nothing owing refl)

abbrev pub StrandFrom : Option ℕ → Option Inward → Side → Ends → Side → Ends → Result ⊤ AllocError → Known Entry → Known Entry → Type 0
StrandFrom moment kept s e s' e' result old new = TriesStrand moment (strand old kept s e) (strand new kept s' e') result

tries_err : (moment : Option ℕ) (s t : Strand) (result : Result ⊤ AllocError) → IsErr result → StrandMoves moment s t → TriesStrand moment s t result
tries_err moment s t (Ok done) err moves = absurd (true≢false (sym err))
tries_err moment s t (Err error) err moves = moves

-- there was no memory to ask
pub asks_not : (moment : Option ℕ) (number : ℕ) (a b : Sessions) (kept : Option Inward) (l : Side) (e : Ends) (owing : Owing) (result : Result ⊤ AllocError) → IsErr result → l.owed ≡ Some owing
    → Turned number a b IsAsked → Turned number a b (StrandFrom moment kept l e l e result)
asks_not moment number a b kept l e owing result err is asked =
    turned_as number a b IsAsked (StrandFrom moment kept l e l e result) (λ k m so. tries_err moment (strand k kept l e) (strand m kept l e) result err (one_strand (asks_room owing m is so))) asked

-- it has no room still
pub lacks_still : {moment : Option ℕ} (number : ℕ) (a b : Sessions) (kept : Option Inward) (l : Side) (e : Ends) (owing : Owing) → l.owed ≡ Some owing → Turned number a b (Looks (LacksRoom owing.given))
    → Turned number a b (StrandFrom moment kept l e l e (Ok tt))
lacks_still {moment} number a b kept l e owing is asked =
    turned_as number a b (Looks (LacksRoom owing.given)) (StrandFrom moment kept l e l e (Ok tt)) (λ k m looks. has_no_room owing m is (lacks_room looks)) asked

-- it refused it again
pub refuses_still : {moment : Option ℕ} (number : ℕ) (a b c : Sessions) (kept : Option Inward) (l : Side) (e : Ends) (owing : Owing) (giving : Giving) → l.owed ≡ Some owing → giving ≡ givings.Full
    → Turned number a b (IsReady owing) → Turned number b c (Gives moment owing.stream owing.given (Ok giving)) → Turned number a c (StrandFrom moment kept l e l e (Ok tt))
refuses_still {moment} number a b c kept l e owing giving is full ready turned =
    turned_as number a c (OnceReady owing (Refuses moment owing.stream owing.given)) (StrandFrom moment kept l e l e (Ok tt)) (λ k m refused. has_no_room owing m is (is_full refused))
    (once_ready number owing a b c (Refuses moment owing.stream owing.given) ready (subst (λ g. Turned number b c (Gives moment owing.stream owing.given (Ok g))) full turned))

-- there was no memory for it
pub gives_not : {moment : Option ℕ} (number : ℕ) (a b c : Sessions) (kept : Option Inward) (l : Side) (e : Ends) (owing : Owing) (error : AllocError) → l.owed ≡ Some owing
    → Turned number a b IsAsked → Turned number b c Tried → Turned number a c (StrandFrom moment kept l e l e (Err error))
gives_not {moment} number a b c kept l e owing error is asked tried =
    turned_then number a b c IsAsked Tried (StrandFrom moment kept l e l e (Err error)) (λ k m n so made. by k m n so made) asked tried
  where
    by : (k m n : Known Entry) → IsAsked k m → Tried m n → StrandMoves moment (strand k kept l e) (strand n kept l e)
    by k m n so untried = one_strand (asks_room owing m is so)
    by k m n so (called call wanted made) = goes_on (one_strand (asks_room owing m is so)) (wants n call wanted made)

-- it was given, and its wire was resumed where it is open
pub gives_now : {moment : Option ℕ} (number : ℕ) (a b c : Sessions) (kept : Option Inward) (l : Side) (e f : Ends) (owing : Owing) (giving : Giving) → l.owed ≡ Some owing → giving ≡ givings.Done
    → Turned number a b (IsReady owing) → Turned number b c (Gives moment owing.stream owing.given (Ok giving))
    → ((l.stage ≡ stages.Opened e.failures) × Changes (resumed_too owing.wire) e f) ⊎ ((l.stage ≢ stages.Opened e.failures) × (f ≡ e))
    → Turned number a c (StrandFrom moment kept l e (record l { owed = None }) f (Ok tt))
gives_now {moment} number a b c kept l e f owing giving is done ready turned resumed =
    turned_as number a c (OnceReady owing (Takes moment owing.stream owing.given)) (StrandFrom moment kept l e (record l { owed = None }) f (Ok tt)) (λ k m took. by k m took resumed)
    (once_ready number owing a b c (Takes moment owing.stream owing.given) ready (subst (λ g. Turned number b c (Gives moment owing.stream owing.given (Ok g))) done turned))
  where
    by : (k m : Known Entry) → OnceReady owing (Takes moment owing.stream owing.given) k m
        → ((l.stage ≡ stages.Opened e.failures) × Changes (resumed_too owing.wire) e f) ⊎ ((l.stage ≢ stages.Opened e.failures) × (f ≡ e))
        → TriesOwed moment (strand k kept l e) (strand m kept (record l { owed = None }) f)
    by k m took (inl (opened, changes)) =
        was_given owing is
        (subst (λ (ends : Ends). StrandMove moment (strand k kept l e) (strand m kept (record l { owed = None }) ends)) (ends_are (resumed_too owing.wire) (λ count. count) (λ count. count) e f changes)
        (gives owing m f.standing.told is took opened changes.told)) refl
    by k m took (inr (closed, same)) =
        was_given owing is
        (subst (λ (ends : Ends). StrandMove moment (strand k kept l e) (strand m kept (record l { owed = None }) ends)) (sym same) (gives_last owing m is took closed)) refl

-- that of the stream at this place, at its host that was lent
pub tried_at : {X : Type 0} (moment : Option ℕ) (facts : X → HostFacts) (stands : List X) (number place at : ℕ) (a b : Sessions) (line : LineFacts) (side side' : Side) (stand stand' : X)
    (result : Result ⊤ AllocError) → slice_get line.sides place ≡ Some side → side.host ≡ Some at → slice_get stands at ≡ Some stand → (facts stand').kept ≡ (facts stand).kept
    → Turned number a b (StrandFrom moment line.kept side (facts stand).ends side' (facts stand').ends result)
    → Turned number a b (λ old new. TriesOrMoves moment place (serving old line (map facts stands)) (serving new (with_side place side' line) (map facts (set stands at stand'))) result)
tried_at moment facts stands number place at a b line side side' stand stand' result is to there kept turned =
    turned_as number a b (StrandFrom moment line.kept side (facts stand).ends side' (facts stand').ends result)
    (λ old new. TriesOrMoves moment place (serving old line (map facts stands)) (serving new (with_side place side' line) (map facts (set stands at stand'))) result)
    (λ k m tried. by k m result tried) turned
  where
    by : (k m : Known Entry) (result : Result ⊤ AllocError) → StrandFrom moment line.kept side (facts stand).ends side' (facts stand').ends result k m
        → TriesOrMoves moment place (serving k line (map facts stands)) (serving m (with_side place side' line) (map facts (set stands at stand'))) result
    by k m (Ok done) tried =
        subst (λ (s : Served). TriesAt moment place (serving k line (map facts stands)) s)
        (left_as facts stands place at line stand stand' (strand m line.kept side' (facts stand').ends) kept refl)
        (tries (on_strand side at (facts stand) is to (got_map facts stands at stand there) tried))
    by k m (Err error) moves = lifted_as facts stands place at line side stand stand' k (strand m line.kept side' (facts stand').ends) is to there kept refl moves

-- nothing was tried, since there is nothing or no host
pub tried_nothing : (moment : Option ℕ) (number place : ℕ) (a : Sessions) (line : LineFacts) (side : Side) (h : List HostFacts) → slice_get line.sides place ≡ Some side
    → ((known : Known Entry) → TriesAt moment place (serving known line h) (serving known line h)) → IsSome (held a number)
    → Turned number a a (λ old new. TriesOrMoves moment place (serving old line h) (serving new (with_side place side line) h) (Ok tt))
tried_nothing moment number place a line side h is nothing some =
    turned_none number a (λ old new. TriesOrMoves moment place (serving old line h) (serving new (with_side place side line) h) (Ok tt)) some
    (λ k. subst (λ (sides : List Side). TriesAt moment place (serving k line h) (serving k (record line { sides = sides }) h)) (sym (set_same line.sides place side is)) (nothing k))

-- ---- each stream in turn

pub tries_none : {moment : Option ℕ} (number : ℕ) (a : Sessions) (l : LineFacts) (h : List HostFacts) → IsSome (held a number)
    → Turned number a a (λ old new. TriesEach moment (serving old l h) 0 (serving new l h))
tries_none {moment} number a l h some = turned_none number a (λ old new. TriesEach moment (serving old l h) 0 (serving new l h)) some (λ k. tried_none)

pub tries_next : {moment : Option ℕ} (number place : ℕ) (a b c : Sessions) (l l' l'' : LineFacts) (h h' h'' : List HostFacts)
    → Turned number a b (λ old new. TriesEach moment (serving old l h) place (serving new l' h'))
    → Turned number b c (λ old new. TriesOrMoves moment place (serving old l' h') (serving new l'' h'') (Ok tt))
    → Turned number a c (λ old new. TriesEach moment (serving old l h) (place + 1) (serving new l'' h''))
tries_next {moment} number place a b c l l' l'' h h' h'' first last =
    turned_then number a b c (λ old new. TriesEach moment (serving old l h) place (serving new l' h'))
    (λ old new. TriesOrMoves moment place (serving old l' h') (serving new l'' h'') (Ok tt))
    (λ old new. TriesEach moment (serving old l h) (place + 1) (serving new l'' h'')) (λ k m n x y. tried_one place x y) first last

pub tries_not : {moment : Option ℕ} (number place : ℕ) (a b c : Sessions) (l l' l'' : LineFacts) (h h' h'' : List HostFacts) (error : AllocError) (result : Result ⊤ AllocError) → IsErr result
    → Turned number a b (λ old new. TriesEach moment (serving old l h) place (serving new l' h'))
    → Turned number b c (λ old new. TriesOrMoves moment place (serving old l' h') (serving new l'' h'') (Err error))
    → Turned number a c (TriesFrom moment l h l'' h'' result)
tries_not {moment} number place a b c l l' l'' h h' h'' error (Ok done) err first last = absurd (true≢false (sym err))
tries_not {moment} number place a b c l l' l'' h h' h'' error (Err other) err first last =
    turned_then number a b c (λ old new. TriesEach moment (serving old l h) place (serving new l' h'))
    (λ old new. TriesOrMoves moment place (serving old l' h') (serving new l'' h'') (Err error))
    (TriesFrom moment l h l'' h'' (Err other)) (λ k m n x y. moves_then (each_moves x) y) first last

pub tries_all : {moment : Option ℕ} (number place : ℕ) (a b : Sessions) (l l' : LineFacts) (h h' : List HostFacts) → place ≡ length l.sides
    → Turned number a b (λ old new. TriesEach moment (serving old l h) place (serving new l' h')) → Turned number a b (TriesFrom moment l h l' h' (Ok tt))
tries_all {moment} number place a b l l' h h' whole turned =
    subst (λ (n : ℕ). Turned number a b (λ old new. TriesEach moment (serving old l h) n (serving new l' h'))) whole turned

tells_err : (moment : Option ℕ) (s t : Served) (result : Result ⊤ AllocError) → IsErr result → Moves moment s t → TellsCut moment s t result
tells_err moment s t (Ok done) err moves = absurd (true≢false (sym err))
tells_err moment s t (Err error) err moves = moves

pub tells_not : {moment : Option ℕ} (number : ℕ) (a b : Sessions) (l l' : LineFacts) (h h' : List HostFacts) (result : Result ⊤ AllocError) → IsErr result
    → Turned number a b (From moment l h l' h') → Turned number a b (TellsFrom moment l h l' h' result)
tells_not {moment} number a b l l' h h' result err turned =
    turned_as number a b (From moment l h l' h') (TellsFrom moment l h l' h' result)
    (λ k m moves. tells_err moment (serving k l h) (serving m l' h') result err moves) turned

pub tells_all : {moment : Option ℕ} (number : ℕ) (a b : Sessions) (l l' : LineFacts) (h h' : List HostFacts)
    → ((place : ℕ) (side : Side) → slice_get l'.sides place ≡ Some side → IsCutAmong h' side → ⊥)
    → Turned number a b (From moment l h l' h') → Turned number a b (TellsFrom moment l h l' h' (Ok tt))
tells_all {moment} number a b l l' h h' uncut turned =
    turned_as number a b (From moment l h l' h') (TellsFrom moment l h l' h' (Ok tt)) (λ k m moves. (moves, uncut)) turned
