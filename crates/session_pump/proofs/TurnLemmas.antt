-- Steps of a turn, one after the other.
use Rattle.std.proofs.Common.{◌≡◌, ◌≢◌, ◌+◌, ◌*◌, ◌<◌, ◌≤◌, ℕ, false, List, [], ◌∷◌, ◌++◌, length, map, take, set, get_or, Option, Some, None, IfSome, IfNone, IsSome, Result, Ok, Err, refl, sym, subst, ap, ◌∙◌, true≢false, arith, ne_eqb}
use Rattle.std.specs.Prelude.{bytes_eq, is_some, slice_get}
use Rattle.std.specs.List.{list_any}
use Rattle.bosh_types.specs.Limits.{most_streams}
use Rattle.std.proofs.lemmas.List.{get_or-map, length-map, map-set, take_all, take_more}
use Rattle.std.proofs.lemmas.Option.{none-some}
use Rattle.std.specs.Bool.{⊤}
use Rattle.std.specs.BTreeMap.{IsUnchanged, UpdatesBy, WritesThrough, is_at}
use Rattle.std.specs.Cmp.{unsigned_tied}
use Rattle.std.specs.Ordering.{nat_cmp}
use Rattle.std.specs.Result.{IsErr, OnErr, OnOk}
use Rattle.std.specs.declared.alloc.AllocError.{AllocError}
use Rattle.bosh_types.specs.declared.ending.Closing.{Closing}
use Rattle.bosh_types.specs.declared.inward.Inward.{Inward}
use Rattle.parked_gate.specs.Passes.{Calls, Known, Looks}
use Rattle.session_journal.specs.declared.asking.Answer.{Answer}
use Rattle.session_journal.specs.declared.asking.Answer.TheVariants as answers
use Rattle.session_journal.specs.declared.asking.Question.TheVariants as questions
use Rattle.session_journal.specs.Seen as seen
use Rattle.session_journal.specs.declared.call.Call.TheVariants as calls
use Rattle.session_journal.specs.declared.call.Reply.TheVariants as replies
use Rattle.session_journal.specs.declared.entry.Entry as journal
use Rattle.session_table.specs.declared.entry.Entry.{Entry}
use Rattle.session_table.specs.declared.calls.DirectoryCall.TheVariants as directory_calls
use Rattle.session_table.specs.declared.calls.DirectoryReply.{DirectoryReply}
use Rattle.session_table.specs.declared.calls.LiveSession.{LiveSession}
use Rattle.session_table.specs.History.{live_at}
use Rattle.session_table.specs.Replies.{RepliesTo}
use Rattle.session_table.specs.Purses.{IsFound, OthersStay, Sessions, Turned, held}
use Rattle.xmpp_backend.specs.Told.{Told, closed_too}
use Rattle.session_pump.specs.Dues.{Dues, IsNotedAs}
use Rattle.session_pump.specs.Ends.{Changes, Ends, telling}
use Rattle.session_pump.specs.Giving.{PollsHost}
use Rattle.session_pump.specs.Places.{IsFirstPlace}
use Rattle.session_pump.specs.Calling.{Called, ClosesEach, ClosesStream, Ticks, both, closed_none, closed_one}
use Rattle.session_pump.specs.Hosts.{HostFacts, HostTurns}
use Rattle.session_pump.specs.Sides.{AreOpened, HasNoHost, IsOpenAmong, LineFacts, Served, Strand, on_strand, served, serving, strand, with_side}
use Rattle.session_pump.specs.declared.line.Side.{Side}
use Rattle.session_pump.specs.declared.line.Stage.TheVariants as stages
use Rattle.session_pump.specs.Pumping.{AsksDirectory, AsksSession, Each, EachPlace, HasOpened, LineTurns, Lines, OnLine, Pumping, Step, Then, alone, and_one, line_of, next_place, on_line, stopped}
use Rattle.session_pump.specs.Turns.{AsksLive, ClosesAt, ClosesBelow, ClosesWire, ClosesWires, CountsLive, IsNewLine, Meets, PollsAt, Removes, ServesAlone, ShutsDown, Takes, TakesAll, Turns, closes_it, counted, first_stage, is_open, isnt_open, met, met_not, no_time, not_asked, refused, removed, removed_not, shuts_nobody, streams_of, ticked, took, wants_memory, was_met}
use Rattle.session_pump.specs.declared.line.Line.{Line}
use Rattle.session_pump.proofs.GivingLemmas.{looks_as}
use Rattle.session_pump.proofs.ListLemmas.{got_map, got_past, set_same}
use Rattle.session_pump.proofs.MovesLemmas.{ends_are}
use Rattle.session_pump.proofs.PassingLemmas.{left_as, new_side}
use Rattle.session_pump.proofs.TurnedLemmas.{some_same, turned_as, turned_none, turned_then}

abbrev pub pumping : Dues → Known Entry → Sessions → Lines → List HostFacts → Pumping
pumping dues directory sessions lines hosts = record { directory = directory; sessions = sessions; lines = lines; hosts = hosts; dues = dues }

-- another number is not at this one
pub at_other : (n k : ℕ) → n ≢ k → is_at (nat_cmp n) k ≡ false
at_other n k apart = unsigned_tied n k ∙ ne_eqb n k apart

some_line : {X : Type 0} {o : Option X} {x : X} → o ≡ Some x → IsSome o
some_line e = cc

-- a line was lent, and another one was left there
pub line_turns : (number : ℕ) (old new : Lines) (was is : Line) → line_of old number ≡ Some was → WritesThrough nat_cmp (nat_cmp number) old is new
    → LineTurns number old new was is
line_turns number old new was is before written =
    let updates : UpdatesBy nat_cmp (nat_cmp number) old new (Some is) = written.3 (some_line before) in
    record { before = before; after = updates.1; others = λ other apart. updates.2 other (at_other number other (λ e. apart (sym e))) }

-- a host was lent, and is another one now
pub host_turns : {X : Type 0} (facts : X → HostFacts) (stands : List X) (place : ℕ) (was is : X) → place < length stands → was ≡ get_or stands place was
    → HostTurns place (map facts stands) (map facts (set stands place is)) (facts was) (facts is)
host_turns facts stands place was is within read = record {
  within = subst (λ (n : ℕ). place < n) (sym (length-map stands facts)) within;
  before = ap facts read ∙ sym (get_or-map facts stands place was (facts was) within);
  after = map-set facts stands place is;
}

module _ {OnHosts : Served → Served → Result ⊤ AllocError → Type 0} {Alone : Known journal.Entry → Known journal.Entry → Result ⊤ AllocError → Type 0} where
  -- something was done to a session on its line
  pub on_line_of : {dues : Dues} {X : Type 0} (facts : X → HostFacts) (number : ℕ) (d d' : Known Entry) (s s' : Sessions) (l l' : Lines) (stands stands' : List X)
      (line later : Line) (result : Result ⊤ AllocError)
      → d' ≡ d → line_of l number ≡ Some line → WritesThrough nat_cmp (nat_cmp number) l later l'
      → Turned number s s' (λ old new. OnHosts (served old line (map facts stands)) (served new later (map facts stands')) result) → OthersStay number s s'
      → OnLine OnHosts Alone number (pumping dues d s l (map facts stands)) (pumping dues d' s' l' (map facts stands')) result
  on_line_of {dues} facts number d d' s s' l l' stands stands' line later result same before written turned others =
      subst (λ (k : Known Entry). OnLine OnHosts Alone number (pumping dues d s l (map facts stands)) (pumping dues k s' l' (map facts stands')) result) (sym same)
      (on_line s' l' (map facts stands') line later (line_turns number l l' line later before written) turned others)

  -- or to it alone
  pub alone_of : {dues : Dues} {X : Type 0} (facts : X → HostFacts) (number : ℕ) (d d' : Known Entry) (s s' : Sessions) (l l' : Lines) (stands : List X) (result : Result ⊤ AllocError)
      → d' ≡ d → l' ≡ l → line_of l number ≡ None
      → Turned number s s' (λ old new. Alone old new result) → OthersStay number s s'
      → OnLine OnHosts Alone number (pumping dues d s l (map facts stands)) (pumping dues d' s' l' (map facts stands)) result
  alone_of {dues} facts number d d' s s' l l' stands result same unchanged nowhere turned others =
      subst (λ (k : Known Entry). OnLine OnHosts Alone number (pumping dues d s l (map facts stands)) (pumping dues k s' l' (map facts stands)) result) (sym same)
      (subst (λ (lines : Lines). OnLine OnHosts Alone number (pumping dues d s l (map facts stands)) (pumping dues d s' lines (map facts stands)) result) (sym unchanged)
      (alone s' nowhere turned others))

-- ---- no memory

pub then_not : {First Second : Step} {a b : Pumping} (error : AllocError) (result : Result ⊤ AllocError) → IsErr result → First a b (Err error) → Then First Second a b result
then_not error (Ok done) err first = absurd (true≢false (sym err))
then_not error (Err other) err first = stopped error other first

-- ---- a session alone

pub takes_not : (number : ℕ) (a b c : Sessions) (wanted : AllocError) (result : Result ⊤ AllocError) → IsErr result → Turned number a b Takes
    → Turned number b c (Called calls.TakeInward (Err wanted)) → Turned number a c (λ old new. TakesAll old new result)
takes_not number a b c wanted result err earlier wants =
    turned_then number a b c Takes (Called calls.TakeInward (Err wanted)) (λ old new. TakesAll old new result) (λ k l m x y. by k l m result err x y) earlier wants
  where
    by : (k l m : Known journal.Entry) (result : Result ⊤ AllocError) → IsErr result → Takes k l → Called calls.TakeInward (Err wanted) l m → TakesAll k m result
    by k l m (Ok done) err x y = absurd (true≢false (sym err))
    by k l m (Err other) err x y = (l, wanted, x, y)

none_in : (item : Option Inward) → ((x : Inward) → item ≡ Some x → ⊥) → item ≡ None
none_in None nothing = refl
none_in (Some x) nothing = absurd (nothing x refl)

pub takes_whole : (number : ℕ) (a b c : Sessions) (item : Option Inward) → ((x : Inward) → item ≡ Some x → ⊥) → Turned number a b Takes
    → Turned number b c (Called calls.TakeInward (Ok (replies.TakeInward item))) → Turned number a c (λ old new. TakesAll old new (Ok tt))
takes_whole number a b c item nothing earlier last =
    turned_then number a b c Takes (Called calls.TakeInward (Ok (replies.TakeInward item))) (λ old new. TakesAll old new (Ok tt))
    (λ k l m x y. (l, x, subst (λ (i : Option Inward). Called calls.TakeInward (Ok (replies.TakeInward i)) l m) (none_in item nothing) y)) earlier last

pub takes_next : (number : ℕ) (a b c : Sessions) (got : Option Inward) (item : Inward) → got ≡ Some item → Turned number a b Takes
    → Turned number b c (Called calls.TakeInward (Ok (replies.TakeInward got))) → Turned number a c Takes
takes_next number a b c got item is earlier next =
    turned_then number a b c Takes (Called calls.TakeInward (Ok (replies.TakeInward got))) Takes
    (λ k l m x y. took item x (subst (λ (i : Option Inward). Called calls.TakeInward (Ok (replies.TakeInward i)) l m) is y)) earlier next

pub alone_not : (moment : Option ℕ) (number : ℕ) (a b : Sessions) (error : AllocError) (result : Result ⊤ AllocError) → IsErr result
    → Turned number a b (Ticks moment (Err error)) → Turned number a b (λ old new. ServesAlone moment old new result)
alone_not moment number a b error result err ticks =
    turned_as number a b (Ticks moment (Err error)) (λ old new. ServesAlone moment old new result) (λ k m x. by k m result err x) ticks
  where
    by : (k m : Known journal.Entry) (result : Result ⊤ AllocError) → IsErr result → Ticks moment (Err error) k m → ServesAlone moment k m result
    by k m (Ok done) err x = absurd (true≢false (sym err))
    by k m (Err other) err x = no_time error other x

pub alone_on : (moment : Option ℕ) (number : ℕ) (a b c : Sessions) (result : Result ⊤ AllocError) → Turned number a b (Ticks moment (Ok tt))
    → Turned number b c (λ old new. TakesAll old new result) → Turned number a c (λ old new. ServesAlone moment old new result)
alone_on moment number a b c result ticks takes =
    turned_then number a b c (Ticks moment (Ok tt)) (λ old new. TakesAll old new result) (λ old new. ServesAlone moment old new result) (λ k l m x y. ticked x y) ticks takes

-- ---- each in turn

-- one more was tried
pub each_more : {A : Type 0} {Does : A → Step} {a b c : Pumping} {first next : Result ⊤ AllocError} (result : Result ⊤ AllocError) (xs ys : List A) (i : ℕ) (x : A)
    → result ≡ both first next → ys ≡ xs → i < length ys → x ≡ get_or ys i x → Each Does a (take i xs) b first → Does x b c next → Each Does a (take (i + 1) xs) c result
each_more {A} {Does} {a} {b} {c} {first} {next} result xs ys i x is same inside item each does =
    let within : i < length xs = subst (λ (zs : List A). i < length zs) same inside in
    let read : x ≡ get_or xs i x = subst (λ (zs : List A). x ≡ get_or zs i x) same item in
    subst (λ (r : Result ⊤ AllocError). Each Does a (take (i + 1) xs) c r) (sym is)
    (subst (λ (zs : List A). Each Does a zs c (both first next)) (sym (take_more xs i x within ∙ ap (λ (y : A). take i xs ++ y ∷ []) (sym read))) (and_one x each does))

pub each_place_more : {Does : ℕ → Step} {a b c : Pumping} {first next : Result ⊤ AllocError} (result : Result ⊤ AllocError) (place : ℕ) → result ≡ both first next
    → EachPlace Does a place b first → Does place b c next → EachPlace Does a (place + 1) c result
each_place_more {Does} {a} {c = c} result place is each does = subst (λ (r : Result ⊤ AllocError). EachPlace Does a (place + 1) c r) (sym is) (next_place place each does)

-- ---- what a session answers

pub looked_as : (P Q : List journal.Entry → Type 0) (number : ℕ) (a b : Sessions) → ((log : List journal.Entry) → P log → Q log) → Turned number a b (Looks P) → Turned number a b (Looks Q)
looked_as P Q number a b by turned = turned_as number a b (Looks P) (Looks Q) (λ k m looks. looks_as by looks) turned

-- this is its host's name
pub home_so : (number : ℕ) (a b : Sessions) (answer : Answer) (name : List ℕ) → answer ≡ answers.Home name
    → Turned number a b (Looks (λ log. seen.Answers log questions.Home (Ok answer))) → Turned number a b (Looks (λ log. seen.Answers log questions.Home (Ok (answers.Home name))))
home_so number a b answer name is turned =
    looked_as (λ log. seen.Answers log questions.Home (Ok answer)) (λ log. seen.Answers log questions.Home (Ok (answers.Home name))) number a b
    (λ log says. subst (λ (x : Answer). seen.Answers log questions.Home (Ok x)) is says) turned

-- a session was asked, and all else is as before
pub asks_of : {dues : Dues} {Says : Known journal.Entry → Known journal.Entry → Type 0} (number : ℕ) (d d' : Known Entry) (s s' : Sessions) (l : Lines) (h : List HostFacts) → d' ≡ d
    → Turned number s s' Says → OthersStay number s s' → AsksSession Says number (pumping dues d s l h) (pumping dues d' s' l h)
asks_of {dues} number d d' s s' l h same turned others = record {
  turned = turned;
  others = others;
  same = ap (λ (k : Known Entry). pumping dues k s' l h) same;
}

line_in : (o : Option Line) → IsSome o → (line : Line) × (o ≡ Some line)
line_in (Some line) some = (line, refl)
line_in None some = absurd (true≢false (sym some))

-- the session was met before
pub met_before : (number : ℕ) (a : Pumping) → IsSome (line_of a.lines number) → Meets number a a (Ok tt)
met_before number a some =
    let line = line_in (line_of a.lines number) some in
    was_met line.0 line.1

-- it wasn't
pub met_never : (lines : Lines) (number : ℕ) → is_some (line_of lines number) ≡ false → line_of lines number ≡ None
met_never lines number none = by (line_of lines number) none
  where
    by : (o : Option Line) → is_some o ≡ false → o ≡ None
    by None is = refl
    by (Some line) is = absurd (true≢false is)

-- all were tried
pub each_all : {A : Type 0} {Does : A → Step} {a b : Pumping} {result : Result ⊤ AllocError} (xs : List A) (i : ℕ) → length xs ≤ i → Each Does a (take i xs) b result
    → Each Does a xs b result
each_all {A} {Does} {a} {b} {result} xs i whole each = subst (λ (ys : List A). Each Does a ys b result) (take_all i xs whole) each

-- a host was polled
pub polls_of : {dues : Dues} {X : Type 0} (facts : X → HostFacts) (moment : Option ℕ) (place : ℕ) (d d' : Known Entry) (s s' : Sessions) (l l' : Lines) (stands : List X) (was is : X) (result : Result ⊤ AllocError)
    → d' ≡ d → place < length stands → was ≡ get_or stands place was → (facts is).ends.name ≡ (facts was).ends.name
    → PollsHost moment (record { place = place; kept = (facts was).kept; ends = (facts was).ends; sessions = s; lines = l })
    (record { place = place; kept = (facts is).kept; ends = (facts is).ends; sessions = s'; lines = l' }) result
    → PollsAt moment place (pumping dues d s l (map facts stands)) (pumping dues d' s' l' (map facts (set stands place is))) result
polls_of {dues} facts moment place d d' s s' l l' stands was is result same within read name polls =
    record {
      host = facts was;
      later = facts is;
      name = name;
      turned = host_turns facts stands place was is within read;
      polls = polls;
      same = ap (λ (k : Known Entry). pumping dues k s' l' (map facts (set stands place is))) same;
    }

-- ---- a wire is closed

closes_as : (R : Strand → Type 0) (change : Told → Told) (known : Known journal.Entry) (kept : Option Inward) (side : Side) (e f : Ends) → Changes change e f
    → R (strand known kept side (telling f.standing.told e)) → R (strand known kept side f)
closes_as R change known kept side e f changes is = subst (λ (ends : Ends). R (strand known kept side ends)) (ends_are change (λ count. count) (λ count. count) e f changes) is

pub wire_closed : (known : Known journal.Entry) (kept : Option Inward) (side : Side) (e f : Ends) → side.stage ≡ stages.Opened e.failures → Changes (closed_too side.wire) e f
    → ClosesWire (strand known kept side e) (strand known kept (record side { stage = stages.Lost }) f) (Ok tt)
wire_closed known kept side e f is changes =
    closes_as (λ t. ClosesWire (strand known kept side e) t (Ok tt)) (closed_too side.wire) known kept (record side { stage = stages.Lost }) e f changes (closes_it f.standing.told is changes.told)

pub wire_not : (known : Known journal.Entry) (kept : Option Inward) (side : Side) (e f : Ends) (error : AllocError) → Changes (λ told. told) e f
    → ClosesWire (strand known kept side e) (strand known kept side f) (Err error)
wire_not known kept side e f error changes =
    closes_as (λ t. ClosesWire (strand known kept side e) t (Err error)) (λ told. told) known kept side e f changes (wants_memory f.standing.told error changes.told)

-- that of the stream at this place, at its host that was lent
pub closed_at : {X : Type 0} (facts : X → HostFacts) (stands : List X) (place at : ℕ) (known : Known journal.Entry) (line : LineFacts) (side side' : Side) (stand stand' : X) (result : Result ⊤ AllocError)
    → slice_get line.sides place ≡ Some side → side.host ≡ Some at → slice_get stands at ≡ Some stand → (facts stand').kept ≡ (facts stand).kept
    → ClosesWire (strand known line.kept side (facts stand).ends) (strand known line.kept side' (facts stand').ends) result
    → ClosesAt place (serving known line (map facts stands)) (serving known (with_side place side' line) (map facts (set stands at stand'))) result
closed_at facts stands place at known line side side' stand stand' result is to there kept closed =
    subst (λ (s : Served). ClosesAt place (serving known line (map facts stands)) s result)
    (left_as facts stands place at line stand stand' (strand known line.kept side' (facts stand').ends) kept refl)
    (is_open (on_strand side at (facts stand) is to (got_map facts stands at stand there) closed))

-- nothing was closed
pub closed_nothing : (place : ℕ) (known : Known journal.Entry) (line : LineFacts) (side : Side) (h : List HostFacts) → slice_get line.sides place ≡ Some side
    → (IsOpenAmong h side → ⊥) → ClosesAt place (serving known line h) (serving known (with_side place side line) h) (Ok tt)
closed_nothing place known line side h is shut =
    subst (λ (sides : List Side). ClosesAt place (serving known line h) (serving known (record line { sides = sides }) h) (Ok tt)) (sym (set_same line.sides place side is))
    (isnt_open side is shut)

pub wires_closed : (place : ℕ) (s t : Served) → place ≡ length s.line.sides → ClosesBelow s place t → ClosesWires s t (Ok tt)
wires_closed place s t whole closed = subst (λ (n : ℕ). ClosesBelow s n t) whole closed

pub wires_not : (place : ℕ) (s t u : Served) (error : AllocError) (result : Result ⊤ AllocError) → IsErr result → ClosesBelow s place t → ClosesAt place t u (Err error) → ClosesWires s u result
wires_not place s t u error (Ok done) err before last = absurd (true≢false (sym err))
wires_not place s t u error (Err other) err before last = (place, t, error, before, last)

pub open_nowhere : (h : List HostFacts) (side : Side) → HasNoHost h side → IsOpenAmong h side → ⊥
open_nowhere h side nowhere found =
    none-some found.host (sym (got_past h found.at (subst (λ (o : Option ℕ). IfSome o (λ at. length h ≤ at)) found.to nowhere)) ∙ found.there)

pub open_not : {X : Type 0} (facts : X → HostFacts) (stands : List X) (side : Side) (at : ℕ) (stand : X) → side.host ≡ Some at → slice_get stands at ≡ Some stand
    → side.stage ≢ stages.Opened (facts stand).ends.failures → IsOpenAmong (map facts stands) side → ⊥
open_not facts stands side at stand to there closed found =
    let here : found.at ≡ at = some_same found.at at (sym found.to ∙ to) in
    let host : found.host ≡ facts stand = some_same found.host (facts stand) (sym found.there ∙ ap (slice_get (map facts stands)) here ∙ got_map facts stands at stand there) in
    closed (found.opened ∙ ap (λ (h : HostFacts). stages.Opened h.ends.failures) host)

-- nothing was closed at a host that was lent, since the wire isn't open there
pub closed_not : {X : Type 0} (facts : X → HostFacts) (stands : List X) (place at : ℕ) (known : Known journal.Entry) (line : LineFacts) (side : Side) (stand : X)
    → slice_get line.sides place ≡ Some side → side.host ≡ Some at → slice_get stands at ≡ Some stand → side.stage ≢ stages.Opened (facts stand).ends.failures
    → ClosesAt place (serving known line (map facts stands)) (serving known (with_side place side line) (map facts (set stands at stand))) (Ok tt)
closed_not facts stands place at known line side stand is to there closed =
    subst (λ xs. ClosesAt place (serving known line (map facts stands)) (serving known (with_side place side line) (map facts xs)) (Ok tt)) (sym (set_same stands at stand there))
    (closed_nothing place known line side (map facts stands) is (open_not facts stands side at stand to there closed))

-- ---- the directory

-- the directory was asked, and all else is as before
pub directory_asked : {dues : Dues} {Says : Known Entry → Known Entry → Type 0} (d d' : Known Entry) (s s' : Sessions) (l : Lines) (h : List HostFacts) → Says d d' → IsUnchanged s s'
    → AsksDirectory Says (pumping dues d s l h) (pumping dues d' s' l h)
directory_asked {dues} d d' s s' l h says unchanged = record { learns = says; sessions = unchanged; same = refl }

pub removes_not : (number : ℕ) (sid : List ℕ) (a : Pumping) (result : Result ⊤ AllocError) → IsErr result → Removes number sid a a result
removes_not number sid a (Ok done) err = absurd (true≢false (sym err))
removes_not number sid a (Err error) err = removed_not error

-- there was no memory for the name of its host
pub meets_not : {dues : Dues} (number : ℕ) (d d' : Known Entry) (s s' : Sessions) (l : Lines) (h : List HostFacts) (result : Result ⊤ AllocError) → IsErr result → d' ≡ d
    → Turned number s s' (Looks (λ log. Unit {0})) → OthersStay number s s' → Meets number (pumping dues d s l h) (pumping dues d' s' l h) result
meets_not {dues} number d d' s s' l h (Ok done) err same asked others = absurd (true≢false (sym err))
meets_not {dues} number d d' s s' l h (Err error) err same asked others = met_not error l (asks_of number d d' s s' l h same asked others) refl

-- a new line, to the first host of that name
pub new_line : {X : Type 0} (facts : X → HostFacts) (number opening : ℕ) (text name : List ℕ) (stands : List X) (found : Option ℕ) (line : Line) (side : Side) → text ≡ name → opening ≡ number
    → IfSome found (λ place. IsFirstPlace (λ stand. bytes_eq (facts stand).ends.name text) stands place)
    → IfNone found (list_any (λ stand. bytes_eq (facts stand).ends.name text) stands ≡ false)
    → line.opening ≡ opening → line.kept ≡ None → line.sides.items ≡ side ∷ [] → side.host ≡ found → side.stream ≡ 0 → side.wire ≡ opening * most_streams + 0 → side.owed ≡ None
    → side.stage ≡ first_stage found → IsNewLine number name (map facts stands) line
new_line facts number opening text name stands found line side same small first none opened kept only host of wire owed stage =
    record {
      opening = opened ∙ small;
      kept = kept;
      side = side;
      alone = only;
      new = new_side facts number 0 text name stands found side same (omega arith) first none host of (wire ∙ ap (λ (n : ℕ). n * most_streams + 0) small) owed;
      stage = stage ∙ ap first_stage (sym host);
    }

-- the line of a session was made and kept, or there was no memory for that
pub meets_so : {dues : Dues} (number : ℕ) (name : List ℕ) (d d' : Known Entry) (s s' : Sessions) (l l' : Lines) (h : List HostFacts) (line : Line) (result : Result ⊤ AllocError) → line_of l number ≡ None → d' ≡ d
    → Turned number s s' (Looks (λ log. seen.Answers log questions.Home (Ok (answers.Home name)))) → OthersStay number s s' → IsNewLine number name h line
    → OnOk result (line_of l' number ≡ Some line) → OnOk result ((other : ℕ) → other ≢ number → line_of l' other ≡ line_of l other)
    → OnErr result (IsUnchanged l l') → Meets number (pumping dues d s l h) (pumping dues d' s' l' h) result
meets_so {dues} number name d d' s s' l l' h line (Ok done) unmet same asked others new kept beside unchanged =
    met name l' line unmet (asks_of number d d' s s' l h same asked others) new kept beside
meets_so {dues} number name d d' s s' l l' h line (Err error) unmet same asked others new kept beside unchanged =
    met_not error l' (asks_of number d d' s s' l h same (looked_as (λ log. seen.Answers log questions.Home (Ok (answers.Home name))) (λ log. Unit {0}) number s s' (λ log says. tt) asked) others) unchanged

-- ---- a wire that was opened

pub on_ok : {P : Type 0} (result : Result ⊤ AllocError) → P → OnOk result P
on_ok (Ok done) p = p
on_ok (Err error) p = tt

pub ok_so : {P Q : Type 0} (result : Result ⊤ AllocError) → (P → Q) → OnOk result P → OnOk result Q
ok_so (Ok done) by p = by p
ok_so (Err error) by p = tt

-- a session that has no line
pub opened_nowhere : (number : ℕ) (lines later : Lines) → later ≡ lines → line_of lines number ≡ None → HasOpened number later
opened_nowhere number lines later unchanged is =
    subst (λ (l : Lines). HasOpened number l) (sym unchanged) (subst (λ (o : Option Line). IfSome o (λ line. AreOpened line.sides.items)) (sym is) tt)

-- a line that was lent is opened
pub opened_line : (number : ℕ) (old new : Lines) (was is : Line) → line_of old number ≡ Some was → WritesThrough nat_cmp (nat_cmp number) old is new
    → AreOpened is.sides.items → HasOpened number new
opened_line number old new was is before written opened =
    subst (λ (o : Option Line). IfSome o (λ line. AreOpened line.sides.items)) (sym (line_turns number old new was is before written).after) opened

-- the line that is lent was opened
pub was_opened : (number : ℕ) (lines : Lines) (line : Line) → HasOpened number lines → line_of lines number ≡ Some line → AreOpened line.sides.items
was_opened number lines line opened is = subst (λ (o : Option Line). IfSome o (λ line. AreOpened line.sides.items)) is opened

pub no_line : (o : Option Line) → ((x : Line) → o ≡ Some x → ⊥) → o ≡ None
no_line None nothing = refl
no_line (Some x) nothing = absurd (nothing x refl)

-- ---- a removal

pub removes_refused : {dues : Dues} (number : ℕ) (sid name : List ℕ) (d d' : Known Entry) (s : Sessions) (l : Lines) (h : List HostFacts) (error : AllocError) (result : Result ⊤ AllocError)
    → IsErr result → name ≡ sid
    → Calls (λ e. e.caller) (λ before made. RepliesTo before (directory_calls.Remove name) (Err error) made) d d'
    → Removes number sid (pumping dues d s l h) (pumping dues d' s l h) result
removes_refused {dues} number sid name d d' s l h error (Ok done) err is called = absurd (true≢false (sym err))
removes_refused {dues} number sid name d d' s l h error (Err other) err is called =
    refused other (record { learns = subst (λ (n : List ℕ). Calls (λ e. e.caller) (λ before made. RepliesTo before (directory_calls.Remove n) (Err other) made) d d') is called; sessions = refl; same = refl })

pub removes_so : {dues dues' : Dues} (number : ℕ) (sid name : List ℕ) (d d' k : Known Entry) (s s' : Sessions) (l l' : Lines) (h : List HostFacts) (reply : DirectoryReply)
    → name ≡ sid → k ≡ d'
    → Calls (λ e. e.caller) (λ before made. RepliesTo before (directory_calls.Remove name) (Ok reply) made) d d'
    → line_of l' number ≡ None → ((other : ℕ) → other ≢ number → line_of l' other ≡ line_of l other) → held s' number ≡ None → OthersStay number s s'
    → IsNotedAs number None dues dues' → Removes number sid (pumping dues d s l h) (pumping dues' k s' l' h) (Ok tt)
removes_so {dues} {dues'} number sid name d d' k s s' l l' h reply is same called line lines gone others forgotten =
    subst (λ (x : Known Entry). Removes number sid (pumping dues d s l h) (pumping dues' x s' l' h) (Ok tt)) (sym same)
    (removed d' s' l' dues' reply (subst (λ (n : List ℕ). Calls (λ e. e.caller) (λ before made. RepliesTo before (directory_calls.Remove n) (Ok reply) made) d d') is called)
    line lines gone others forgotten)

-- ---- a session is found

pub is_found : (P : ℕ → Type 0) (o : Option ℕ) (number : ℕ) → o ≡ Some number → IfSome o P → P number
is_found P o number is found = subst (λ (x : Option ℕ). IfSome x P) is found

pub found_named : (old new : Sessions) (number : ℕ) (text sid : List ℕ) → text ≡ sid → IsFound old new number text → IsFound old new number sid
found_named old new number text sid same found = subst (λ (s : List ℕ). IsFound old new number s) same found

missing_named : (d d' : Known Entry) (text sid : List ℕ) → text ≡ sid
    → Calls (λ e. e.caller) (λ before made. (made ≡ None) × (live_at before text ≡ None)) d d'
    → Calls (λ e. e.caller) (λ before made. (made ≡ None) × (live_at before sid ≡ None)) d d'
missing_named d d' text sid same called = subst (λ (s : List ℕ). Calls (λ e. e.caller) (λ before made. (made ≡ None) × (live_at before s ≡ None)) d d') same called

-- the directory was asked for a session, and none of that name is live
pub asks_missing : {dues : Dues} (d d' : Known Entry) (s s' : Sessions) (l : Lines) (h : List HostFacts) (text sid : List ℕ) (found : Option ℕ) → found ≡ None → text ≡ sid
    → IfNone found (IsUnchanged s s' × Calls (λ e. e.caller) (λ before made. (made ≡ None) × (live_at before text ≡ None)) d d')
    → AsksDirectory (Calls (λ e. e.caller) (λ before made. (made ≡ None) × (live_at before sid ≡ None))) (pumping dues d s l h) (pumping dues d' s' l h)
asks_missing {dues} d d' s s' l h text sid None is same told = directory_asked d d' s s' l h (missing_named d d' text sid same told.1) told.0
asks_missing {dues} d d' s s' l h text sid (Some number) is same told = absurd (none-some number (sym is))

pub found_held : (old new : Sessions) (number : ℕ) (sid : List ℕ) → IsFound old new number sid → IsSome (held new number)
found_held old new number sid found = subst IsSome (sym found.holds.is) refl

-- ---- the end of a turn

pub not_asked_so : {moment : Option ℕ} (a b : Pumping) (result : Result ℕ AllocError) → IsErr result → AsksDirectory (Looks (λ log. Unit {0})) a b → Turns moment a b result
not_asked_so a b (Ok count) err asked = absurd (true≢false (sym err))
not_asked_so a b (Err error) err asked = not_asked error asked

pub shut_nobody_so : {moment : Option ℕ} (a b : Pumping) (result : Result ⊤ AllocError) → IsErr result → AsksDirectory (Looks (λ log. Unit {0})) a b → ShutsDown moment a b result
shut_nobody_so a b (Ok done) err asked = absurd (true≢false (sym err))
shut_nobody_so a b (Err error) err asked = shuts_nobody error asked

pub counted_so : {b : Pumping} (a : Pumping) (done asked : Result ⊤ AllocError) (result : Result ℕ AllocError) → done ≡ asked → CountsLive a b done result → CountsLive a b asked result
counted_so {b} a done asked result is counts = subst (λ (r : Result ⊤ AllocError). CountsLive a b r result) is counts

pub counted_live : {b : Pumping} (a : Pumping) (done : Result ⊤ AllocError) (live : List LiveSession) (count : ℕ) → done ≡ Ok tt → count ≡ length live → AsksLive live a b
    → CountsLive a b done (Ok count)
counted_live {b} a done live count is same asks =
    subst (λ (n : ℕ). CountsLive a b done (Ok n)) (sym same) (counted_so a (Ok tt) done (Ok (length live)) (sym is) (counted live asks))

pub all_places : {Does : ℕ → Step} {X : Type 0} (facts : X → HostFacts) {a b : Pumping} {result : Result ⊤ AllocError} (stands : List X) → EachPlace Does a (length stands) b result
    → EachPlace Does a (length (map facts stands)) b result
all_places {Does} facts {a} {b} {result} stands each = subst (λ (n : ℕ). EachPlace Does a n b result) (sym (length-map stands facts)) each

-- ---- a session is told of each of its streams that the server goes away

abbrev pub ClosesOf : Option ℕ → Closing → List ℕ → Result ⊤ AllocError → Known journal.Entry → Known journal.Entry → Type 0
ClosesOf moment closing streams result old new = ClosesEach moment closing old streams result new

pub shuts_line : (moment : Option ℕ) (closing : Closing) (number : ℕ) (a b : Sessions) (o : Option Line) (line : Line) (result : Result ⊤ AllocError) → o ≡ Some line
    → Turned number a b (ClosesOf moment closing (streams_of (Some line)) result) → Turned number a b (ClosesOf moment closing (streams_of o) result)
shuts_line moment closing number a b o line result is turned = subst (λ (x : Option Line). Turned number a b (ClosesOf moment closing (streams_of x) result)) (sym is) turned

pub shuts_alone : (moment : Option ℕ) (closing : Closing) (number : ℕ) (a b : Sessions) (o : Option Line) (stream : ℕ) (result : Result ⊤ AllocError) → o ≡ None → stream ≡ 0
    → Turned number a b (ClosesStream moment stream closing result) → Turned number a b (ClosesOf moment closing (streams_of o) result)
shuts_alone moment closing number a b o stream result is unnamed turned =
    subst (λ (x : Option Line). Turned number a b (ClosesOf moment closing (streams_of x) result)) (sym is)
    (turned_as number a b (ClosesStream moment 0 closing result) (ClosesOf moment closing (0 ∷ []) result) (λ k m closed. closed_one 0 result closed_none closed)
    (subst (λ (s : ℕ). Turned number a b (ClosesStream moment s closing result)) unnamed turned))

pub closes_none : (moment : Option ℕ) (closing : Closing) (number : ℕ) (a : Sessions) → IsSome (held a number) → Turned number a a (ClosesOf moment closing [] (Ok tt))
closes_none moment closing number a some = turned_none number a (ClosesOf moment closing [] (Ok tt)) some (λ k. closed_none)

streams_more : (xs : List Side) (y : Side) → map (λ side. side.stream) (xs ++ y ∷ []) ≡ map (λ side. side.stream) xs ++ y.stream ∷ []
streams_more [] y = refl
streams_more (x ∷ xs) y = ap (λ rest. x.stream ∷ rest) (streams_more xs y)

pub closes_more : (moment : Option ℕ) (closing : Closing) (number : ℕ) (a b c : Sessions) (first next result : Result ⊤ AllocError) (xs ys : List Side) (i : ℕ) (x : Side)
    → result ≡ both first next → ys ≡ xs → i < length ys → x ≡ get_or ys i x
    → Turned number a b (ClosesOf moment closing (map (λ side. side.stream) (take i xs)) first) → Turned number b c (ClosesStream moment x.stream closing next)
    → Turned number a c (ClosesOf moment closing (map (λ side. side.stream) (take (i + 1) xs)) result)
closes_more moment closing number a b c first next result xs ys i x is same inside item before last =
    let within : i < length xs = subst (λ (zs : List Side). i < length zs) same inside in
    let read : x ≡ get_or xs i x = subst (λ (zs : List Side). x ≡ get_or zs i x) same item in
    subst (λ (r : Result ⊤ AllocError). Turned number a c (ClosesOf moment closing (map (λ side. side.stream) (take (i + 1) xs)) r)) (sym is)
    (subst (λ (zs : List ℕ). Turned number a c (ClosesOf moment closing zs (both first next)))
    (sym (ap (map (λ side. side.stream)) (take_more xs i x within ∙ ap (λ (y : Side). take i xs ++ y ∷ []) (sym read)) ∙ streams_more (take i xs) x))
    (turned_then number a b c (ClosesOf moment closing (map (λ side. side.stream) (take i xs)) first) (ClosesStream moment x.stream closing next)
    (ClosesOf moment closing (map (λ side. side.stream) (take i xs) ++ x.stream ∷ []) (both first next)) (λ k l m y z. closed_one x.stream next y z) before last))

pub closes_all : (moment : Option ℕ) (closing : Closing) (number : ℕ) (a b : Sessions) (xs : List Side) (i : ℕ) (result : Result ⊤ AllocError) → length xs ≤ i
    → Turned number a b (ClosesOf moment closing (map (λ side. side.stream) (take i xs)) result) → Turned number a b (ClosesOf moment closing (map (λ side. side.stream) xs) result)
closes_all moment closing number a b xs i result whole turned =
    subst (λ (ys : List Side). Turned number a b (ClosesOf moment closing (map (λ side. side.stream) ys) result)) (take_all i xs whole) turned
