-- What a pump keeps of one number: whether its session was met, and what was passed on the wires of its streams and given on them.
use Rattle.std.proofs.Common.{append-nil, ◌++◌, IfSome, ◌≡◌, ◌≢◌, ◌⊎◌, ◌<◌, ◌≤◌, ℕ, zero, suc, Bool, true, false, List, [], ◌∷◌, length, set, Option, Some, None, refl, sym, ◌∙◌, ap, subst, inl, inr, eqb, eq-eqb, arith, true≢false}
use Rattle.std.specs.Prelude.{option_to_list, slice_get, ◌||◌, ◌==◌}
use Rattle.std.specs.List.{list_any}
use Rattle.std.proofs.lemmas.Bool.Decides.{eqb_tells}
use Rattle.std.proofs.lemmas.Option.{slice_get_read, slice_get_within}
use Rattle.bosh_types.specs.Limits.{most_streams}
use Rattle.bosh_types.specs.declared.inward.Inward.{Inward}
use Rattle.parked_gate.specs.Histories.{StartsWith}
use Rattle.parked_gate.specs.Passes.{Known, known}
use Rattle.session_journal.specs.declared.entry.Entry as journal
use Rattle.session_table.specs.declared.entry.Entry.{Entry}
use Rattle.session_table.specs.declared.handle.SessionHandle.{SessionHandle}
use Rattle.session_table.specs.Purses.{OthersStay, Sessions, Turned, held}
use Rattle.session_pump.specs.Ends.{Ends}
use Rattle.session_pump.specs.Hosts.{HostFacts, HostTurns}
use Rattle.session_pump.specs.Pumping.{Pumping, line_of}
use Rattle.session_pump.specs.Sides.{HasNoHost, LineFacts, is_met, line_facts}
use Rattle.session_pump.specs.declared.line.Line.{Line}
use Rattle.session_pump.specs.declared.line.Owing.{Owing}
use Rattle.session_pump.specs.declared.line.Side.{Side}
use Rattle.session_pump.specs.declared.line.Stage.{Stage}
use Rattle.pump_laws.specs.Handing.{GaveOf, IsIdle, KeepsNone, told_in_turn}
use Rattle.pump_laws.specs.CallsMade.{handed, CallMade, MadeBy, carried, opens, taken}
use Rattle.pump_laws.specs.InTurn.{Every, IsNothing, passed_in_turn}
use Rattle.pump_laws.specs.Passing.{CanFail, PassedOf}
use Rattle.pump_laws.proofs.BenchLemmas.{no_drift, Drifts, drifts_few, drifts_nothing, drifts_passed, drifts_then}
use Rattle.pump_laws.proofs.CallLemmas.{Carries, Goes, hands_other}
use Rattle.pump_laws.proofs.NumberLemmas.{IsGone, IsOpening, gone_later, opening_later}
use Rattle.pump_laws.proofs.SideLemmas.{LeavesWire, OwesOwn, its_kept, wire_of}

-- ---- back ends by the place of their host

abbrev pub Hosted : Type 0
Hosted = ℕ → Option HostFacts

abbrev pub host_at : List HostFacts → Hosted
host_at hosts place = slice_get hosts place

pub some_same : {A : Type 0} (a b : A) → Some a ≡ Some b → a ≡ b
some_same a b e = cc

pub same_of : {A : Type 0} (o : Option A) (a b : A) → o ≡ Some a → o ≡ Some b → a ≡ b
same_of o a b is also = some_same a b (sym is ∙ also)

pub none_some : {A : Type 0} (o : Option A) (a : A) → o ≡ None → o ≡ Some a → ⊥
none_some o a none is = cc

-- that host turned into this one
pub record HostTurn (place : ℕ) (h i : HostFacts) (old new : Hosted) : Type 0 where
  pub was : old place ≡ Some h
  pub is : new place ≡ Some i
  pub others : (other : ℕ) → other ≢ place → new other ≡ old other

pub got_other : {A : Type 0} (xs : List A) (place other : ℕ) (x : A) → other ≢ place → slice_get (set xs place x) other ≡ slice_get xs other
got_other [] place other x apart = refl
got_other (y ∷ ys) zero zero x apart = absurd (apart refl)
got_other (y ∷ ys) zero (suc other) x apart = refl
got_other (y ∷ ys) (suc place) zero x apart = refl
got_other (y ∷ ys) (suc place) (suc other) x apart = got_other ys place other x (λ same. apart (ap suc same))

got_this : {A : Type 0} (xs : List A) (place : ℕ) (x : A) → place < length xs → slice_get (set xs place x) place ≡ Some x
got_this [] place x within = absurd (omega (arith, within))
got_this (y ∷ ys) zero x within = refl
got_this (y ∷ ys) (suc place) x within = got_this ys place x (omega (arith, within))

pub got_put : {A : Type 0} (xs : List A) (i : ℕ) (x y : A) → slice_get xs i ≡ Some x → slice_get (set xs i y) i ≡ Some y
got_put xs i x y is = got_this xs i y (slice_get_within xs i x is)

-- the host at this place was lent
pub host_put : (hosts : List HostFacts) (at : ℕ) (was is : HostFacts) → slice_get hosts at ≡ Some was → HostTurn at was is (host_at hosts) (host_at (set hosts at is))
host_put hosts at was is there = record { was = there; is = got_put hosts at was is there; others = λ other apart. got_other hosts at other is apart }

pub host_turned : (place : ℕ) (old new : List HostFacts) (was is : HostFacts) → HostTurns place old new was is → HostTurn place was is (host_at old) (host_at new)
host_turned place old new was is t = record {
  was = slice_get_read old (length old) place was refl t.within t.before;
  is = ap (λ hosts. slice_get hosts place) t.after ∙ got_this old place is t.within;
  others = λ other apart. ap (λ hosts. slice_get hosts other) t.after ∙ got_other old place other is apart;
}

pub same_or_apart : (n m : ℕ) → (n ≡ m) ⊎ (n ≢ m)
same_or_apart n m = by (eqb_tells n m)
  where
    by : ((eqb n m ≡ true) × (n ≡ m)) ⊎ ((eqb n m ≡ false) × (n ≢ m)) → (n ≡ m) ⊎ (n ≢ m)
    by (inl same) = inl same.1
    by (inr apart) = inr apart.1

-- ---- a host turns

-- nothing was given on this wire, and nothing is kept for it
pub record IdleAt (wire : ℕ) (host : HostFacts) : Type 0 where
  pub idle : Every IsIdle (told_in_turn wire host.ends)
  pub none : KeepsNone wire host.kept

-- nothing was passed on it, and nothing was given on it, where what is given is looked at
pub record NoneAt (B : Type 0) (wire : ℕ) (host : HostFacts) : Type 0 where
  pub passed : Every IsNothing (passed_in_turn wire host.ends)
  pub given : B → IdleAt wire host

-- what a turn of a host leaves as it was for this wire
pub record Leaves (B : Type 0) (wire : ℕ) (h i : HostFacts) : Type 0 where
  pub drifts : Drifts wire h.ends i.ends
  pub idle : B → IdleAt wire h → IdleAt wire i
  pub gives : (all : List (List ℕ)) (stage : Stage) (owed : Option Owing) → B → GaveOf wire all stage owed h.kept (told_in_turn wire h.ends)
      → GaveOf wire all stage owed i.kept (told_in_turn wire i.ends)

pub leaves_same : (B : Type 0) (wire : ℕ) (h : HostFacts) → Leaves B wire h h
leaves_same B wire h = record { drifts = no_drift; idle = λ b idle. idle; gives = λ all stage owed b gave. gave }

pub leaves_then : (B : Type 0) (wire : ℕ) (h i j : HostFacts) → Leaves B wire h i → Leaves B wire i j → Leaves B wire h j
leaves_then B wire h i j first second = record {
  drifts = drifts_then first.drifts second.drifts;
  idle = λ b idle. second.idle b (first.idle b idle);
  gives = λ all stage owed b gave. second.gives all stage owed b (first.gives all stage owed b gave);
}

-- where it keeps what it kept
pub leaves_ends : (B : Type 0) (wire : ℕ) (h : HostFacts) (ends : Ends) → LeavesWire wire h.ends ends → Leaves B wire h (record h { ends = ends })
leaves_ends B wire h ends l = record {
  drifts = l.drifts;
  idle = λ b idle. record { idle = subst (Every IsIdle) (sym l.told) idle.idle; none = idle.none };
  gives = λ all stage owed b gave. subst (GaveOf wire all stage owed h.kept) (sym l.told) gave;
}

-- of all hosts
abbrev pub AllLeave : Type 0 → ℕ → Hosted → Hosted → Type 0
AllLeave B wire old new = (place : ℕ) (i : HostFacts) → new place ≡ Some i → (h : HostFacts) × (old place ≡ Some h) × Leaves B wire h i

pub all_same : (B : Type 0) (wire : ℕ) (hosted : Hosted) → AllLeave B wire hosted hosted
all_same B wire hosted place i is = (i, is, leaves_same B wire i)

pub all_then : (B : Type 0) (wire : ℕ) (old mid new : Hosted) → AllLeave B wire old mid → AllLeave B wire mid new → AllLeave B wire old new
all_then B wire old mid new first second place i is =
    let s = second place i is in
    let f = first place s.0 s.1 in
    (f.0, f.1, leaves_then B wire f.0 s.0 i f.2 s.2)

pub turn_leaves : (B : Type 0) (wire place : ℕ) (h i : HostFacts) (old new : Hosted) → HostTurn place h i old new → Leaves B wire h i → AllLeave B wire old new
turn_leaves B wire place h i old new t leaves q x is = at (same_or_apart q place)
  where
    at : (q ≡ place) ⊎ (q ≢ place) → (y : HostFacts) × (old q ≡ Some y) × Leaves B wire y x
    at (inl same) = (h, ap old same ∙ t.was, subst (Leaves B wire h) (same_of (new place) i x t.is (ap new (sym same) ∙ is)) leaves)
    at (inr apart) = (x, sym (t.others q apart) ∙ is, leaves_same B wire x)

pub none_left : (B : Type 0) (wire : ℕ) (old new : Hosted) → AllLeave B wire old new → (place : ℕ) (i : HostFacts) → new place ≡ Some i
    → ((h : HostFacts) → old place ≡ Some h → NoneAt B wire h) → NoneAt B wire i
none_left B wire old new leaves place i is was =
    let l = leaves place i is in
    let n : NoneAt B wire l.0 = was l.0 l.1 in
    record { passed = drifts_nothing wire l.0.ends i.ends l.2.drifts n.passed; given = λ b. l.2.idle b (n.given b) }

passed_left : (B : Type 0) (wire : ℕ) (all kept : List Inward) (stage : Stage) (old new : Hosted) → AllLeave B wire old new → (place : ℕ) (i : HostFacts) → new place ≡ Some i → CanFail i.ends
    → ((h : HostFacts) → old place ≡ Some h → CanFail h.ends → PassedOf wire all stage kept h.ends) → PassedOf wire all stage kept i.ends
passed_left B wire all kept stage old new leaves place i is few was =
    let l = leaves place i is in
    drifts_passed wire all stage kept l.0.ends i.ends l.2.drifts few (was l.0 l.1 (drifts_few wire l.0.ends i.ends l.2.drifts few))

gave_left : (B : Type 0) (wire : ℕ) (all : List (List ℕ)) (stage : Stage) (owed : Option Owing) (old new : Hosted) → AllLeave B wire old new → (place : ℕ) (i : HostFacts) → new place ≡ Some i → B
    → ((h : HostFacts) → old place ≡ Some h → GaveOf wire all stage owed h.kept (told_in_turn wire h.ends)) → GaveOf wire all stage owed i.kept (told_in_turn wire i.ends)
gave_left B wire all stage owed old new leaves place i is b was =
    let l = leaves place i is in
    l.2.gives all stage owed b (was l.0 l.1)

-- ---- lists

pub any_at : {A : Type 0} (test : A → Bool) (xs : List A) (i : ℕ) (x : A) → slice_get xs i ≡ Some x → test x ≡ true → list_any test xs ≡ true
any_at test [] i x is passes = absurd (none_some None x refl is)
any_at test (a ∷ xs) zero x is passes = ap (λ (b : Bool). b || list_any test xs) (ap test (same_of (Some a) a x refl is) ∙ passes)
any_at test (a ∷ xs) (suc i) x is passes = by (test a) (any_at test xs i x is passes)
  where
    by : (b : Bool) → list_any test xs ≡ true → (b || list_any test xs) ≡ true
    by true any = refl
    by false any = any

pub any_first : {A : Type 0} (test : A → Bool) (xs ys : List A) → list_any test xs ≡ true → list_any test (xs ++ ys) ≡ true
any_first test [] ys is = absurd (true≢false (sym is))
any_first test (x ∷ xs) ys is = by (test x) is (λ later. any_first test xs ys later)
  where
    by : (b : Bool) → (b || list_any test xs) ≡ true → (list_any test xs ≡ true → list_any test (xs ++ ys) ≡ true) → (b || list_any test (xs ++ ys)) ≡ true
    by true is next = refl
    by false is next = next is

pub any_last : {A : Type 0} (test : A → Bool) (xs : List A) (y : A) → test y ≡ true → list_any test (xs ++ y ∷ []) ≡ true
any_last test [] y is = ap (λ (b : Bool). b || false) is
any_last test (x ∷ xs) y is = by (test x) (any_last test xs y is)
  where
    by : (b : Bool) → list_any test (xs ++ y ∷ []) ≡ true → (b || list_any test (xs ++ y ∷ [])) ≡ true
    by true next = refl
    by false next = next

pub none_more : {A : Type 0} (test : A → Bool) (xs : List A) (y : A) → list_any test xs ≡ false → test y ≡ false → list_any test (xs ++ y ∷ []) ≡ false
none_more test [] y none isnt = ap (λ (b : Bool). b || false) isnt
none_more test (x ∷ xs) y none isnt = by (test x) none (λ rest. none_more test xs y rest isnt)
  where
    by : (b : Bool) → (b || list_any test xs) ≡ false → (list_any test xs ≡ false → list_any test (xs ++ y ∷ []) ≡ false) → (b || list_any test (xs ++ y ∷ [])) ≡ false
    by true none next = absurd (true≢false none)
    by false none next = next none

-- ---- what is kept of a stream

-- it is the stream that each session begins with, or its open item was taken
abbrev pub WasBegun : ℕ → List Inward → Type 0
WasBegun stream items = (stream ≡ 0) ⊎ (list_any (opens stream) items ≡ true)

-- what was taken for the stream of this side, and what went over its wire
pub record SideKeeps (B : Type 0) (hosted : Hosted) (made : List CallMade) (kept : Option Inward) (side : Side) : Type 0 where
  pub begun : WasBegun side.stream (taken made)
  pub here : (place : ℕ) (host : HostFacts) → hosted place ≡ Some host → side.host ≡ Some place → CanFail host.ends
      → PassedOf side.wire (carried side.stream (taken made)) side.stage (its_kept side.stream kept) host.ends
  pub elsewhere : (place : ℕ) (host : HostFacts) → hosted place ≡ Some host → side.host ≢ Some place → NoneAt B side.wire host
  pub gives : (place : ℕ) (host : HostFacts) → hosted place ≡ Some host → side.host ≡ Some place → B
      → GaveOf side.wire (handed side.stream made) side.stage side.owed host.kept (told_in_turn side.wire host.ends)

-- a stream that wasn't met: nothing went over its wire, and of what was handed on no item opens it
pub record NotMet (B : Type 0) (hosted : Hosted) (n q : ℕ) (made : List CallMade) (kept : Option Inward) : Type 0 where
  pub nothing : (place : ℕ) (host : HostFacts) → hosted place ≡ Some host → NoneAt B (wire_of n q) host
  pub earlier : List Inward
  pub are : taken made ≡ earlier ++ option_to_list kept
  pub unopened : list_any (opens q) earlier ≡ false
  pub unhanded : B → handed q made ≡ []

-- the side of a stream of this session
pub record IsProperSide (n : ℕ) (side : Side) : Type 0 where
  pub wire : side.wire ≡ wire_of n side.stream
  pub small : side.stream < most_streams
  pub owes : OwesOwn side

-- the line of this session
pub record IsProper (n : ℕ) (line : LineFacts) : Type 0 where
  pub opening : line.opening ≡ n
  pub sides : (place : ℕ) (side : Side) → slice_get line.sides place ≡ Some side → IsProperSide n side

-- the session has a line
pub record LineKeeps (B : Type 0) (n : ℕ) (hosted : Hosted) (line : LineFacts) (mine : List journal.Entry) : Type 0 where
  pub calls : List CallMade
  pub made : MadeBy calls mine
  pub zeroth : is_met 0 line.sides ≡ true
  pub once : (place other : ℕ) (side beside : Side) → slice_get line.sides place ≡ Some side → slice_get line.sides other ≡ Some beside → side.stream ≡ beside.stream → place ≡ other
  pub has : (place : ℕ) (side : Side) → slice_get line.sides place ≡ Some side → SideKeeps B hosted calls line.kept side
  pub hasnt : (q : ℕ) → q < most_streams → is_met q line.sides ≡ false → NotMet B hosted n q calls line.kept

-- by other calls, which took and gave the same
pub side_calls : (B : Type 0) (hosted : Hosted) (made more : List CallMade) (kept : Option Inward) (side : Side) → taken more ≡ taken made → handed side.stream more ≡ handed side.stream made
    → SideKeeps B hosted made kept side → SideKeeps B hosted more kept side
side_calls B hosted made more kept side same gave k = record {
  begun = subst (WasBegun side.stream) (sym same) k.begun;
  here = λ place host is at few. subst (λ all. PassedOf side.wire (carried side.stream all) side.stage (its_kept side.stream kept) host.ends) (sym same) (k.here place host is at few);
  elsewhere = k.elsewhere;
  gives = λ place host is at b. subst (λ all. GaveOf side.wire all side.stage side.owed host.kept (told_in_turn side.wire host.ends)) (sym gave) (k.gives place host is at b);
}

pub unmet_calls : (B : Type 0) (hosted : Hosted) (n q : ℕ) (made more : List CallMade) (kept : Option Inward) → taken more ≡ taken made → handed q more ≡ handed q made
    → NotMet B hosted n q made kept → NotMet B hosted n q more kept
unmet_calls B hosted n q made more kept same gave k =
    record { nothing = k.nothing; earlier = k.earlier; are = same ∙ k.are; unopened = k.unopened; unhanded = λ b. gave ∙ k.unhanded b }

-- where hosts turned, and left it
pub side_left : (B : Type 0) (old new : Hosted) (made : List CallMade) (kept : Option Inward) (side : Side) → AllLeave B side.wire old new → SideKeeps B old made kept side → SideKeeps B new made kept side
side_left B old new made kept side leaves k = record {
  begun = k.begun;
  here = λ place host is at few. passed_left B side.wire (carried side.stream (taken made)) (its_kept side.stream kept) side.stage old new leaves place host is few (λ h was less. k.here place h was at less);
  elsewhere = λ place host is away. none_left B side.wire old new leaves place host is (λ h was. k.elsewhere place h was away);
  gives = λ place host is at b. gave_left B side.wire (handed side.stream made) side.stage side.owed old new leaves place host is b (λ h was. k.gives place h was at b);
}

pub unmet_left : (B : Type 0) (old new : Hosted) (n q : ℕ) (made : List CallMade) (kept : Option Inward) → AllLeave B (wire_of n q) old new → NotMet B old n q made kept → NotMet B new n q made kept
unmet_left B old new n q made kept leaves k = record {
  nothing = λ place host is. none_left B (wire_of n q) old new leaves place host is (λ h was. k.nothing place h was);
  earlier = k.earlier;
  are = k.are;
  unopened = k.unopened;
  unhanded = k.unhanded;
}

-- where nothing else of it is kept
pub side_kept : (B : Type 0) (hosted : Hosted) (made : List CallMade) (kept later : Option Inward) (side : Side) → its_kept side.stream later ≡ its_kept side.stream kept
    → SideKeeps B hosted made kept side → SideKeeps B hosted made later side
side_kept B hosted made kept later side same k = record {
  begun = k.begun;
  here = λ place host is at few. subst (λ xs. PassedOf side.wire (carried side.stream (taken made)) side.stage xs host.ends) (sym same) (k.here place host is at few);
  elsewhere = k.elsewhere;
  gives = k.gives;
}

-- what is kept was handed on, and doesn't open it
pub unmet_on : (B : Type 0) (hosted : Hosted) (n q : ℕ) (made : List CallMade) (kept : Option Inward) (item : Inward) → kept ≡ Some item → opens q item ≡ false
    → NotMet B hosted n q made kept → NotMet B hosted n q made None
unmet_on B hosted n q made kept item is isnt k = record {
  nothing = k.nothing;
  earlier = k.earlier ++ item ∷ [];
  are = k.are ∙ (ap (λ o. k.earlier ++ option_to_list o) is ∙ sym (append-nil (k.earlier ++ item ∷ [])));
  unopened = none_more (opens q) k.earlier item k.unopened isnt;
  unhanded = k.unhanded;
}

-- a place past the hosts has none
pub no_host_at : (hosts : List HostFacts) (side : Side) (place : ℕ) (host : HostFacts) → HasNoHost hosts side → host_at hosts place ≡ Some host → side.host ≡ Some place → ⊥
no_host_at hosts side place host nowhere is at =
    let beyond : length hosts ≤ place = subst (λ o. IfSome o (λ place. length hosts ≤ place)) at nowhere in
    omega (arith, beyond, slice_get_within hosts place host is)

-- a stream that has no host may stand anywhere
pub side_nowhere : (B : Type 0) (hosts : List HostFacts) (made : List CallMade) (kept later : Option Inward) (side : Side) (stage : Stage) → HasNoHost hosts side
    → SideKeeps B (host_at hosts) made kept side → SideKeeps B (host_at hosts) made later (record side { stage = stage })
side_nowhere B hosts made kept later side stage nowhere k = record {
  begun = k.begun;
  here = λ place host is at few. absurd (no_host_at hosts side place host nowhere is at);
  elsewhere = k.elsewhere;
  gives = λ place host is at b. absurd (no_host_at hosts side place host nowhere is at);
}

pub line_left : (B : Type 0) (n : ℕ) (old new : Hosted) (line : LineFacts) (mine : List journal.Entry) → IsProper n line → ((q : ℕ) → q < most_streams → AllLeave B (wire_of n q) old new)
    → LineKeeps B n old line mine → LineKeeps B n new line mine
line_left B n old new line mine proper leaves k = record {
  calls = k.calls;
  made = k.made;
  zeroth = k.zeroth;
  once = k.once;
  has = λ place side is.
      let p : IsProperSide n side = proper.sides place side is in
      side_left B old new k.calls line.kept side (subst (λ w. AllLeave B w old new) (sym p.wire) (leaves side.stream p.small)) (k.has place side is);
  hasnt = λ q small unmet. unmet_left B old new n q k.calls line.kept (leaves q small) (k.hasnt q small unmet);
}

pub line_carries : (B : Type 0) (n : ℕ) (hosted : Hosted) (line : LineFacts) (mine later : List journal.Entry) → ((made : List CallMade) → MadeBy made mine → Goes made later)
    → LineKeeps B n hosted line mine → LineKeeps B n hosted line later
line_carries B n hosted line mine later carries k =
    let g : Goes k.calls later = carries k.calls k.made in
    record {
      calls = g.calls;
      made = g.by_these;
      zeroth = k.zeroth;
      once = k.once;
      has = λ place side is. side_calls B hosted k.calls g.calls line.kept side g.same (hands_other side.stream [] k.calls later g refl) (k.has place side is);
      hasnt = λ q small unmet. unmet_calls B hosted n q k.calls g.calls line.kept g.same (hands_other q [] k.calls later g refl) (k.hasnt q small unmet);
    }

-- ---- what is kept of a number

abbrev pub NothingPassed : Type 0 → ℕ → Hosted → Type 0
NothingPassed B n hosted = (q : ℕ) → q < most_streams → (place : ℕ) (host : HostFacts) → hosted place ≡ Some host → NoneAt B (wire_of n q) host

-- its session is held and has no line, and nothing was taken of it or given to it
pub record IsUnmet (B : Type 0) (n : ℕ) (seen : List Entry) (h : SessionHandle) : Type 0 where
  pub opened : IsOpening n h.sid seen
  pub calls : List CallMade
  pub made : MadeBy calls (known h.pass).mine
  pub nothing : taken calls ≡ []
  pub unhanded : (q : ℕ) → q < most_streams → B → handed q calls ≡ []

pub data Keeps (B G : Type 0) (n : ℕ) (o : Option SessionHandle) (l : Option Line) (hosted : Hosted) (seen : List Entry) : Type 0 where
  unmet : l ≡ None → ((h : SessionHandle) → o ≡ Some h → IsUnmet B n seen h) → NothingPassed B n hosted → Keeps B G n o l hosted seen
  was_met : (h : SessionHandle) (line : Line) → o ≡ Some h → l ≡ Some line → IsOpening n h.sid seen → LineKeeps B n hosted (line_facts line) (known h.pass).mine → Keeps B G n o l hosted seen
  is_gone : l ≡ None → o ≡ None → IsGone n seen → G → Keeps B G n o l hosted seen

-- by another reason for which its session may be gone
pub keeps_as : {B G H : Type 0} (n : ℕ) (o : Option SessionHandle) (l : Option Line) (hosted : Hosted) (seen : List Entry) → (IsGone n seen → G → H)
    → Keeps B G n o l hosted seen → Keeps B H n o l hosted seen
keeps_as {B} n o l hosted seen so (unmet none held_so nothing) = unmet none held_so nothing
keeps_as {B} n o l hosted seen so (was_met h line is at opened k) = was_met h line is at opened k
keeps_as {B} n o l hosted seen so (is_gone none nobody gone why) = is_gone none nobody gone (so gone why)

-- ---- the directory is asked

pub keeps_later : {B G : Type 0} (n : ℕ) (o : Option SessionHandle) (l : Option Line) (hosted : Hosted) (seen later : List Entry) → StartsWith later seen
    → Keeps B G n o l hosted seen → Keeps B G n o l hosted later
keeps_later {B} {G} n o l hosted seen later starts (unmet none held_so nothing) =
    unmet none (λ h is. let u : IsUnmet B n seen h = held_so h is in
    record { opened = opening_later n h.sid seen later starts u.opened; calls = u.calls; made = u.made; nothing = u.nothing; unhanded = u.unhanded }) nothing
keeps_later {B} {G} n o l hosted seen later starts (was_met h line is at opened k) = was_met h line is at (opening_later n h.sid seen later starts opened) k
keeps_later {B} {G} n o l hosted seen later starts (is_gone none nobody gone why) = is_gone none nobody (gone_later n seen later starts gone) why

-- ---- a session is called

-- the handle is another one of that session, and what was made of it took nothing
pub record Follows (h i : SessionHandle) : Type 0 where
  pub sid : i.sid ≡ h.sid
  pub carries : Carries (known h.pass) (known i.pass)

unmet_follows : {B : Type 0} (n : ℕ) (seen : List Entry) (h i : SessionHandle) → Follows h i → IsUnmet B n seen h → IsUnmet B n seen i
unmet_follows n seen h i f u =
    let g : Goes u.calls (known i.pass).mine = f.carries u.calls u.made in
    record {
      opened = subst (λ sid. IsOpening n sid seen) (sym f.sid) u.opened;
      calls = g.calls;
      made = g.by_these;
      nothing = g.same ∙ u.nothing;
      unhanded = λ q small b. hands_other q [] u.calls (known i.pass).mine g refl ∙ u.unhanded q small b;
    }

pub keeps_follows : {B G : Type 0} (n : ℕ) (o p : Option SessionHandle) (l : Option Line) (hosted : Hosted) (seen : List Entry) (h i : SessionHandle) → o ≡ Some h → p ≡ Some i → Follows h i
    → Keeps B G n o l hosted seen → Keeps B G n p l hosted seen
keeps_follows {B} {G} n o p l hosted seen h i is is' f (unmet none held_so nothing) =
    unmet none (λ j at. subst (IsUnmet B n seen) (same_of p i j is' at) (unmet_follows n seen h i f (held_so h is))) nothing
keeps_follows {B} {G} n o p l hosted seen h i is is' f (was_met j line at there opened k) =
    was_met i line is' there (subst (λ sid. IsOpening n sid seen) (sym f.sid) (subst (λ (x : SessionHandle). IsOpening n x.sid seen) (same_of o j h at is) opened))
    (line_carries B n hosted (line_facts line) (known h.pass).mine (known i.pass).mine f.carries
    (subst (λ (x : SessionHandle). LineKeeps B n hosted (line_facts line) (known x.pass).mine) (same_of o j h at is) k))
keeps_follows {B} {G} n o p l hosted seen h i is is' f (is_gone none nobody gone why) = absurd (none_some o h nobody is)

pub keeps_turned : {B G : Type 0} (n m : ℕ) (old new : Sessions) (Says : Known journal.Entry → Known journal.Entry → Type 0) → ((k l : Known journal.Entry) → Says k l → Carries k l)
    → Turned m old new Says → OthersStay m old new → (l : Option Line) (hosted : Hosted) (seen : List Entry)
    → Keeps B G n (held old n) l hosted seen → Keeps B G n (held new n) l hosted seen
keeps_turned {B} {G} n m old new Says carries t others l hosted seen k = by (same_or_apart n m)
  where
    by : (n ≡ m) ⊎ (n ≢ m) → Keeps B G n (held new n) l hosted seen
    by (inl same) =
        keeps_follows n (held old n) (held new n) l hosted seen t.before t.after (ap (held old) same ∙ t.was) (ap (held new) same ∙ t.is)
        (record { sid = t.of_same.sid; carries = carries (known t.before.pass) (known t.after.pass) t.says }) k
    by (inr apart) = subst (λ o. Keeps B G n o l hosted seen) (sym (others n apart)) k

pub keeps_left : {B G : Type 0} (n : ℕ) (o : Option SessionHandle) (l : Option Line) (old new : Hosted) (seen : List Entry) → ((line : Line) → l ≡ Some line → IsProper n (line_facts line))
    → ((q : ℕ) → q < most_streams → AllLeave B (wire_of n q) old new) → Keeps B G n o l old seen → Keeps B G n o l new seen
keeps_left {B} {G} n o l old new seen proper leaves (unmet none held_so nothing) =
    unmet none held_so (λ q small place host is. none_left B (wire_of n q) old new (leaves q small) place host is (λ h was. nothing q small place h was))
keeps_left {B} {G} n o l old new seen proper leaves (was_met handle line is there opened k) =
    was_met handle line is there opened (line_left B n old new (line_facts line) (known handle.pass).mine (proper line there) leaves k)
keeps_left {B} {G} n o l old new seen proper leaves (is_gone none nobody gone why) = is_gone none nobody gone why

-- ---- what is kept of a pump, for one number

pub record Good (B G : Type 0) (n : ℕ) (a : Pumping) : Type 0 where
  pub keeps : Keeps B G n (held a.sessions n) (line_of a.lines n) (host_at a.hosts) a.directory.seen
  pub proper : (m : ℕ) (line : Line) → line_of a.lines m ≡ Some line → IsProper m (line_facts line)
