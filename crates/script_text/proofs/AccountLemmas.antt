-- The answers of a script's lines so far, and the sessions so far that gave them.
use Rattle.std.proofs.Common.{◌≡◌, ℕ, suc, ◌+◌, ◌==◌, Bool, true, false, not, List, [], ◌∷◌, ◌++◌, All, map, take, drop, Option, Some, None, refl, sym, subst, ◌∙◌, ap, append_assoc, arith, inl, inr, if◌then◌else◌}
use Rattle.std.specs.Prelude.{◌&&◌, slice_get, count_by}
use Rattle.std.specs.List.{list_any}
use Rattle.std.proofs.lemmas.Bool.{eqb-false}
use Rattle.std.proofs.lemmas.List.{append-nil}
use Rattle.std.proofs.lemmas.List.Elements.{All-nil, All-cons, All-head, All-tail, All-append, All-map, All-weaker}
use Rattle.session_attrs.specs.declared.request.Request.{Request}
use Rattle.session_core.specs.Journal.{Journal, state_of}
use Rattle.session_core.specs.State.{is_over}
use Rattle.session_laws.proofs.Lists.{get_some}
use Rattle.session_laws.proofs.Tests.{true_false, none_some, both_true, neither}
use Rattle.script_text.specs.declared.event.Event.{Event}
use Rattle.script_text.specs.declared.event.Event.TheVariants.{Passes}
use Rattle.script_text.specs.declared.live.Parked.{Parked}
use Rattle.script_text.specs.declared.report.ReportLine.{ReportLine}
use Rattle.script_text.specs.declared.report.ReportLine.TheVariants.{In, Out, Lost, Gone, Refused, Over, Done, Bad}
use Rattle.script_text.specs.Answered.{Posting, Stage, GivesId, IsFor, IsGivenBy, IsAccounted, AreAccounted, latest_on}
use Rattle.script_text.specs.Headline.{is_opened, is_numbered}
use Rattle.script_text.specs.Live.{PlainLive, state, Turn, turn_at, if_live, if_over}
use Rattle.script_text.specs.Manager.{PlainManager, Change, only, waits_on, closed_on, closed, with_closed, place_of, turned_at, comes_at, comes, passed_lines, passed_live, passed_over}
use Rattle.script_text.specs.Stands.{IsEvent}
use Rattle.script_text.proofs.AnswersLemmas.{IsOf, WaitsFor, Waiting, Answers, AsksHere, for_later, turn_answers}
use Rattle.script_text.proofs.PositionLemmas.{none_is, some_within}
use Rattle.script_text.proofs.PostedLemmas.{number_at}
use Rattle.script_text.proofs.ReportLemmas.{Holds}
use Rattle.script_text.proofs.SessionsLemmas.{GoesOn, TellsAll, all_both, swapped, all_front, all_back, all_at, place_splits, none_passes, opened_still, new_number, turns, is_one, all_apart}
use Rattle.script_text.proofs.ToldLemmas.{IsTurnOf}
use Rattle.script_text.proofs.TurnLemmas.{comes_turn}

-- what was given by sessions so far is given by those later
abbrev StillGiven : ℕ → List PlainLive → List PlainLive → Type 0
StillGiven opened sessions others =
    (number : ℕ) (request : Request) (bytes : List ℕ) → is_opened opened number ≡ true → IsGivenBy sessions number request bytes → IsGivenBy others number request bytes

accounted_on : (stage : Stage) (opened more : ℕ) (sessions others : List PlainLive) → ((k : ℕ) → is_opened opened k ≡ true → is_opened more k ≡ true)
    → StillGiven opened sessions others → (line : ReportLine) → IsAccounted opened sessions stage line → IsAccounted more others stage line
accounted_on stage opened more sessions others wider still (In session item) is = tt
accounted_on stage opened more sessions others wider still (Out conn body) is = elim is [
  | inl refusal ↦ inl refusal
  | inr given ↦ inr (given.0, given.1, given.2, wider given.0 given.3, still given.0 given.1 body given.3 given.4)
]
accounted_on stage opened more sessions others wider still (Lost conn) is = tt
accounted_on stage opened more sessions others wider still (Gone conn) is = tt
accounted_on stage opened more sessions others wider still (Refused session refusal) is = tt
accounted_on stage opened more sessions others wider still (Over session ending) is = tt
accounted_on stage opened more sessions others wider still (Done line) is = tt
accounted_on stage opened more sessions others wider still (Bad line kind) is = tt

all_accounted : (stage : Stage) (opened more : ℕ) (sessions others : List PlainLive) → ((k : ℕ) → is_opened opened k ≡ true → is_opened more k ≡ true)
    → StillGiven opened sessions others → (lines : List ReportLine) → All (IsAccounted opened sessions stage) lines → All (IsAccounted more others stage) lines
all_accounted stage opened more sessions others wider still lines all =
    All-weaker (IsAccounted opened sessions stage) (IsAccounted more others stage) (accounted_on stage opened more sessions others wider still) lines all

stages_accounted : (opened more : ℕ) (sessions others : List PlainLive) → ((k : ℕ) → is_opened opened k ≡ true → is_opened more k ≡ true)
    → StillGiven opened sessions others → (stages : List Stage) → All (AreAccounted opened sessions) stages → All (AreAccounted more others) stages
stages_accounted opened more sessions others wider still stages all =
    All-weaker (AreAccounted opened sessions) (AreAccounted more others) (λ stage are. all_accounted stage opened more sessions others wider still stage.lines are) stages all

-- the answers of one session's turn
of_one : (stage : Stage) (opened number : ℕ) (sessions : List PlainLive) (journal : Journal) → is_opened opened number ≡ true
    → ((request : Request) (bytes : List ℕ) → IsFor request number journal → GivesId (state_of journal) request.rid bytes → IsGivenBy sessions number request bytes)
    → (line : ReportLine) → IsOf stage number journal line → IsAccounted opened sessions stage line
of_one stage opened number sessions journal known gives (In session item) is = tt
of_one stage opened number sessions journal known gives (Out conn body) is = elim is [
  | inl refusal ↦ inl refusal
  | inr given ↦ inr (number, given.0, given.1, known, gives given.0 body given.2 given.3)
]
of_one stage opened number sessions journal known gives (Lost conn) is = tt
of_one stage opened number sessions journal known gives (Gone conn) is = tt
of_one stage opened number sessions journal known gives (Refused session refusal) is = tt
of_one stage opened number sessions journal known gives (Over session ending) is = tt
of_one stage opened number sessions journal known gives (Done line) is = tt
of_one stage opened number sessions journal known gives (Bad line kind) is = tt

over_holds : (P : PlainLive → Type 0) (s : PlainLive) → P s → All P (if_over s)
over_holds P s p = by (is_over (state s))
  where
    by : (b : Bool) → All P (if b then s ∷ [] else [])
    by true = All-cons P s [] p (All-nil P)
    by false = All-nil P

live_holds : (P : PlainLive → Type 0) (s : PlainLive) → P s → All P (if_live s)
live_holds P s p = by (is_over (state s))
  where
    by : (b : Bool) → All P (if b then [] else s ∷ [])
    by true = All-nil P
    by false = All-cons P s [] p (All-nil P)

-- a fact of all sessions, where one was put in
all_put : (P : PlainLive → Type 0) (over front back : List PlainLive) (t : PlainLive) → All P (over ++ (front ++ back)) → P t
    → All P ((over ++ if_over t) ++ (front ++ (if_live t ++ back)))
all_put P over front back t all p =
    let rest = all_back P over (front ++ back) all in
    All-append P (over ++ if_over t) (front ++ (if_live t ++ back))
    (All-append P over (if_over t) (all_front P over (front ++ back) all) (over_holds P t p))
    (All-append P front (if_live t ++ back) (all_front P front back rest) (All-append P (if_live t) back (live_holds P t p) (all_back P front back rest)))

-- and where one is left out
all_but : (P : PlainLive → Type 0) (over front back : List PlainLive) (s : PlainLive) → All P (over ++ (front ++ s ∷ back)) → All P (over ++ (front ++ back)) × P s
all_but P over front back s all =
    let rest = all_back P over (front ++ s ∷ back) all in (
      All-append P over (front ++ back) (all_front P over (front ++ s ∷ back) all)
          (All-append P front back (all_front P front (s ∷ back) rest) (All-tail P s back (all_back P front (s ∷ back) rest))),
      All-head P s back (all_back P front (s ∷ back) rest),
    )

-- this session, if it has this number, gave a request's id these bytes
abbrev GaveTo : ℕ → Request → List ℕ → PlainLive → Type 0
GaveTo number request bytes s = s.number ≡ number → IsFor request number s.journal × GivesId (state s) request.rid bytes

-- no session of these has this number
gives_nothing : (number : ℕ) (request : Request) (bytes : List ℕ) (sessions : List PlainLive) → All (λ x. is_numbered number x ≡ false) sessions → IsGivenBy sessions number request bytes
gives_nothing number request bytes sessions apart = All-weaker (λ (x : PlainLive). (x.number == number) ≡ false) (GaveTo number request bytes)
    (λ x other same. absurd (eqb-false x.number number other same)) sessions apart

-- the answers of the lines of a script so far are these sessions', and what waits on is for the latest requests
pub record Accounts (stages : List Stage) (posted : List Posting) (over live : List PlainLive) (opened : ℕ) : Type 0 where
  pub earlier : All (AreAccounted opened (over ++ live)) stages
  pub waiting : All (Waiting posted) live

-- and so are those of this line that are told by now
pub record AccountsOn (stages : List Stage) (stage : Stage) (lines : List ReportLine) (over live : List PlainLive) (opened : ℕ) : Type 0 where
  pub earlier : All (AreAccounted opened (over ++ live)) stages
  pub here : All (IsAccounted opened (over ++ live) stage) lines
  pub waiting : All (Waiting stage.posted) live

pub none_told : (stages : List Stage) (stage : Stage) (over live : List PlainLive) (opened : ℕ) → Accounts stages stage.posted over live opened → AccountsOn stages stage [] over live opened
none_told stages stage over live opened accounts = record {
  earlier = accounts.earlier;
  here = All-nil (IsAccounted opened (over ++ live) stage);
  waiting = accounts.waiting;
}

waiting_after : (stage : Stage) (s : PlainLive) (turn : Turn) → turn.after.number ≡ s.number → Answers stage s turn → Waiting stage.posted turn.after
waiting_after stage s turn same answers = subst (λ n. All (WaitsFor stage.posted n turn.after.journal) turn.after.parked) (sym same) answers.waiting

module _ (report : List ReportLine) (over front back : List PlainLive) (s : PlainLive) (turn : Turn) (opened : ℕ)
    (tells : TellsAll report over (front ++ s ∷ back) opened) (t : IsTurnOf s turn) (stage : Stage) (answers : Answers stage s turn) where
  abbrev sessions : List PlainLive
  sessions = (over ++ if_over turn.after) ++ (front ++ (if_live turn.after ++ back))

  still : StillGiven opened (over ++ (front ++ s ∷ back)) sessions
  still number request bytes is given =
      let parts = all_but (GaveTo number request bytes) over front back s given in
      all_put (GaveTo number request bytes) over front back turn.after parts.0
      (λ same.
      let gave = parts.1 (sym t.number ∙ same) in
      (for_later request number s.journal turn.after.journal answers.opening gave.0, answers.keeps request.rid bytes gave.1))

  gives : (request : Request) (bytes : List ℕ) → IsFor request s.number turn.after.journal → GivesId (state turn.after) request.rid bytes
      → IsGivenBy sessions s.number request bytes
  gives request bytes is_for is = all_put (GaveTo s.number request bytes) over front back turn.after
      (gives_nothing s.number request bytes (over ++ (front ++ back)) (all_apart report over front back s turn opened tells t)) (λ same. (is_for, is))

  pub turn_accounts : (stages : List Stage) (lines : List ReportLine) → AccountsOn stages stage lines over (front ++ s ∷ back) opened
      → AccountsOn stages stage (lines ++ turn.lines) (over ++ if_over turn.after) (front ++ (if_live turn.after ++ back)) opened
  turn_accounts stages lines accounts = record {
    earlier = stages_accounted opened opened (over ++ (front ++ s ∷ back)) sessions (λ k is. is) still stages accounts.earlier;
    here = All-append (IsAccounted opened sessions stage) lines turn.lines
        (all_accounted stage opened opened (over ++ (front ++ s ∷ back)) sessions (λ k is. is) still lines accounts.here)
        (All-weaker (IsOf stage s.number turn.after.journal) (IsAccounted opened sessions stage)
        (of_one stage opened s.number sessions turn.after.journal (is_one report over front back s turn opened tells t) gives) turn.lines answers.are);
    waiting = All-append (Waiting stage.posted) front (if_live turn.after ++ back) (all_front (Waiting stage.posted) front (s ∷ back) accounts.waiting)
        (All-append (Waiting stage.posted) (if_live turn.after) back (live_holds (Waiting stage.posted) turn.after (waiting_after stage s turn t.number answers))
        (All-tail (Waiting stage.posted) s back (all_back (Waiting stage.posted) front (s ∷ back) accounts.waiting)));
  }

module _ (report : List ReportLine) (over live : List PlainLive) (opened : ℕ) (s : PlainLive) (turn : Turn)
    (tells : TellsAll report over live opened) (number : s.number ≡ opened + 1) (t : IsTurnOf s turn) (stage : Stage) (answers : Answers stage s turn) where
  abbrev all_sessions : List PlainLive
  all_sessions = (over ++ if_over turn.after) ++ (live ++ (if_live turn.after ++ []))

  others_apart : All (λ x. is_numbered s.number x ≡ false) (over ++ (live ++ []))
  others_apart = none_passes (is_numbered s.number) (over ++ (live ++ []))
      (ap (λ l. count_by (is_numbered s.number) (over ++ l)) (append-nil live) ∙ tells.numbers s.number
      ∙ ap (λ b. if b then 1 else 0) (ap (is_opened opened) number ∙ (new_number opened).0))

  new_still : StillGiven opened (over ++ (live ++ [])) all_sessions
  new_still k request bytes is given = all_put (GaveTo k request bytes) over live [] turn.after given
      (λ same.
      let never : true ≡ false = sym is ∙ ap (is_opened opened) (sym same ∙ t.number ∙ number) ∙ (new_number opened).0 in
      absurd (true_false never))

  new_gives : (request : Request) (bytes : List ℕ) → IsFor request s.number turn.after.journal → GivesId (state turn.after) request.rid bytes
      → IsGivenBy all_sessions s.number request bytes
  new_gives request bytes is_for is = all_put (GaveTo s.number request bytes) over live [] turn.after
      (gives_nothing s.number request bytes (over ++ (live ++ [])) others_apart) (λ same. (is_for, is))

  -- a session was opened
  pub opened_accounts : (stages : List Stage) → AccountsOn stages stage [] over live opened
      → AccountsOn stages stage turn.lines (over ++ if_over turn.after) (live ++ if_live turn.after) (opened + 1)
  opened_accounts stages accounts = subst (λ l. AccountsOn stages stage turn.lines (over ++ if_over turn.after) (live ++ l) (opened + 1)) (append-nil (if_live turn.after)) (record {
    earlier = stages_accounted opened (opened + 1) (over ++ (live ++ [])) all_sessions (opened_still opened) new_still stages
        (subst (λ l. All (AreAccounted opened (over ++ l)) stages) (sym (append-nil live)) accounts.earlier);
    here = All-weaker (IsOf stage s.number turn.after.journal) (IsAccounted (opened + 1) all_sessions stage)
        (of_one stage (opened + 1) s.number all_sessions turn.after.journal (ap (is_opened (opened + 1)) number ∙ (new_number opened).1) new_gives) turn.lines answers.are;
    waiting = All-append (Waiting stage.posted) live (if_live turn.after ++ []) accounts.waiting
        (All-append (Waiting stage.posted) (if_live turn.after) [] (live_holds (Waiting stage.posted) turn.after (waiting_after stage s turn t.number answers)) (All-nil (Waiting stage.posted)));
  })

-- Time passes.

pub pass_accounts : (now opened : ℕ) (stages : List Stage) (stage : Stage) (live : List PlainLive) (report lines : List ReportLine) (over front : List PlainLive)
    → TellsAll report over (front ++ live) opened → AccountsOn stages stage lines over (front ++ live) opened
    → AccountsOn stages stage (lines ++ passed_lines now live) (over ++ passed_over now live) (front ++ passed_live now live) opened
pass_accounts now opened stages stage [] report lines over front tells accounts =
    subst (λ r. AccountsOn stages stage r (over ++ []) (front ++ []) opened) (sym (append-nil lines))
    (subst (λ o. AccountsOn stages stage lines o (front ++ []) opened) (sym (append-nil over)) accounts)
pass_accounts now opened stages stage (s ∷ live) report lines over front tells accounts =
    let up = (All-head (GoesOn report) s live (all_back (GoesOn report) front (s ∷ live) tells.going)).up in
    let waits = All-head (Waiting stage.posted) s live (all_back (Waiting stage.posted) front (s ∷ live) accounts.waiting) in
    let turn : Turn = turn_at now Passes s in
    let one = turns report over front live s turn opened tells (comes_turn s now Passes up tt) in
    let here = turn_accounts report over front live s turn opened tells (comes_turn s now Passes up tt) stage (turn_answers stage s now Passes up tt waits tt) stages lines accounts in
    let rest = pass_accounts now opened stages stage live (report ++ turn.lines) (lines ++ turn.lines) (over ++ if_over turn.after) (front ++ if_live turn.after)
    (subst (λ l. TellsAll (report ++ turn.lines) (over ++ if_over turn.after) l opened) (sym (append_assoc front (if_live turn.after) live)) one)
    (subst (λ l. AccountsOn stages stage (lines ++ turn.lines) (over ++ if_over turn.after) l opened) (sym (append_assoc front (if_live turn.after) live)) here) in
    subst (λ r. AccountsOn stages stage r (over ++ (if_over turn.after ++ passed_over now live)) (front ++ (if_live turn.after ++ passed_live now live)) opened) (append_assoc lines turn.lines (passed_lines now live))
    (subst (λ o. AccountsOn stages stage ((lines ++ turn.lines) ++ passed_lines now live) o (front ++ (if_live turn.after ++ passed_live now live)) opened) (append_assoc over (if_over turn.after) (passed_over now live))
    (subst (λ l. AccountsOn stages stage ((lines ++ turn.lines) ++ passed_lines now live) ((over ++ if_over turn.after) ++ passed_over now live) l opened) (append_assoc front (if_live turn.after) (passed_live now live)) rest))

-- Connections.

-- a request that waits on another connection waits on
closed_waits : (posted : List Posting) (conn number : ℕ) (journal : Journal) (parked : Parked) → WaitsFor posted number journal parked
    → WaitsFor posted number journal (closed_on conn parked)
closed_waits posted conn number journal parked waits is_open = waits (both_true parked.is_open (not (parked.conn == conn)) is_open).0

all_closed : (posted : List Posting) (conn : ℕ) (s : PlainLive) → Waiting posted s → Waiting posted (with_closed conn s)
all_closed posted conn s waits = All-map (WaitsFor posted s.number s.journal) (closed_on conn) s.parked
    (All-weaker (WaitsFor posted s.number s.journal) (λ parked. WaitsFor posted s.number s.journal (closed_on conn parked)) (closed_waits posted conn s.number s.journal) s.parked waits)

not_on : (is_open same : Bool) → is_open && same ≡ false → is_open ≡ true → same ≡ false
not_on true same is open_now = is
not_on false same is open_now = absurd (cc)

module _ (posted : List Posting) (posting : Posting) where
  -- a body on another connection
  posted_waits : (number : ℕ) (journal : Journal) (parked : Parked) → WaitsFor posted number journal parked → waits_on posting.conn parked ≡ false
      → WaitsFor (posting ∷ posted) number journal parked
  posted_waits number journal parked waits other is_open =
      let w = waits is_open in
      let apart = swapped parked.conn posting.conn (not_on parked.is_open (parked.conn == posting.conn) other is_open) in
      (w.0, ((w.1).0, ap (λ b. if b then Some posting.body else latest_on parked.conn posted) apart ∙ (w.1).1, (w.1).2), w.2, w.3, w.4)

  session_waits : (s : PlainLive) → Waiting posted s → list_any (waits_on posting.conn) s.parked ≡ false → Waiting (posting ∷ posted) s
  session_waits s waits none = all_both (WaitsFor posted s.number s.journal) (λ parked. waits_on posting.conn parked ≡ false) (WaitsFor (posting ∷ posted) s.number s.journal)
      (posted_waits s.number s.journal) s.parked waits (none_is (waits_on posting.conn) s.parked none)

  -- a body was posted where nothing waits
  pub posted_accounts : (stages : List Stage) (over live : List PlainLive) (opened : ℕ) → list_any (λ s. list_any (waits_on posting.conn) s.parked) live ≡ false
      → Accounts stages posted over live opened → Accounts stages (posting ∷ posted) over live opened
  posted_accounts stages over live opened none accounts = record {
    earlier = accounts.earlier;
    waiting = all_both (Waiting posted) (λ s. list_any (waits_on posting.conn) s.parked ≡ false) (Waiting (posting ∷ posted)) session_waits live accounts.waiting
        (none_is (λ s. list_any (waits_on posting.conn) s.parked) live none);
  }

-- What a line does to a manager.

abbrev pub AccountsAfter : List Stage → Stage → List PlainLive → Change → Type 0
AccountsAfter stages stage over change = AccountsOn stages stage change.lines (over ++ change.over) change.after.live change.after.opened

module _ (stages : List Stage) (stage : Stage) (report : List ReportLine) (over : List PlainLive) (m : PlainManager) (holds : Holds report over m)
    (accounts : AccountsOn stages stage [] over m.live m.opened) where
  pub only_accounts : (line : ReportLine) → IsAccounted m.opened (over ++ m.live) stage line → AccountsAfter stages stage over (only m line)
  only_accounts line is = subst (λ o. AccountsOn stages stage (line ∷ []) o m.live m.opened) (sym (append-nil over)) (record {
    earlier = accounts.earlier;
    here = All-cons (IsAccounted m.opened (over ++ m.live) stage) line [] is (All-nil (IsAccounted m.opened (over ++ m.live) stage));
    waiting = accounts.waiting;
  })

  pub closed_accounts : (conn : ℕ) → AccountsAfter stages stage over (closed m conn)
  closed_accounts conn = subst (λ o. AccountsOn stages stage [] o (map (with_closed conn) m.live) m.opened) (sym (append-nil over)) (record {
    earlier = stages_accounted m.opened m.opened (over ++ m.live) (over ++ map (with_closed conn) m.live) (λ k is. is)
        (λ number request bytes is given.
        All-append (GaveTo number request bytes) over (map (with_closed conn) m.live) (all_front (GaveTo number request bytes) over m.live given)
        (All-map (GaveTo number request bytes) (with_closed conn) m.live (all_back (GaveTo number request bytes) over m.live given)))
        stages accounts.earlier;
    here = All-nil (IsAccounted m.opened (over ++ map (with_closed conn) m.live) stage);
    waiting = All-map (Waiting stage.posted) (with_closed conn) m.live
        (All-weaker (Waiting stage.posted) (λ s. Waiting stage.posted (with_closed conn s)) (all_closed stage.posted conn) m.live accounts.waiting);
  })

  module _ (event : Event) (allowed : IsEvent event) (otherwise : ReportLine) (number : ℕ) (known : place_of m number ≡ None → IsAccounted m.opened (over ++ m.live) stage otherwise)
      (asks : (s : PlainLive) → s.number ≡ number → stage.lines ≡ (turn_at m.moment event s).lines → AsksHere stage s m.moment event) where
    turned_accounts : (place : ℕ) (s : PlainLive) → slice_get m.live place ≡ Some s → s.number ≡ number → stage.lines ≡ (turn_at m.moment event s).lines
        → AccountsAfter stages stage over (turned_at m place (turn_at m.moment event s))
    turned_accounts place s is same lines =
        let turn : Turn = turn_at m.moment event s in
        let next : suc place ≡ place + 1 = omega arith in
        let splits = place_splits m.live place s is in
        let tells = subst (λ l. TellsAll report over l m.opened) splits holds.tells in
        let before = subst (λ l. AccountsOn stages stage [] over l m.opened) splits accounts in
        let up = (all_at (GoesOn report) m.live place s is holds.tells.going).up in
        let waits = all_at (Waiting stage.posted) m.live place s is accounts.waiting in
        subst (λ n. AccountsOn stages stage turn.lines (over ++ if_over turn.after) (take place m.live ++ (if_live turn.after ++ drop n m.live)) m.opened) next
        (turn_accounts report over (take place m.live) (drop (suc place) m.live) s turn m.opened tells (comes_turn s m.moment event up allowed) stage
        (turn_answers stage s m.moment event up allowed waits (asks s same lines)) stages [] before)

    at_accounts : (place : ℕ) → place_of m number ≡ Some place → (o : Option PlainLive) → slice_get m.live place ≡ o
        → stage.lines ≡ (comes_at m event otherwise place o).lines → AccountsAfter stages stage over (comes_at m event otherwise place o)
    at_accounts place at None is lines =
        let there = get_some m.live place (some_within (λ s. s.number == number) m.live place at) in
        absurd (none_some (slice_get m.live place) there.0 is there.1)
    at_accounts place at (Some s) is lines = turned_accounts place s is (number_at number m.live place s at is) lines

    abbrev change_at : Option ℕ → Change
    change_at o = elim o [ None ↦ only m otherwise | Some place ↦ comes_at m event otherwise place (slice_get m.live place) ]

    pub comes_accounts : stage.lines ≡ (comes m event otherwise number).lines → AccountsAfter stages stage over (comes m event otherwise number)
    comes_accounts lines = by (place_of m number) refl lines
      where
        by : (o : Option ℕ) → place_of m number ≡ o → stage.lines ≡ (change_at o).lines → AccountsAfter stages stage over (change_at o)
        by None is lines = only_accounts otherwise (known is)
        by (Some place) is lines = at_accounts place is (slice_get m.live place) refl lines
