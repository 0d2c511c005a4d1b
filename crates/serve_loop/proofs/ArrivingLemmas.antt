-- What a worker is told of a session by a call of its purse.
use Rattle.std.proofs.Common.{◌≡◌, ℕ, ◌-◌, true, List, [], ◌∷◌, ◌++◌, length, Option, Some, None, Result, Ok, Err, ◌⊎◌, refl, sym, ◌∙◌, ap, subst, append_assoc, append-nil, inl, inr}
use Rattle.std.specs.Option.{option_to_list}
use Rattle.std.specs.declared.alloc.AllocError.{AllocError}
use Rattle.bosh_types.specs.declared.condition.Condition.TheVariants.{ItemNotFound}
use Rattle.parked_gate.specs.Histories.{Appends}
use Rattle.parked_gate.specs.Passes.{Calls, Known, Looks, known}
use Rattle.session_attrs.specs.declared.request.Request.{Request}
use Rattle.session_core.specs.declared.replies.Arrived.{Arrived}
use Rattle.session_core.specs.declared.replies.Arrived.TheVariants as arrivals
use Rattle.session_core.specs.Journal as plain
use Rattle.session_core.specs.State.{is_over}
use Rattle.session_journal.specs.declared.call.Call.TheVariants as calls
use Rattle.session_journal.specs.declared.call.Reply.{Reply}
use Rattle.session_journal.specs.declared.call.Reply.TheVariants as replies
use Rattle.session_journal.specs.declared.entry.Entry as journal
use Rattle.session_journal.specs.Calls.{reply_in}
use Rattle.session_journal.specs.Seen.{RepliesTo}
use Rattle.session_journal.specs.Stored.{After, Replies}
use Rattle.session_table.specs.declared.handle.SessionHandle.{SessionHandle}
use Rattle.session_table.specs.declared.purse.Purse.{Purse}
use Rattle.session_table.specs.Handles.{IsOfSame}
use Rattle.session_table.specs.Purses.{Holds, OthersStay, Sessions, Turned, held}
use Rattle.serve_loop.specs.declared.trail.Evidence.{Evidence}
use Rattle.serve_loop.specs.declared.trail.Evidence.TheVariants as evidence
use Rattle.serve_loop.specs.declared.trail.Traced.{Traced}
use Rattle.serve_loop.specs.declared.trail.TrailLine.TheVariants as lines
use Rattle.serve_loop.specs.Answering.{Adds, IsWaiting, ShowsSession, Tells, TellsLast, last_entry}
use Rattle.serve_loop.specs.Effects.{AddsNothing, CallsOne, FindsAtMost}
use Rattle.serve_loop.specs.Trail.{IsEntry, IsNow, IsTrueOf, Names, Setting, refusal_text}
use Rattle.serve_loop.proofs.AskedLemmas.{read_from}
use Rattle.serve_loop.proofs.EffectLemmas.{called_for_nothing, calls_one, goes_call, goes_further, goes_look}
use Rattle.serve_loop.proofs.EntryLemmas.{answers_by, arrival_made, last_place, over_made}
use Rattle.serve_loop.proofs.OwnLemmas.{none_since_look, owns}
use Rattle.serve_loop.proofs.TellingLemmas.{seen_none, seen_one, tells_line}

some_same : {X : Type 0} (x y : X) → Some x ≡ Some y → x ≡ y
some_same x y is = cc

-- the arrival is replied so
abbrev pub RepliesSo : Request → List ℕ → ℕ → Arrived → Known journal.Entry → Known journal.Entry → Type 0
RepliesSo request body now arrived old new =
    Calls (λ e. e.caller) (λ log made. Replies log (plain.Arrive request body now) (plain.ToArrive arrived) made) old new

-- a session that was called is called so
pub turned_as : (number : ℕ) (old new : Sessions) (P Q : Known journal.Entry → Known journal.Entry → Type 0) → ((a b : Known journal.Entry) → P a b → Q a b)
    → Turned number old new P → Turned number old new Q
turned_as number old new P Q by turned = record {
  before = turned.before;
  after = turned.after;
  was = turned.was;
  is = turned.is;
  of_same = turned.of_same;
  pass_number = turned.pass_number;
  says = by (known turned.before.pass) (known turned.after.pass) turned.says;
}

-- and what the call of that name is replied is what the plain machine replies
said_as : (request : Request) (body : List ℕ) (now : ℕ) (reply : Reply) (a b : Known journal.Entry)
    → Calls (λ e. e.caller) (λ before made. RepliesTo before (calls.Arrive request body now) (Ok reply) made) a b
    → Calls (λ e. e.caller) (λ log made. Replies log (plain.Arrive request body now) (reply_in reply) made) a b
said_as request body now reply a b call = record {
  before = call.before;
  made = call.made;
  begins = call.begins;
  says = call.says.0;
  seen = call.seen;
  mine = call.mine;
  earlier = call.earlier;
  learnt = call.learnt;
}

pub replied_so : (number : ℕ) (old new : Sessions) (request : Request) (body : List ℕ) (now : ℕ) (reply : Reply) (arrived told : Arrived) → reply ≡ replies.Arrive arrived → arrived ≡ told
    → Turned number old new (Calls (λ e. e.caller) (λ before made. RepliesTo before (calls.Arrive request body now) (Ok reply) made))
    → Turned number old new (RepliesSo request body now told)
replied_so number old new request body now reply arrived told is so turned =
    subst (λ (a : Arrived). Turned number old new (RepliesSo request body now a)) so
    (subst (λ (r : Reply). Turned number old new (Calls (λ e. e.caller) (λ log made. Replies log (plain.Arrive request body now) (reply_in r) made))) is (turned_as number old new (Calls (λ e. e.caller) (λ before made. RepliesTo before (calls.Arrive request body now) (Ok reply) made)) (Calls (λ e. e.caller) (λ log made. Replies log (plain.Arrive request body now) (reply_in reply) made)) (said_as request body now reply) turned))

-- what one call of the purse changes beside the session that it calls
pub record Beside (number : ℕ) (old new : Purse) : Type 0 where
  pub others : OthersStay number old.sessions new.sessions
  pub directory : new.directory ≡ old.directory

pub beside_on : (number : ℕ) (a b c : Purse) → Beside number a b → Beside number b c → Beside number a c
beside_on number a b c first later =
    record { others = λ other apart. later.others other apart ∙ first.others other apart; directory = later.directory ∙ first.directory }

-- a line that names an entry
entry_by : (site : Setting) (body sid text : List ℕ) (before after : Purse) (y z : SessionHandle)
    → IsEntry site sid (known y.pass).number (length (known y.pass).seen - 1) body text before after z
    → (by : Evidence) → ShowsSession z by → IsTrueOf site body text before after (last_entry sid y) by
entry_by site body sid text before after y z is evidence.Request shows = absurd shows
entry_by site body sid text before after y z is (evidence.Directory pass) shows = absurd shows
entry_by site body sid text before after y z is (evidence.Session session) shows =
    subst (IsEntry site sid (known y.pass).number (length (known y.pass).seen - 1) body text before after) (sym shows) is

pub tells_last : (site : Setting) (body sid text : List ℕ) (before after : Purse) (old new : List Traced) (y : SessionHandle) (sessions : Sessions) (number : ℕ)
    (t : TellsLast old new sessions number sid y) → IsEntry site sid (known y.pass).number (length (known y.pass).seen - 1) body text before after t.since
    → Tells site body text old new before after
tells_last site body sid text before after old new y sessions number t is =
    tells_line site body text before after old new (last_entry sid y) (ShowsSession t.since) t.line (entry_by site body sid text before after y t.since is)

-- a session that was found for a request, and its arrival there at this moment, which is the clock's
module _ (site : Setting) (body sid : List ℕ) (request : Request) (now number : ℕ) (old mid : Purse) (at_now : IsNow site now) (names : Names body sid request)
    (holds : Holds mid.sessions number sid) (found : FindsAtMost old mid number sid) where
  -- the handle that was held has the name
  named_so : (x : SessionHandle) → held mid.sessions number ≡ Some x → x.sid ≡ sid
  named_so x is = subst (λ (h : SessionHandle). h.sid ≡ sid) (some_same holds.handle x (sym holds.is ∙ is)) holds.named

  module _ (new : Purse) (beside : Beside number mid new) where
    -- the arrival was answered, as the handle tells that its session has since
    answered_entry : (text : List ℕ) (turned_sessions : Sessions) (before after : List Traced) (turned : Turned number mid.sessions turned_sessions (RepliesSo request body now (arrivals.Answer text)))
        → (t : TellsLast before after new.sessions number sid turned.after)
        → IsEntry site sid (known turned.after.pass).number (length (known turned.after.pass).seen - 1) body text old new t.since
    answered_entry text turned_sessions before after turned t =
        let x = turned.before in
        let y = turned.after in
        let call = turned.says in
        let named = named_so x turned.was in
        let made = arrival_made call.before request body now (arrivals.Answer text) call.made call.says (λ no. cc) in
        let e : journal.Entry = made.0 in
        let seen = seen_one (λ e. e.caller) (known x.pass).number call.before (known y.pass).seen call.made e made.1 call.seen in
        let answered = subst (λ (m : Option journal.Entry). Replies call.before (plain.Arrive request body now) (plain.ToArrive (arrivals.Answer text)) m) made.1 call.says in
        let since_named : t.since.sid ≡ sid = t.of_same.sid ∙ (turned.of_same.sid ∙ named) in
        record {
          request = request;
          names = names;
          of = since_named;
          by = t.pass_number;
          before = call.before;
          entry = e;
          later = t.looked.begins.0;
          seen = t.looked.begins.1 ∙ (ap (λ (l : List journal.Entry). l ++ t.looked.begins.0) seen.0 ∙ append_assoc call.before (e ∷ []) t.looked.begins.0);
          at = last_place call.before (known y.pass).seen e seen.0;
          own = seen.1 ∙ sym turned.pass_number;
          since = none_since_look (known y.pass).number (known y.pass) (known t.since.pass) t.looked.begins.0 t.looked.begins.1 (owns y (known y.pass).number refl)
              (owns t.since (known y.pass).number t.pass_number) t.looked.mine;
          added = e ∷ [];
          answers = answers_by site call.before e e.call request body text now at_now made.2 answered;
          number = number;
          alone = calls_one old mid new number sid x t.since (e ∷ []) found
              (goes_further x y t.since (goes_call x y turned.of_same turned.pass_number call) (goes_look y t.since t.of_same t.pass_number t.looked)) turned.was named since_named
              (t.looked.mine ∙ (call.mine ∙ ap (λ (m : Option journal.Entry). (known x.pass).mine ++ option_to_list m) made.1)) t.last beside.others beside.directory;
        }

    -- the arrival waits
    pub arrives_waiting : (ticket : ℕ) → Turned number mid.sessions new.sessions (RepliesSo request body now (arrivals.Parked ticket))
        → IsWaiting site old new body (record { session = record { sid = sid; number = number }; ticket = ticket })
    arrives_waiting ticket turned =
        let x = turned.before in
        let y = turned.after in
        let call = turned.says in
        let named = named_so x turned.was in
        let made = arrival_made call.before request body now (arrivals.Parked ticket) call.made call.says (λ no. cc) in
        let e : journal.Entry = made.0 in
        let seen = seen_one (λ e. e.caller) (known x.pass).number call.before (known y.pass).seen call.made e made.1 call.seen in
        let y_named : y.sid ≡ sid = turned.of_same.sid ∙ named in
        record {
          request = request;
          names = names;
          handle = y;
          is = turned.is;
          named = y_named;
          came = record {
            before = call.before;
            entry = e;
            later = [];
            there = seen.0;
            own = seen.1 ∙ sym turned.pass_number;
            since = refl;
            waits = (now, at_now, subst (λ (m : Option journal.Entry). Replies call.before (plain.Arrive request body now) (plain.ToArrive (arrivals.Parked ticket)) m) made.1 call.says);
          };
          alone = calls_one old mid new number sid x y (e ∷ []) found (goes_call x y turned.of_same turned.pass_number call) turned.was named y_named
              (call.mine ∙ ap (λ (m : Option journal.Entry). (known x.pass).mine ++ option_to_list m) made.1) (inl turned.is) beside.others beside.directory;
        }

    -- the session had ended
    over_by : (turned_sessions : Sessions) (turned : Turned number mid.sessions turned_sessions (RepliesSo request body now arrivals.Over)) → held new.sessions number ≡ None
        → (by : Evidence) → ShowsSession turned.after by → IsTrueOf site body (refusal_text ItemNotFound) old new (lines.Unknown sid) by
    over_by turned_sessions turned gone evidence.Request shows = absurd shows
    over_by turned_sessions turned gone (evidence.Directory pass) shows = absurd shows
    over_by turned_sessions turned gone (evidence.Session session) shows =
        let x = turned.before in
        let y = turned.after in
        let call = turned.says in
        let named = named_so x turned.was in
        let y_named : y.sid ≡ sid = turned.of_same.sid ∙ named in
        let over = over_made call.before request body now call.made (read_from body request names.read, (sid, names.named)) call.says in
        let seen = seen_none (λ e. e.caller) (known x.pass).number call.before (known y.pass).seen call.made over.0 call.seen in
        let ended : After (known y.pass).seen (λ s. is_over s ≡ true) = subst (λ (log : List journal.Entry). After log (λ s. is_over s ≡ true)) (sym seen) over.1 in
        let alone : CallsOne old new number y [] = calls_one old mid new number sid x y [] found (goes_call x y turned.of_same turned.pass_number call) turned.was named y_named
        (call.mine ∙ ap (λ (m : Option journal.Entry). (known x.pass).mine ++ option_to_list m) over.0) (inr (gone, ended)) beside.others beside.directory in
        record {
          request = request;
          names = names;
          gone = subst (λ (h : SessionHandle). (h.sid ≡ sid) × After (known h.pass).seen (λ s. is_over s ≡ true) × ((number : ℕ) × CallsOne old new number h [])) (sym shows)
              (y_named, ended, (number, alone));
          text_is = refl;
        }

    pub arrives_over : (turned_sessions : Sessions) (before after : List Traced) → Turned number mid.sessions turned_sessions (RepliesSo request body now arrivals.Over) → held new.sessions number ≡ None
        → ((session : SessionHandle) → held turned_sessions number ≡ Some session → Adds before after (lines.Unknown sid) (ShowsSession session))
        → Tells site body (refusal_text ItemNotFound) before after old new
    arrives_over turned_sessions before after turned gone adds =
        tells_line site body (refusal_text ItemNotFound) old new before after (lines.Unknown sid) (ShowsSession turned.after) (adds turned.after turned.is) (over_by turned_sessions turned gone)

    pub arrives_answered : (text : List ℕ) (turned_sessions : Sessions) (before after : List Traced) (turned : Turned number mid.sessions turned_sessions (RepliesSo request body now (arrivals.Answer text)))
        → ((x : SessionHandle) → held turned_sessions number ≡ Some x → TellsLast before after new.sessions number sid x)
        → Tells site body text before after old new
    arrives_answered text turned_sessions before after turned tells =
        let t = tells turned.after turned.is in
        tells_last site body sid text old new before after turned.after new.sessions number t (answered_entry text turned_sessions before after turned t)

    -- there was no memory for the arrival, or for what it is told when its session has ended
    pub arrives_wanting : (error : AllocError) → Turned number mid.sessions new.sessions (Calls (λ e. e.caller) (λ log made. RepliesTo log (calls.Arrive request body now) (Err error) made))
        → AddsNothing old new
    arrives_wanting error turned =
        called_for_nothing old mid new number sid turned.before turned.after found (goes_call turned.before turned.after turned.of_same turned.pass_number turned.says) turned.was turned.is
        turned.of_same.sid
        (turned.says.mine ∙ (ap (λ (m : Option journal.Entry). (known turned.before.pass).mine ++ option_to_list m) turned.says.says ∙ append-nil (known turned.before.pass).mine))
        beside.others beside.directory

    pub over_wanting : Turned number mid.sessions new.sessions (RepliesSo request body now arrivals.Over) → AddsNothing old new
    over_wanting turned =
        let call = turned.says in
        let over = over_made call.before request body now call.made (read_from body request names.read, (sid, names.named)) call.says in
        called_for_nothing old mid new number sid turned.before turned.after found (goes_call turned.before turned.after turned.of_same turned.pass_number turned.says) turned.was turned.is
        turned.of_same.sid
        (call.mine ∙ (ap (λ (m : Option journal.Entry). (known turned.before.pass).mine ++ option_to_list m) over.0 ∙ append-nil (known turned.before.pass).mine))
        beside.others beside.directory
