-- What a worker is told of a request that waits.
use Rattle.std.proofs.Common.{◌≡◌, ℕ, ◌-◌, List, [], ◌∷◌, ◌++◌, length, Option, Some, None, ◌⊎◌, refl, sym, ◌∙◌, ap, subst, append_assoc, append-nil, inl, inr}
use Rattle.std.specs.Option.{option_to_list}
use Rattle.parked_gate.specs.Histories.{Appends}
use Rattle.parked_gate.specs.Passes.{known}
use Rattle.session_core.specs.declared.replies.Collected.TheVariants as collections
use Rattle.session_core.specs.Journal as plain
use Rattle.session_journal.specs.declared.asking.Found.{Found}
use Rattle.session_journal.specs.declared.asking.Found.TheVariants as found
use Rattle.session_journal.specs.declared.entry.Entry as journal
use Rattle.session_journal.specs.Seen.{collected_as}
use Rattle.session_journal.specs.Stored.{Replies}
use Rattle.session_table.specs.declared.handle.SessionHandle.{SessionHandle}
use Rattle.session_table.specs.declared.purse.Purse.{Purse}
use Rattle.session_table.specs.Purses.{Sessions, Turned, held}
use Rattle.session_table.specs.Serving.{PollsAs}
use Rattle.serve_loop.specs.declared.answering.Waiting.{Waiting}
use Rattle.serve_loop.specs.declared.trail.Traced.{Traced}
use Rattle.serve_loop.specs.Answering.{IsTakenOver, IsUnanswered, IsWaiting, Tells, TellsLast}
use Rattle.serve_loop.specs.Effects.{CallsOne}
use Rattle.serve_loop.specs.Trail.{IsEntry, Setting, WaitedFor}
use Rattle.serve_loop.proofs.ArrivingLemmas.{Beside, tells_last}
use Rattle.serve_loop.proofs.EffectLemmas.{calls_on, goes_call, goes_further, goes_look}
use Rattle.serve_loop.proofs.EntryLemmas.{collect_made, collected_by, last_place, waits_on}
use Rattle.serve_loop.proofs.OwnLemmas.{none_before_call, none_since_look, owns}
use Rattle.serve_loop.proofs.TellingLemmas.{seen_one}

some_same : {X : Type 0} (x y : X) → Some x ≡ Some y → x ≡ y
some_same x y is = cc

-- a request that waited, when this was kept, is asked for
module _ (site : Setting) (body : List ℕ) (w : Waiting) (old mid : Purse) (waits : IsWaiting site old mid body w) where
  -- what a handle that is held knows of it
  pub record Knows (x : SessionHandle) : Type 0 where
    pub named : x.sid ≡ w.session.sid
    pub came : WaitedFor site (known x.pass).seen (known x.pass).number waits.request body w.ticket
    pub alone : CallsOne old mid w.session.number x (came.entry ∷ [])

  knows : (x : SessionHandle) → held mid.sessions w.session.number ≡ Some x → Knows x
  knows x is = subst Knows (some_same waits.handle x (sym waits.is ∙ is)) (record { named = waits.named; came = waits.came; alone = waits.alone })

  module _ (new : Purse) (beside : Beside w.session.number mid new) where
    -- there is nothing yet
    pub waits_still : Turned w.session.number mid.sessions new.sessions (PollsAs w.ticket None) → IsWaiting site old new body w
    waits_still turned =
        let x = turned.before in
        let y = turned.after in
        let it = knows x turned.was in
        record {
          request = waits.request;
          names = waits.names;
          handle = y;
          is = turned.is;
          named = turned.of_same.sid ∙ it.named;
          came = waits_on site (known x.pass).seen (known y.pass).seen turned.says.begins.0 (known x.pass).number (known y.pass).number waits.request body w.ticket
              turned.says.begins.1 turned.pass_number
              (none_since_look (known x.pass).number (known x.pass) (known y.pass) turned.says.begins.0 turned.says.begins.1 (owns x (known x.pass).number refl)
              (owns y (known x.pass).number turned.pass_number) turned.says.mine) it.came;
          alone = calls_on old mid new w.session.number x y (it.came.entry ∷ []) [] it.alone (goes_look x y turned.of_same turned.pass_number turned.says) turned.of_same.sid
              (turned.says.mine ∙ sym (append-nil (known x.pass).mine)) (inl turned.is) beside.others beside.directory;
        }

    pub unanswered : Turned w.session.number mid.sessions new.sessions (PollsAs w.ticket None) → IsUnanswered new.sessions w
    unanswered turned = record { handle = turned.after; is = turned.is; lacks = turned.says.says }

    -- its answer was collected
    collected_entry : (text : List ℕ) (turned_sessions : Sessions) (before after : List Traced) (turned : Turned w.session.number mid.sessions turned_sessions (PollsAs w.ticket (Some (found.Answer text))))
        → (t : TellsLast before after new.sessions w.session.number w.session.sid turned.after)
        → IsEntry site w.session.sid (known turned.after.pass).number (length (known turned.after.pass).seen - 1) body text old new t.since
    collected_entry text turned_sessions before after turned t =
        let x = turned.before in
        let y = turned.after in
        let call = turned.says in
        let it = knows x turned.was in
        let made = collect_made call.before w.ticket text call.made call.says in
        let e : journal.Entry = made.0 in
        let seen = seen_one (λ e. e.caller) (known x.pass).number call.before (known y.pass).seen call.made e made.1 call.seen in
        let collected = subst (λ (m : Option journal.Entry). Replies call.before (plain.Collect w.ticket) (plain.ToCollect (collections.Answer text)) m) made.1 call.says in
        let came = waits_on site (known x.pass).seen call.before call.begins.0 (known x.pass).number e.caller waits.request body w.ticket call.begins.1 seen.1
        (none_before_call (known x.pass).number (known x.pass) (known y.pass) call.before call.begins.0 call.made call.begins.1 call.seen (owns x (known x.pass).number refl)
        (owns y (known x.pass).number turned.pass_number) call.mine) it.came in
        record {
          request = waits.request;
          names = waits.names;
          of = t.of_same.sid ∙ (turned.of_same.sid ∙ it.named);
          by = t.pass_number;
          before = call.before;
          entry = e;
          later = t.looked.begins.0;
          seen = t.looked.begins.1 ∙ (ap (λ (l : List journal.Entry). l ++ t.looked.begins.0) seen.0 ∙ append_assoc call.before (e ∷ []) t.looked.begins.0);
          at = last_place call.before (known y.pass).seen e seen.0;
          own = seen.1 ∙ sym turned.pass_number;
          since = none_since_look (known y.pass).number (known y.pass) (known t.since.pass) t.looked.begins.0 t.looked.begins.1 (owns y (known y.pass).number refl)
              (owns t.since (known y.pass).number t.pass_number) t.looked.mine;
          added = it.came.entry ∷ e ∷ [];
          answers = collected_by site call.before e e.call waits.request body text w.ticket made.2 came collected;
          number = w.session.number;
          alone = calls_on old mid new w.session.number x t.since (it.came.entry ∷ []) (e ∷ []) it.alone
              (goes_further x y t.since (goes_call x y turned.of_same turned.pass_number call) (goes_look y t.since t.of_same t.pass_number t.looked)) (t.of_same.sid ∙ turned.of_same.sid)
              (t.looked.mine ∙ (call.mine ∙ ap (λ (m : Option journal.Entry). (known x.pass).mine ++ option_to_list m) made.1)) t.last beside.others beside.directory;
        }

    pub collects_answered : (text : List ℕ) (turned_sessions : Sessions) (before after : List Traced)
        → Turned w.session.number mid.sessions turned_sessions (PollsAs w.ticket (Some (found.Answer text)))
        → ((x : SessionHandle) → held turned_sessions w.session.number ≡ Some x → TellsLast before after new.sessions w.session.number w.session.sid x)
        → Tells site body text before after old new
    collects_answered text turned_sessions before after turned tells =
        let t = tells turned.after turned.is in
        tells_last site body w.session.sid text old new before after turned.after new.sessions w.session.number t (collected_entry text turned_sessions before after turned t)

    -- what gets none, as the machine told
    pub taken_over : (what : Found) → (collected_as what ≡ collections.Superseded) ⊎ (collected_as what ≡ collections.UnknownTicket)
        → Turned w.session.number mid.sessions new.sessions (PollsAs w.ticket (Some what)) → IsTakenOver site old new body w
    taken_over what none turned =
        let x = turned.before in
        let y = turned.after in
        let call = turned.says in
        let it = knows x turned.was in
        record {
          request = waits.request;
          names = waits.names;
          handle = y;
          is = turned.is;
          named = turned.of_same.sid ∙ it.named;
          before = call.before;
          made = call.made;
          came = waits_on site (known x.pass).seen call.before call.begins.0 (known x.pass).number (known y.pass).number waits.request body w.ticket call.begins.1 turned.pass_number
              (none_before_call (known x.pass).number (known x.pass) (known y.pass) call.before call.begins.0 call.made call.begins.1 call.seen (owns x (known x.pass).number refl)
              (owns y (known x.pass).number turned.pass_number) call.mine) it.came;
          seen = subst (λ (n : ℕ). Appends (λ e. e.caller) n call.before call.made (known y.pass).seen) (sym turned.pass_number) call.seen;
          found = collected_as what;
          gets_none = none;
          told = call.says;
          alone = calls_on old mid new w.session.number x y (it.came.entry ∷ []) (option_to_list call.made) it.alone (goes_call x y turned.of_same turned.pass_number call) turned.of_same.sid
              call.mine (inl turned.is) beside.others beside.directory;
        }
