-- How a client's history goes on.
use Rattle.std.proofs.Common.{◌≡◌, ℕ, ◌+◌, true, false, List, [], ◌∷◌, ◌++◌, Some, None, refl, sym, ◌∙◌, ap, subst}
use Rattle.std.specs.Prelude.{Option, Result, Ok, Err, IfOk, OnErr, length}
use Rattle.std.proofs.lemmas.List.{map-append, length-append}
use Rattle.std.specs.declared.alloc.AllocError.{AllocError}
use Rattle.bosh_client.specs.declared.client.Client.{Client}
use Rattle.bosh_client.specs.declared.setup.ClientSetup.{ClientSetup}
use Rattle.bosh_client.specs.PlainClient.{PlainClient}
use Rattle.bosh_client.specs.Runs as plain
use Rattle.bosh_client.specs.Runs.{step, called}
use Rattle.bosh_client.specs.StandsFor.{Does, StandsFor}
use Rattle.bosh_client.proofs.RunLemmas.{step_by}
use Rattle.client_run.specs.declared.call.Call.{Call}
use Rattle.client_run.specs.declared.call.Reply.{Reply}
use Rattle.client_run.specs.declared.entry.Entered.{Entered}
use Rattle.client_run.specs.declared.entry.Entered.TheVariants.{Setup, Called}
use Rattle.client_run.specs.declared.entry.Entry.{Entry}
use Rattle.client_run.specs.Calls.{IsReplyTo, call_in, changes, reply_in}
use Rattle.bosh_client.specs.Machine.{new_client}
use Rattle.parked_gate.specs.Histories.{Appends}
use Rattle.client_run.specs.History.{RepliesTo, Stands, Steps, client_begun, client_by, client_from, client_in, entry_of, first_entry, history_of}

-- a call whose reply says so left the plain client as it was
pub unchanged : (c : PlainClient) (call : plain.Call) → changes (step c call).1 ≡ false → (step c call).0 ≡ c
unchanged c call =
    step_by c (λ done. changes done.1 ≡ false → done.0 ≡ c) (λ reply nothing same. refl) (λ item changed. absurd (cc)) (λ now due left next changed. absurd (cc))
    (λ rid t made none reads fine changed. absurd (cc)) (λ payload at changed. absurd (cc)) call

-- the reply of a call under its name
pub does_called : {X : Type 0} (client : Client) (x : X) (reply : X → plain.Reply) (done : PlainClient × X) → Does client x done → Does client (reply x) (called reply done)
does_called client x reply (c, y) d = record { replies = ap reply d.replies; after = d.after }

-- one more call is entered behind others
from_by : (es more : List Entry) (d next : PlainClient) (x : Entered) (c : PlainClient)
    → ((n : PlainClient) → client_from n es ≡ Some d → client_from n (es ++ more) ≡ Some next)
    → client_by (λ n. client_from n es) c x ≡ Some d → client_by (λ n. client_from n (es ++ more)) c x ≡ Some next
from_by es more d next (Setup setup) c later is = absurd (cc)
from_by es more d next (Called call) c later is = later (step c (call_in call)).0 is

entered_from : (es : List Entry) (c d : PlainClient) (e : Entry) (call : Call) → e.entered ≡ Called call → client_from c es ≡ Some d
    → client_from c (es ++ e ∷ []) ≡ Some (step d (call_in call)).0
entered_from [] c d e call is from = ap (λ x. client_by (λ n. Some n) c x) is ∙ ap (λ o. elim o [ None ↦ None | Some n ↦ Some (step n (call_in call)).0 ]) from
entered_from (x ∷ es) c d e call is from = from_by es (e ∷ []) d (step d (call_in call)).0 x.entered c (λ n. entered_from es n d e call is) from

begun_by : (es : List Entry) (d : PlainClient) (e : Entry) (call : Call) (x : Entered) → e.entered ≡ Called call → client_begun x es ≡ Some d
    → client_begun x (es ++ e ∷ []) ≡ Some (step d (call_in call)).0
begun_by es d e call (Setup setup) is from = entered_from es (new_client setup) d e call is from
begun_by es d e call (Called other) is from = absurd (cc)

pub entered_after : (log : List Entry) (d : PlainClient) (e : Entry) (call : Call) → e.entered ≡ Called call → client_in log ≡ Some d
    → client_in (log ++ e ∷ []) ≡ Some (step d (call_in call)).0
unfolding client_in
entered_after [] d e call is told = absurd (cc)
entered_after (x ∷ es) d e call is told = begun_by es d e call x.entered is told

-- a client that a call changed, or didn't, stands for the history with its entry, or for that history
module _ (client next : Client) (log : List Entry) (call : Call) (reply : Reply) (stands : Stands client log)
    (does : (c : PlainClient) → StandsFor client c → Does next (reply_in reply) (step c (call_in call))) (named : IsReplyTo call reply) where
  done : Does next (reply_in reply) (step stands.plain (call_in call))
  done = does stands.plain stands.holds

  pub stands_still : changes (reply_in reply) ≡ false → Stands next log
  stands_still same = record {
    plain = stands.plain;
    is = stands.is;
    holds = subst (StandsFor next) (unchanged stands.plain (call_in call) (ap changes (sym done.replies) ∙ same)) done.after;
  }

  pub stands_on : (e : Entry) → e.entered ≡ Called call → Stands next (log ++ e ∷ [])
  stands_on e is = record { plain = (step stands.plain (call_in call)).0; is = entered_after log stands.plain e call is stands.is; holds = done.after }

  pub replies_still : (caller : ℕ) → changes (reply_in reply) ≡ false → Steps log caller call reply log
  replies_still caller same = (None, refl, record { plain = stands.plain; is = stands.is; reply_is = done.replies; named = named; enters = same })

  pub replies_on : (caller : ℕ) → changes (reply_in reply) ≡ true → Steps log caller call reply (log ++ record { caller = caller; entered = Called call } ∷ [])
  replies_on caller changed =
      (Some (record { caller = caller; entered = Called call }), (refl, refl), record { plain = stands.plain; is = stands.is; reply_is = done.replies; named = named; enters = (changed, refl) })

-- a history grows by a call
pub history_on : (setup : ClientSetup) (calls : List (ℕ × Call)) (caller : ℕ) (call : Call)
    → history_of setup (calls ++ (caller, call) ∷ []) ≡ history_of setup calls ++ record { caller = caller; entered = Called call } ∷ []
history_on setup calls caller call = ap (λ es. first_entry setup ∷ es) (map-append entry_of calls ((caller, call) ∷ []))

pub length_on : (setup : ClientSetup) (calls : List (ℕ × Call)) (caller : ℕ) (call : Call)
    → length (history_of setup (calls ++ (caller, call) ∷ [])) ≡ length (history_of setup calls) + 1
length_on setup calls caller call = ap length (history_on setup calls caller call) ∙ length-append (history_of setup calls) (record { caller = caller; entered = Called call } ∷ [])

-- a client that begins
pub begins : (client : Client) (setup : ClientSetup) → StandsFor client (new_client setup) → Stands client (first_entry setup ∷ [])
unfolding client_in
begins client setup stands = record { plain = new_client setup; is = refl; holds = stands }

-- what the object does with a reply
pub step_replies : (log later : List Entry) (caller : ℕ) (call : Call) (result : Result Reply AllocError)
    → IfOk result (λ reply. Steps log caller call reply later) → OnErr result (later ≡ log)
    → (made : Option Entry) × Appends (λ e. e.caller) caller log made later × RepliesTo log call result made
step_replies log later caller call (Ok reply) steps same = (steps.0, steps.1, steps.2)
step_replies log later caller call (Err error) steps same = (None, same, refl)
