-- What the entries of a session's history tell of the calls that made them.
use Rattle.std.proofs.Common.{◌≡◌, ℕ, ◌+◌, ◌-◌, true, false, List, [], ◌∷◌, ◌++◌, length, Option, Some, None, ◌⊎◌, refl, sym, ◌∙◌, ap, subst, append_assoc, length-append, arith, inl, inr, if◌then◌else◌}
use Rattle.std.specs.Option.{option_map}
use Rattle.session_attrs.specs.declared.request.Request.{Request}
use Rattle.session_core.specs.declared.replies.Arrived.{Arrived}
use Rattle.session_core.specs.declared.replies.Arrived.TheVariants as arrivals
use Rattle.session_core.specs.declared.replies.Collected.{Collected}
use Rattle.session_core.specs.declared.replies.Collected.TheVariants as collections
use Rattle.session_core.specs.Journal as plain
use Rattle.session_core.specs.Journal.{IsAllowed, collected_entry, entered_by, state_of, unless_over, within_limit}
use Rattle.session_core.specs.Machine.{arrive, body_cost, collect, is_full, refused}
use Rattle.session_core.specs.State.{PlainSession, is_over}
use Rattle.session_laws.proofs.LawsOf.{every_over}
use Rattle.session_laws.proofs.Tests.{if_false, if_true, is_or_not, some_is}
use Rattle.session_journal.specs.declared.entry.Entered.{Entered}
use Rattle.session_journal.specs.declared.entry.Entered.TheVariants as stored
use Rattle.session_journal.specs.declared.entry.Entry.{Entry}
use Rattle.session_journal.specs.declared.entry.Limited.{Limited}
use Rattle.session_journal.specs.declared.entry.Limited.TheVariants as limits
use Rattle.session_journal.specs.Entries.{entered_in, limited_in, request_in}
use Rattle.session_journal.specs.Stored.{After, Enters, Replies}
use Rattle.serve_loop.specs.Trail.{AnswersBy, IsNow, Setting, WaitedFor}
use Rattle.serve_loop.proofs.OwnLemmas.{own, own-append}

to_arrive : (a b : Arrived) → plain.ToArrive a ≡ plain.ToArrive b → a ≡ b
to_arrive a b is = cc

to_collect : (a b : Collected) → plain.ToCollect a ≡ plain.ToCollect b → a ≡ b
to_collect a b is = cc

-- where the session goes on, an arrival is entered
entered_unless : (s : PlainSession) (entered : plain.Entered) → is_over s ≡ false → unless_over s entered ≡ Some entered
entered_unless s entered on = if_false (is_over s) None (Some entered) on

-- what an arrival is entered as
abbrev IsArrival : Request → List ℕ → ℕ → plain.Entered → Type 0
IsArrival request body now told = (told ≡ plain.Made (plain.Arrive request body now)) ⊎ (told ≡ plain.Limit plain.Arrival (body_cost request body) now)

limit_is : (s : PlainSession) (request : Request) (body : List ℕ) (now : ℕ) → IsArrival request body now (within_limit s plain.Arrival now (plain.Arrive request body now))
limit_is s request body now = elim (is_or_not (is_full s (body_cost request body))) [
  | inl full ↦ inr (if_true (is_full s (body_cost request body)) _ _ full)
  | inr room ↦ inl (if_false (is_full s (body_cost request body)) _ _ room)
]

-- the session goes on where it doesn't reply that it is over
goes_on : (s : PlainSession) (request : Request) (body : List ℕ) (now : ℕ) (reply : Arrived) → plain.ToArrive reply ≡ plain.ToArrive (arrive s request body now).1
    → (reply ≡ arrivals.Over → ⊥) → is_over s ≡ false
goes_on s request body now reply is not_over = elim (is_or_not (is_over s)) [
  | inl over ↦ absurd (not_over (to_arrive reply (arrive s request body now).1 is ∙ ap (λ (r : PlainSession × Arrived). r.1) (if_true (is_over s) _ _ over)))
  | inr on ↦ on
]

-- the entry of a call that is told so
pub record IsEntered (call : Entered) (Is : plain.Entered → Type 0) : Type 0 where
  pub told : plain.Entered
  pub is : Is told
  pub tells : entered_in call ≡ Some told

-- what was made where something is entered
made_for : (made : Option Entry) (entered : Option plain.Entered) (x : plain.Entered) → Enters made entered → entered ≡ Some x
    → (e : Entry) × (made ≡ Some e) × (entered_in e.call ≡ Some x)
made_for None entered x enters is = absurd (let no : None ≡ Some x = sym enters ∙ is in cc)
made_for (Some e) entered x enters is = (e, refl, enters.2 ∙ sym enters.1 ∙ is)

-- nothing was made where nothing is entered
none_made : (made : Option Entry) (entered : Option plain.Entered) → Enters made entered → entered ≡ None → made ≡ None
none_made None entered enters is = refl
none_made (Some e) entered enters is = absurd (let no : None ≡ Some enters.0 = sym is ∙ enters.1 in cc)

-- an arrival that isn't told that the session is over makes an entry, which is its own or the limit's
pub arrival_made : (log : List Entry) (request : Request) (body : List ℕ) (now : ℕ) (reply : Arrived) (made : Option Entry)
    → Replies log (plain.Arrive request body now) (plain.ToArrive reply) made → (reply ≡ arrivals.Over → ⊥)
    → (e : Entry) × (made ≡ Some e) × IsEntered e.call (IsArrival request body now)
arrival_made log request body now reply made replies not_over =
    let s : PlainSession = state_of replies.journal in
    let entered : plain.Entered = within_limit s plain.Arrival now (plain.Arrive request body now) in
    let on = goes_on s request body now reply replies.reply_is not_over in
    let it = made_for made (entered_by s (plain.Arrive request body now)) entered replies.enters (entered_unless s entered on) in
    (it.0, it.1, record { told = entered; is = limit_is s request body now; tells = it.2 })

-- an arrival that is told so makes none, and the session is over
pub over_made : (log : List Entry) (request : Request) (body : List ℕ) (now : ℕ) (made : Option Entry) → IsAllowed (plain.Arrive request body now)
    → Replies log (plain.Arrive request body now) (plain.ToArrive arrivals.Over) made → (made ≡ None) × After log (λ s. is_over s ≡ true)
over_made log request body now made allowed replies =
    let s : PlainSession = state_of replies.journal in
    let over = (every_over replies.journal replies.is.made request body now allowed).0 (sym replies.reply_is) in (
      none_made made (entered_by s (plain.Arrive request body now)) replies.enters (if_true (is_over s) None (Some (within_limit s plain.Arrival now (plain.Arrive request body now))) over),
      record { journal = replies.journal; is = replies.is; holds = over },
    )

-- The entry that answers.

arrival_body : (read : Option Request) (stored_body : List ℕ) (at : ℕ) (request : Request) (body : List ℕ) (now : ℕ)
    → option_map (λ (r : Request). plain.Made (plain.Arrive r stored_body at)) read ≡ Some (plain.Made (plain.Arrive request body now)) → stored_body ≡ body
arrival_body None stored_body at request body now is = absurd (let no : None ≡ Some (plain.Made (plain.Arrive request body now)) = is in cc)
arrival_body (Some r) stored_body at request body now is =
    let same : Some (plain.Made (plain.Arrive r stored_body at)) ≡ Some (plain.Made (plain.Arrive request body now)) = is in cc

arrival_no_limit : (read : Option Request) (stored_body : List ℕ) (at : ℕ) (kind : plain.Limited) (cost now : ℕ)
    → option_map (λ (r : Request). plain.Made (plain.Arrive r stored_body at)) read ≡ Some (plain.Limit kind cost now) → ⊥
arrival_no_limit None stored_body at kind cost now is = let no : None ≡ Some (plain.Limit kind cost now) = is in cc
arrival_no_limit (Some r) stored_body at kind cost now is = let no : Some (plain.Made (plain.Arrive r stored_body at)) ≡ Some (plain.Limit kind cost now) = is in cc

limited_arrival : (kind : Limited) → limited_in kind ≡ plain.Arrival → kind ≡ limits.Arrival
limited_arrival limits.Arrival is = refl
limited_arrival limits.ServerStanza is = absurd cc
limited_arrival limits.ServerClosing is = absurd cc
limited_arrival limits.Time is = absurd cc

-- an entry that is no arrival's is none of these
other : (told x : plain.Entered) (request : Request) (body : List ℕ) (now : ℕ) → IsArrival request body now told → Some x ≡ Some told
    → (x ≡ plain.Made (plain.Arrive request body now) → ⊥) → (x ≡ plain.Limit plain.Arrival (body_cost request body) now → ⊥) → ⊥
other told x request body now (inl is) tells not_made not_limit = not_made (some_is x told tells ∙ is)
other told x request body now (inr is) tells not_made not_limit = not_limit (some_is x told tells ∙ is)

pub answers_by : (site : Setting) (before : List Entry) (e : Entry) (call : Entered) (request : Request) (body text : List ℕ) (now : ℕ) → IsNow site now
    → IsEntered call (IsArrival request body now) → Replies before (plain.Arrive request body now) (plain.ToArrive (arrivals.Answer text)) (Some e)
    → AnswersBy site before e call request body text (e ∷ [])
answers_by site before e (stored.Arrive stored_body at) request body text now at_now entered replies = (
  elim entered.is [
    | inl is ↦ arrival_body (request_in stored_body) stored_body at request body now (entered.tells ∙ ap Some is)
    | inr is ↦ absurd (arrival_no_limit (request_in stored_body) stored_body at plain.Arrival (body_cost request body) now (entered.tells ∙ ap Some is))
  ],
  (now, at_now, replies),
  refl,
)
answers_by site before e (stored.Limit kind cost at) request body text now at_now entered replies = elim entered.is [
  | inl is ↦ absurd (let no : plain.Limit (limited_in kind) cost at ≡ plain.Made (plain.Arrive request body now) = some_is _ _ entered.tells ∙ is in cc)
  | inr is ↦
      let same : plain.Limit (limited_in kind) cost at ≡ plain.Limit plain.Arrival (body_cost request body) now = some_is _ _ entered.tells ∙ is in
      let of : limited_in kind ≡ plain.Arrival = cc in
      let costs : cost ≡ body_cost request body = cc in
      (limited_arrival kind of, costs, (now, at_now, replies), refl)
]
answers_by site before e (stored.Open sid host greeting stored_body at limit gap_waits) request body text now at_now entered replies = absurd (let no : None ≡ Some entered.told = entered.tells in cc)
answers_by site before e (stored.Collect ticket) request body text now at_now entered replies =
    absurd (other entered.told (plain.Made (plain.Collect ticket)) request body now entered.is entered.tells (λ no. cc) (λ no. cc))
answers_by site before e (stored.Back stream stanza at) request body text now at_now entered replies =
    absurd (other entered.told (plain.Made (plain.Back stream stanza at)) request body now entered.is entered.tells (λ no. cc) (λ no. cc))
answers_by site before e (stored.BackClosed stream closing at) request body text now at_now entered replies =
    absurd (other entered.told (plain.Made (plain.BackClosed stream closing at)) request body now entered.is entered.tells (λ no. cc) (λ no. cc))
answers_by site before e (stored.Tick at) request body text now at_now entered replies =
    absurd (other entered.told (plain.Made (plain.Tick at)) request body now entered.is entered.tells (λ no. cc) (λ no. cc))
answers_by site before e stored.TakeInward request body text now at_now entered replies =
    absurd (other entered.told (plain.Made plain.TakeInward) request body now entered.is entered.tells (λ no. cc) (λ no. cc))

-- Collecting.

-- a ticket that has its answer is collected by an entry
pub collect_made : (log : List Entry) (ticket : ℕ) (text : List ℕ) (made : Option Entry) → Replies log (plain.Collect ticket) (plain.ToCollect (collections.Answer text)) made
    → (e : Entry) × (made ≡ Some e) × (entered_in e.call ≡ Some (plain.Made (plain.Collect ticket)))
collect_made log ticket text made replies =
    let s : PlainSession = state_of replies.journal in
    let found = to_collect (collections.Answer text) (collect s ticket).1 replies.reply_is in
    made_for made (entered_by s (plain.Collect ticket)) (plain.Made (plain.Collect ticket)) replies.enters
    (ap (λ (r : Collected). collected_entry s (plain.Collect ticket) r) (sym found))

read_no_collect : (read : Option Request) (stored_body : List ℕ) (at ticket : ℕ)
    → option_map (λ (r : Request). plain.Made (plain.Arrive r stored_body at)) read ≡ Some (plain.Made (plain.Collect ticket)) → ⊥
read_no_collect None stored_body at ticket is = let no : None ≡ Some (plain.Made (plain.Collect ticket)) = is in cc
read_no_collect (Some r) stored_body at ticket is = let no : Some (plain.Made (plain.Arrive r stored_body at)) ≡ Some (plain.Made (plain.Collect ticket)) = is in cc

pub collected_by : (site : Setting) (before : List Entry) (e : Entry) (call : Entered) (request : Request) (body text : List ℕ) (ticket : ℕ)
    → entered_in call ≡ Some (plain.Made (plain.Collect ticket)) → (waited : WaitedFor site before e.caller request body ticket)
    → Replies before (plain.Collect ticket) (plain.ToCollect (collections.Answer text)) (Some e) → AnswersBy site before e call request body text (waited.entry ∷ e ∷ [])
collected_by site before e (stored.Collect taken) request body text ticket is waited replies =
    let same : ticket ≡ taken = (let known_is : Some (plain.Made (plain.Collect taken)) ≡ Some (plain.Made (plain.Collect ticket)) = is in cc) in
    subst (λ (t : ℕ). (came : WaitedFor site before e.caller request body t) × Replies before (plain.Collect t) (plain.ToCollect (collections.Answer text)) (Some e)
    × ((waited.entry ∷ e ∷ []) ≡ came.entry ∷ e ∷ [])) same (waited, replies, refl)
collected_by site before e (stored.Arrive stored_body at) request body text ticket is waited replies = absurd (read_no_collect (request_in stored_body) stored_body at ticket is)
collected_by site before e (stored.Limit kind cost at) request body text ticket is waited replies =
    absurd (let no : Some (plain.Limit (limited_in kind) cost at) ≡ Some (plain.Made (plain.Collect ticket)) = is in cc)
collected_by site before e (stored.Open sid host greeting stored_body at limit gap_waits) request body text ticket is waited replies =
    absurd (let no : None ≡ Some (plain.Made (plain.Collect ticket)) = is in cc)
collected_by site before e (stored.Back stream stanza at) request body text ticket is waited replies =
    absurd (let no : Some (plain.Made (plain.Back stream stanza at)) ≡ Some (plain.Made (plain.Collect ticket)) = is in cc)
collected_by site before e (stored.BackClosed stream closing at) request body text ticket is waited replies =
    absurd (let no : Some (plain.Made (plain.BackClosed stream closing at)) ≡ Some (plain.Made (plain.Collect ticket)) = is in cc)
collected_by site before e (stored.Tick at) request body text ticket is waited replies =
    absurd (let no : Some (plain.Made (plain.Tick at)) ≡ Some (plain.Made (plain.Collect ticket)) = is in cc)
collected_by site before e stored.TakeInward request body text ticket is waited replies =
    absurd (let no : Some (plain.Made plain.TakeInward) ≡ Some (plain.Made (plain.Collect ticket)) = is in cc)

-- What waits, in a history that goes on.

abbrev pub waits_on : (site : Setting) (old new rest : List Entry) (caller same : ℕ) (request : Request) (body : List ℕ) (ticket : ℕ) → new ≡ old ++ rest → same ≡ caller
    → own caller rest ≡ []
    → WaitedFor site old caller request body ticket → WaitedFor site new same request body ticket
waits_on site old new rest caller same request body ticket is same_is none w = record {
  before = w.before;
  entry = w.entry;
  later = w.later ++ rest;
  there = is ∙ ap (λ (l : List Entry). l ++ rest) w.there ∙ append_assoc w.before (w.entry ∷ w.later) rest;
  own = w.own ∙ sym same_is;
  since = ap (λ (n : ℕ). own n (w.later ++ rest)) same_is ∙ (own-append caller w.later rest ∙ (ap (λ l. l ++ own caller rest) w.since ∙ none));
  waits = w.waits;
}

-- the place of the last one
pub last_place : {E : Type 0} (before seen : List E) (e : E) → seen ≡ before ++ e ∷ [] → length before ≡ length seen - 1
last_place before seen e is = omega (arith, ap length is, length-append before (e ∷ []))
