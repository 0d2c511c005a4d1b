-- The world of a load is one after events that may come.
use Rattle.std.proofs.Common.{◌≡◌, ◌<◌, ℕ, zero, suc, ◌+◌, ◌%◌, List, [], ◌∷◌, ◌++◌, All, Bool, true, false, Option, Some, None, refl, sym, subst, ◌∙◌, ap, arith, if◌then◌else◌, ◌==◌}
use Rattle.std.specs.Prelude.{is_some, nat_lt, ◌^◌, ◌↔◌, IsTrue, nat_le}
use Rattle.std.specs.List.{find}
use Rattle.std.specs.Option.{option_map}
use Rattle.std.proofs.lemmas.List.Elements.{All-nil, All-push}
use Rattle.bosh_types.specs.ById.{at_id}
use Rattle.bosh_types.specs.Rid.{IsRid, greatest_rid}
use Rattle.body_cutter.specs.BodyText.{IsStanza}
use Rattle.body_cutter.specs.Cutting.{is_stanza}
use Rattle.body_cutter.proofs.Rows.{cuts_compute}
use Rattle.session_attrs.specs.Serving.{can_serve, is_host_name, may_greet}
use Rattle.session_laws.proofs.Tests.{both_true, some_is, split}
use Rattle.bosh_client.specs.declared.setup.ClientSetup.{ClientSetup}
use Rattle.bosh_client.specs.Machine.{copy}
use Rattle.bosh_client.specs.PlainClient.{PlainClient, Taken, bytes_of, request_at, taken}
use Rattle.bosh_client.specs.Setup.{is_setup}
use Rattle.two_ends.specs.Asked.{ending_in, greatest_open, ids_of, if_open, is_open, last_answer, last_of, lowest_open}
use Rattle.two_ends.specs.Summed.{counted}
use Rattle.world_laws.specs.declared.event.WorldEvent.{WorldEvent}
use Rattle.world_laws.specs.declared.event.WorldEvent.TheVariants.{At, Put, Send, Carry, Give, Return}
use Rattle.world_laws.specs.Complete.{EndsFaultless, IsComplete, NamesNone}
use Rattle.world_laws.specs.Manager.{PlainManager}
use Rattle.world_laws.specs.Promises.{KeepsBothPrefixes}
use Rattle.world_laws.specs.Setup.{IsAllowed, IsWorldSetup}
use Rattle.world_laws.specs.Steps.{after, sends, step}
use Rattle.world_laws.specs.Timely.{IsInTime, IsTimely}
use Rattle.world_laws.specs.World.{PlainWorld, new_world}
use Rattle.world_laws.proofs.ClientLemmas.{next_by}
use Rattle.pair_text.specs.Load.{IsOverWell, PlainLoad, beginning, brings, carries, carries_greatest, carries_lowest, carries_some, first_id, gives_one, greeting, happens, host, load_of, puts_one, returns_for, returns_some, round, rounds, setup_of, turns, waits, word}
use Rattle.pair_text.proofs.MessageLemmas.{client_stanza, server_stanza}
use Rattle.pair_text.proofs.SetupLemmas.{may_begin}
use Rattle.pair_text.proofs.TellLemmas.{WorldLaws}

-- the stanzas are those of the grammar
abbrev pub StanzaLaw : Type 0
StanzaLaw = (text : List ℕ) → IsTrue (is_stanza text) ↔ IsStanza text

pub counted_low : (n : ℕ) → counted n < 2 ^ 64
counted_low n = grind arith

-- one event more
after_more : (events : List WorldEvent) (w : PlainWorld) (event : WorldEvent) → after w (events ++ event ∷ []) ≡ (step (after w events) event).after
after_more [] w event = refl
after_more (first ∷ events) w event = after_more events (step w first).after event

-- events led there of which none is late and none names a stream
record Reached (w : PlainWorld) (load : PlainLoad) : Type 0 where
  events : List WorldEvent
  allowed : All IsAllowed events
  timely : IsTimely w events
  unnamed : All NamesNone events
  world_is : load.world ≡ after w events

timely_more : (events : List WorldEvent) (w : PlainWorld) (event : WorldEvent) → IsTimely w events → IsInTime (after w events) event → IsTimely w (events ++ event ∷ [])
timely_more [] w event timely here = (here, tt)
timely_more (first ∷ events) w event timely here = (timely.0, timely_more events (step w first).after event timely.1 here)

-- An open request has no answer yet.

open_untaken : (c : PlainClient) (rid : ℕ) → is_open c rid ≡ true → taken c rid ≡ None
open_untaken c rid is = by (taken c rid) refl (both_true (nat_le rid greatest_rid) (is_some (copy c rid)) is).1
  where
    by : (o : Option Taken) → taken c rid ≡ o → is_some (if is_some o then None else option_map bytes_of (request_at c rid)) ≡ true → taken c rid ≡ None
    by None there has = there
    by (Some t) there has = absurd (cc)

found_passes : (p : ℕ → Bool) (ids : List ℕ) (rid : ℕ) → find p ids ≡ Some rid → p rid ≡ true
found_passes p [] rid is = absurd (cc)
found_passes p (id ∷ ids) rid is = by (p id) refl is (found_passes p ids rid)
  where
    by : (b : Bool) → p id ≡ b → (if b then Some id else find p ids) ≡ Some rid → (find p ids ≡ Some rid → p rid ≡ true) → p rid ≡ true
    by true passes is later = ap p (sym (some_is id rid is)) ∙ passes
    by false passes is later = later is

lowest_untaken : (c : PlainClient) (rid : ℕ) → lowest_open c ≡ Some rid → taken c rid ≡ None
lowest_untaken c rid is = open_untaken c rid (found_passes (is_open c) (ids_of c) rid is)

greatest_untaken : (c : PlainClient) (rid : ℕ) → greatest_open c ≡ Some rid → taken c rid ≡ None
greatest_untaken c rid is = by (last_of (ids_of c)) is
  where
    here : (id : ℕ) (b : Bool) → is_open c id ≡ b → (if b then Some id else None) ≡ Some rid → taken c rid ≡ None
    here id true is_one same = open_untaken c rid (ap (is_open c) (sym (some_is id rid same)) ∙ is_one)
    here id false is_one same = absurd (cc)

    by : (o : Option ℕ) → if_open c o ≡ Some rid → taken c rid ≡ None
    by None is = absurd (cc)
    by (Some id) is = here id (is_open c id) refl is

-- counts change nothing in the world
recounted : (w : PlainWorld) (load other : PlainLoad) → other.world ≡ load.world → Reached w load → Reached w other
recounted w load other same reached = record { events = reached.events; allowed = reached.allowed; timely = reached.timely; unnamed = reached.unnamed; world_is = same ∙ reached.world_is }

module _ (law : StanzaLaw) (w : PlainWorld) where
  abbrev Comes : PlainLoad → Type 0
  Comes load = Reached w load

  happens_comes : (event : WorldEvent) (load : PlainLoad) → IsAllowed event → NamesNone event → IsInTime load.world event → Comes load → Comes (happens event load)
  happens_comes event load allowed unnamed early reached = record {
    events = reached.events ++ event ∷ [];
    allowed = All-push IsAllowed reached.events event reached.allowed allowed;
    timely = timely_more reached.events w event reached.timely (subst (λ (v : PlainWorld). IsInTime v event) reached.world_is early);
    unnamed = All-push NamesNone reached.events event reached.unnamed unnamed;
    world_is = ap (λ v. (step v event).after) reached.world_is ∙ sym (after_more reached.events w event);
  }

  carries_comes : (rid : ℕ) (load : PlainLoad) → taken load.world.client rid ≡ None → Comes load → Comes (carries rid load)
  carries_comes rid load early reached =
      happens_comes (Carry rid) (record load { copies = counted (load.copies + 1) }) tt tt early
      (recounted w load (record load { copies = counted (load.copies + 1) }) refl reached)

  puts_comes : (load : PlainLoad) → Comes load → Comes (puts_one load)
  puts_comes load reached =
      let number = counted (load.puts + 1) in
      happens_comes (Put _) (record load { puts = number }) ((law _).1 (client_stanza number (counted_low (load.puts + 1)))) tt tt
      (recounted w load (record load { puts = number }) refl reached)

  gives_comes : (load : PlainLoad) → Comes load → Comes (gives_one load)
  gives_comes load reached =
      let number = counted (load.gives + 1) in
      happens_comes (Give _) (record load { gives = number }) ((law _).1 (server_stanza number (counted_low (load.gives + 1)))) tt tt
      (recounted w load (record load { gives = number }) refl reached)

  some_comes : (rid : Option ℕ) (load : PlainLoad) → ((id : ℕ) → rid ≡ Some id → taken load.world.client id ≡ None) → Comes load → Comes (carries_some rid load)
  some_comes None load early reached = reached
  some_comes (Some rid) load early reached = carries_comes rid load (early rid refl) reached

  low_comes : (load : PlainLoad) → Comes load → Comes (carries_lowest load)
  low_comes load reached = some_comes (lowest_open load.world.client) load (lowest_untaken load.world.client) reached

  high_comes : (load : PlainLoad) → Comes load → Comes (carries_greatest load)
  high_comes load reached = some_comes (greatest_open load.world.client) load (greatest_untaken load.world.client) reached

  returns_comes : (number : Option ℕ) (load : PlainLoad) → Comes load → Comes (returns_some number load)
  returns_comes None load reached = reached
  returns_comes (Some number) load reached = happens_comes (Return number) load tt tt tt reached

  for_comes : (rid : Option ℕ) (load : PlainLoad) → Comes load → Comes (returns_for rid load)
  for_comes None load reached = reached
  for_comes (Some rid) load reached = returns_comes (last_answer rid load.world.written) load reached

  waits_comes : (millis : ℕ) (load : PlainLoad) → Comes load → Comes (waits millis load)
  waits_comes millis load reached = happens_comes (At _) load (counted_low (load.world.moment + millis)) tt tt reached

  brings_comes : (word rest : ℕ) (load : PlainLoad) → Comes load → Comes (brings word rest load)
  brings_comes word rest load reached =
      split Comes (nat_lt rest 2) _ _ (λ _. puts_comes load reached) (λ _.
      split Comes (rest == 2) _ _ (λ _. gives_comes load reached) (λ _.
      split Comes (rest == 3) _ _ (λ _. happens_comes Send load tt tt tt reached) (λ _.
      split Comes (rest == 4) _ _ (λ _. low_comes load reached) (λ _.
      split Comes (rest == 5) _ _ (λ _. high_comes load reached) (λ _.
      split Comes (rest == 6) _ _ (λ _. for_comes (lowest_open load.world.client) load reached) (λ _. waits_comes _ load reached))))))

  turns_come : (number count : ℕ) (load : PlainLoad) → Comes load → Comes (turns number count load)
  unfolding turns
  turns_come number zero load reached = reached
  turns_come number (suc count) load reached =
      brings_comes (word number (count + 1)) (word number (count + 1) % 8) (turns number count load) (turns_come number count load reached)

  round_comes : (load : PlainLoad) → Comes load → Comes (round load)
  round_comes load reached =
      let sent = happens Send load in
      let low = carries_lowest sent in
      let high = carries_greatest low in
      for_comes (lowest_open high.world.client) high
      (high_comes low (low_comes sent (happens_comes Send load tt tt tt reached)))

  rounds_come : (count : ℕ) (load : PlainLoad) → Comes load → Comes (rounds count load)
  unfolding rounds
  rounds_come zero load reached = reached
  rounds_come (suc count) load reached = round_comes (rounds count load) (rounds_come count load reached)

-- The world of a load may begin.

pub first_is_id : (word : ℕ) → IsRid (first_id word)
first_is_id word = (omega arith, omega arith)

serves : IsTrue (can_serve (record { name = host; greeting = greeting }))
unfolding cuts_compute is_host_name may_greet
serves = refl

valid : (first : ℕ) → is_setup (setup_of first) ≡ true
unfolding cuts_compute is_setup
valid first = refl

pub load_begins : (first : ℕ) → IsRid first → IsWorldSetup host greeting (setup_of first)
load_begins first id = may_begin host greeting (setup_of first) serves (valid first) id refl

-- the first request is made
first_sent : (first : ℕ) → taken (happens Send (beginning first)).world.client first ≡ None
first_sent first = none_taken (happens Send (beginning first)).world.client first (sent_answers (new_world host greeting (setup_of first)))
  where
    none_taken : (c : PlainClient) (rid : ℕ) → c.answers ≡ [] → taken c rid ≡ None
    none_taken c rid none = ap (λ (l : List (ℕ × Taken)). at_id l rid) none

    sent_answers : (w : PlainWorld) → (step w Send).after.client.answers ≡ w.client.answers
    sent_answers w = next_by w.client w.moment (λ p. (sends w p).after.client.answers ≡ w.client.answers) refl refl refl

load_reached : StanzaLaw → (number : ℕ) → Reached (new_world host greeting (setup_of (first_id (word number 0)))) (load_of number)
unfolding load_of
load_reached law number =
    let first = first_id (word number 0) in
    let w = new_world host greeting (setup_of first) in
    let start : Reached w (beginning first) = record { events = []; allowed = All-nil IsAllowed; timely = tt; unnamed = All-nil NamesNone; world_is = refl } in
    let created = happens_comes law w (Return 1) _ tt tt tt (carries_comes law w first _ (first_sent first) (happens_comes law w Send _ tt tt tt start)) in
    rounds_come law w 100 _ (turns_come law w number 2000 _ created)

-- so each end has a beginning of what was sent at the other
pub load_keeps : StanzaLaw → WorldLaws → (number : ℕ) → KeepsBothPrefixes (load_of number).world
load_keeps law laws number =
    let first = first_id (word number 0) in
    let reached = load_reached law number in
    subst KeepsBothPrefixes (sym reached.world_is) (laws.prefixes host greeting (setup_of first) reached.events (load_begins first (first_is_id (word number 0))) reached.allowed)

-- and nothing goes wrong between them
abbrev pub CompleteLaw : Type 0
CompleteLaw = (host : List ℕ) (greeting : List (List ℕ)) (setup : ClientSetup) (events : List WorldEvent)
    → IsWorldSetup host greeting setup → All IsAllowed events → IsTimely (new_world host greeting setup) events → IsComplete (after (new_world host greeting setup) events)

pub load_completes : StanzaLaw → CompleteLaw → (number : ℕ) → IsComplete (load_of number).world
load_completes law complete number =
    let first = first_id (word number 0) in
    let reached = load_reached law number in
    subst IsComplete (sym reached.world_is) (complete host greeting (setup_of first) reached.events (load_begins first (first_is_id (word number 0))) reached.allowed reached.timely)

-- since its client names no stream, by no request of its own but a terminate
abbrev pub UnnamedLaw : Type 0
UnnamedLaw = (host : List ℕ) (greeting : List (List ℕ)) (setup : ClientSetup) (events : List WorldEvent)
    → IsWorldSetup host greeting setup → All IsAllowed events → IsTimely (new_world host greeting setup) events → All NamesNone events
    → EndsFaultless (after (new_world host greeting setup) events).manager

pub load_ends : StanzaLaw → UnnamedLaw → (number : ℕ) → EndsFaultless (load_of number).world.manager
load_ends law unnamed number =
    let first = first_id (word number 0) in
    let reached = load_reached law number in
    subst (λ (w : PlainWorld). EndsFaultless w.manager) (sym reached.world_is)
    (unnamed host greeting (setup_of first) reached.events (load_begins first (first_is_id (word number 0))) reached.allowed reached.timely reached.unnamed)

pub ends_well : (o : Option PlainManager) → EndsFaultless o → IsOverWell (ending_in o)
ends_well None is = tt
ends_well (Some m) is = is
