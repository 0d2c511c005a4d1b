-- No call ends a session by a fault of its client, where no copy comes after its answer was taken.
use Rattle.std.proofs.Common.{◌≡◌, ◌≢◌, ℕ, zero, suc, ◌+◌, ◌*◌, ◌<◌, ◌≤◌, ◌==◌, ◌&&◌, Bool, true, false, List, [], ◌∷◌, ◌++◌, length, map, slice_get, inl, inr, refl, sym, ◌∙◌, ap, subst, arith, append-nil, length-append, if◌then◌else◌}
use Rattle.std.specs.Prelude.{Option, None, Some, All, IfSome, IsTrue, nat_lt, not, ⊤}
use Rattle.std.specs.Int.{abs_diff}
use Rattle.std.proofs.lemmas.Bool.{cases_lt, leb-true, ltb-true}
use Rattle.std.proofs.lemmas.List.{length-drop, map-append}
use Rattle.std.proofs.lemmas.List.Elements.{All-append, All-cons, All-nil}
use Rattle.bosh_types.specs.ById.{at_id}
use Rattle.bosh_types.specs.declared.ending.Ending.{Ending}
use Rattle.bosh_types.specs.declared.ending.Ending.TheVariants as endings
use Rattle.bosh_types.specs.declared.terms.Terms.{Terms}
use Rattle.key_sequence.specs.Current.{fits}
use Rattle.pause_rules.specs.declared.mark.Mark.{Mark}
use Rattle.pause_rules.specs.Overactive.{apart, is_bare_poll, is_crowded, is_overactive, serves_nothing}
use Rattle.rid_window.specs.PlainWindow.{reach}
use Rattle.session_attrs.specs.declared.request.Request.{Request}
use Rattle.session_core.specs.declared.copy.RequestCopy.{RequestCopy}
use Rattle.session_core.specs.Copy as copies
use Rattle.session_core.specs.Facts.{Arrives, Fact, HasKey, IsShort, OfNext}
use Rattle.session_core.specs.Facts as facts
use Rattle.session_core.specs.Journal.{Arrive, Back, BackClosed, Call, Collect, Entered, IsAllowed, Limit, IsJournal, Journal, Made as MadeCall, TakeInward, Tick, after_entry, entered_by, state_of}
use Rattle.session_core.specs.Kept.{kept_of}
use Rattle.session_core.specs.Machine.{copy_now, creation_of}
use Rattle.session_core.specs.Points.{tested_at}
use Rattle.session_core.specs.Rules.{asked_of, mark_of}
use Rattle.session_core.specs.Placed.{ArePlaced, MayStand}
use Rattle.session_core.specs.Run.{IsReceived, arrivals_of, key_after, placings_of}
use Rattle.session_core.specs.Processed.{Processed, copies_of}
use Rattle.session_core.specs.State.{Placing, PlainSession, Stands, Strikes, answered_of, first_of, is_over, last_from, last_of, standing_at}
use Rattle.session_core.specs.Time.{time_applied}
use Rattle.session_core.specs.Window.{is_above}
use Rattle.session_laws.specs.Growing.{Begins}
use Rattle.session_laws.proofs.Frames.{time_leaves}
use Rattle.session_laws.proofs.Grows.{steady-all}
use Rattle.session_laws.proofs.Lists.{copies_length, get_append, get_some}
use Rattle.session_laws.proofs.Received.{received_after, received_push, received_strikes, same_copy}
use Rattle.session_laws.proofs.RunRules.{HasKey as KeyIs, key_steady}
use Rattle.session_laws.proofs.Steadily.{is_none}
use Rattle.session_laws.proofs.Tests.{both_true, is_or_not, none_some, not_true, some_is}
use Rattle.session_laws.proofs.TimeStruck.{time_now}
use Rattle.session_core.specs.Machine.{opened}
use Rattle.session_calls.specs.After.{after_call, with_entered}
use Rattle.bosh_client.specs.declared.setup.ClientSetup.{ClientSetup}
use Rattle.bosh_client.specs.Keys.{announcement, key_at, newkey_at}
use Rattle.bosh_client.specs.PlainClient.{Made, PlainClient, lowest, taken}
use Rattle.bosh_client.specs.Requests.{with_keys}
use Rattle.bosh_client.specs.Setup.{is_setup, polls}
use Rattle.world_laws.specs.Complete.{IsLeft}
use Rattle.world_laws.specs.Manager.{PlainManager, session}
use Rattle.world_laws.specs.Sound.{IsOpenedBy, IsSent, IsSound}
use Rattle.world_laws.specs.World.{PlainWorld}
use Rattle.world_laws.proofs.Below.{Below}
use Rattle.world_laws.proofs.CallLemmas.{Brings, entered_is, told_by}
use Rattle.world_laws.proofs.GrownLemmas.{Grown, call_grows}
use Rattle.world_laws.proofs.KeyTurns.{HaveKeys, key_fits}
use Rattle.world_laws.proofs.LowestLemmas.{from_lowest}
use Rattle.world_laws.proofs.MadeLemmas.{is_poll}
use Rattle.world_laws.proofs.OnTimeLemmas.{agreed_is, every_terms, journal_made, kept_in_time, lowest_near, opening_terms, sound_manager, start, taken_answered}
use Rattle.world_laws.proofs.StateLemmas.{every_sound}
use Rattle.world_laws.proofs.StoodLemmas.{IsLater, first_is, id_within, ids, later_arrives, later_processed, later_stands, setup_is}
use Rattle.world_laws.proofs.TurnLemmas.{all_follow}
use Rattle.world_laws.proofs.UnknownLemmas.{names_closed}

-- the client took no answer of the copy that a call brings
abbrev pub IsTimelyCall : PlainClient → Call → Type 0
IsTimelyCall c (Arrive request body now) = taken c request.rid ≡ None
IsTimelyCall c (Collect ticket) = ⊤
IsTimelyCall c (Back stream stanza now) = ⊤
IsTimelyCall c (BackClosed stream closing now) = ⊤
IsTimelyCall c (Tick now) = ⊤
IsTimelyCall c TakeInward = ⊤

-- a copy comes at this moment
abbrev pub ComesNow : ℕ → Call → Type 0
ComesNow moment (Arrive request body now) = now ≡ moment
ComesNow moment (Collect ticket) = ⊤
ComesNow moment (Back stream stanza now) = ⊤
ComesNow moment (BackClosed stream closing now) = ⊤
ComesNow moment (Tick now) = ⊤
ComesNow moment TakeInward = ⊤

-- in a session that polls, an empty request was made the agreed seconds after the one before it had come
abbrev pub HasRested : PlainClient → ℕ → PlainSession → Type 0
HasRested c moment s =
    (k : ℕ) (copy : RequestCopy) (request : Made) → slice_get (copies_of s.processed) k ≡ Some copy → slice_get c.requests (suc (suc k)) ≡ Some request
    → is_poll request.parts ≡ true → polls c.setup ≡ true → copy.arrived + s.terms.polling * 1000 ≤ moment

-- What lies so far apart is not near.
too_near : (one other far : ℕ) → abs_diff one other < far → other + far ≤ one → ⊥
too_near one other far near past = omega (arith, near, past)

-- Lists.

last_from_get : {X : Type 0} (x : X) (xs : List X) (n : ℕ) (y : X) → length xs ≡ suc n → slice_get xs n ≡ Some y → last_from x xs ≡ y
last_from_get x [] n y long is = absurd (omega (arith, long))
last_from_get x (z ∷ []) zero y long is = some_is z y is
last_from_get x (z ∷ next ∷ zs) zero y long is = absurd (omega (arith, long))
last_from_get x (z ∷ zs) (suc n) y long is = last_from_get z zs n y (omega (arith, long)) is

begins_long : {X : Type 0} (xs ys : List X) → Begins xs ys → length xs ≤ length ys
begins_long xs ys b = omega (arith, ap length b.1, length-append xs b.0)

pub copies_begin : (xs ys : List Processed) → Begins xs ys → Begins (copies_of xs) (copies_of ys)
copies_begin xs ys b = (copies_of b.0, ap copies_of b.1 ∙ map-append (λ one. one.copy) xs b.0)

pub begins_get : {X : Type 0} (xs ys : List X) (k : ℕ) (x : X) → Begins xs ys → slice_get xs k ≡ Some x → slice_get ys k ≡ Some x
begins_get xs ys k x b is = ap (λ l. slice_get l k) b.1 ∙ get_append xs b.0 k x is

every_key : (journal : Journal) → IsJournal journal → KeyIs journal.opening.request.newkey (state_of journal)
every_key journal made = steady-all (KeyIs journal.opening.request.newkey) (key_steady journal.opening.request.newkey) (opened journal.opening) journal.entries made.1 refl

module _ (below : Below) (setup : ClientSetup) (w : PlainWorld) (h : IsSound setup w) (m : PlainManager) (is : w.manager ≡ Some m) (on : is_over (session m) ≡ false) where
  abbrev c : PlainClient
  c = w.client

  abbrev s : PlainSession
  s = session m

  -- a copy of which no answer was taken has the lowest such id or a higher one
  copy_from_lowest : (rid : ℕ) (body : List ℕ) → at_id w.sent rid ≡ Some body → taken c rid ≡ None → lowest c ≤ rid
  copy_from_lowest rid body sent none =
      let within = id_within below setup w h rid body sent in
      from_lowest c (ids below setup w h) rid within.0 within.1 none

  module _ (call : Call) (allowed : IsAllowed call) (brings : Brings w.sent w.moment call) (timely : IsTimelyCall c call) (now_is : ComesNow w.moment call) (rested : HasRested c w.moment s) where
    abbrev j : Journal
    j = after_call m.journal call

    abbrev u : PlainSession
    u = state_of j

    grown : Grown w.sent w.moment m.journal j
    grown = call_grows below w.sent w.moment m.journal call allowed brings (journal_made below setup w h m is on)

    opened_too : IsOpenedBy setup j.opening
    opened_too = subst (IsOpenedBy setup) (sym grown.opening_is) (sound_manager below setup w h m is on).opened

    arrived_too : All (IsSent w.sent) (arrivals_of j)
    arrived_too = grown.arrivals (sound_manager below setup w h m is on).arrived

    -- Of the copy that arrives.

    not_stale : (rid : ℕ) (k : Call) → Brings w.sent w.moment k → IsTimelyCall c k
        → Arrives (tested_at s (MadeCall k)) (MadeCall k) rid (λ copy. (rid ≤ answered_of (tested_at s (MadeCall k))) × (kept_of (tested_at s (MadeCall k)) rid ≡ None)) → ⊥
    not_stale rid (Arrive request body now) brings timely fact =
        let from : lowest c ≤ rid = subst (λ (n : ℕ). lowest c ≤ n) fact.1 (copy_from_lowest request.rid body brings.0 timely) in
        kept_in_time below setup w h m is on now rid from (fact.2).0 (fact.2).1
    not_stale rid (Collect ticket) brings timely fact = fact
    not_stale rid (Back stream stanza now) brings timely fact = fact
    not_stale rid (BackClosed stream closing now) brings timely fact = fact
    not_stale rid (Tick now) brings timely fact = fact
    not_stale rid TakeInward brings timely fact = fact

    not_above : (rid : ℕ) (k : Call) → IsAllowed k → Brings w.sent w.moment k
        → Arrives (tested_at s (MadeCall k)) (MadeCall k) rid (λ copy. IsTrue (is_above (tested_at s (MadeCall k)) copy) × (standing_at (tested_at s (MadeCall k)) rid ≡ None)) → ⊥
    not_above rid (Arrive request body now) allowed brings fact =
        let t : PlainSession = time_applied s now in
        let copy : RequestCopy = copy_now t request body in
        let leaves = time_leaves s now in
        let later = later_arrives below setup w h copy brings.0 allowed.0 allowed.1 in
        let l = later.2 in
        let extra : Bool = copies.is_extra copy in
        let past : last_of t + reach t.terms.requests extra < request.rid = ltb-true (last_of t + reach t.terms.requests extra) request.rid (fact.2).0 in
        let same : last_of t ≡ last_of s = ap (λ (v : PlainSession). last_of v) leaves in
        let terms : reach t.terms.requests extra ≡ reach s.terms.requests extra = ap (λ (v : PlainSession). reach v.terms.requests extra) leaves in
        let agrees : reach (l.terms).requests extra ≡ reach s.terms.requests extra = ap (λ (n : ℕ). reach n extra) (agreed_is below setup w h m is on l.terms l.agrees).0 in
        let few = (every_sound m.journal (journal_made below setup w h m is on)).few in
        omega (arith, past, same, terms, agrees, (l.keeps).near, lowest_near below setup w h m is on, few)
    not_above rid (Collect ticket) allowed brings fact = fact
    not_above rid (Back stream stanza now) allowed brings fact = fact
    not_above rid (BackClosed stream closing now) allowed brings fact = fact
    not_above rid (Tick now) allowed brings fact = fact
    not_above rid TakeInward allowed brings fact = fact

    -- Of the copy that follows the run.

    abbrev k : ℕ
    k = length u.processed

    next_later : (rid : ℕ) (copy : RequestCopy) → rid ≡ last_of u + 1 → standing_at u rid ≡ Some copy → IsLater c c.setup.first k copy
    next_later rid copy next stands =
        let place : rid ≡ first_of u + 1 + k = omega (arith, next) in
        later_stands below setup w h j grown.made opened_too arrived_too k copy (ap (standing_at u) (sym place) ∙ stands)

    start_too : first_of u ≡ c.setup.first
    start_too = first_is below setup w h j grown.made opened_too arrived_too

    have_keys : HaveKeys c.setup 0 (copies_of u.processed)
    have_keys n copy at =
        let l = later_processed below setup w h j grown.made opened_too arrived_too n copy at in
        let same : n ≡ 0 + n = omega arith in (
          (l.keeps).key ∙ ap (λ (i : ℕ). with_keys c.setup (Some (key_at c.setup.seed c.setup.keys i))) same,
          (l.keeps).newkey ∙ ap (λ (i : ℕ). with_keys c.setup (newkey_at c.setup.seed c.setup.keys i)) same,
        )

    has_key : (copy : RequestCopy) → IsLater c c.setup.first k copy → HasKey u copy
    has_key copy l =
        let same = setup_is below setup w h in
        let valid : is_setup c.setup ≡ true = ap is_setup same ∙ h.begins.client in
        let announced : j.opening.request.newkey ≡ with_keys c.setup (Some (announcement c.setup.seed c.setup.keys 0)) =
        ap (λ (r : Request). r.newkey) opened_too.request_is ∙ ap (λ (x : ClientSetup). with_keys x (Some (announcement x.seed x.keys 0))) (sym same) in
        ap (λ o. fits o copy.request.key) (every_key j grown.made ∙ ap (λ o. key_after o (copies_of u.processed)) announced) ∙ key_fits c.setup (copies_of u.processed) copy valid have_keys
        ((l.keeps).key ∙ ap (λ (n : ℕ). with_keys c.setup (Some (key_at c.setup.seed c.setup.keys n))) (sym (copies_length u.processed)))

    terms_too : u.terms ≡ s.terms
    terms_too =
        every_terms j grown.made ∙ ap (λ o. o.terms) grown.opening_is ∙ sym (every_terms m.journal (journal_made below setup w h m is on))

    not_long : (rid pause maxpause : ℕ) (copy : RequestCopy) → IsLater c c.setup.first k copy → facts.Asks copy pause → maxpause < pause → maxpause ≡ u.terms.maxpause → ⊥
    not_long rid pause maxpause copy l asks longer most =
        omega (arith, (l.keeps).short pause asks.1, (agreed_is below setup w h m is on l.terms l.agrees).2, longer, most, ap (λ (x : Terms). x.maxpause) terms_too)

    -- An empty one.

    module _ (rid : ℕ) (copy : RequestCopy) (next : rid ≡ last_of u + 1) (stands : standing_at u rid ≡ Some copy) (l : IsLater c c.setup.first k copy) (polling_only : copies.is_poll copy ≡ true) where
      -- all before it were answered when it came
      caught : last_of u ≤ answered_of s
      caught =
          let id : ℕ = c.setup.first + k in
          let has = (l.keeps).alone polling_only id (omega arith) (omega arith) in
          omega (arith, taken_answered below setup w h m is on id has, start_too)

      few : length s.answered ≤ length s.processed
      few = (every_sound m.journal (journal_made below setup w h m is on)).few

      same_last : length s.processed ≡ k
      same_last =
          omega (arith, caught, few, begins_long s.processed u.processed grown.processed, start below setup w h m is on, start_too)

      none_held : (asked_of u).held ≡ 0
      none_held =
          omega (arith, length-drop (length u.answered) u.processed, caught, begins_long s.answered u.answered grown.answered, start below setup w h m is on, start_too)

      not_crowded : u.terms.polled ≡ false → is_crowded u.terms (asked_of u).held ≡ true → ⊥
      not_crowded polled crowded =
          let some = (opening_terms below setup w h j grown.made opened_too).holds polled in
          let less : u.terms.hold ≤ (asked_of u).held = leb-true u.terms.hold (asked_of u).held crowded in
          omega (arith, some, less, none_held)

      -- before the call no copy was received with its id
      none_before : (other : RequestCopy) → IsReceived s.placings rid other → ⊥
      none_before other received =
          let laws = below.journals m.journal (journal_made below setup w h m is on) in
          let first : first_of s ≡ m.journal.opening.request.rid + 0 = (laws.run_each 0 s.creation refl).0 in
          let long : rid ≡ m.journal.opening.request.rid + suc (length (copies_of s.processed)) = omega (arith, first, copies_length s.processed, same_last, next, start below setup w h m is on, start_too) in
          (laws.run on).ends other
          (subst (λ n. IsReceived (placings_of m.journal) n other) long (received_after (Stands (creation_of m.journal.opening)) s.placings rid other received))

      module _ (entered : Entered) (placed : ArePlaced s entered (after_entry s entered)) (received : IsReceived (after_entry s entered).placings rid copy) where
        abbrev strikes : List Placing
        strikes = map (λ n. Strikes n (tested_at s entered).now) placed.struck

        -- so something came to stand with the call
        stood_none : placed.stood ≡ [] → ⊥
        stood_none none =
            let same : (after_entry s entered).placings ≡ s.placings ++ strikes =
            placed.placings_are ∙ ap (λ stood. (s.placings ++ strikes) ++ map Stands stood) none ∙ append-nil (s.placings ++ strikes) in
            none_before copy (received_strikes placed.struck (tested_at s entered).now s.placings rid copy (subst (λ l. IsReceived l rid copy) same received))

        -- and it is this copy
        stood_one : (other : RequestCopy) → placed.stood ≡ other ∷ [] → copy ≡ other
        stood_one other one =
            let same : (after_entry s entered).placings ≡ (s.placings ++ strikes) ++ Stands other ∷ [] =
            placed.placings_are ∙ ap (λ stood. (s.placings ++ strikes) ++ map Stands stood) one in
            elim (received_push (s.placings ++ strikes) (Stands other) rid copy (subst (λ l. IsReceived l rid copy) same received)) [
              | inl is_other ↦ same_copy copy other is_other
              | inr earlier ↦ absurd (none_before copy (received_strikes placed.struck (tested_at s entered).now s.placings rid copy earlier.0))
            ]

      -- it came at this moment
      not_early : (k : Call) → ComesNow w.moment k → (placed : ArePlaced s (MadeCall k) (after_entry s (MadeCall k)))
          → IsReceived (after_entry s (MadeCall k)).placings rid copy → copy.arrived < w.moment → ⊥
      not_early (Arrive request body now) here placed received early =
          let entered : Entered = MadeCall (Arrive request body now) in
          let came : RequestCopy = copy_now (time_applied s now) request body in
          let may_not : MayStand (time_applied s now) came → ⊥ = λ may.
          let one : copy ≡ came = stood_one entered placed received came (placed.stand.may may) in
          omega (arith, early, here, time_now s now, ap (λ (x : RequestCopy). x.arrived) one) in
          stood_none entered placed received (placed.stand.may_not may_not)
      not_early (Collect ticket) here placed received early = stood_none (MadeCall (Collect ticket)) placed received placed.stand
      not_early (Back stream stanza now) here placed received early = stood_none (MadeCall (Back stream stanza now)) placed received placed.stand
      not_early (BackClosed stream closing now) here placed received early = stood_none (MadeCall (BackClosed stream closing now)) placed received placed.stand
      not_early (Tick now) here placed received early = stood_none (MadeCall (Tick now)) placed received placed.stand
      not_early TakeInward here placed received early = stood_none (MadeCall TakeInward) placed received placed.stand

      came_now : (entered : Entered) → entered_by s call ≡ Some entered → w.moment ≤ copy.arrived
      came_now entered at = elim (cases_lt copy.arrived w.moment) [
        | inl early ↦
            let P : Entered → Type 0 = λ e. (placed : ArePlaced s e (after_entry s e)) → IsReceived (after_entry s e).placings rid copy → ⊥ in
            let placed = (below.journals m.journal (journal_made below setup w h m is on)).placed call entered allowed at in
            let after : u ≡ after_entry s entered = ap (λ e. state_of (with_entered m.journal e)) at ∙ below.state_is m.journal (told_by entered) in
            let received : IsReceived (after_entry s entered).placings rid copy =
            subst (λ (v : PlainSession). IsReceived v.placings rid copy) after (((below.journals j grown.made).stands rid copy).0 stands) in
            absurd (entered_is s P (λ kind cost now placed received. stood_none (Limit kind cost now) placed received placed.stand) call (λ placed received. not_early call now_is placed received early) entered at placed received)
        | inr late ↦ late
      ]

      not_bare : (entered : Entered) → entered_by s call ≡ Some entered → u.terms.polled ≡ true → is_bare_poll (asked_of u).prior ≡ true → nat_lt (apart (mark_of copy) (asked_of u).prior) (u.terms.polling * 1000) ≡ true → ⊥
      not_bare entered at polled bare close =
          let prior : Mark = (asked_of u).prior in
          let one = both_true (not prior.creation && prior.empty) prior.bare bare in
          let two = both_true (not prior.creation) prior.empty one.0 in
          by k refl (not_true (length u.processed == 0) two.0)
        where
          by : (n : ℕ) → k ≡ n → (k == 0) ≡ false → ⊥
          by zero none some =
              let zero_is : (k == 0) ≡ true = ap (λ (n : ℕ). n == 0) none in
              cc
          by (suc n) place some =
              let y = get_some (copies_of s.processed) n (omega (arith, copies_length s.processed, same_last, place)) in
              let there : slice_get (copies_of u.processed) n ≡ Some y.0 = begins_get (copies_of s.processed) (copies_of u.processed) n y.0 (copies_begin s.processed u.processed grown.processed) y.1 in
              let last : last_from u.creation (copies_of u.processed) ≡ y.0 = last_from_get u.creation (copies_of u.processed) n y.0 (copies_length u.processed ∙ place) there in
              let polling : polls c.setup ≡ true = ap polls (setup_is below setup w h) ∙ sym (opening_terms below setup w h j grown.made opened_too).polled ∙ polled in
              let request = l.request in
              let here : slice_get c.requests (suc (suc n)) ≡ Some request = subst (λ (i : ℕ). slice_get c.requests (suc i) ≡ Some request) place l.here in
              let rest : (y.0).arrived + s.terms.polling * 1000 ≤ w.moment = rested n y.0 request y.1 here (sym l.poll_is ∙ polling_only) polling in
              let moment : w.moment ≤ copy.arrived = came_now entered at in
              let prior_is : ((asked_of u).prior).arrived ≡ (y.0).arrived = ap (λ (x : RequestCopy). x.arrived) last in
              let near : apart (mark_of copy) (asked_of u).prior < u.terms.polling * 1000 = ltb-true (apart (mark_of copy) (asked_of u).prior) (u.terms.polling * 1000) close in
              let terms : u.terms.polling ≡ s.terms.polling = ap (λ (x : Terms). x.polling) terms_too in
              too_near copy.arrived ((asked_of u).prior).arrived (u.terms.polling * 1000) near (omega (arith, rest, moment, prior_is, terms))

      not_overactive : (entered : Entered) → entered_by s call ≡ Some entered → IsTrue (is_overactive u.terms (asked_of u).held (mark_of copy) (asked_of u).prior) → ⊥
      not_overactive entered at active =
          let prior : Mark = (asked_of u).prior in
          let one = both_true (copies.is_poll copy && nat_lt (apart (mark_of copy) prior) (u.terms.polling * 1000)) (serves_nothing u.terms (asked_of u).held prior) active in
          let two = both_true (copies.is_poll copy) (nat_lt (apart (mark_of copy) prior) (u.terms.polling * 1000)) one.0 in
          elim (is_or_not u.terms.polled) [
            | inl polled ↦ not_bare entered at polled (sym (ap (λ (b : Bool). if b then is_bare_poll prior else is_crowded u.terms (asked_of u).held) polled) ∙ one.1) two.1
            | inr holds ↦ not_crowded holds (sym (ap (λ (b : Bool). if b then is_bare_poll prior else is_crowded u.terms (asked_of u).held) holds) ∙ one.1)
          ]

    -- The endings.

    module _ (entered : Entered) (at : entered_by s call ≡ Some entered) where
      u_is : u ≡ after_entry s entered
      u_is = ap (λ e. state_of (with_entered m.journal e)) at ∙ below.state_is m.journal (told_by entered)

      fact_of : (e : Ending) → u.ending ≡ Some e → Fact (tested_at s entered) entered u e
      fact_of e ends =
          subst (λ (v : PlainSession). Fact (tested_at s entered) entered v e) (sym u_is)
          (((below.journals m.journal (journal_made below setup w h m is on)).ends call entered e allowed at on).0 (ap (λ (v : PlainSession). v.ending) (sym u_is) ∙ ends))

      active_only : (copy : RequestCopy) → IsTrue (is_overactive u.terms (asked_of u).held (mark_of copy) (asked_of u).prior) → copies.is_poll copy ≡ true
      active_only copy active =
          let prior : Mark = (asked_of u).prior in
          let one = both_true (copies.is_poll copy && nat_lt (apart (mark_of copy) prior) (u.terms.polling * 1000)) (serves_nothing u.terms (asked_of u).held prior) active in
          (both_true (copies.is_poll copy) (nat_lt (apart (mark_of copy) prior) (u.terms.polling * 1000)) one.0).0

      ends_by : (e : Ending) → Fact (tested_at s entered) entered u e → IsLeft c u e
      ends_by (endings.Terminated rid) fact = tt
      ends_by (endings.Stale rid lowest_kept) fact =
          entered_is s (λ e. Arrives (tested_at s e) e rid (λ copy. (rid ≤ answered_of (tested_at s e)) × (kept_of (tested_at s e) rid ≡ None)) → ⊥) (λ kind cost now none. none) call
          (not_stale rid call brings timely) entered at fact.0
      ends_by (endings.Above rid last requests) fact =
          entered_is s (λ e. Arrives (tested_at s e) e rid (λ copy. IsTrue (is_above (tested_at s e) copy) × (standing_at (tested_at s e) rid ≡ None)) → ⊥) (λ kind cost now none. none) call
          (not_above rid call allowed brings) entered at fact.0
      ends_by (endings.WrongKey rid) fact = fact.4 (has_key fact.2 (next_later rid fact.2 fact.1 fact.3))
      ends_by (endings.UnknownStream rid) fact =
          let l = next_later rid fact.2 fact.1 fact.3 in
          names_closed below setup w h m is j grown.made opened_too arrived_too rid fact.2 (omega (arith, fact.1, start_too)) fact.0 l (fact.4).1
      ends_by (endings.PauseTooLong rid pause maxpause) fact =
          let f = fact.0 in
          not_long rid pause maxpause f.2 (next_later rid f.2 f.1 f.3) (f.4).2 (f.4).3 fact.1
      ends_by (endings.Overactive rid distance) fact =
          let l = next_later rid fact.2 fact.1 fact.3 in
          not_overactive rid fact.2 fact.1 fact.3 l (active_only fact.2 (fact.4).3) entered at (fact.4).3
      ends_by (endings.Silent since now) fact = tt
      ends_by (endings.Closed closing rid) fact = tt
      ends_by (endings.JournalFull counted cost) fact = tt

    -- whatever the call enters
    pub ends_well : IfSome u.ending (IsLeft c u)
    ends_well = by (entered_by s call) refl
      where
        by : (e : Option Entered) → entered_by s call ≡ e → IfSome u.ending (IsLeft c u)
        by None at =
            let same : u.ending ≡ None = ap (λ e. (state_of (with_entered m.journal e)).ending) at ∙ is_none s.ending on in
            subst (λ (o : Option Ending). IfSome o (IsLeft c u)) (sym same) tt
        by (Some entered) at = of u.ending refl
          where
            of : (o : Option Ending) → u.ending ≡ o → IfSome o (IsLeft c u)
            of None ends = tt
            of (Some e) ends = ends_by entered at e (fact_of entered at e ends)
