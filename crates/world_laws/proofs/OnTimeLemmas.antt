-- What a session that goes on has of its client: what was agreed, whatever the client took, and each answer that it may ask for again.
use Rattle.std.proofs.Common.{◌≡◌, ℕ, ◌+◌, ◌<◌, ◌≤◌, ◌==◌, ◌&&◌, ◌||◌, Bool, true, false, max, min, List, map, inl, inr, refl, sym, ◌∙◌, ap, subst, arith, if◌then◌else◌}
use Rattle.std.specs.Prelude.{Option, None, Some, Ok, All, is_some, nat_lt}
use Rattle.std.specs.Option.{option_map, option_or, unwrap_or}
use Rattle.std.proofs.lemmas.Bool.{cases_lt}
use Rattle.std.proofs.lemmas.Bool.Decides.{nat_tests}
use Rattle.bosh_types.specs.declared.ending.Ending.{Ending}
use Rattle.bosh_types.specs.declared.kept.KeptAnswer.{KeptAnswer}
use Rattle.bosh_types.specs.declared.terms.Terms.{Terms}
use Rattle.body_writer.specs.Answer.{answer_text}
use Rattle.reply_keep.specs.PlainKeep.{last_id}
use Rattle.session_attrs.specs.declared.request.Creation.{Creation}
use Rattle.session_attrs.specs.declared.request.Kind.TheVariants as kinds
use Rattle.session_attrs.specs.declared.request.Request.{Request}
use Rattle.session_attrs.specs.Terms.{terms_of}
use Rattle.session_core.specs.declared.opening.Opening.{Opening}
use Rattle.session_core.specs.Endings.{last_word}
use Rattle.session_core.specs.Journal.{IsJournal, Journal, state_of}
use Rattle.session_core.specs.Kept.{answer_at, kept_answer, kept_of}
use Rattle.session_core.specs.Machine.{bytes_for, created_parts, opened}
use Rattle.session_core.specs.Processed.{copies_of}
use Rattle.session_core.specs.State.{PlainSession, answered_of, answers, first_of, is_over, last_of}
use Rattle.session_core.specs.Time.{time_applied}
use Rattle.session_laws.proofs.AckLemmas.{last_answered}
use Rattle.session_laws.proofs.Bytes.{IsFirstAnswer, answer_within, first_answer_steady}
use Rattle.session_laws.proofs.Frames.{time_leaves}
use Rattle.session_laws.proofs.Grows.{steady-all, told_stays}
use Rattle.session_laws.proofs.LawsOf.{every_first_answer}
use Rattle.session_laws.proofs.ReplyLemmas.{answered_has}
use Rattle.session_laws.proofs.SoundLemmas.{IsSound as IsSoundSession, sound_steady}
use Rattle.session_laws.proofs.Steadily.{is_none, steady-time}
use Rattle.session_laws.proofs.Tests.{if_true, none_some, some_is, true_false}
use Rattle.bosh_client.specs.declared.agreed.Agreed.{Agreed}
use Rattle.bosh_client.specs.declared.setup.ClientSetup.{ClientSetup}
use Rattle.bosh_client.specs.AnswerReading.{answer_of}
use Rattle.bosh_client.specs.PlainClient.{PlainClient, Taken, lowest, next_id, taken}
use Rattle.bosh_client.specs.Promises.{HasFewOpen, IsNear}
use Rattle.bosh_client.specs.ReadBack.{told_of}
use Rattle.bosh_client.specs.Requests.{agreed, agreed_by, creation_parts}
use Rattle.bosh_client.specs.Setup.{polls}
use Rattle.bosh_client.proofs.OpenLemmas.{few_open}
use Rattle.world_laws.specs.Manager.{PlainManager, session}
use Rattle.world_laws.specs.Sound.{IsAnswerTo, IsOpenedBy, IsSound, IsSoundManager, body_taken}
use Rattle.world_laws.specs.World.{PlainWorld}
use Rattle.world_laws.proofs.AckedLemmas.{IsLow, all_of, every_ack_low}
use Rattle.world_laws.proofs.Below.{Below}
use Rattle.world_laws.proofs.EventLemmas.{manager_of}
use Rattle.world_laws.proofs.LowestLemmas.{below_lowest, lowest_first}
use Rattle.world_laws.proofs.NameLemmas.{all_told, created_bytes, created_form, created_is, opened_rid, taken_holds, tells_same}
use Rattle.world_laws.proofs.StateLemmas.{every_sound}
use Rattle.world_laws.proofs.StoodLemmas.{few_processed, first_is, ids, later_processed, setup_is}

-- What is kept.

less : (a b : ℕ) → a < b → nat_lt a b ≡ true
less a b is = grind (arith, nat_tests)

both : (a b : Bool) → a ≡ true → b ≡ true → a && b ≡ true
both a b is also = cc

kept_from : (s : PlainSession) (rid : ℕ) (a : KeptAnswer) → IsSoundSession s → IsFirstAnswer s → s.acknowledged < rid → answered_of s ≤ rid + s.terms.requests → answer_at s rid ≡ Some a → kept_of s rid ≡ Some a
kept_from s rid a sound first unacknowledged late is =
    if_true (nat_lt s.acknowledged rid && nat_lt (last_id (map kept_answer (answers s))) (rid + (s.terms.requests + 1))) (answer_at s rid) None
    (both (nat_lt s.acknowledged rid) (nat_lt (last_id (map kept_answer (answers s))) (rid + (s.terms.requests + 1))) (less s.acknowledged rid unacknowledged)
    (less (last_id (map kept_answer (answers s))) (rid + (s.terms.requests + 1)) (omega (arith, last_answered s sound first, late))))
    ∙ is

-- The terms of a session.

pub every_terms : (journal : Journal) → IsJournal journal → (state_of journal).terms ≡ journal.opening.terms
every_terms journal made = (steady-all _ (told_stays (opened journal.opening)) (opened journal.opening) journal.entries made.1 (refl, refl, refl, refl)).1

-- one request at least may be open, and one at least is held where the session doesn't poll
pub record AreTermsFor (setup : ClientSetup) (terms : Terms) : Type 0 where
  pub some : 1 ≤ terms.requests
  pub polled : terms.polled ≡ polls setup
  pub holds : terms.polled ≡ false → 1 ≤ terms.hold

held_some : (wait hold : ℕ) → ((wait == 0) || (hold == 0)) ≡ false → 1 ≤ (if (wait == 0) || (hold == 0) then 0 else min hold 4)
held_some wait hold holds =
    let some : (hold == 0) ≡ false = second (wait == 0) (hold == 0) holds in
    let positive : 1 ≤ hold = grind (arith, nat_tests, some) in
    subst (λ (b : Bool). 1 ≤ (if b then 0 else min hold 4)) (sym holds) (omega (arith, positive))
  where
    second : (a b : Bool) → a || b ≡ false → b ≡ false
    second true b is = absurd (cc)
    second false b is = is

terms_for : (setup : ClientSetup) (creation : Creation) → creation.wait ≡ Some setup.wait → creation.hold ≡ Some setup.hold → AreTermsFor setup (terms_of creation)
unfolding terms_of
terms_for setup creation wait hold =
    let polling : ((unwrap_or creation.wait 60 == 0) || (unwrap_or creation.hold 1 == 0)) ≡ polls setup =
    ap (λ (o : Option ℕ). (unwrap_or o 60 == 0) || (unwrap_or creation.hold 1 == 0)) wait ∙ ap (λ (o : Option ℕ). (setup.wait == 0) || (unwrap_or o 1 == 0)) hold in
    record { some = omega arith; polled = polling; holds = λ none. held_some (unwrap_or creation.wait 60) (unwrap_or creation.hold 1) none }

one_creation : (x y : Creation) → kinds.Creation x ≡ kinds.Creation y → x ≡ y
one_creation x y is = cc

module _ (below : Below) (setup : ClientSetup) (w : PlainWorld) (h : IsSound setup w) where
  abbrev c : PlainClient
  c = w.client

  pub opening_terms : (j : Journal) → IsJournal j → IsOpenedBy setup j.opening → AreTermsFor setup (state_of j).terms
  opening_terms j made opened =
      let creation = ((made.0).creation).0 in
      let kind : j.opening.request.kind ≡ kinds.Creation creation = ((made.0).creation).1 in
      let wished : Creation = record { wait = Some setup.wait; hold = Some setup.hold; version = (1, 11); asks_ack = is_some (creation_parts setup).ack } in
      let asked : creation ≡ wished = one_creation creation wished (sym kind ∙ ap (λ (r : Request). r.kind) opened.request_is) in
      subst (AreTermsFor setup) (sym (every_terms j made ∙ ((made.0).creation).2)) (terms_for setup creation (ap (λ (x : Creation). x.wait) asked) (ap (λ (x : Creation). x.hold) asked))

  few_open_now : HasFewOpen c
  few_open_now = subst HasFewOpen (sym h.client.is) (few_open setup h.client.calls (h.begins.first).0)

  module _ (m : PlainManager) (is : w.manager ≡ Some m) (on : is_over (session m) ≡ false) where
    abbrev s : PlainSession
    s = session m

    pub sound_manager : IsSoundManager setup w.sent w.written w.client.answers w.moment m
    sound_manager = manager_of below setup w h (Some m) is

    pub journal_made : IsJournal m.journal
    journal_made = sound_manager.made

    pub start : first_of s ≡ c.setup.first
    start = first_is below setup w h m.journal journal_made sound_manager.opened sound_manager.arrived

    -- what was taken was given
    taken_given : (rid : ℕ) (t : Taken) → taken c rid ≡ Some t → bytes_for s rid ≡ Some t.body
    taken_given rid t there = elim (taken_holds (λ answer. IsAnswerTo s (body_taken answer)) c.answers rid t sound_manager.taken_are there) [
      | inl given ↦ given
      | inr word ↦ absurd (true_false (sym word.2 ∙ on))
    ]

    given_answered : (rid : ℕ) (body : List ℕ) → bytes_for s rid ≡ Some body → rid ≤ answered_of s
    given_answered rid body given = by (answer_at s rid) refl s.ending (is_none s.ending on) given
      where
        by : (o : Option KeptAnswer) → answer_at s rid ≡ o → (e : Option Ending) → e ≡ None
            → option_or (option_map (λ (answer : KeptAnswer). answer.bytes) o) (option_map (λ ending. last_word (answered_of s) ending rid) e) ≡ Some body → rid ≤ answered_of s
        by (Some a) found e none given = (answer_within s rid a (every_sound m.journal journal_made) (every_first_answer m.journal journal_made) found).1
        by None found None none given = absurd (cc)
        by None found (Some ending) none given = absurd (cc)

    -- an id whose answer was taken was answered
    pub taken_answered : (rid : ℕ) → is_some (taken c rid) ≡ true → rid ≤ answered_of s
    taken_answered rid has = by (taken c rid) refl has
      where
        by : (o : Option Taken) → taken c rid ≡ o → is_some o ≡ true → rid ≤ answered_of s
        by None there has = absurd (cc)
        by (Some t) there has = given_answered rid t.body (taken_given rid t there)

    -- so the lowest id whose answer was not taken is at most the next one to be answered
    pub lowest_near : lowest c ≤ answered_of s + 1
    lowest_near = elim (cases_lt (answered_of s + 1) (lowest c)) [
      | inl low ↦ absurd (
          let has = below_lowest c (ids below setup w h) (answered_of s + 1) (omega (arith, start)) low in
          let within = taken_answered (answered_of s + 1) has in
          omega (arith, within))
      | inr high ↦ high
    ]

    -- what was agreed is what the session has
    pub agreed_is : (a : Agreed) → agreed c ≡ Some a → (a.requests ≡ s.terms.requests) × (a.polling ≡ s.terms.polling) × (a.maxpause ≡ s.terms.maxpause)
    agreed_is a agrees = by (taken c c.setup.first) refl agrees
      where
        o : Opening
        o = m.journal.opening

        told : (t : Taken) → taken c c.setup.first ≡ Some t → t.tells ≡ told_of (created_parts m.journal.opening)
        told t there =
            let rid : m.journal.opening.request.rid ≡ c.setup.first = opened_rid below setup h.begins.client h.begins.first m.journal.opening sound_manager.opened ∙ ap (λ (x : ClientSetup). x.first) (sym (setup_is below setup w h)) in
            let given = taken_given c.setup.first t there in
            let text : bytes_for s c.setup.first ≡ Some (answer_text (created_parts m.journal.opening)) =
            ap (bytes_for s) (sym rid) ∙ created_bytes s m.journal.opening ((below.journals m.journal journal_made).created) in
            let same : t.body ≡ answer_text (created_parts m.journal.opening) = some_is t.body (answer_text (created_parts m.journal.opening)) (sym given ∙ text) in
            let reads = taken_holds (λ (answer : ℕ × Taken). answer_of answer.1.body ≡ Ok answer.1.tells) c.answers c.setup.first t (all_told below setup h.begins.client h.begins.first c h.client) there in
            tells_same t.body (created_parts m.journal.opening) t.tells reads same
            (below.answer_read (created_parts m.journal.opening) (created_is below setup h.begins.client h.begins.first m.journal.opening (journal_made).0 sound_manager.opened)
            (created_form below setup h.begins.client h.begins.first m.journal.opening (journal_made).0 sound_manager.opened))

        by : (found : Option Taken) → taken c c.setup.first ≡ found → option_map (λ (answer : Taken). agreed_by c.setup answer.tells) found ≡ Some a
            → (a.requests ≡ s.terms.requests) × (a.polling ≡ s.terms.polling) × (a.maxpause ≡ s.terms.maxpause)
        by None there agrees = absurd (cc)
        by (Some t) there agrees =
            let terms = every_terms m.journal journal_made in
            let has : agreed_by c.setup (told_of (created_parts m.journal.opening)) ≡ a = ap (agreed_by c.setup) (sym (told t there)) ∙ some_is (agreed_by c.setup t.tells) a agrees in
            let some = (opening_terms m.journal journal_made sound_manager.opened).some in
            let most : max 1 m.journal.opening.terms.requests ≡ s.terms.requests = omega (arith, ap (λ (x : Terms). x.requests) terms, some) in (
              sym (ap (λ (x : Agreed). x.requests) has) ∙ most,
              sym (ap (λ (x : Agreed). x.polling) has) ∙ sym (ap (λ (x : Terms). x.polling) terms),
              sym (ap (λ (x : Agreed). x.maxpause) has) ∙ sym (ap (λ (x : Terms). x.maxpause) terms),
            )

    -- no more is answered than the client may have open above its lowest id
    pub answered_near : (rid : ℕ) → lowest c ≤ rid → (t : PlainSession) → answered_of t ≤ last_of s → answered_of t ≤ rid + s.terms.requests
    answered_near rid from t few = by (agreed c) refl few_open_now
      where
        made : last_of s < next_id c
        made = few_processed below setup w h m.journal journal_made sound_manager.opened sound_manager.arrived

        some : 1 ≤ s.terms.requests
        some = (opening_terms m.journal journal_made sound_manager.opened).some

        by : (o : Option Agreed) → agreed c ≡ o → IsNear c o → answered_of t ≤ rid + s.terms.requests
        by None agrees near = omega (arith, near, made, few, from, some)
        by (Some a) agrees near = omega (arith, near, made, few, from, (agreed_is a agrees).0)

    all_low : All (IsLow (lowest c)) (copies_of s.processed)
    all_low = all_of (IsLow (lowest c)) (copies_of s.processed)
        (λ k copy at. ((later_processed below setup w h m.journal journal_made sound_manager.opened sound_manager.arrived k copy at).keeps).ack)

    -- each answered id from the lowest on is kept, also once time was applied
    pub kept_in_time : (now rid : ℕ) → lowest c ≤ rid → rid ≤ answered_of (time_applied s now) → kept_of (time_applied s now) rid ≡ None → ⊥
    kept_in_time now rid from to none =
        let t : PlainSession = time_applied s now in
        let leaves = time_leaves s now in
        let sound : IsSoundSession t = steady-time IsSoundSession sound_steady s now (every_sound m.journal journal_made) in
        let first : IsFirstAnswer t = steady-time IsFirstAnswer first_answer_steady s now (every_first_answer m.journal journal_made) in
        let same : last_of t ≡ last_of s = ap (λ (u : PlainSession). last_of u) leaves in
        let begins : first_of t ≡ first_of s = ap (λ (u : PlainSession). first_of u) leaves in
        let terms : t.terms.requests ≡ s.terms.requests = ap (λ (u : PlainSession). u.terms.requests) leaves in
        let acks : t.acknowledged ≡ s.acknowledged = ap (λ (u : PlainSession). u.acknowledged) leaves in
        let low = lowest_first c (ids below setup w h) in
        let some : 1 ≤ c.setup.first = subst (λ (x : ClientSetup). 1 ≤ x.first) (sym (setup_is below setup w h)) (h.begins.first).0 in
        let unacknowledged : t.acknowledged < rid = omega (arith, acks, every_ack_low m.journal journal_made (lowest c) (omega (arith, low, some)) all_low, from) in
        let late : answered_of t ≤ rid + t.terms.requests = omega (arith, answered_near rid from t (omega (arith, sound.few, same)), terms) in
        let has = answered_has t rid sound first (omega (arith, begins, start, low, from)) to in
        none_some (kept_of t rid) has.0 none (kept_from t rid has.0 sound first unacknowledged late has.1)
