-- How copies are processed: each broke no rule when it was tested, and why no more follow.
use Rattle.std.proofs.Common.{◌≡◌, ◌≢◌, ℕ, zero, suc, ◌+◌, ◌<◌, ◌≤◌, true, false, List, [], ◌∷◌, ◌++◌, Option, Some, None, length, take, drop, map, slice_get, refl, sym, ◌∙◌, ap, ap₂, arith, subst, append_assoc, inl, inr}
use Rattle.std.specs.List.{list_any}
use Rattle.std.proofs.lemmas.Bool.{cases_lt}
use Rattle.std.proofs.lemmas.List.{take_at, take-append-le, length_push}
use Rattle.bosh_types.specs.ById.{at_id}
use Rattle.bosh_types.specs.declared.ending.Ending.{Ending}
use Rattle.bosh_types.specs.declared.terms.Terms.{Terms}
use Rattle.key_sequence.specs.Current.{current_after}
use Rattle.session_attrs.specs.declared.request.Request.{Request}
use Rattle.session_core.specs.declared.copy.RequestCopy.{RequestCopy}
use Rattle.session_core.specs.Copy.{id_of, with_id}
use Rattle.session_core.specs.Journal.{Arrive, Made, Entered, Entry, IsMade, Journal, after_entries}
use Rattle.session_core.specs.Machine.{as_processed, opened, creation_of, with_copy}
use Rattle.session_core.specs.declared.opening.Opening.{Opening}
use Rattle.session_core.specs.Points.{tested_at}
use Rattle.session_core.specs.Processed.{Processed, copies_of, ends}
use Rattle.session_core.specs.Rules.{Asks, asked_with, asked_of, broken_rule, prior_mark}
use Rattle.session_core.specs.Run.{IsReceived, Lacks, placings_with, key_after, state_testing}
use Rattle.session_laws.specs.RunEnded.{IsTried, BreaksNoRule, LacksOne, GoesNoFurther, AtTerminate, AtBreaker, AtEnd, opens_after}
use Rattle.session_core.specs.State.{PlainSession, Answered, Placing, Stands, standing_after, first_of, last_of, answered_of, running, running_in, standing_at, is_over}
use Rattle.session_core.specs.Time.{time_applied}
use Rattle.session_core.specs.Kept.{keep_of}
use Rattle.session_laws.proofs.AckLemmas.{Acknowledges, acks_push, last_answered}
use Rattle.session_laws.proofs.Bytes.{IsFirstAnswer}
use Rattle.session_laws.proofs.JournalLemmas.{journal_with}
use Rattle.session_laws.proofs.Tests.{neither, none_some, some_is, true_false}
use Rattle.session_laws.proofs.Lists.{copies_push, get_push, get_within, get_some}
use Rattle.session_laws.proofs.Moves.{Steady, Processing}
use Rattle.session_laws.proofs.SoundLemmas.{IsSound}
use Rattle.session_laws.proofs.Clear.{IsClear}
use Rattle.session_laws.proofs.Followed.{IsFollowed, lacks_later, lacks_none}
use Rattle.session_laws.proofs.Received.{received_after}
use Rattle.session_laws.proofs.EndsBack.{Underway, underway_processing, over_or_on}

-- the key is the one that the processed copies leave
key-push : (key : Option (List ℕ)) (copies : List RequestCopy) (copy : RequestCopy) → key_after key (copies ++ copy ∷ []) ≡ current_after (key_after key copies) copy.request.key copy.request.newkey
key-push key [] copy = refl
key-push key (first ∷ copies) copy = key-push (current_after key first.request.key first.request.newkey) copies copy

-- and what one more that was processed leaves
pushed_key : (key : Option (List ℕ)) (processed : List Processed) (one : Processed)
    → current_after (key_after key (copies_of processed)) one.copy.request.key one.copy.request.newkey ≡ key_after key (copies_of (processed ++ one ∷ []))
pushed_key key processed one = sym (key-push key (copies_of processed) one.copy) ∙ ap (key_after key) (sym (copies_push processed one))

abbrev pub HasKey : Option (List ℕ) → PlainSession → Type 0
HasKey newkey s = s.key ≡ key_after newkey (copies_of s.processed)

pub key_steady : (newkey : Option (List ℕ)) → Steady (HasKey newkey)
key_steady newkey = record {
  ends = λ t ending on p. p;
  aside = λ t tickets now last_arrival passed counted p. p;
  answers = λ t oldest later front is on reason taken p. p;
  processes = λ t copy on stands broken p.
      ap (λ key. current_after key copy.request.key copy.request.newkey) p ∙ pushed_key newkey t.processed (as_processed t copy);
  stands = λ t copy above none small p. p;
  strikes = λ t rid on is p. p;
  gives = λ t item p. p;
}

-- one more entry
judged_more : (o : Opening) (past : List Entry) (entry : Entry) (lower : List Processed) (copy : RequestCopy) (verdict : Option Ending) (running : List ℕ)
    → IsTried (journal_with o past) lower copy verdict running → IsTried (journal_with o (past ++ entry ∷ [])) lower copy verdict running
judged_more o past entry lower copy verdict running j =
    (j.0, j.1, j.2 ++ entry ∷ [], ap (λ es. es ++ entry ∷ []) j.3 ∙ append_assoc j.0 (j.1 ∷ j.2) (entry ∷ []), j.4, j.5, j.6, j.7)

pub keeps_more : (o : Opening) (past : List Entry) (entry : Entry) (later : List Processed) → BreaksNoRule (journal_with o past) later → BreaksNoRule (journal_with o (past ++ entry ∷ [])) later
keeps_more o past entry later keeps = record {
  tried = λ k one is. judged_more o past entry (take k later) one.copy None one.running (keeps.tried k one is);
  opens = keeps.opens;
  terminate = keeps.terminate;
}

-- one that brought nothing
pub stops_more : (o : Opening) (past : List Entry) (entry : Entry) (later : List Processed) → placings_with o past ≡ placings_with o (past ++ entry ∷ []) → GoesNoFurther (journal_with o past) later
    → GoesNoFurther (journal_with o (past ++ entry ∷ [])) later
stops_more o past entry later still (AtTerminate before one same last) = AtTerminate before one same last
stops_more o past entry later still (AtBreaker copy ending running received judged) =
    AtBreaker copy ending running (subst (λ placings. IsReceived placings (o.request.rid + 1 + length later) copy) still received) (judged_more o past entry later copy (Some ending) running judged)
stops_more o past entry later still (AtEnd before last after same ends none none_now) =
    AtEnd before last (after ++ entry ∷ []) (ap (λ es. es ++ entry ∷ []) same ∙ append_assoc before (last ∷ after) (entry ∷ [])) ends none none_now

-- the same terms and answers ask the same
asked_same : (s t : PlainSession) (key : Option (List ℕ)) (copies : List Processed) → t.creation ≡ s.creation → t.terms ≡ s.terms → t.created ≡ s.created → t.answered ≡ s.answered → asked_with s key copies ≡ asked_with t key copies
asked_same s t key copies creation terms created answered =
    ap (asked_by s.terms s.creation s.created) (sym answered) ∙ ap (λ c. asked_by s.terms s.creation c t.answered) (sym created)
    ∙ ap (λ c. asked_by s.terms c t.created t.answered) (sym creation) ∙ ap (λ x. asked_by x t.creation t.created t.answered) (sym terms)
  where
    asked_by : Terms → RequestCopy → Answered → List Answered → Asks
    asked_by terms creation created answered = record { key = key; terms = terms; running = running_in copies answered; held = length (drop (length answered) copies); prior = prior_mark creation copies created answered }

pub any_none : (processed : List Processed) (k : ℕ) (one : Processed) → list_any ends processed ≡ false → slice_get processed k ≡ Some one → ends one ≡ true → ⊥
any_none [] k one none is last = none_some None one refl is
any_none (first ∷ processed) zero one none is last =
    let same : first ≡ one = some_is first one is in
    true_false (sym last ∙ ap ends (sym same) ∙ (neither (ends first) (list_any ends processed) none).0)
any_none (first ∷ processed) (suc k) one none is last = any_none processed k one (neither (ends first) (list_any ends processed) none).1 is last

-- Where no copy is processed.

pub next_place : (o : Opening) (s : PlainSession) → s.creation ≡ creation_of o → last_of s + 1 ≡ o.request.rid + 1 + length s.processed
next_place o s creation = omega (arith, ap id_of creation)

-- what came to the places of ids in a session, the creation first
abbrev pub placings_in : Opening → PlainSession → List Placing
placings_in o s = Stands (creation_of o) ∷ s.placings

-- no copy was received with the id after the run of a session that goes on
pub next_not : (o : Opening) (s : PlainSession) → s.creation ≡ creation_of o → IsFollowed s → IsClear s → is_over s ≡ false → Lacks (placings_in o s) (o.request.rid + 1 + length s.processed)
next_not o s creation follows clear on =
    subst (Lacks (placings_in o s)) (next_place o s creation) (lacks_later o s (last_of s + 1) (omega (arith, ap id_of creation)) (lacks_none s (last_of s + 1) follows (clear on)))

module _ (o : Opening) (past : List Entry) (entry : Entry) (s : PlainSession) (same : s ≡ after_entries (opened o) past) where
  pub testing_is : (e : Entered) → entry.entered ≡ e → state_testing o past entry ≡ tested_at s e
  testing_is e is = ap₂ (λ u x. tested_at u x) (sym same) is

  -- the session ended with this entry, and nothing had come that could be processed
  pub at_end : (e : Entered) → entry.entered ≡ e → is_over s ≡ false → is_over (after_entries (opened o) (past ++ entry ∷ [])) ≡ true → (later : List Processed) → LacksOne o past (length later)
      → (is_over (tested_at s e) ≡ false → Lacks (placings_with o (past ++ entry ∷ [])) (o.request.rid + 1 + length later)) → GoesNoFurther (journal_with o (past ++ entry ∷ [])) later
  at_end e is on over later none none_now =
      AtEnd past entry [] refl (record { goes_on = ap is_over (sym same) ∙ on; ends = over }) none (λ goes. none_now (ap is_over (sym (testing_is e is)) ∙ goes))

-- Where copies are processed: an arrival, tested at this state.
module _ (o : Opening) (past : List Entry) (entry : Entry) (s : PlainSession) (same : s ≡ after_entries (opened o) past) (request : Request) (body : List ℕ) (now : ℕ) (is : entry.entered ≡ Made (Arrive request body now)) where
  abbrev pub tested : PlainSession
  tested = time_applied s now

  abbrev pub journal' : Journal
  journal' = journal_with o (past ++ entry ∷ [])

  -- what holds of each state in between
  pub record Walks (p : PlainSession) (creation : RequestCopy) (terms : Terms) (created : Answered) (answered : List Answered) (placings : List Placing) (processed : List Processed) (key : Option (List ℕ)) : Type 0 where
    pub creation_is : creation ≡ tested.creation
    pub terms_are : terms ≡ tested.terms
    pub created_is : created ≡ tested.created
    pub answered_are : answered ≡ tested.answered
    pub placings_are : placings ≡ p.placings
    pub key_is : key ≡ key_after o.request.newkey (copies_of processed)
    pub longer : length tested.processed ≤ length processed
    pub keeps : BreaksNoRule journal' processed

  abbrev pub Walk : PlainSession → PlainSession → Type 0
  Walk p u =
      Walks p u.creation u.terms u.created u.answered u.placings u.processed u.key × (is_over u ≡ true → GoesNoFurther journal' u.processed)
      × Acknowledges journal' u.reporting.on u.acknowledged u.processed

  module _ (p : PlainSession) (creation : tested.creation ≡ creation_of o) (p_creation : p.creation ≡ tested.creation) (follows : IsFollowed p) (reached : placings_in o p ≡ placings_with o (past ++ entry ∷ [])) (made : IsMade (opened o) (past ++ entry ∷ [])) (none : Lacks (placings_with o past) (o.request.rid + 1 + length tested.processed)) (first : IsFirstAnswer tested) (goes : is_over tested ≡ false) where
    place : (u : PlainSession) (k : ℕ) → u.creation ≡ tested.creation → first_of u + 1 + k ≡ o.request.rid + 1 + k
    place u k is_creation = ap (λ (c : RequestCopy). id_of c + 1 + k) (is_creation ∙ creation)

    stood : (u : PlainSession) (k : ℕ) (x : RequestCopy) → u.creation ≡ tested.creation → u.placings ≡ p.placings → standing_at u (first_of u + 1 + k) ≡ Some x → IsReceived (placings_with o (past ++ entry ∷ [])) (o.request.rid + 1 + k) x
    stood u k x is_creation are_placings stands =
        subst (λ l. IsReceived l (o.request.rid + 1 + k) x) reached
        (received_after (Stands (creation_of o)) p.placings (o.request.rid + 1 + k) x
        (subst (λ rid. IsReceived p.placings rid x) (place u k is_creation)
        (follows.each (first_of u + 1 + k) x (ap (λ (l : List Placing). at_id (map with_id (standing_after [] l)) (first_of u + 1 + k)) (sym are_placings) ∙ stands))))

    -- the copy is judged with this entry
    pub judged_now : (u : PlainSession) (c : RequestCopy) (verdict : Option Ending) → IsSound u → Walk p u → standing_at u (last_of u + 1) ≡ Some c → broken_rule (asked_of u) c ≡ verdict → IsTried journal' u.processed c verdict (running u)
    judged_now u c verdict sound walk stands broken =
        let w = walk.0 in
        let next : first_of u + 1 + length u.processed ≡ last_of u + 1 = omega arith in
        let asked : asked_with (state_testing o past entry) (key_after o.request.newkey (copies_of u.processed)) u.processed ≡ asked_of u =
        ap (λ t. asked_with t (key_after o.request.newkey (copies_of u.processed)) u.processed) (testing_is o past entry s same (Made (Arrive request body now)) is)
        ∙ asked_same tested u (key_after o.request.newkey (copies_of u.processed)) u.processed w.creation_is w.terms_are w.created_is w.answered_are
        ∙ ap (λ key. asked_with u key u.processed) (sym w.key_is) in (
          past,
          entry,
          [],
          refl,
          record {
            together = λ k within. elim (cases_lt k (length u.processed)) [
              | inl earlier ↦ (
                  let x = get_some u.processed k earlier in
                  (x.0.copy, stood u k x.0.copy w.creation_is w.placings_are (sound.stand k x.0 x.1)))
              | inr last ↦ (
                  let k_is : k ≡ length u.processed = omega arith in
                  (c, stood u k c w.creation_is w.placings_are (ap (standing_at u) (ap (λ n. first_of u + 1 + n) k_is ∙ next) ∙ stands)))
            ];
            not_yet = (length tested.processed, w.longer, none);
          },
          ap is_over (testing_is o past entry s same (Made (Arrive request body now)) is) ∙ goes,
          ap (λ asks. broken_rule asks c) asked ∙ broken,
          ap (λ (t : PlainSession). running_in u.processed t.answered) (testing_is o past entry s same (Made (Arrive request body now)) is) ∙ ap (running_in u.processed) (sym w.answered_are),
        )

    -- what it acknowledges, and what those before it did
    acks_with : (u : PlainSession) (c : RequestCopy) → IsSound u → Walk p u → standing_at u (last_of u + 1) ≡ Some c → broken_rule (asked_of u) c ≡ None → Acknowledges journal' u.reporting.on (with_copy u c).acknowledged (u.processed ++ as_processed u c ∷ [])
    unfolding judged_now
    acks_with u c sound walk stands broken =
        let w = walk.0 in
        let j = judged_now u c None sound walk stands broken in
        let u_first : IsFirstAnswer u = ap (λ (a : Answered). a.rid) w.created_is ∙ first ∙ ap id_of (sym w.creation_is) in
        let count : answered_of u ≡ answered_of tested = ap₂ (λ (x : RequestCopy) (l : List Answered). id_of x + length l) w.creation_is w.answered_are in
        acks_push o past entry u.processed (as_processed u c) made j.4 u.reporting.on (keep_of u)
        (last_answered u sound u_first ∙ count ∙ ap answered_of (sym (testing_is o past entry s same (Made (Arrive request body now)) is))) walk.2 c.request.ack refl

    keeps_push : (u : PlainSession) (c : RequestCopy) → BreaksNoRule journal' u.processed → list_any ends u.processed ≡ false → IsTried journal' u.processed c None (running u) → BreaksNoRule journal' (u.processed ++ as_processed u c ∷ [])
    keeps_push u c keeps no_terminate judged = record {
      tried = λ k x at. elim (get_push u.processed (as_processed u c) k x at) [
        | inl there ↦
            let within : k < length u.processed = get_within u.processed k x there in
            subst (λ (lower : List Processed). IsTried journal' lower x.copy None x.running) (sym (take-append-le k u.processed (as_processed u c ∷ []) (omega arith))) (keeps.tried k x there)
        | inr last ↦
            subst (λ (lower : List Processed). IsTried journal' lower x.copy None x.running) (sym (take_at u.processed (as_processed u c ∷ []) k (sym last.0)))
            (subst (λ (y : Processed). IsTried journal' u.processed y.copy None y.running) last.1 judged)
      ];
      opens = λ k x at. elim (get_push u.processed (as_processed u c) k x at) [
        | inl there ↦
            let within : k < length u.processed = get_within u.processed k x there in
            subst (λ (lower : List Processed). x.opened ≡ opens_after lower x.copy) (sym (take-append-le k u.processed (as_processed u c ∷ []) (omega arith))) (keeps.opens k x there)
        | inr last ↦
            subst (λ (lower : List Processed). x.opened ≡ opens_after lower x.copy) (sym (take_at u.processed (as_processed u c ∷ []) k (sym last.0)))
            (subst (λ (y : Processed). y.opened ≡ opens_after u.processed y.copy) last.1 refl)
      ];
      terminate = λ k x at ends_so. elim (get_push u.processed (as_processed u c) k x at) [
        | inl there ↦ absurd (any_none u.processed k x no_terminate there ends_so)
        | inr last ↦ omega (arith, last.0, length_push u.processed (as_processed u c))
      ];
    }

    walks_push : (u : PlainSession) (c : RequestCopy) → is_over u ≡ false → standing_at u (last_of u + 1) ≡ Some c → broken_rule (asked_of u) c ≡ None → Underway u × Walk p u
        → Walks p u.creation u.terms u.created u.answered u.placings (u.processed ++ as_processed u c ∷ []) (with_copy u c).key
    walks_push u c on stands broken q =
        let w = (q.1).0 in
        record {
          creation_is = w.creation_is;
          terms_are = w.terms_are;
          created_is = w.created_is;
          answered_are = w.answered_are;
          placings_are = w.placings_are;
          key_is = ap (λ key. current_after key c.request.key c.request.newkey) w.key_is ∙ pushed_key o.request.newkey u.processed (as_processed u c);
          longer = omega (arith, w.longer, length_push u.processed (as_processed u c));
          keeps = keeps_push u c w.keeps ((q.0).1 on) (judged_now u c None (q.0).0 q.1 stands broken);
        }

    pub walking : Processing (λ u. Underway u × Walk p u)
    walking = record {
      processes = λ u c on stands broken further q. (
        underway_processing.processes u c on stands broken further q.0,
        (walks_push u c on stands broken q, (λ over. absurd (over_or_on u over on)), acks_with u c (q.0).0 q.1 stands broken),
      );
      terminates = λ u c on stands broken last q. (
        underway_processing.terminates u c on stands broken last q.0,
        (walks_push u c on stands broken q, (λ over. AtTerminate u.processed (as_processed u c) refl last), acks_with u c (q.0).0 q.1 stands broken),
      );
      breaks = λ u c ending on stands broken q. (
        underway_processing.breaks u c ending on stands broken q.0,
        (
          (q.1).0,
          λ over.
              let next : first_of u + 1 + length u.processed ≡ last_of u + 1 = omega arith in
              AtBreaker c ending (running u) (stood u (length u.processed) c ((q.1).0).creation_is ((q.1).0).placings_are (ap (standing_at u) next ∙ stands)) (judged_now u c (Some ending) (q.0).0 q.1 stands broken),
          (q.1).2,
        ),
      );
    }
