-- A session that takes up the next copy stands for the plain one that has processed it.
use Rattle.std.proofs.Common.{◌≡◌, ℕ, ◌+◌, ◌<◌, ◌≤◌, ◌==◌, ◌&&◌, inl, inr, Bool, true, false, cond, List, [], ◌∷◌, ◌++◌, map, Option, Some, None, All, refl, sym, ◌∙◌, ap, subst, arith}
use Rattle.std.specs.Prelude.{IfSome, nat_lt, if◌then◌else◌}
use Rattle.bosh_types.specs.Limits.{most_streams}
use Rattle.std.proofs.lemmas.Bool.{cases_lt}
use Rattle.std.proofs.lemmas.Bool.Decides.{nat_tests}
use Rattle.std.proofs.lemmas.List.Elements.{All-head, All-tail}
use Rattle.bosh_types.specs.ById.{at_id}
use Rattle.bosh_types.specs.Rid.{greatest_rid}
use Rattle.bosh_types.specs.declared.inward.Inward.{Inward}
use Rattle.ack_report.specs.Report.{after_request, keep_after}
use Rattle.ack_report.specs.Reporting.{Reporting}
use Rattle.key_sequence.specs.Current.{current_after}
use Rattle.pause_rules.specs.Pace.{Pace}
use Rattle.reply_keep.specs.declared.keep.Keep.{Keep}
use Rattle.reply_keep.specs.PlainKeep.{PlainKeep}
use Rattle.reply_keep.specs.StandsFor as keeps
use Rattle.rid_window.specs.declared.window.Window.{Window}
use Rattle.rid_window.specs.PlainWindow.{PlainWindow, id_after, ready, ready_at, with_item, next_after, after_ready}
use Rattle.rid_window.specs.StandsFor as windows
use Rattle.session_core.specs.declared.held.HeldRequest.{HeldRequest}
use Rattle.session_core.specs.declared.copy.RequestCopy.{RequestCopy}
use Rattle.session_core.specs.declared.session.Session.{Session}
use Rattle.session_core.specs.Copy.{id_of, is_add, is_prompt, with_id}
use Rattle.session_core.specs.Kept.{keep_of}
use Rattle.session_core.specs.Machine.{as_processed, next_copy, with_copy}
use Rattle.session_core.specs.Processed.{Processed, items_by, items_of, targets_among}
use Rattle.session_core.specs.Rules.{mark_of}
use Rattle.session_core.specs.StandsFor.{Alike, Holds, IsLater, alike_of, held_of}
use Rattle.session_core.specs.State.{PlainSession, last_of, answered_of, standing, standing_at, is_over}
use Rattle.session_core.specs.Steps.{period_of}
use Rattle.session_core.proofs.RunningLemmas.{run-push, latest-push, inward-push}
use Rattle.session_core.proofs.StreamLemmas.{opened_for, processed_streams, streams_after}
use Rattle.session_core.proofs.WindowLemmas.{after_some, later_at, none_beyond}

at_first : (first copy : RequestCopy) (rid : ℕ) (rest : Option RequestCopy) (b : Bool) → (id_of first == rid) ≡ b → cond b (Some first) rest ≡ Some copy
    → (rest ≡ Some copy → id_of copy ≡ rid) → id_of copy ≡ rid
at_first first copy rid rest true same found later =
    let e : first ≡ copy = cc in
    let is : id_of first ≡ rid = grind (arith, nat_tests, same) in
    sym (ap id_of e) ∙ is
at_first first copy rid rest false same found later = later found

-- what stands at an id has it
pub id_at : (copies : List RequestCopy) (rid : ℕ) (copy : RequestCopy) → at_id (map with_id copies) rid ≡ Some copy → id_of copy ≡ rid
id_at [] rid copy is = absurd (cc)
id_at (first ∷ copies) rid copy is =
    at_first first copy rid (at_id (map with_id copies) rid) (id_of first == rid) refl is (id_at copies rid copy)

-- the copy that is next stands for the next id, in a session that goes on
pub next_stands : (plain : PlainSession) (copy : RequestCopy) → next_copy plain ≡ Some copy → (is_over plain ≡ false) × (standing_at plain (last_of plain + 1) ≡ Some copy)
next_stands plain copy is = by (is_over plain) refl is
  where
    by : (b : Bool) → is_over plain ≡ b → (if b then None else standing_at plain (last_of plain + 1)) ≡ Some copy → (is_over plain ≡ false) × (standing_at plain (last_of plain + 1) ≡ Some copy)
    by true over found = absurd (cc)
    by false over found = (over, found)

pub some_below : (creation : RequestCopy) (standing : List RequestCopy) (last : ℕ) (copy : RequestCopy) → All (IsLater (id_of creation)) standing
    → at_id (map with_id standing) (last + 1) ≡ Some copy → last < greatest_rid
some_below creation standing last copy ids some = elim (cases_lt last greatest_rid) [
  | inl more ↦ more
  | inr most ↦ (let none = none_beyond (id_of creation) standing (last + 1) ids (omega arith) in absurd (cc))
]

-- the window goes on behind the copy that was taken
next_window : (window : PlainWindow RequestCopy) (creation : RequestCopy) (standing : List RequestCopy) (last : ℕ) (copy : RequestCopy)
    → window.placed ≡ map with_id (creation ∷ standing) → window.next ≡ id_after last → All (IsLater (id_of creation)) standing
    → id_of creation ≤ last → at_id (map with_id standing) (last + 1) ≡ Some copy → next_after window (ready window) ≡ id_after (id_of copy)
next_window window creation standing last copy placed next ids first some =
    let more : last < greatest_rid = some_below creation standing last copy ids some in
    let found : at_id (map with_id (creation ∷ standing)) (last + 1) ≡ Some copy = later_at creation standing (last + 1) (omega arith) ∙ some in
    let is : ready window ≡ Some (last + 1, copy) =
    ap (λ (pairs : List (ℕ × RequestCopy)). ready_at window.next pairs) placed
    ∙ ap (λ (o : Option ℕ). ready_at o (map with_id (creation ∷ standing))) (next ∙ after_some last more)
    ∙ ap (with_item (last + 1)) found in
    ap (next_after window) is ∙ ap id_after (sym (id_at standing (last + 1) copy some))

-- an acknowledgement changes nothing of a keep but up to which id answers are acknowledged
pub keep_shape : (reporting : Reporting) (plain : PlainKeep) (ack : Option ℕ)
    → keep_after reporting plain ack ≡ record plain { acknowledged = (keep_after reporting plain ack).acknowledged }
keep_shape reporting plain ack = by reporting.on ack
  where
    by : (on : Bool) (ack : Option ℕ) → keep_after (record reporting { on = on }) plain ack ≡ record plain { acknowledged = (keep_after (record reporting { on = on }) plain ack).acknowledged }
    by false ack = refl
    by true None = refl
    by true (Some rid) = refl

-- an acknowledgement stays lower than the greatest id
acked_after : (reporting : Reporting) (plain : PlainKeep) (ack : Option ℕ) (rid : ℕ) → plain.acknowledged < greatest_rid → IfSome ack (λ a. a < rid) → rid ≤ greatest_rid
    → (keep_after reporting plain ack).acknowledged < greatest_rid
acked_after reporting plain ack rid old lower within = by reporting.on ack lower
  where
    by : (on : Bool) (ack : Option ℕ) → IfSome ack (λ a. a < rid) → (keep_after (record reporting { on = on }) plain ack).acknowledged < greatest_rid
    by false ack lower = old
    by true None lower = old
    by true (Some a) lower = omega arith

later_first : (first : ℕ) (copy found : RequestCopy) (rid : ℕ) (rest : Option RequestCopy) (b : Bool) → IsLater first copy → cond b (Some copy) rest ≡ Some found
    → (rest ≡ Some found → IsLater first found) → IsLater first found
later_first first copy found rid rest true own is later =
    let same : copy ≡ found = cc in
    subst (IsLater first) same own
later_first first copy found rid rest false own is later = later is

-- what is said of all copies that stand is so of the one at an id
pub later_of_all : (first : ℕ) (copies : List RequestCopy) (rid : ℕ) (copy : RequestCopy) → All (IsLater first) copies → at_id (map with_id copies) rid ≡ Some copy → IsLater first copy
later_of_all first [] rid copy ids is = absurd (cc)
later_of_all first (other ∷ copies) rid copy ids is =
    later_first first other copy rid (at_id (map with_id copies) rid) (id_of other == rid) (All-head (IsLater first) other copies ids) is
    (later_of_all first copies rid copy (All-tail (IsLater first) other copies ids))

-- what a session keeps as the plain one does, once a copy was processed
abbrev alike_after : RequestCopy → PlainKeep → ℕ → Alike → Alike
alike_after copy keep answered a = record a {
  pace = record a.pace { period = period_of a.pace copy };
  key = current_after a.key copy.request.key copy.request.newkey;
  reporting = after_request a.reporting keep copy.request.ack answered a.now;
}

pub taken_up : (s : Session) (plain : PlainSession) (copy : RequestCopy) (deadlines : Pace) (key : Option (List ℕ)) (acks : Reporting) (keep : Keep)
    (window : Window RequestCopy) (held : List HeldRequest) (queue : List Inward) (after : Session)
    → Holds s plain → next_copy plain ≡ Some copy
    → deadlines ≡ record s.deadlines { period = period_of s.deadlines copy }
    → key ≡ current_after s.keys copy.request.key copy.request.newkey
    → ((k : PlainKeep) → keeps.StandsFor s.keep k → acks ≡ after_request s.acks k copy.request.ack s.answered s.moment)
    → ((k : PlainKeep) → keeps.StandsFor s.keep k → keeps.StandsFor keep (keep_after s.acks k copy.request.ack))
    → ((w : PlainWindow RequestCopy) → windows.StandsFor s.window w → windows.StandsFor window (after_ready w))
    → held ≡ s.held ++ record { rid = id_of copy; arrived = copy.arrived; prompt = is_prompt copy; opened = opened_for s.streams copy } ∷ []
    → queue ≡ s.inward ++ items_by copy (targets_among s.streams.running copy.request.stream) (opened_for s.streams copy)
    → after.streams ≡ streams_after s.streams copy
    → alike_of after ≡ record (alike_of s) { pace = deadlines; key = key; reporting = acks }
    → after.keep ≡ keep → after.window ≡ window → after.held ≡ held → after.inward ≡ queue → after.last ≡ id_of copy
    → after.outbox ≡ s.outbox → after.tickets ≡ s.tickets → after.answered ≡ s.answered → after.latest ≡ mark_of copy → after.last_given ≡ s.last_given → after.last_bare ≡ s.last_bare
    → Holds after (with_copy plain copy)
taken_up s plain copy deadlines key acks keep window held queue after h is dl ky ak kp wn hd qu e_streams al e_keep e_window e_held e_inward e_last e_outbox e_tickets e_answered e_latest e_given e_bare =
    let next = next_stands plain copy is in
    let one : Processed = as_processed plain copy in
    let opened : opened_for s.streams copy ≡ one.opened =
    (λ i. if is_add copy && nat_lt (h.streams.opened_is i) most_streams then Some (h.streams.opened_is i) else None) in
    let holds : held ≡ s.held ++ held_of one ∷ [] =
    hd ∙ (λ i. s.held ++ record { rid = id_of copy; arrived = copy.arrived; prompt = is_prompt copy; opened = opened i } ∷ []) in
    let passes : queue ≡ s.inward ++ items_of one =
    qu ∙ (λ i. s.inward ++ items_by copy (targets_among (h.streams.running_is i) copy.request.stream) (opened i)) in
    let at : at_id (map with_id (standing plain)) (s.last + 1) ≡ Some copy =
    ap (λ (last : ℕ). at_id (map with_id (standing plain)) (last + 1)) h.run.last_is ∙ next.1 in
    let id : id_of copy ≡ s.last + 1 = id_at (standing plain) (s.last + 1) copy at in
    let first : id_of plain.creation ≤ s.last = omega (arith, h.run.last_is) in
    let reporting : acks ≡ after_request s.acks (keep_of plain) copy.request.ack (answered_of plain) s.moment =
    ak (keep_of plain) h.kept.keeps
    ∙ ap (λ (answered : ℕ). after_request s.acks (keep_of plain) copy.request.ack answered s.moment) h.run.answered_is in
    let own : IsLater (id_of plain.creation) copy = later_of_all (id_of plain.creation) (standing plain) (s.last + 1) copy h.window.ids at in
    let same : s.acks ≡ plain.reporting = ap (λ (a : Alike). a.reporting) h.alike in
    record {
      alike =
          al ∙ (λ i. record (alike_of s) { pace = dl i; key = ky i; reporting = reporting i })
          ∙ ap (alike_after copy (keep_of plain) (answered_of plain)) h.alike;
      run = rw (e_last, e_answered, e_held, holds) (run-push one h.run id);
      latest = rw (e_latest, e_given, e_bare) (latest-push one h.latest);
      kept = record {
        keeps =
            let held_back = kp (keep_of plain) h.kept.keeps in
            rw e_keep
            (subst (λ (k : PlainKeep). keeps.StandsFor keep k)
            (ap (λ (r : Reporting). keep_after r (keep_of plain) copy.request.ack) same ∙ keep_shape plain.reporting (keep_of plain) copy.request.ack) held_back);
        ids = h.kept.ids;
        acked = acked_after plain.reporting (keep_of plain) copy.request.ack (id_of copy) h.kept.acked own.ack own.within;
      };
      inward = rw (e_inward, passes) (inward-push one h.inward);
      items = rw e_outbox h.items;
      streams = rw e_streams (processed_streams h.streams copy);
      tickets = rw e_tickets h.tickets;
      window = record {
        stands =
            rw (e_window, e_last)
            (subst (λ (next : Option ℕ). windows.StandsFor window (record { placed = map with_id (plain.creation ∷ standing plain); next = next; width = plain.terms.requests }))
            (next_window (record { placed = map with_id (plain.creation ∷ standing plain); next = id_after s.last; width = plain.terms.requests }) plain.creation (standing plain) s.last copy refl refl h.window.ids first at)
            (wn _ h.window.stands));
        ids = h.window.ids;
      };
    }
