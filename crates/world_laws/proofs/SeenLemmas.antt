-- What is seen of events shows just what went inward and what was handed out.
use Rattle.std.proofs.Common.{◌≡◌, ℕ, zero, suc, ◌+◌, ◌<◌, ◌≤◌, Bool, true, false, List, [], ◌∷◌, ◌++◌, length, map, take, drop, slice_get, refl, sym, ◌∙◌, ap, subst, arith, append-nil, length-append}
use Rattle.std.specs.Prelude.{None, Some, Option}
use Rattle.std.proofs.lemmas.List.{length-drop, take-append-drop, take-append-le}
use Rattle.std.proofs.lemmas.List.Sums.{sum_by_push}
use Rattle.bosh_types.specs.declared.ending.Closing.{Closing}
use Rattle.bosh_types.specs.declared.ending.Ending.{Ending}
use Rattle.bosh_types.specs.declared.inward.Inward.{Inward}
use Rattle.session_attrs.specs.declared.request.Request.{Request}
use Rattle.session_core.specs.declared.replies.Arrived.{Arrived}
use Rattle.session_core.specs.declared.replies.Arrived.TheVariants as arrivals
use Rattle.session_core.specs.declared.replies.Collected.{Collected}
use Rattle.session_core.specs.declared.replies.Collected.TheVariants as collections
use Rattle.session_core.specs.declared.replies.Ticked.{Ticked}
use Rattle.session_core.specs.declared.replies.Ticked.TheVariants as ticks
use Rattle.session_core.specs.Journal.{Arrive, Back, BackClosed, Call, Collect, Entered, Entry, IsAllowed, IsJournal, Journal, Made, TakeInward, Tick, entered_by, state_of}
use Rattle.session_core.specs.Machine.{arrive, collect, collected_by, collected_bytes, collected_from, passed_on, bytes_for, tick}
use Rattle.session_core.specs.Passed.{passes}
use Rattle.session_core.specs.State.{Issued, PlainSession, TicketState, Replaced, Struck, UsedUp, Waits, inward, is_over}
use Rattle.session_laws.specs.Growing.{with_later}
use Rattle.session_laws.proofs.Counts.{every_counts}
use Rattle.session_laws.proofs.Lists.{get_some}
use Rattle.world_laws.specs.declared.seen.SeenItem.{SeenItem}
use Rattle.world_laws.specs.declared.told.Parked.{Parked}
use Rattle.world_laws.specs.declared.told.Told.{Told}
use Rattle.world_laws.specs.declared.told.Told.TheVariants as tells
use Rattle.session_calls.specs.After.{after_call, all_taken, untaken, with_entered, with_taken}
use Rattle.world_laws.specs.Manager.{PlainManager, Turn, all_collected, arrived, arrives, collected_told, ending_told, gives, not_found, passes as passes_time, session, settled, shuts, ticked, told_of, turned, with_journal, with_parked}
use Rattle.world_laws.specs.Promises.{in_front, picked, seen_handed, seen_inward}
use Rattle.world_laws.specs.Steps.{numbered}
use Rattle.world_laws.proofs.Below.{Below}
use Rattle.world_laws.proofs.CallLemmas.{entered_is, told_by}
use Rattle.world_laws.proofs.GrownLemmas.{call_made, state_after}

-- What is picked.

pub picked-append : {X : Type 0} (pick : SeenItem → Option X) (one other : List SeenItem) → picked pick (one ++ other) ≡ picked pick one ++ picked pick other
picked-append pick [] other = refl
picked-append pick (item ∷ one) other = ap (in_front (pick item)) (picked-append pick one other) ∙ front (pick item) (picked pick one) (picked pick other)
  where
    front : {X : Type 0} (o : Option X) (xs ys : List X) → in_front o (xs ++ ys) ≡ in_front o xs ++ ys
    front None xs ys = refl
    front (Some x) xs ys = refl

-- what is told to be passed on
abbrev pub passed_told : List Told → List Inward
passed_told [] = []
passed_told (tells.Passed item ∷ told) = item ∷ passed_told told
passed_told (tells.Answer rid body ∷ told) = passed_told told
passed_told (tells.Gone rid ∷ told) = passed_told told
passed_told (tells.Over ending ∷ told) = passed_told told

pub numbered_inward : (count : ℕ) (told : List Told) → seen_inward (numbered count told) ≡ passed_told told
numbered_inward count [] = refl
numbered_inward count (tells.Passed item ∷ told) = ap (λ (l : List Inward). item ∷ l) (numbered_inward count told)
numbered_inward count (tells.Answer rid body ∷ told) = numbered_inward (count + 1) told
numbered_inward count (tells.Gone rid ∷ told) = numbered_inward count told
numbered_inward count (tells.Over ending ∷ told) = numbered_inward count told

pub numbered_handed : (count : ℕ) (told : List Told) → seen_handed (numbered count told) ≡ []
numbered_handed count [] = refl
numbered_handed count (tells.Passed item ∷ told) = numbered_handed count told
numbered_handed count (tells.Answer rid body ∷ told) = numbered_handed (count + 1) told
numbered_handed count (tells.Gone rid ∷ told) = numbered_handed count told
numbered_handed count (tells.Over ending ∷ told) = numbered_handed count told

told-append : (one other : List Told) → passed_told (one ++ other) ≡ passed_told one ++ passed_told other
told-append [] other = refl
told-append (tells.Passed item ∷ one) other = ap (λ (l : List Inward). item ∷ l) (told-append one other)
told-append (tells.Answer rid body ∷ one) other = told-append one other
told-append (tells.Gone rid ∷ one) other = told-append one other
told-append (tells.Over ending ∷ one) other = told-append one other

all_told : (items : List Inward) → passed_told (map tells.Passed items) ≡ items
all_told [] = refl
all_told (item ∷ items) = ap (λ (l : List Inward). item ∷ l) (all_told items)

fate_none : (p : Parked) (told : Collected) → passed_told (told_of p told) ≡ []
fate_none p (collections.Answer body) = refl
fate_none p collections.NotYet = refl
fate_none p collections.Superseded = refl
fate_none p collections.UnknownTicket = refl

collected_none : (j : Journal) (parked : List Parked) → passed_told (collected_told j parked) ≡ []
collected_none j [] = refl
collected_none j (p ∷ parked) =
    let told = told_of p (collect (state_of j) p.ticket).1 in
    told-append told (collected_told (after_call j (Collect p.ticket)) parked)
    ∙ ap (λ (l : List Inward). l ++ passed_told (collected_told (after_call j (Collect p.ticket)) parked)) (fate_none p (collect (state_of j) p.ticket).1)
    ∙ collected_none (after_call j (Collect p.ticket)) parked

ended_none : (was_over : Bool) (ending : Option Ending) → passed_told (ending_told was_over ending) ≡ []
ended_none true ending = refl
ended_none false None = refl
ended_none false (Some ending) = refl

turned_told : (was_over : Bool) (m : PlainManager) (answer : List Told) → passed_told answer ≡ [] → passed_told (turned was_over m answer).told ≡ untaken m.journal
turned_told was_over m answer none =
    let collected = collected_told (all_taken m.journal) m.parked in
    let ended = ending_told was_over (session (settled m)).ending in
    let rest : passed_told (answer ++ (collected ++ ended)) ≡ [] =
    told-append answer (collected ++ ended) ∙ ap (λ (l : List Inward). l ++ passed_told (collected ++ ended)) none
    ∙ told-append collected ended ∙ ap (λ (l : List Inward). l ++ passed_told ended) (collected_none (all_taken m.journal) m.parked) ∙ ended_none was_over (session (settled m)).ending in
    told-append (map tells.Passed (untaken m.journal)) (answer ++ (collected ++ ended))
    ∙ ap (λ (l : List Inward). l ++ passed_told (answer ++ (collected ++ ended))) (all_told (untaken m.journal))
    ∙ ap (λ (l : List Inward). untaken m.journal ++ l) rest ∙ append-nil (untaken m.journal)

-- What was passed on.

-- all that may go inward is this, and was passed on
pub record AllPassed (s : PlainSession) (items : List Inward) : Type 0 where
  pub are : items ≡ inward s
  pub all : s.passed ≡ length (inward s)

-- what was passed on is this
pub record WasPassed (s : PlainSession) (items : List Inward) : Type 0 where
  pub are : items ≡ take s.passed (inward s)
  pub within : s.passed ≤ length (inward s)

-- a ticket changes nothing of it
pub collect_by : (s : PlainSession) (P : PlainSession → Type 0) → P s → ((tickets : List Issued) → P (record s { tickets = tickets })) → (number : ℕ) → P (collect s number).0
collect_by s P same used zero = same
collect_by s P same used (suc index) = from (slice_get s.tickets index)
  where
    bytes : (ticket : Issued) (o : Option (List ℕ)) → P (collected_bytes s index ticket o).0
    bytes ticket None = same
    bytes ticket (Some b) = used _

    by : (ticket : Issued) (state : TicketState) → P (collected_by s index ticket state).0
    by ticket Waits = bytes ticket (bytes_for s ticket.rid)
    by ticket Replaced = used _
    by ticket Struck = used _
    by ticket UsedUp = same

    from : (o : Option Issued) → P (collected_from s index o).0
    from None = same
    from (Some ticket) = by ticket ticket.state

take_state : (s : PlainSession) → s.passed < length (inward s) → (passed_on s (slice_get (inward s) s.passed)).0 ≡ record s { passed = s.passed + 1 }
take_state s within = ap (λ (o : Option Inward). (passed_on s o).0) (get_some (inward s) s.passed within).1

module _ (below : Below) where
  -- a call that takes nothing inward
  passed_same : (j : Journal) (call : Call) → IsAllowed call → passes (Made call) ≡ 0 → IsJournal j → (state_of (after_call j call)).passed ≡ (state_of j).passed
  passed_same j call allowed none made = by (entered_by (state_of j) call) refl
    where
      by : (e : Option Entered) → entered_by (state_of j) call ≡ e → (state_of (with_entered j e)).passed ≡ (state_of j).passed
      by None is = refl
      by (Some entered) is =
          let longer = below.longer j call (told_by entered) made allowed is in
          let zero_more : passes entered ≡ 0 = entered_is (state_of j) (λ e. passes e ≡ 0) (λ kind cost now. refl) call none entered is in
          let sum = sum_by_push (λ (entry : Entry). passes entry.entered) j.entries (told_by entered) in
          omega (arith, (every_counts (with_later j (told_by entered ∷ [])) longer).1, (every_counts j made).1, sum, zero_more)

  inward_begins : (j : Journal) (call : Call) → IsAllowed call → IsJournal j → (later : List Inward) × (inward (state_of (after_call j call)) ≡ inward (state_of j) ++ later)
  inward_begins j call allowed made = by (entered_by (state_of j) call) refl
    where
      by : (e : Option Entered) → entered_by (state_of j) call ≡ e → (later : List Inward) × (inward (state_of (with_entered j e)) ≡ inward (state_of j) ++ later)
      by None is = ([], sym (append-nil (inward (state_of j))))
      by (Some entered) is = ((below.journals j made).grows (told_by entered ∷ []) (below.longer j call (told_by entered) made allowed is)).inward_items

  called : (j : Journal) (call : Call) (items : List Inward) → IsAllowed call → passes (Made call) ≡ 0 → IsJournal j → AllPassed (state_of j) items → WasPassed (state_of (after_call j call)) items
  called j call items allowed none made h =
      let s = state_of j in
      let t = state_of (after_call j call) in
      let same = passed_same j call allowed none made in
      let more = inward_begins j call allowed made in
      let count : t.passed ≡ length (inward s) = same ∙ h.all in
      record {
        are = h.are ∙ sym (take_all (inward s)) ∙ sym (take-append-le (length (inward s)) (inward s) more.0 (omega arith))
            ∙ ap (take (length (inward s))) (sym more.1) ∙ ap (λ (n : ℕ). take n (inward t)) (sym count);
        within = omega (arith, count, ap length more.1, length-append (inward s) more.0);
      }
    where
      take_all : (xs : List Inward) → take (length xs) xs ≡ xs
      take_all [] = refl
      take_all (x ∷ xs) = ap (λ (l : List Inward). x ∷ l) (take_all xs)

  with_passed_is : (count : ℕ) (j : Journal) → IsJournal j → (state_of j).passed + count ≡ length (inward (state_of j))
      → (inward (state_of (with_taken count j)) ≡ inward (state_of j)) × ((state_of (with_taken count j)).passed ≡ length (inward (state_of j)))
  with_passed_is zero j made all = (refl, omega (arith, all))
  with_passed_is (suc count) j made all =
      let s = state_of j in
      let j2 = after_call j TakeInward in
      let state : state_of j2 ≡ record s { passed = s.passed + 1 } = state_after below j TakeInward made ∙ take_state s (omega (arith, all)) in
      let left : s.passed + 1 + count ≡ length (inward s) = omega (arith, all) in
      let later = with_passed_is count j2 (call_made below [] 0 j TakeInward tt made) (subst (λ (t : PlainSession). t.passed + count ≡ length (inward t)) (sym state) left) in
      (later.0 ∙ ap inward state, later.1 ∙ ap (λ (t : PlainSession). length (inward t)) state)

  all_passed_is : (j : Journal) → IsJournal j → (state_of j).passed ≤ length (inward (state_of j))
      → (inward (state_of (all_taken j)) ≡ inward (state_of j)) × ((state_of (all_taken j)).passed ≡ length (inward (state_of j)))
  all_passed_is j made within =
      let s = state_of j in
      with_passed_is (length (untaken j)) j made (omega (arith, within, length-drop s.passed (inward s)))

  with_passed_made : (count : ℕ) (j : Journal) → IsJournal j → IsJournal (with_taken count j)
  with_passed_made zero j made = made
  with_passed_made (suc count) j made = with_passed_made count (after_call j TakeInward) (call_made below [] 0 j TakeInward tt made)

  collected_is : (j : Journal) (parked : List Parked) → IsJournal j
      → (inward (state_of (all_collected j parked)) ≡ inward (state_of j)) × ((state_of (all_collected j parked)).passed ≡ (state_of j).passed)
  collected_is j [] made = (refl, refl)
  collected_is j (p ∷ parked) made =
      let s = state_of j in
      let j2 = after_call j (Collect p.ticket) in
      let Same : PlainSession → Type 0 = λ t. (inward t ≡ inward s) × (t.passed ≡ s.passed) in
      let one : Same (state_of j2) = subst Same (sym (state_after below j (Collect p.ticket) made)) (collect_by s Same (refl, refl) (λ tickets. (refl, refl)) p.ticket) in
      let later = collected_is j2 parked (call_made below [] 0 j (Collect p.ticket) tt made) in
      (later.0 ∙ one.0, later.1 ∙ one.1)

  -- after a call all that is left is passed on
  pub turned_passed : (was_over : Bool) (m : PlainManager) (answer : List Told) (items : List Inward) → passed_told answer ≡ [] → IsJournal m.journal → WasPassed (session m) items
      → AllPassed (session (turned was_over m answer).after) (items ++ passed_told (turned was_over m answer).told)
  turned_passed was_over m answer items none made h =
      let s = session m in
      let passed = all_passed_is m.journal made h.within in
      let collected = collected_is (all_taken m.journal) m.parked (with_passed_made (length (untaken m.journal)) m.journal made) in
      let whole : items ++ passed_told (turned was_over m answer).told ≡ inward s =
      ap (λ (l : List Inward). items ++ l) (turned_told was_over m answer none) ∙ ap (λ (l : List Inward). l ++ drop s.passed (inward s)) h.are ∙ take-append-drop s.passed (inward s) in
      record {
        are = whole ∙ sym (collected.0 ∙ passed.0);
        all = collected.1 ∙ passed.1 ∙ ap length (sym (collected.0 ∙ passed.0));
      }

-- a manager after what came to it, with what was passed on so far
abbrev pub IsPassedTurn : List Inward → Turn → Type 0
IsPassedTurn items turn = AllPassed (session turn.after) (items ++ passed_told turn.told)

module _ (below : Below) (m : PlainManager) (items : List Inward) (made : IsJournal m.journal) (h : AllPassed (session m) items) where
  after_one : (call : Call) → IsAllowed call → passes (Made call) ≡ 0 → WasPassed (state_of (after_call m.journal call)) items
  after_one call allowed none = called below m.journal call items allowed none made h

  made_one : (call : Call) → IsAllowed call → IsJournal (after_call m.journal call)
  made_one call allowed = call_made below [] 0 m.journal call allowed made

  pub gives_passed : (stream : ℕ) (stanza : List ℕ) (now : ℕ) → IsAllowed (Back stream stanza now) → IsPassedTurn items (gives m stream stanza now)
  gives_passed stream stanza now allowed =
      let call = Back stream stanza now in
      turned_passed below (is_over (session m)) (with_journal m (after_call m.journal call)) [] items refl (made_one call allowed) (after_one call allowed refl)

  pub shuts_passed : (stream : ℕ) (closing : Closing) (now : ℕ) → IsPassedTurn items (shuts m stream closing now)
  shuts_passed stream closing now =
      let call = BackClosed stream closing now in
      turned_passed below (is_over (session m)) (with_journal m (after_call m.journal call)) [] items refl (made_one call tt) (after_one call tt refl)

  ticked_passed : (now : ℕ) (reply : Ticked) → IsPassedTurn items (ticked m (with_journal m (after_call m.journal (Tick now))) reply)
  ticked_passed now ticks.Quiet = record { are = append-nil items ∙ h.are; all = h.all }
  ticked_passed now ticks.Changed =
      turned_passed below (is_over (session m)) (with_journal m (after_call m.journal (Tick now))) [] items refl (made_one (Tick now) tt) (after_one (Tick now) tt refl)

  pub time_passed : (now : ℕ) → IsPassedTurn items (passes_time m now)
  time_passed now = ticked_passed now (tick (session m) now).1

  pub arrives_passed : (request : Request) (body : List ℕ) (now : ℕ) → IsAllowed (Arrive request body now) → IsPassedTurn items (arrives m request body now)
  arrives_passed request body now allowed = by (arrive (session m) request body now).1
    where
      by : (reply : Arrived) → IsPassedTurn items (arrived (is_over (session m)) (with_journal m (after_call m.journal (Arrive request body now))) request.rid reply)
      by (arrivals.Answer bytes) =
          turned_passed below (is_over (session m)) (with_journal m (after_call m.journal (Arrive request body now))) (tells.Answer request.rid bytes ∷ []) items refl
          (made_one (Arrive request body now) allowed) (after_one (Arrive request body now) allowed refl)
      by (arrivals.Parked ticket) =
          turned_passed below (is_over (session m)) (with_parked (with_journal m (after_call m.journal (Arrive request body now))) ticket request.rid) [] items refl
          (made_one (Arrive request body now) allowed) (after_one (Arrive request body now) allowed refl)
      by arrivals.Over =
          turned_passed below (is_over (session m)) (with_journal m (after_call m.journal (Arrive request body now))) (not_found request.rid ∷ []) items refl
          (made_one (Arrive request body now) allowed) (after_one (Arrive request body now) allowed refl)
