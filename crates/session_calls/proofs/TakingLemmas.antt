-- What goes inward of a session, taken one item after the other.
use Rattle.std.proofs.Common.{◌≡◌, zero, suc, ◌+◌, ◌<◌, add-one, List, [], ◌∷◌, Option, Some, None, length, drop, refl, sym, ◌∙◌, ap, arith, if◌then◌else◌, ℕ}
use Rattle.std.specs.Prelude.{is_some}
use Rattle.std.specs.List.{slice_get}
use Rattle.bosh_types.specs.declared.inward.Inward.{Inward}
use Rattle.session_core.specs.Journal.{TakeInward, Made, Reply, ToTakeInward, Journal, state_of, called}
use Rattle.session_core.specs.Machine.{take_inward, passed_on}
use Rattle.session_core.specs.State.{PlainSession, inward}
use Rattle.session_journal.specs.declared.entry.Entry.{Entry}
use Rattle.session_journal.specs.Stored.{IsJournalOf}
use Rattle.session_laws.proofs.Calls.{takes_next}
use Rattle.session_laws.proofs.OneMore.{state_one_more}
use Rattle.session_calls.specs.After.{after_call, all_taken, left_in, untaken, untaken_in, with_entered, with_taken}
use Rattle.session_calls.proofs.CallLemmas.{told_by}

pub got_first : {X : Type 0} (xs : List X) (k : ℕ) (x : X) → slice_get xs k ≡ Some x → drop k xs ≡ x ∷ drop (suc k) xs
got_first [] k x is = absurd (cc)
got_first (y ∷ xs) zero x is = ap (λ z. z ∷ xs) (first y is)
  where
    first : (z : _) → Some z ≡ Some x → z ≡ x
    first z same = cc
got_first (y ∷ xs) (suc k) x is = got_first xs k x is

pub got_none : {X : Type 0} (xs : List X) (k : ℕ) → slice_get xs k ≡ None → drop k xs ≡ []
got_none [] zero is = refl
got_none [] (suc k) is = refl
got_none (y ∷ xs) zero is = absurd (cc)
got_none (y ∷ xs) (suc k) is = got_none xs k is

pub called_state : {X : Type 0} (reply : X → Reply) (p : PlainSession × X) → (called reply p).0 ≡ p.0
called_state reply (s, x) = refl

module _ (journal : Journal) where
  -- the next item, if there is one
  abbrev next : Option Inward
  next = slice_get (inward (state_of journal)) (state_of journal).passed

  replied_next : (take_inward (state_of journal)).1 ≡ next
  replied_next = takes_next (state_of journal) next

  after_some : (item : Inward) → next ≡ Some item
      → state_of (after_call journal TakeInward) ≡ record (state_of journal) { passed = (state_of journal).passed + 1 }
  after_some item is =
      ap state_of (ap (λ o. with_entered journal (if is_some o then Some (Made TakeInward) else None)) (replied_next ∙ is))
      ∙ state_one_more journal (told_by (Made TakeInward))
      ∙ called_state ToTakeInward (take_inward (state_of journal))
      ∙ ap (λ o. (passed_on (state_of journal) o).0) is

  -- an item is taken, and the others are left
  pub take_some : (item : Inward) → Some item ≡ (take_inward (state_of journal)).1 → untaken journal ≡ item ∷ untaken (after_call journal TakeInward)
  take_some item told =
      let is : next ≡ Some item = sym (told ∙ replied_next) in
      got_first (inward (state_of journal)) (state_of journal).passed item is
      ∙ ap (λ n. item ∷ drop n (inward (state_of journal))) (sym (add-one (state_of journal).passed))
      ∙ ap (λ items. item ∷ items) (sym (ap (λ (t : PlainSession). drop t.passed (inward t)) (after_some item is)))

  -- none is left, and nothing changes
  pub take_none : None ≡ (take_inward (state_of journal)).1 → (untaken journal ≡ []) × (after_call journal TakeInward ≡ journal)
  take_none told =
      let is : next ≡ None = sym (told ∙ replied_next) in (
        got_none (inward (state_of journal)) (state_of journal).passed is,
        ap (λ o. with_entered journal (if is_some o then Some (Made TakeInward) else None)) (replied_next ∙ is),
      )

  pub taken_some : (item : Inward) → Some item ≡ (take_inward (state_of journal)).1 → all_taken journal ≡ all_taken (after_call journal TakeInward)
  taken_some item told = ap (λ items. with_taken (length items) journal) (take_some item told)

  pub taken_none : None ≡ (take_inward (state_of journal)).1 → all_taken journal ≡ journal
  taken_none told = ap (λ items. with_taken (length items) journal) (take_none told).0

-- how many are left of stored entries
pub left_is : (log : List Entry) (journal : Journal) → IsJournalOf log journal → left_in log ≡ length (untaken journal)
left_is log journal is = ap untaken_in is.told

-- one less is left where one was taken
pub fewer_left : (log later : List Entry) (journal : Journal) (item : Inward) → IsJournalOf log journal
    → Some item ≡ (take_inward (state_of journal)).1 → IsJournalOf later (after_call journal TakeInward) → left_in later < left_in log
fewer_left log later journal item is told after =
    let one : length (untaken journal) ≡ suc (length (untaken (after_call journal TakeInward))) = ap length (take_some journal item told) in
    omega (arith, left_is log journal is, left_is later _ after, one)
