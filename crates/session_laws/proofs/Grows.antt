-- What a session is told stays, and its lists only grow.
use Rattle.std.proofs.Common.{◌≡◌, true, false, List, [], ◌∷◌, ◌++◌, Some, is_some, refl, sym, ◌∙◌, ap, append_assoc, subst}
use Rattle.std.proofs.lemmas.List.{append-nil}
use Rattle.bosh_types.specs.declared.ending.Ending.{Ending}
use Rattle.session_core.specs.declared.copy.RequestCopy.{RequestCopy}
use Rattle.session_core.specs.Journal.{Entry, Journal, IsJournal, IsMade, MayEnter, more, after_entry, after_entries, state_of}
use Rattle.session_core.specs.Machine.{as_processed, opened}
use Rattle.session_core.specs.Processed.{Processed, as_creation, items_of, items_of_all}
use Rattle.session_core.specs.State.{PlainSession, Stands, Strikes, is_over, inward}
use Rattle.session_laws.specs.Growing.{Begins, Grows, with_later}
use Rattle.session_laws.proofs.Moves.{Steady}
use Rattle.session_laws.proofs.Steadily.{steady-entry}
use Rattle.session_laws.proofs.Steps.{along}

begins_push : {X : Type 0} (xs ys : List X) (y : X) → Begins xs ys → Begins xs (ys ++ y ∷ [])
begins_push xs ys y b = (b.0 ++ y ∷ [], ap (λ l. l ++ y ∷ []) b.1 ∙ append_assoc xs b.0 (y ∷ []))

pub begins_same : {X : Type 0} (xs : List X) → Begins xs xs
begins_same xs = ([], sym (append-nil xs))

module _ (s : PlainSession) where
  -- what the opening said
  pub told_stays : Steady (λ t. (t.creation ≡ s.creation) × (t.terms ≡ s.terms) × (t.created ≡ s.created) × (t.reporting.on ≡ s.reporting.on))
  told_stays = record {
    ends = λ t ending on p. p;
    aside = λ t tickets now last_arrival passed counted p. p;
    answers = λ t oldest later front is on reason taken p. p;
    processes = λ t copy on stands broken p. p;
    stands = λ t copy above none small p. p;
    strikes = λ t rid on is p. p;
    gives = λ t item p. p;
  }

  -- how many counted bytes its journal may have
  pub limit_stays : Steady (λ t. t.limit ≡ s.limit)
  limit_stays = record {
    ends = λ t ending on p. p;
    aside = λ t tickets now last_arrival passed counted p. p;
    answers = λ t oldest later front is on reason taken p. p;
    processes = λ t copy on stands broken p. p;
    stands = λ t copy above none small p. p;
    strikes = λ t rid on is p. p;
    gives = λ t item p. p;
  }

  -- how long a copy may wait beyond a gap
  pub gap_waits_stay : Steady (λ t. t.gap_waits ≡ s.gap_waits)
  gap_waits_stay = record {
    ends = λ t ending on p. p;
    aside = λ t tickets now last_arrival passed counted p. p;
    answers = λ t oldest later front is on reason taken p. p;
    processes = λ t copy on stands broken p. p;
    stands = λ t copy above none small p. p;
    strikes = λ t rid on is p. p;
    gives = λ t item p. p;
  }

  pub placings_grow : Steady (λ t. Begins s.placings t.placings)
  placings_grow = record {
    ends = λ t ending on p. p;
    aside = λ t tickets now last_arrival passed counted p. p;
    answers = λ t oldest later front is on reason taken p. p;
    processes = λ t copy on stands broken p. p;
    stands = λ t copy above none small p. begins_push s.placings t.placings (Stands copy) p;
    strikes = λ t rid on is p. begins_push s.placings t.placings (Strikes rid t.now) p;
    gives = λ t item p. p;
  }

  pub processed_grows : Steady (λ t. Begins s.processed t.processed)
  processed_grows = record {
    ends = λ t ending on p. p;
    aside = λ t tickets now last_arrival passed counted p. p;
    answers = λ t oldest later front is on reason taken p. p;
    processes = λ t copy on stands broken p. begins_push s.processed t.processed (as_processed t copy) p;
    stands = λ t copy above none small p. p;
    strikes = λ t rid on is p. p;
    gives = λ t item p. p;
  }

  pub answered_grows : Steady (λ t. Begins s.answered t.answered)
  answered_grows = record {
    ends = λ t ending on p. p;
    aside = λ t tickets now last_arrival passed counted p. p;
    answers = λ t oldest later front is on reason taken p. begins_push s.answered t.answered _ p;
    processes = λ t copy on stands broken p. p;
    stands = λ t copy above none small p. p;
    strikes = λ t rid on is p. p;
    gives = λ t item p. p;
  }

  pub given_grows : Steady (λ t. Begins s.given t.given)
  given_grows = record {
    ends = λ t ending on p. p;
    aside = λ t tickets now last_arrival passed counted p. p;
    answers = λ t oldest later front is on reason taken p. p;
    processes = λ t copy on stands broken p. p;
    stands = λ t copy above none small p. p;
    strikes = λ t rid on is p. p;
    gives = λ t item p. begins_push s.given t.given item p;
  }

  over_now : (t : PlainSession) (ending : Ending) → is_over t ≡ false → t.ending ≡ Some ending → ⊥
  over_now t ending on is =
      let over : is_over t ≡ true = ap is_some is in
      let no' : true ≡ false = sym over ∙ on in
      cc

  pub ending_stays : Steady (λ t. (ending : Ending) → s.ending ≡ Some ending → t.ending ≡ Some ending)
  ending_stays = record {
    ends = λ t other on p ending is. absurd (over_now t ending on (p ending is));
    aside = λ t tickets now last_arrival passed counted p. p;
    answers = λ t oldest later front is on reason taken p. p;
    processes = λ t copy on stands broken p. p;
    stands = λ t copy above none small p. p;
    strikes = λ t rid on is p. p;
    gives = λ t item p. p;
  }

-- what each move keeps holds after all entries
pub steady-all : (P : PlainSession → Type 0) → Steady P → (s : PlainSession) (entries : List Entry) → IsMade s entries → P s → P (after_entries s entries)
steady-all P steady s entries made p = along s (λ past t. P t) (λ past t entry may same q. steady-entry P steady t entry.entered may q) entries made p

pub made_rest : {s : PlainSession} {entry : Entry} {entries : List Entry} → IsMade s (entry ∷ entries) → IsMade (after_entry s entry.entered) entries
made_rest (more may rest) = rest

pub made_first : {s : PlainSession} {entry : Entry} {entries : List Entry} → IsMade s (entry ∷ entries) → MayEnter s entry.entered
made_first (more may rest) = may

-- the later entries are made after the earlier ones
pub made_later : (s : PlainSession) (past later : List Entry) → IsMade s (past ++ later) → IsMade (after_entries s past) later
made_later s [] later made = made
made_later s (entry ∷ past) later made = made_later (after_entry s entry.entered) past later (made_rest made)

pub after_append : (s : PlainSession) (past later : List Entry) → after_entries s (past ++ later) ≡ after_entries (after_entries s past) later
after_append s [] later = refl
after_append s (entry ∷ past) later = after_append (after_entry s entry.entered) past later

pub items_append : (copies later : List Processed) → items_of_all (copies ++ later) ≡ items_of_all copies ++ items_of_all later
items_append [] later = refl
items_append (copy ∷ copies) later = ap (λ items. items_of copy ++ items) (items_append copies later) ∙ sym (append_assoc (items_of copy) (items_of_all copies) (items_of_all later))

inward_grows : (s t : PlainSession) → t.creation ≡ s.creation → Begins s.processed t.processed → Begins (inward s) (inward t)
inward_grows s t same b = (
  items_of_all b.0,
  ap (λ (copy : RequestCopy). items_of (as_creation copy) ++ items_of_all t.processed) same ∙ ap (λ copies. items_of (as_creation s.creation) ++ items_of_all copies) b.1
      ∙ ap (λ items. items_of (as_creation s.creation) ++ items) (items_append s.processed b.0)
      ∙ sym (append_assoc (items_of (as_creation s.creation)) (items_of_all s.processed) (items_of_all b.0)),
)

pub grows_all : (s : PlainSession) (entries : List Entry) → IsMade s entries → Grows s (after_entries s entries)
grows_all s entries made =
    let told = steady-all _ (told_stays s) s entries made (refl, refl, refl, refl) in
    let processed = steady-all _ (processed_grows s) s entries made (begins_same s.processed) in
    record {
      told = told;
      placings = steady-all _ (placings_grow s) s entries made (begins_same s.placings);
      processed = processed;
      inward_items = inward_grows s (after_entries s entries) told.0 processed;
      given = steady-all _ (given_grows s) s entries made (begins_same s.given);
      answered = steady-all _ (answered_grows s) s entries made (begins_same s.answered);
      ending = steady-all _ (ending_stays s) s entries made (λ ending is. is);
    }

pub every_grows : (journal : Journal) (later : List Entry) → IsJournal (with_later journal later) → Grows (state_of journal) (state_of (with_later journal later))
every_grows journal later made =
    subst (Grows (state_of journal)) (sym (after_append (opened journal.opening) journal.entries later))
    (grows_all (state_of journal) later (made_later (opened journal.opening) journal.entries later made.1))
