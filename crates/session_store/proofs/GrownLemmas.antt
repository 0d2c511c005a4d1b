-- Journals of a file that grow are journals of a file.
use Rattle.std.proofs.Common.{◌≡◌, ℕ, ◌+◌, ◌≤◌, List, [], ◌∷◌, ◌++◌, Some, map, refl, sym, ◌∙◌, ap, ap₂, subst, arith, append_assoc}
use Rattle.std.proofs.lemmas.List.{append-nil}
use Rattle.session_core.specs.Journal as plain
use Rattle.session_core.specs.Journal.{IsJournal, IsMade, Journal, after_entry}
use Rattle.session_core.specs.Machine.{opened}
use Rattle.session_core.specs.State.{PlainSession}
use Rattle.session_journal.specs.declared.entry.Entry.{Entry}
use Rattle.session_journal.specs.Entries.{all_of, entries_in, entry_in, opening_in}
use Rattle.session_journal.specs.Stored.{IsLegal}
use Rattle.session_journal.proofs.JournalLemmas.{all_there, consed, opened_with}
use Rattle.journal_store.specs.Entries.{journal_in}
use Rattle.journal_store.specs.declared.reading.SessionEntry.{SessionEntry}
use Rattle.session_store.specs.Journals.{AreJournals, opened_in}
use Rattle.session_store.specs.Store.{of_session}
use Rattle.session_store.proofs.JournalLemmas.{one_comes, opened-append, with_own}

-- the first entries of a journal are one

first_told : (es later : List Entry) (zs : List plain.Entry) → entries_in (es ++ later) ≡ Some zs
    → (xs : List plain.Entry) × (ys : List plain.Entry) × (entries_in es ≡ Some xs) × (zs ≡ xs ++ ys)
first_told [] later zs is = ([], zs, refl, refl)
first_told (e ∷ es) later zs is =
    let both = all_there consed (entry_in e) (entries_in (es ++ later)) zs is in
    let rest = first_told es later both.1 both.3 in (both.0 ∷ rest.0, rest.1, ap₂ (all_of consed) both.2 rest.2, both.4 ∙ ap (λ (l : List plain.Entry). both.0 ∷ l) rest.3)

made_first : (s : PlainSession) (xs ys : List plain.Entry) → IsMade s (xs ++ ys) → IsMade s xs
made_first s [] ys made = plain.none
made_first s (x ∷ xs) ys (plain.more may made) = plain.more may (made_first (after_entry s x.entered) xs ys made)

first_legal : (first : Entry) (es later : List Entry) → IsLegal (first ∷ (es ++ later)) → IsLegal (first ∷ es)
first_legal first es later legal =
    let both = all_there opened_with (opening_in first.call) (entries_in (es ++ later)) legal.0 (legal.1).told in
    let rest = first_told es later both.1 both.3 in
    let made = subst IsJournal (both.4 ∙ ap (opened_with both.0) rest.3) (legal.1).made in (
      opened_with both.0 rest.0,
      record { told = ap₂ (all_of opened_with) both.2 rest.2; made = (made.0, made_first (opened both.0) rest.0 rest.1 made.1) },
    )

pub front_legal : (log : List Entry) (e : Entry) (later : List Entry) → IsLegal (log ++ e ∷ later) → IsLegal (log ++ e ∷ [])
front_legal [] e later legal = first_legal e [] later legal
front_legal (x ∷ log) e later legal =
    first_legal x (log ++ e ∷ []) later (subst (λ (l : List Entry). IsLegal (x ∷ l)) (sym (append_assoc log (e ∷ []) later)) legal)

-- a session of which further entries make a journal, one that there is or the next one
pub journals_grow : (session : ℕ) (more : List Entry) (entries : List SessionEntry) → AreJournals entries → 1 ≤ session → session ≤ opened_in entries + 1
    → IsLegal (journal_in session entries ++ more) → AreJournals (entries ++ map (of_session session) more)
journals_grow session [] entries are some next legal = subst AreJournals (sym (append-nil entries)) are
journals_grow session (e ∷ more) entries are some next legal =
    let one : AreJournals (entries ++ of_session session e ∷ []) =
    one_comes [] entries (of_session session e) are (record { numbered = some; next = next; journal = front_legal (journal_in session entries) e more legal }) in
    let opens = opened-append entries (of_session session e) in
    subst AreJournals (append_assoc entries (of_session session e ∷ []) (map (of_session session) more))
    (journals_grow session more (entries ++ of_session session e ∷ []) one some (omega (arith, opens, next))
    (subst IsLegal (sym (append_assoc (journal_in session entries) (e ∷ []) more) ∙ sym (ap (λ (l : List Entry). l ++ more) (with_own session entries (e ∷ [])))) legal))
