-- Entries that go behind those of a file in order.
use Rattle.std.proofs.Common.{◌≡◌, ℕ, suc, ◌==◌, List, [], ◌∷◌, ◌++◌, Some, cond, map, refl, sym, ◌∙◌, ap, subst, append_assoc}
use Rattle.std.specs.Prelude.{filter, slice_get}
use Rattle.std.proofs.lemmas.Bool.{eq-eqb}
use Rattle.std.proofs.lemmas.List.{append-nil}
use Rattle.session_journal.specs.declared.entry.Entry.{Entry}
use Rattle.session_journal.specs.Stored.{IsLegal}
use Rattle.journal_store.specs.Entries.{journal_in}
use Rattle.journal_store.specs.declared.reading.SessionEntry.{SessionEntry}
use Rattle.journal_store.proofs.EntryLemmas.{journal-append}
use Rattle.session_store.specs.Journals.{AreJournals}
use Rattle.session_store.proofs.GrownLemmas.{front_legal}
use Rattle.session_store.proofs.JournalLemmas.{one_comes}
use Rattle.serve_journal.specs.Writing.{AllGo}

own_first : (e : SessionEntry) (rest : List SessionEntry) → journal_in e.session (e ∷ rest) ≡ e.entry ∷ journal_in e.session rest
own_first e rest =
    ap (λ b. map (λ (x : SessionEntry). x.entry) (cond b (e ∷ filter (λ (x : SessionEntry). x.session == e.session) rest) (filter (λ (x : SessionEntry). x.session == e.session) rest))) (eq-eqb e.session e.session refl)

pub are_still_journals : (entries more : List SessionEntry) → AreJournals entries → AllGo entries more
    → ((place : ℕ) (e : SessionEntry) → slice_get more place ≡ Some e → IsLegal (journal_in e.session (entries ++ more))) → AreJournals (entries ++ more)
are_still_journals entries [] are go legal = subst AreJournals (sym (append-nil entries)) are
are_still_journals entries (e ∷ more) are go legal =
    let here : IsLegal (journal_in e.session entries ++ e.entry ∷ journal_in e.session more) =
    subst IsLegal (journal-append e.session entries (e ∷ more) ∙ ap (λ (l : List Entry). journal_in e.session entries ++ l) (own_first e more)) (legal 0 e refl) in
    let one : AreJournals (entries ++ e ∷ []) =
    one_comes [] entries e are (record { numbered = go.0; next = go.1; journal = front_legal (journal_in e.session entries) e.entry (journal_in e.session more) here }) in
    subst AreJournals (append_assoc entries (e ∷ []) more)
    (are_still_journals (entries ++ e ∷ []) more one go.2
    (λ place x found. subst (λ (l : List SessionEntry). IsLegal (journal_in x.session l)) (sym (append_assoc entries (e ∷ []) more)) (legal (suc place) x found)))
