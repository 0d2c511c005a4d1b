-- That a session beside its entries goes on to stand for their replay.
use Rattle.std.proofs.Common.{◌≡◌, ℕ, List, [], ◌∷◌, Option, Some, None, sym, ◌∙◌, ap, subst}
use Rattle.std.specs.Option.{option_map}
use Rattle.parked_gate.specs.Histories.{Appends}
use Rattle.session_core.specs.declared.session.Session.{Session}
use Rattle.session_core.specs.Journal as plain
use Rattle.session_core.specs.Journal.{Journal, IsAllowed, state_of, reply_of, step, entered_by}
use Rattle.session_core.specs.StandsFor.{StandsFor}
use Rattle.session_core.specs.State.{PlainSession}
use Rattle.session_journal.specs.declared.entry.Entry.{Entry}
use Rattle.session_journal.specs.Stored.{IsJournalOf, Enters, Steps, tickets_out}
use Rattle.session_journal.specs.Storing.{Stands}
use Rattle.session_journal.proofs.JournalLemmas.{journal_append, one_entry}
use Rattle.session_laws.specs.Growing.{with_later}
use Rattle.session_laws.proofs.Calls.{as_entered, unentered}
use Rattle.session_laws.proofs.OneMore.{one_more, state_one_more}

module _ {session : Session} {log : List Entry} {out : ℕ} (old : Stands session log out) (call : plain.Call) (allowed : IsAllowed call) (after : Session) (left : ℕ) (caller : ℕ) where
  -- the session stands for the state after the call, and what the plain machine enters was added
  pub goes_on : StandsFor after (step (state_of old.journal) call).0 → left ≡ tickets_out (step (state_of old.journal) call).0.tickets
      → (made : Option Entry) → Enters made (entered_by (state_of old.journal) call) → (later : List Entry) → Appends (λ e. e.caller) caller log made later
      → Stands after later left
  goes_on stands left_is None none later same =
      let s : PlainSession = state_of old.journal in
      let still : (step s call).0 ≡ s = unentered s call none in
      record {
        journal = old.journal;
        is = subst (λ l. IsJournalOf l old.journal) (sym same) old.is;
        stands = subst (StandsFor after) still stands;
        out_is = left_is ∙ ap (λ (t : PlainSession). tickets_out t.tickets) still;
      }
  goes_on stands left_is (Some e) enters later adds =
      let s : PlainSession = state_of old.journal in
      let x : plain.Entry = record { caller = e.caller; entered = enters.0 } in
      let longer : Journal = with_later old.journal (x ∷ []) in
      let there = ap (option_map (λ (entered : plain.Entered). let r : plain.Entry = record { caller = e.caller; entered = entered } in r)) enters.2 in
      let moved : (step s call).0 ≡ state_of longer = as_entered s call enters.0 enters.1 ∙ sym (state_one_more old.journal x) in
      record {
        journal = longer;
        is = subst (λ l. IsJournalOf l longer) (sym adds.0) (record {
          told = journal_append log (e ∷ []) old.journal (x ∷ []) (old.is).told (one_entry e x there);
          made = one_more old.journal call x (old.is).made allowed enters.1;
        });
        stands = subst (StandsFor after) moved stands;
        out_is = left_is ∙ ap (λ (t : PlainSession). tickets_out t.tickets) moved;
      }

  -- what the caller is told
  pub tells : (reply : plain.Reply) → reply ≡ reply_of old.journal call
      → (made : Option Entry) → Enters made (entered_by (state_of old.journal) call) → (later : List Entry) → Appends (λ e. e.caller) caller log made later
      → Steps log caller call reply later
  tells reply reply_is made enters later adds =
      record { made = made; appends = adds; replies = record { journal = old.journal; is = old.is; reply_is = reply_is; enters = enters } }
