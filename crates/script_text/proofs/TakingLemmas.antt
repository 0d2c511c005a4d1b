-- What goes inward of a session, taken one item after the other.
use Rattle.std.proofs.Common.{◌≡◌, ℕ, List, [], ◌∷◌, ◌++◌, Some, None, map, refl, sym, subst, ◌∙◌, ap, append_assoc, append-nil}
use Rattle.bosh_types.specs.declared.inward.Inward.{Inward}
use Rattle.session_core.specs.Journal.{TakeInward, Journal, state_of, called}
use Rattle.session_core.specs.Machine.{take_inward}
use Rattle.session_journal.specs.declared.entry.Entry.{Entry}
use Rattle.session_journal.specs.Stored.{IsJournalOf}
use Rattle.script_text.specs.declared.report.ReportLine.{ReportLine}
use Rattle.script_text.specs.declared.report.ReportLine.TheVariants.{In}
use Rattle.session_calls.specs.After.{after_call, all_taken, untaken}
use Rattle.session_calls.proofs.TakingLemmas.{take_none, take_some, taken_none, taken_some}

-- what is told by now, and what is left to tell, is all that goes inward
pub record TakesOn (number : ℕ) (log : List Entry) (lines before : List ReportLine) (journal : Journal) : Type 0 where
  pub now : Journal
  pub is : IsJournalOf log now
  pub told : before ++ map (In number) (untaken journal) ≡ lines ++ map (In number) (untaken now)
  pub taken : all_taken journal ≡ all_taken now

pub takes_from : (number : ℕ) (log : List Entry) (lines : List ReportLine) (journal : Journal) → IsJournalOf log journal → TakesOn number log lines lines journal
takes_from number log lines journal is = record { now = journal; is = is; told = refl; taken = refl }

pub takes_more : (number : ℕ) (log later : List Entry) (lines before : List ReportLine) (journal : Journal) (item : Inward) → TakesOn number log lines before journal
    → ((j : Journal) → IsJournalOf log j → (Some item ≡ (take_inward (state_of j)).1) × IsJournalOf later (after_call j TakeInward))
    → TakesOn number later (lines ++ In number item ∷ []) before journal
takes_more number log later lines before journal item on called =
    let call = called on.now on.is in
    record {
      now = after_call on.now TakeInward;
      is = call.1;
      told = on.told ∙ ap (λ items. lines ++ map (In number) items) (take_some on.now item call.0)
          ∙ sym (append_assoc lines (In number item ∷ []) (map (In number) (untaken (after_call on.now TakeInward))));
      taken = on.taken ∙ taken_some on.now item call.0;
    }

pub takes_end : (number : ℕ) (log later : List Entry) (lines before : List ReportLine) (journal : Journal) → TakesOn number log lines before journal
    → ((j : Journal) → IsJournalOf log j → (None ≡ (take_inward (state_of j)).1) × IsJournalOf later (after_call j TakeInward))
    → (lines ≡ before ++ map (In number) (untaken journal)) × IsJournalOf later (all_taken journal)
takes_end number log later lines before journal on called =
    let call = called on.now on.is in
    let none = take_none on.now call.0 in (
      sym (on.told ∙ ap (λ items. lines ++ map (In number) items) none.0 ∙ append-nil lines),
      subst (λ j. IsJournalOf later j) (none.1 ∙ sym (taken_none on.now call.0) ∙ sym on.taken) call.1,
    )
