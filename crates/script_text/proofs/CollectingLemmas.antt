-- Tickets that are collected one after the other.
use Rattle.std.proofs.Common.{◌≡◌, ℕ, zero, suc, ◌+◌, ◌<◌, ◌≤◌, add-one, arith, length, drop, get_or, List, [], ◌∷◌, ◌++◌, refl, sym, subst, ◌∙◌, ap, append_assoc, append-nil}
use Rattle.std.proofs.Math.Seq.{drop-cons}
use Rattle.session_core.specs.declared.replies.Collected.{Collected}
use Rattle.session_core.specs.Journal.{Collect, Journal, state_of}
use Rattle.session_core.specs.Machine.{collect}
use Rattle.session_journal.specs.declared.entry.Entry.{Entry}
use Rattle.session_journal.specs.Stored.{IsJournalOf}
use Rattle.script_text.specs.declared.live.Parked.{Parked}
use Rattle.script_text.specs.declared.report.ReportLine.{ReportLine}
use Rattle.session_calls.specs.After.{after_call}
use Rattle.script_text.specs.Live.{fate_lines, still, collected_lines, still_parked, all_collected}

-- what was collected, and what is left to collect, is all
pub record CollectsOn (log : List Entry) (lines : List ReportLine) (kept rest : List Parked) (before : List ReportLine) (parked : List Parked) (journal : Journal) : Type 0 where
  pub now : Journal
  pub is : IsJournalOf log now
  pub told : before ++ collected_lines journal parked ≡ lines ++ collected_lines now rest
  pub left : still_parked journal parked ≡ kept ++ still_parked now rest
  pub collected : all_collected journal parked ≡ all_collected now rest

pub collects_from : (log : List Entry) (lines : List ReportLine) (parked : List Parked) (journal : Journal) → IsJournalOf log journal
    → CollectsOn log lines [] parked lines parked journal
collects_from log lines parked journal is = record { now = journal; is = is; told = refl; left = refl; collected = refl }

module _ (log later : List Entry) (lines : List ReportLine) (kept rest : List Parked) (before : List ReportLine) (parked : List Parked) (journal : Journal) (first : Parked)
    (on : CollectsOn log lines kept (first ∷ rest) before parked journal) (reply : Collected)
    (called : (j : Journal) → IsJournalOf log j → (reply ≡ (collect (state_of j) first.ticket).1) × IsJournalOf later (after_call j (Collect first.ticket))) where
  pub collects_more : (lines' : List ReportLine) (kept' : List Parked) → lines' ≡ lines ++ fate_lines first reply → kept' ≡ kept ++ still first reply
      → CollectsOn later lines' kept' rest before parked journal
  collects_more lines' kept' lines_are kept_are =
      let call = called on.now on.is in
      let then_ = after_call on.now (Collect first.ticket) in
      record {
        now = then_;
        is = call.1;
        told = on.told ∙ ap (λ r. lines ++ (fate_lines first r ++ collected_lines then_ rest)) (sym call.0)
            ∙ sym (append_assoc lines (fate_lines first reply) (collected_lines then_ rest))
            ∙ ap (λ l. l ++ collected_lines then_ rest) (sym lines_are);
        left = on.left ∙ ap (λ r. kept ++ (still first r ++ still_parked then_ rest)) (sym call.0)
            ∙ sym (append_assoc kept (still first reply) (still_parked then_ rest))
            ∙ ap (λ l. l ++ still_parked then_ rest) (sym kept_are);
        collected = on.collected;
      }

-- the request at a place, and those after it
pub from_place : (parked : List Parked) (i : ℕ) (first : Parked) → i < length parked → first ≡ get_or parked i first → drop i parked ≡ first ∷ drop (i + 1) parked
from_place parked i first within is =
    drop-cons parked i first within
    ∙ ap (λ p. p ∷ drop (suc i) parked) (sym is)
    ∙ ap (λ next. first ∷ drop next parked) (sym (add-one i))

drop_past : (parked : List Parked) (n : ℕ) → length parked ≤ n → drop n parked ≡ []
drop_past [] zero all = refl
drop_past [] (suc n) all = refl
drop_past (first ∷ parked) zero all = absurd (omega arith)
drop_past (first ∷ parked) (suc n) all = drop_past parked n (omega arith)

pub none_after : (log : List Entry) (lines : List ReportLine) (kept : List Parked) (i : ℕ) (before : List ReportLine) (parked : List Parked) (journal : Journal)
    → length parked ≤ i → CollectsOn log lines kept (drop i parked) before parked journal → CollectsOn log lines kept [] before parked journal
none_after log lines kept i before parked journal all on = subst (λ rest. CollectsOn log lines kept rest before parked journal) (drop_past parked i all) on

pub collects_end : (log : List Entry) (lines : List ReportLine) (kept : List Parked) (before : List ReportLine) (parked : List Parked) (journal : Journal)
    → CollectsOn log lines kept [] before parked journal
    → (lines ≡ before ++ collected_lines journal parked) × (kept ≡ still_parked journal parked) × IsJournalOf log (all_collected journal parked)
collects_end log lines kept before parked journal on = (
  sym (on.told ∙ append-nil lines),
  sym (on.left ∙ append-nil kept),
  subst (λ j. IsJournalOf log j) (sym on.collected) on.is,
)
