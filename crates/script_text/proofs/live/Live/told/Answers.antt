use Rattle.std.proofs.Common.{◌∙◌, ◌++◌, ap, subst, map}
use Rattle.session_core.specs.Journal.{state_of}
use Rattle.session_journal.specs.Stored.{IsJournalOf}
use Rattle.session_journal.proofs.JournalLemmas.{one_journal}
use Rattle.script_text.specs.declared.report.ReportLine.TheVariants.{In}
use Rattle.session_calls.specs.After.{all_taken, untaken}
use Rattle.script_text.specs.Live.{all_collected, collected_lines, over_lines, still_parked}
use Rattle.script_text.proofs.LiveLemmas.{joined}
use Rattle.script_text.proofs.live.Live.told.Goals as goal

pub returns : goal.returns
returns c = λ s is.
    let taken = c.in_ok-take_all.ensures s.journal is.journal in
    let collected = c.in_ok-parked.ensures (all_taken s.journal) taken.1 in
    let same = c.as_slice.ensures.value ∙ is.parked in
    let ending = (c.ending.ensures).holds
    ∙ ap (λ j. (state_of j).ending) (one_journal _ (c.ending.ensures).journal _ ((c.ending.ensures).is).told (collected.2).told
    ∙ ap (λ p. all_collected (all_taken s.journal) p) same) in
    record {
      lines = joined _ _ _ _ _ _ _ _ _
          (taken.0 ∙ ap (λ n. c.args.lines.items ++ map (In n) (untaken s.journal)) is.number)
          c.in_ok-push_line.ensures
          (collected.0 ∙ ap (λ p. c.push_line.new.lines.items ++ collected_lines (all_taken s.journal) p) same)
          (c.in_ok-push_line-2.ensures ∙ ap (λ l. c.collect_all.new.lines.items ++ l) (c.over_line.ensures
          ∙ ap (λ n. over_lines n c.ending.result) is.number ∙ ap (λ e. over_lines s.number e) ending));
      live = record {
        number = is.number;
        journal = subst (λ p. IsJournalOf c.collect_all.new.session (all_collected (all_taken s.journal) p)) same collected.2;
        parked = collected.1 ∙ ap (λ p. still_parked (all_taken s.journal) p) same;
      };
    }
