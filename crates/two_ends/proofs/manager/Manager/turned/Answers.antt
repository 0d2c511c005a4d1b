use Rattle.std.proofs.Common.{◌≡◌, ◌∙◌, ◌++◌, ap, subst}
use Rattle.session_core.specs.Journal.{Journal, state_of}
use Rattle.session_journal.specs.Stored.{IsJournalOf}
use Rattle.session_journal.proofs.JournalLemmas.{one_journal}
use Rattle.session_calls.specs.After.{all_taken}
use Rattle.world_laws.specs.Manager.{all_collected, collected_told, ending_told, still_parked}
use Rattle.two_ends.proofs.TurnLemmas.{joined}
use Rattle.two_ends.proofs.manager.Manager.turned.Goals as goal

pub returns : goal.returns
returns c = λ m is.
    let j = all_taken m.journal in
    let passed = c.in_ok-pass_all.ensures m.journal is.journal in
    let collected =
    subst (λ p. (c.collect_all.new.told.items ≡ c.push_told.new.told.items ++ collected_told j p) × (c.in_ok-left.left.items ≡ still_parked j p) × IsJournalOf c.collect_all.new.session (all_collected j p))
    (c.as_slice.ensures.value ∙ is.parked) (c.in_ok-left.ensures j passed.1) in
    let same = one_journal c.collect_all.new.session (c.ending.ensures).journal (all_collected j m.parked) ((c.ending.ensures).is).told (collected.2).told in
    let ending = (c.ending.ensures).holds ∙ ap (λ (k : Journal). (state_of k).ending) same in
    let last = c.ending_told.ensures ∙ ap (ending_told c.args.was_over) ending in
    record {
      told_is = joined _ _ _ _ _ _ _ _ _ c.new-told.ensures.items passed.0 c.in_ok-push_told.ensures collected.0
          (c.in_ok-push_told-2.ensures ∙ ap (λ l. c.collect_all.new.told.items ++ l) last);
      manager_is = record { journal = collected.2; parked = collected.1 };
    }
