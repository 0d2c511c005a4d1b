use Rattle.std.proofs.Common.{◌≡◌, ◌∙◌, ◌++◌, [], List, sym, subst}
use Rattle.script_text.specs.declared.run.Next.{Next}
use Rattle.script_text.specs.Headline.{manager_of}
use Rattle.script_text.specs.Kept.{HasKept, HasStored, onward}
use Rattle.script_text.specs.Script.{run_after, step_by}
use Rattle.script_text.specs.Stands.{IsNext}
use Rattle.script_text.proofs.KeptRun.{none_run}
use Rattle.script_text.proofs.KeptSteps.{ends_next, last_crash, last_kept, line_crash, line_first, line_stored, live_then, on_ok}
use Rattle.script_text.proofs.kept.store_next.Goals as goal

pub returns-in-Goes-clause-stored : goal.returns-in-Goes-clause-stored
returns-in-Goes-clause-stored g c = λ told ended r n read bodies overs next kept.
    let step = step_by r.run n read in
    let is = subst (λ (k : Next). IsNext k step.next) c.in-Goes.is next in
    on_ok c.store_line.result _ _ (line_stored g.D.Disk.seen g.D.Disk.time g.D.Disk.left ended r bodies n read c.store_line.new.store kept.0 kept.2)
    (c.store_line.ensures.stored told kept.0 step.over (manager_of (run_after r.run step.next)).live overs (live_then c.in-Goes.run' r.run step.next c.live.result.now is c.live.ensures)
    (line_first g.D.Disk.seen g.D.Disk.time g.D.Disk.left ended r bodies n read c.args.store.now kept.0 kept.2 kept.1))

pub returns-in-Goes-clause-any_moment : goal.returns-in-Goes-clause-any_moment
returns-in-Goes-clause-any_moment g c = λ told ended r n read bodies overs next kept.
    let step = step_by r.run n read in
    let is = subst (λ (k : Next). IsNext k step.next) c.in-Goes.is next in
    line_crash g.D.Disk.seen g.D.Disk.time g.D.Disk.left ended r bodies n read c.args.store.now.journals.file.disk c.store_line.new.store.journals.file.disk kept.0 kept.2
    (c.store_line.ensures.any_moment told kept.0 step.over (manager_of (run_after r.run step.next)).live overs (live_then c.in-Goes.run' r.run step.next c.live.result.now is c.live.ensures)
    (line_first g.D.Disk.seen g.D.Disk.time g.D.Disk.left ended r bodies n read c.args.store.now kept.0 kept.2 kept.1))

pub returns-in-Ends-clause-stored : goal.returns-in-Ends-clause-stored
returns-in-Ends-clause-stored g c = λ told ended r n read bodies overs next kept.
    let step = step_by r.run n read in
    last_kept g.D.Disk.seen g.D.Disk.time g.D.Disk.left ended r bodies n read c.in-Ends.field-0 (ends_next c.in-Ends.field-0 step.next (subst (λ (k : Next). IsNext k step.next) c.in-Ends.is next)) c.args.store.now kept

pub returns-in-Ends-clause-any_moment : goal.returns-in-Ends-clause-any_moment
returns-in-Ends-clause-any_moment g c = λ told ended r n read bodies overs next kept.
    last_crash g.D.Disk.seen g.D.Disk.time g.D.Disk.left ended r bodies n read c.args.store.now kept
