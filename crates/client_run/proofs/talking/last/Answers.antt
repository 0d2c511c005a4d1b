use Rattle.std.proofs.Common.{subst}
use Rattle.std.specs.Io.KnownBytes.{prepend_known}
use Rattle.line_reader.specs.Lines.{Reads}
use Rattle.client_run.proofs.TurnLemmas.{takes_end}
use Rattle.client_run.proofs.talking.last.Goals as goal

pub returns-in-Ok-NoLine-clause-ends : goal.returns-in-Ok-NoLine-clause-ends
returns-in-Ok-NoLine-clause-ends g c = λ given put full.
    let old = prepend_known c.args.reader.now (g.S.Source.left c.args.source.now) in
    let new = prepend_known c.next_line.new.self (g.S.Source.left c.next_line.new.source) in
    c.close.ensures.ends given old new put (takes_end old new (subst (λ read. Reads old new read) c.in-Ok-NoLine.field-0-is c.in-Ok-NoLine.ensures.reads))
