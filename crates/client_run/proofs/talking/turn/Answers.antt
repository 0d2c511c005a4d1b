use Rattle.std.proofs.Common.{sym, subst}
use Rattle.std.specs.Prelude.{IsTrue}
use Rattle.std.specs.Io.KnownBytes.{prepend_known}
use Rattle.body_cutter.specs.Cutting.{is_stanza}
use Rattle.client_run.specs.Talking.{Takes}
use Rattle.client_run.proofs.TurnLemmas.{takes_stanza}
use Rattle.client_run.proofs.talking.turn.Goals as goal

pub say-requires-clause-stanza : goal.say-requires-clause-stanza
say-requires-clause-stanza g c =
    let old = prepend_known c.args.reader.now (g.S.Source.left c.args.source.now) in
    let new = prepend_known c.next_input.new.reader (g.S.Source.left c.next_input.new.source) in
    subst (λ s. IsTrue (is_stanza s)) (sym c.as_slice.ensures) (takes_stanza old new c.in-Stanza.stanza (subst (λ input. Takes old new input) c.in-Stanza.is c.in-Ok.ensures.takes))
