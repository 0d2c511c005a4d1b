use Rattle.std.proofs.Common.{◌∙◌, sym, subst}
use Rattle.std.specs.Prelude.{Option}
use Rattle.body_cutter.specs.Begun.{HasBegun}
use Rattle.body_cutter.specs.declared.stanza_cutter.StanzaCutter.{StanzaCutter}
use Rattle.xmpp_stream.specs.Cut.{Scanning}
use Rattle.xmpp_stream.proofs.scan.Scan.begun.Goals as goal

pub returns-in-Some-clause-begun : goal.returns-in-Some-clause-begun
returns-in-Some-clause-begun c = λ front s. subst (λ (o : Option StanzaCutter). Scanning o front) (sym c.take.ensures.value ∙ c.in-Some.is) s.1

pub returns-in-None-clause-begun : goal.returns-in-None-clause-begun
returns-in-None-clause-begun c = λ front s.
    subst (HasBegun c.new.result) (sym (subst (λ (o : Option StanzaCutter). Scanning o front) (sym c.take.ensures.value ∙ c.in-None.is) s.1)) c.new.ensures
