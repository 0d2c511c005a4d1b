use Rattle.std.proofs.Common.{ap, sym, ◌∙◌}
use Rattle.std.specs.Option.{option_copied}
use Rattle.bosh_client.specs.AnswerMeaning.{naming_by, naming_of}
use Rattle.bosh_client.proofs.NamingLemmas.{name_found, name_none}
use Rattle.bosh_client.proofs.said.naming_of.Goals as goal

pub returns-in-Some-stream_named : goal.returns-in-Some-stream_named
returns-in-Some-stream_named c =
    sym (ap naming_of (ap option_copied c.in-Some.is) ∙ ap naming_by (name_found _ c.in-Some.name.now c.in-Some-stream_named.ensures.small c.in-Some-stream_named.ensures.number))

pub returns-in-None : goal.returns-in-None
returns-in-None c = sym (ap naming_of (ap option_copied c.in-Some.is) ∙ ap naming_by (name_none c.in-Some.name.now c.in-None.ensures.refused))
