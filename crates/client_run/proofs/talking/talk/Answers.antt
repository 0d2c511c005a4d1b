use Rattle.std.proofs.Common.{subst}
use Rattle.parked_gate.specs.Passes.{known}
use Rattle.client_run.specs.Handing.{out_of}
use Rattle.client_run.specs.Talking.{Talks}
use Rattle.client_run.proofs.InputLemmas.{talks_bad, talks_done}
use Rattle.client_run.proofs.TalkLemmas.{talks_adds}
use Rattle.client_run.proofs.talking.talk.Goals as goal

pub returns-clause-adds : goal.returns-clause-adds
returns-clause-adds g c = talks_adds _ (out_of (known c.speak.new.pass) (g.K.Sink.given c.speak.new.sink)) (g.S.Source.left c.speak.new.source) c.speak.result c.speak.ensures.talks

pub returns-clause-bad : goal.returns-clause-bad
returns-clause-bad g c = λ line is.
    talks_bad (out_of (known c.args.pass.now) (g.K.Sink.given c.args.sink.now)) (out_of (known c.speak.new.pass) (g.K.Sink.given c.speak.new.sink)) (g.S.Source.left c.args.source.now) (g.S.Source.left c.speak.new.source) line
    (subst (Talks _ (out_of (known c.speak.new.pass) (g.K.Sink.given c.speak.new.sink)) (g.S.Source.left c.speak.new.source)) is c.speak.ensures.talks)

pub returns-clause-done : goal.returns-clause-done
returns-clause-done g c = λ is.
    talks_done (out_of (known c.args.pass.now) (g.K.Sink.given c.args.sink.now)) (out_of (known c.speak.new.pass) (g.K.Sink.given c.speak.new.sink)) (g.S.Source.left c.args.source.now) (g.S.Source.left c.speak.new.source)
    (subst (Talks _ (out_of (known c.speak.new.pass) (g.K.Sink.given c.speak.new.sink)) (g.S.Source.left c.speak.new.source)) is c.speak.ensures.talks)
