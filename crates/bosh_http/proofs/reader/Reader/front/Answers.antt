use Rattle.std.proofs.Common.{subst, IfOk}
use Rattle.bosh_http.specs.Heads.{IsHeadless}
use Rattle.bosh_http.specs.Reader.{FrontBy}
use Rattle.bosh_http.proofs.reader.Reader.front.Goals as goal

pub returns-in-Whole-clause-front : goal.returns-in-Whole-clause-front
returns-in-Whole-clause-front g c =
    let h = g.H.Heads in
    subst (λ seen. IfOk c.message.result (FrontBy h.reads h.denies (IsHeadless h.lacks h.begins c.args.is_all) seen c.message.new.self)) c.in_ok-head.ensures.same (c.message.ensures.front c.args.is_all)
