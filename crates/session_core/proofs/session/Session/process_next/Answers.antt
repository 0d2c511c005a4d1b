use Rattle.std.proofs.Common.{◌≡◌, ◌∙◌, Some, sym, ap}
use Rattle.session_core.specs.Machine.{next_copy}
use Rattle.session_core.proofs.session.Session.process_next.Goals as goal

pub returns : goal.returns
returns c = λ plain stands.
    let found : next_copy plain ≡ Some c.get.result.now = sym (c.in_ok-copy.ensures plain stands) ∙ c.in-Some.is ∙ ap Some (sym c.get.ensures) in
    (c.get.result.now, found, c.in_ok-process.ensures plain stands found)
