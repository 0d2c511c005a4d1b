use Rattle.std.proofs.Common.{◌∙◌, ap, drop}
use Rattle.bosh_http.proofs.TakenLemmas.{range_passed}
use Rattle.bosh_http.proofs.taken.Taken.pass.Goals as goal

pub returns : goal.returns
returns c =
    let room = c.self.inside.room in
    range_passed room.bytes.items room.start room.end c.args.count (rw c.self.view_is c.requires) ∙ ap (drop c.args.count) c.self.view_is
