use Rattle.std.proofs.Common.{◌≡◌, ◌∷◌, ℕ, List, None, Some, subst, sym}
use Rattle.std.specs.Prelude.{Option, Ok}
use Rattle.std.specs.Option.{option_map}
use Rattle.parked_gate.specs.Passes.{known}
use Rattle.client_run.specs.Asking.{CopiesBy}
use Rattle.client_run.specs.Working.{Moves, holding, no_row, owing, setting_of, side_of, wire_of}
use Rattle.client_run.proofs.MoveLemmas.{copied, copied_none}
use Rattle.client_run.proofs.repeating.carry_copy.Goals as goal

pub returns-in-Err-clause-carries : goal.returns-in-Err-clause-carries
returns-in-Err-clause-carries g c = λ start again row moves. (
  owing (c.args.rid ∷ again),
  row,
  copied_none (setting_of (g.C.Clock.moment c.args.site.now.clock.now) c.args.site.now.port) start (known c.args.pass.now) (known c.copy_of.new.pass) (g.N.Network.events c.args.network.now) (g.N.Network.counts c.args.network.now)
      (option_map (λ line. wire_of (g.N.Link.Link.left line.link) (g.N.Link.Link.given line.link) line.reader) c.args.line.now) c.args.rid (owing (c.args.rid ∷ again)) row c.in-Err.field-0 c.in-Err.ensures.copies moves,
)

pub returns-in-None-clause-carries : goal.returns-in-None-clause-carries
returns-in-None-clause-carries g c = λ start again row moves. copied (setting_of (g.C.Clock.moment c.args.site.now.clock.now) c.args.site.now.port) start (known c.args.pass.now) (known c.copy_of.new.pass) (g.N.Network.events c.args.network.now) (g.N.Network.counts c.args.network.now) (option_map (λ line. wire_of (g.N.Link.Link.left line.link) (g.N.Link.Link.given line.link) line.reader) c.args.line.now) c.args.rid again row None (subst (λ body. CopiesBy c.args.rid (known c.args.pass.now) (known c.copy_of.new.pass) (Ok body)) c.in-None.is c.in-Ok.ensures.copies) moves

pub returns-in-Err-new-clause-carries : goal.returns-in-Err-new-clause-carries
returns-in-Err-new-clause-carries g c = λ start again row moves. (
  holding c.args.rid c.in-Some.body again,
  no_row,
  copied (setting_of (g.C.Clock.moment c.args.site.now.clock.now) c.args.site.now.port) start (known c.args.pass.now) (known c.copy_of.new.pass) (g.N.Network.events c.args.network.now) (g.N.Network.counts c.args.network.now) (option_map (λ line. wire_of (g.N.Link.Link.left line.link) (g.N.Link.Link.given line.link) line.reader) c.args.line.now) c.args.rid again row (Some c.in-Some.body) (subst (λ body. CopiesBy c.args.rid (known c.args.pass.now) (known c.copy_of.new.pass) (Ok body)) c.in-Some.is c.in-Ok.ensures.copies) moves,
)

pub returns-clause-carries : goal.returns-clause-carries
returns-clause-carries g c = λ start again row moves.
    c.carry.ensures.carries start again
    (subst (λ body. Moves (setting_of (g.C.Clock.moment c.args.site.now.clock.now) c.args.site.now.port) start (side_of (known c.copy_of.new.pass) (g.N.Network.events c.args.network.now) (g.N.Network.counts c.args.network.now) (option_map (λ line. wire_of (g.N.Link.Link.left line.link) (g.N.Link.Link.given line.link) line.reader) c.args.line.now) (holding c.args.rid body again) no_row))
    (sym c.in-Ok-new.ensures)
    (copied (setting_of (g.C.Clock.moment c.args.site.now.clock.now) c.args.site.now.port) start (known c.args.pass.now) (known c.copy_of.new.pass) (g.N.Network.events c.args.network.now) (g.N.Network.counts c.args.network.now) (option_map (λ line. wire_of (g.N.Link.Link.left line.link) (g.N.Link.Link.given line.link) line.reader) c.args.line.now) c.args.rid again row (Some c.in-Some.body) (subst (λ body. CopiesBy c.args.rid (known c.args.pass.now) (known c.copy_of.new.pass) (Ok body)) c.in-Some.is c.in-Ok.ensures.copies) moves))
