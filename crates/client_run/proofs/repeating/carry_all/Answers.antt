use Rattle.std.proofs.Common.{◌≡◌, ◌∙◌, ◌≤◌, ◌++◌, ℕ, List, [], ap, subst, append-nil}
use Rattle.std.specs.Prelude.{Ok}
use Rattle.std.specs.Option.{option_map}
use Rattle.parked_gate.specs.Passes.{known}
use Rattle.client_run.specs.declared.carrying.Carried.TheVariants.{Again}
use Rattle.client_run.specs.Worked.{CarriesBy, CarriesUpTo}
use Rattle.client_run.specs.Working.{Moves, ids_between, no_hand, no_row, owing, setting_of, side_of, wire_of}
use Rattle.client_run.proofs.repeating.carry_all.Goals as goal

pub returns-in-Err-clause-serves : goal.returns-in-Err-clause-serves
returns-in-Err-clause-serves g c = λ start moves. c.in-Err.ensures.carries start [] moves

pub returns-in-Taken-clause-serves : goal.returns-in-Taken-clause-serves
returns-in-Taken-clause-serves g c = λ start moves. (no_row, subst (λ carried. CarriesBy (setting_of (g.C.Clock.moment c.args.site.now.clock.now) c.args.site.now.port) start (side_of (known c.carry.new.pass) (g.N.Network.events c.carry.new.network) (g.N.Network.counts c.carry.new.network) (option_map (λ line. wire_of (g.N.Link.Link.left line.link) (g.N.Link.Link.given line.link) line.reader) c.carry.new.line) no_hand no_row) (Ok carried)) c.in-Taken.is (c.in-Ok.ensures.carries start [] moves))

pub returns-in-Again-clause-serves : goal.returns-in-Again-clause-serves
returns-in-Again-clause-serves g c = λ start moves.
    let names : CarriesUpTo c.args.rid (Again c.in-Again.first c.in-Again.last) = subst (CarriesUpTo c.args.rid) c.in-Again.is c.in-Ok.ensures.names in
    let ids : ids_between c.in-Again.first c.in-Again.last ++ [] ≡ ids_between c.in-Again.first c.args.rid =
    append-nil (ids_between c.in-Again.first c.in-Again.last) ∙ ap (ids_between c.in-Again.first) names.1 in
    c.carry_copies.ensures.serves start no_row
    (subst (λ (again : List ℕ). Moves (setting_of (g.C.Clock.moment c.args.site.now.clock.now) c.args.site.now.port) start (side_of (known c.carry.new.pass) (g.N.Network.events c.carry.new.network) (g.N.Network.counts c.carry.new.network) (option_map (λ line. wire_of (g.N.Link.Link.left line.link) (g.N.Link.Link.given line.link) line.reader) c.carry.new.line) (owing again) no_row)) ids
    (subst (λ carried. CarriesBy (setting_of (g.C.Clock.moment c.args.site.now.clock.now) c.args.site.now.port) start (side_of (known c.carry.new.pass) (g.N.Network.events c.carry.new.network) (g.N.Network.counts c.carry.new.network) (option_map (λ line. wire_of (g.N.Link.Link.left line.link) (g.N.Link.Link.given line.link) line.reader) c.carry.new.line) no_hand no_row) (Ok carried)) c.in-Again.is (c.in-Ok.ensures.carries start [] moves)))

pub returns-in-Halted-clause-serves : goal.returns-in-Halted-clause-serves
returns-in-Halted-clause-serves g c = λ start moves. subst (λ carried. CarriesBy (setting_of (g.C.Clock.moment c.args.site.now.clock.now) c.args.site.now.port) start (side_of (known c.carry.new.pass) (g.N.Network.events c.carry.new.network) (g.N.Network.counts c.carry.new.network) (option_map (λ line. wire_of (g.N.Link.Link.left line.link) (g.N.Link.Link.given line.link) line.reader) c.carry.new.line) no_hand no_row) (Ok carried)) c.in-Halted.is (c.in-Ok.ensures.carries start [] moves)
