use Rattle.std.proofs.Common.{rules, arith, ◌≡◌, ◌∙◌, ◌≤◌, ◌+◌, ◌∷◌, ◌++◌, ℕ, List, ap, subst, sym}
use Rattle.std.specs.Prelude.{Ok}
use Rattle.std.specs.Option.{option_map}
use Rattle.parked_gate.specs.Passes.{known}
use Rattle.client_run.specs.declared.carrying.Carried.TheVariants.{Again}
use Rattle.client_run.specs.Worked.{CarriesBy, CarriesUpTo}
use Rattle.client_run.specs.Working.{Moves, ids_between, no_row, owing, setting_of, side_of, wire_of}
use Rattle.client_run.proofs.IdLemmas.{ids_first, ids_join, ids_none}
use Rattle.client_run.proofs.repeating.carry_copies.Goals as goal

pub loop-init : goal.loop-init
loop-init g c = record {
  next = tt;
  finite = tt;
  pass = search rules;
  faultless = search rules;
  silences = search rules;
  some = omega (arith, c.value-next.ensures.value, c.value-next.ensures.in_range.0);
  moves = λ start row moves. (
    row,
    subst (λ n. Moves (setting_of (g.C.Clock.moment c.args.site.now.clock.now) c.args.site.now.port) start (side_of (known c.args.pass.now) (g.N.Network.events c.args.network.now) (g.N.Network.counts c.args.network.now) (option_map (λ line. wire_of (g.N.Link.Link.left line.link) (g.N.Link.Link.given line.link) line.reader) c.args.line.now) (owing (ids_between n c.args.last)) row)) (sym c.value-next.ensures.value) moves,
  );
}

pub returns-in-None-id_up_to-clause-serves : goal.returns-in-None-id_up_to-clause-serves
returns-in-None-id_up_to-clause-serves g c = λ start row moves.
    let so = c.loop.invariant.moves start row moves in
    (so.0, subst (λ (again : List ℕ). Moves (setting_of (g.C.Clock.moment c.args.site.now.clock.now) c.args.site.now.port) start (side_of (known c.loop.pass) (g.N.Network.events c.loop.network) (g.N.Network.counts c.loop.network) (option_map (λ line. wire_of (g.N.Link.Link.left line.link) (g.N.Link.Link.given line.link) line.reader) c.loop.line) (owing again) so.0)) (ids_none c.loop.next c.args.last (c.in-None-id_up_to.ensures c.loop.invariant.some)) so.1)

pub returns-in-Err-clause-serves : goal.returns-in-Err-clause-serves
returns-in-Err-clause-serves g c = λ start row moves.
    let so = c.loop.invariant.moves start row moves in
    let at = c.in-Some-id_up_to.ensures c.loop.invariant.some in
    let ids : ids_between c.loop.next c.args.last ≡ c.in-Some-id_up_to.rid ∷ ids_between (c.in-Some-id_up_to.rid + 1) c.args.last =
    ap (λ n. ids_between n c.args.last) (sym at.1) ∙ ids_first c.in-Some-id_up_to.rid c.args.last (subst (λ n. n ≤ c.args.last) (sym at.1) at.0) in
    let owed = subst (λ (again : List ℕ). Moves (setting_of (g.C.Clock.moment c.args.site.now.clock.now) c.args.site.now.port) start (side_of (known c.loop.pass) (g.N.Network.events c.loop.network) (g.N.Network.counts c.loop.network) (option_map (λ line. wire_of (g.N.Link.Link.left line.link) (g.N.Link.Link.given line.link) line.reader) c.loop.line) (owing again) so.0)) ids so.1 in
    c.in-Err.ensures.carries start (ids_between (c.in-Some-id_up_to.rid + 1) c.args.last) so.0 owed

pub returns-in-Halted-clause-serves : goal.returns-in-Halted-clause-serves
returns-in-Halted-clause-serves g c = λ start row moves.
    let so = c.loop.invariant.moves start row moves in
    let at = c.in-Some-id_up_to.ensures c.loop.invariant.some in
    let ids : ids_between c.loop.next c.args.last ≡ c.in-Some-id_up_to.rid ∷ ids_between (c.in-Some-id_up_to.rid + 1) c.args.last =
    ap (λ n. ids_between n c.args.last) (sym at.1) ∙ ids_first c.in-Some-id_up_to.rid c.args.last (subst (λ n. n ≤ c.args.last) (sym at.1) at.0) in
    let owed = subst (λ (again : List ℕ). Moves (setting_of (g.C.Clock.moment c.args.site.now.clock.now) c.args.site.now.port) start (side_of (known c.loop.pass) (g.N.Network.events c.loop.network) (g.N.Network.counts c.loop.network) (option_map (λ line. wire_of (g.N.Link.Link.left line.link) (g.N.Link.Link.given line.link) line.reader) c.loop.line) (owing again) so.0)) ids so.1 in
    subst (λ carried. CarriesBy (setting_of (g.C.Clock.moment c.args.site.now.clock.now) c.args.site.now.port) start (side_of (known c.carry_copy.new.pass) (g.N.Network.events c.carry_copy.new.network) (g.N.Network.counts c.carry_copy.new.network) (option_map (λ line. wire_of (g.N.Link.Link.left line.link) (g.N.Link.Link.given line.link) line.reader) c.carry_copy.new.line) (owing (ids_between (c.in-Some-id_up_to.rid + 1) c.args.last)) no_row) (Ok carried)) c.in-Halted.is (c.in-Ok.ensures.carries start (ids_between (c.in-Some-id_up_to.rid + 1) c.args.last) so.0 owed)

pub loop-preserved-in-Taken : goal.loop-preserved-in-Taken
loop-preserved-in-Taken g c = record {
  next = tt;
  finite = tt;
  pass = search rules;
  faultless = search rules;
  silences = search rules;
  some = omega arith;
  moves = λ start row moves.
      let so = c.loop.invariant.moves start row moves in
      let at = c.in-Some-id_up_to.ensures c.loop.invariant.some in
      let ids : ids_between c.loop.next c.args.last ≡ c.in-Some-id_up_to.rid ∷ ids_between (c.in-Some-id_up_to.rid + 1) c.args.last =
      ap (λ n. ids_between n c.args.last) (sym at.1) ∙ ids_first c.in-Some-id_up_to.rid c.args.last (subst (λ n. n ≤ c.args.last) (sym at.1) at.0) in
      let owed = subst (λ (again : List ℕ). Moves (setting_of (g.C.Clock.moment c.args.site.now.clock.now) c.args.site.now.port) start (side_of (known c.loop.pass) (g.N.Network.events c.loop.network) (g.N.Network.counts c.loop.network) (option_map (λ line. wire_of (g.N.Link.Link.left line.link) (g.N.Link.Link.given line.link) line.reader) c.loop.line) (owing again) so.0)) ids so.1 in
      (no_row, subst (λ n. Moves (setting_of (g.C.Clock.moment c.args.site.now.clock.now) c.args.site.now.port) start (side_of (known c.carry_copy.new.pass) (g.N.Network.events c.carry_copy.new.network) (g.N.Network.counts c.carry_copy.new.network) (option_map (λ line. wire_of (g.N.Link.Link.left line.link) (g.N.Link.Link.given line.link) line.reader) c.carry_copy.new.line) (owing (ids_between (n + 1) c.args.last)) no_row)) (sym c.value-next-in-Taken.ensures.value) (subst (λ carried. CarriesBy (setting_of (g.C.Clock.moment c.args.site.now.clock.now) c.args.site.now.port) start (side_of (known c.carry_copy.new.pass) (g.N.Network.events c.carry_copy.new.network) (g.N.Network.counts c.carry_copy.new.network) (option_map (λ line. wire_of (g.N.Link.Link.left line.link) (g.N.Link.Link.given line.link) line.reader) c.carry_copy.new.line) (owing (ids_between (c.in-Some-id_up_to.rid + 1) c.args.last)) no_row) (Ok carried)) c.in-Taken.is (c.in-Ok.ensures.carries start (ids_between (c.in-Some-id_up_to.rid + 1) c.args.last) so.0 owed)));
}

pub loop-preserved : goal.loop-preserved
loop-preserved g c = record {
  next = tt;
  finite = tt;
  pass = search rules;
  faultless = search rules;
  silences = search rules;
  some = omega (arith, c.value-next-in-Again.ensures.value, c.value-next-in-Again.ensures.in_range.0);
  moves = λ start row moves.
      let so = c.loop.invariant.moves start row moves in
      let at = c.in-Some-id_up_to.ensures c.loop.invariant.some in
      let ids : ids_between c.loop.next c.args.last ≡ c.in-Some-id_up_to.rid ∷ ids_between (c.in-Some-id_up_to.rid + 1) c.args.last =
      ap (λ n. ids_between n c.args.last) (sym at.1) ∙ ids_first c.in-Some-id_up_to.rid c.args.last (subst (λ n. n ≤ c.args.last) (sym at.1) at.0) in
      let owed = subst (λ (again : List ℕ). Moves (setting_of (g.C.Clock.moment c.args.site.now.clock.now) c.args.site.now.port) start (side_of (known c.loop.pass) (g.N.Network.events c.loop.network) (g.N.Network.counts c.loop.network) (option_map (λ line. wire_of (g.N.Link.Link.left line.link) (g.N.Link.Link.given line.link) line.reader) c.loop.line) (owing again) so.0)) ids so.1 in
      let names : CarriesUpTo c.in-Some-id_up_to.rid (Again c.in-Again.first c.in-Again.last) = subst (CarriesUpTo c.in-Some-id_up_to.rid) c.in-Again.is c.in-Ok.ensures.names in
      let joined : ids_between c.in-Again.first c.in-Again.last ++ ids_between (c.in-Some-id_up_to.rid + 1) c.args.last ≡ ids_between c.in-Again.first c.args.last =
      ap (λ n. ids_between c.in-Again.first n ++ ids_between (c.in-Some-id_up_to.rid + 1) c.args.last) names.1 ∙ ids_join c.in-Again.first c.in-Some-id_up_to.rid c.args.last names.0 (subst (λ n. n ≤ c.args.last) (sym at.1) at.0) in
      (no_row, subst (λ n. Moves (setting_of (g.C.Clock.moment c.args.site.now.clock.now) c.args.site.now.port) start (side_of (known c.carry_copy.new.pass) (g.N.Network.events c.carry_copy.new.network) (g.N.Network.counts c.carry_copy.new.network) (option_map (λ line. wire_of (g.N.Link.Link.left line.link) (g.N.Link.Link.given line.link) line.reader) c.carry_copy.new.line) (owing (ids_between n c.args.last)) no_row)) (sym c.value-next-in-Again.ensures.value) (subst (λ (again : List ℕ). Moves (setting_of (g.C.Clock.moment c.args.site.now.clock.now) c.args.site.now.port) start (side_of (known c.carry_copy.new.pass) (g.N.Network.events c.carry_copy.new.network) (g.N.Network.counts c.carry_copy.new.network) (option_map (λ line. wire_of (g.N.Link.Link.left line.link) (g.N.Link.Link.given line.link) line.reader) c.carry_copy.new.line) (owing again) no_row)) joined (subst (λ carried. CarriesBy (setting_of (g.C.Clock.moment c.args.site.now.clock.now) c.args.site.now.port) start (side_of (known c.carry_copy.new.pass) (g.N.Network.events c.carry_copy.new.network) (g.N.Network.counts c.carry_copy.new.network) (option_map (λ line. wire_of (g.N.Link.Link.left line.link) (g.N.Link.Link.given line.link) line.reader) c.carry_copy.new.line) (owing (ids_between (c.in-Some-id_up_to.rid + 1) c.args.last)) no_row) (Ok carried)) c.in-Again.is (c.in-Ok.ensures.carries start (ids_between (c.in-Some-id_up_to.rid + 1) c.args.last) so.0 owed))));
}
