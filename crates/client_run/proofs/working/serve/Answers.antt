use Rattle.std.proofs.Common.{rules, sym, subst, Some, None}
use Rattle.std.specs.Prelude.{Ok}
use Rattle.std.specs.Option.{option_map}
use Rattle.bosh_client.specs.declared.replies.Next.TheVariants as nexts
use Rattle.parked_gate.specs.Passes.{known}
use Rattle.client_run.specs.Asking.{AsksBy}
use Rattle.client_run.specs.Worked.{ServesBy, EndsBy}
use Rattle.client_run.specs.Working.{no_hand, no_row, setting_of, side_of, wire_of}
use Rattle.client_run.proofs.EndLemmas.{ends_ended, ends_halted, ends_spent, was_idle}
use Rattle.client_run.proofs.MoveLemmas.{asked_for, asked_none, looked}
use Rattle.client_run.proofs.RiseLemmas.{moves_begin}
use Rattle.client_run.proofs.working.serve.Goals as goal

pub returns-in-Err-clause-works : goal.returns-in-Err-clause-works
returns-in-Err-clause-works g c = λ start row moves.
    let so = c.loop.invariant.moves start row moves in
    record { hand = no_hand; row = so.0; moves = asked_none (setting_of (g.C.Clock.moment c.args.site.now.clock.now) c.args.site.now.port) start (known c.loop.pass) (known c.ask.new.pass) (g.N.Network.events c.loop.network) (g.N.Network.counts c.loop.network) (option_map (λ line. wire_of (g.N.Link.Link.left line.link) (g.N.Link.Link.given line.link) line.reader) c.loop.line) so.0 c.in-Err.field-0 c.in-Err.ensures.asks so.1; ends = tt }

pub returns-in-Ok-Some-clause-works : goal.returns-in-Ok-Some-clause-works
returns-in-Ok-Some-clause-works g c = λ start row moves.
    let so = c.loop.invariant.moves start row moves in
    let carried = subst (λ fault. ServesBy (setting_of (g.C.Clock.moment c.args.site.now.clock.now) c.args.site.now.port) start (side_of (known c.carry_all.new.pass) (g.N.Network.events c.carry_all.new.network) (g.N.Network.counts c.carry_all.new.network) (option_map (λ line. wire_of (g.N.Link.Link.left line.link) (g.N.Link.Link.given line.link) line.reader) c.carry_all.new.line) no_hand no_row) (Ok fault)) c.in-Ok-Some.field-0-is (c.in-Ok-Some.ensures.serves start (asked_for (setting_of (g.C.Clock.moment c.args.site.now.clock.now) c.args.site.now.port) start (known c.loop.pass) (known c.ask.new.pass) (g.N.Network.events c.loop.network) (g.N.Network.counts c.loop.network) (option_map (λ line. wire_of (g.N.Link.Link.left line.link) (g.N.Link.Link.given line.link) line.reader) c.loop.line) so.0 (nexts.Request c.in-Request.rid c.in-Request.body) (subst (λ next. AsksBy (setting_of (g.C.Clock.moment c.args.site.now.clock.now) c.args.site.now.port) (known c.loop.pass) (known c.ask.new.pass) (Ok next)) c.in-Request.is c.in-Ok.ensures.asks) so.1)) in
    record {
      hand = carried.0;
      row = carried.1;
      moves = carried.3;
      ends = subst (EndsBy (setting_of (g.C.Clock.moment c.args.site.now.clock.now) c.args.site.now.port) start.known.seen (known c.carry_all.new.pass).seen carried.1) (sym c.halted_by.ensures)
          (ends_halted (setting_of (g.C.Clock.moment c.args.site.now.clock.now) c.args.site.now.port) start.known.seen (known c.carry_all.new.pass).seen carried.1 c.in-Ok-Some.halt carried.2);
    }

pub returns-in-Err-carry_all-clause-works : goal.returns-in-Err-carry_all-clause-works
returns-in-Err-carry_all-clause-works g c = λ start row moves.
    let so = c.loop.invariant.moves start row moves in
    let carried = c.in-Err-carry_all.ensures.serves start (asked_for (setting_of (g.C.Clock.moment c.args.site.now.clock.now) c.args.site.now.port) start (known c.loop.pass) (known c.ask.new.pass) (g.N.Network.events c.loop.network) (g.N.Network.counts c.loop.network) (option_map (λ line. wire_of (g.N.Link.Link.left line.link) (g.N.Link.Link.given line.link) line.reader) c.loop.line) so.0 (nexts.Request c.in-Request.rid c.in-Request.body) (subst (λ next. AsksBy (setting_of (g.C.Clock.moment c.args.site.now.clock.now) c.args.site.now.port) (known c.loop.pass) (known c.ask.new.pass) (Ok next)) c.in-Request.is c.in-Ok.ensures.asks) so.1) in
    record { hand = carried.0; row = carried.1; moves = carried.2; ends = tt }

pub loop-preserved-in-Request : goal.loop-preserved-in-Request
loop-preserved-in-Request g c = record {
  next = tt;
  finite = tt;
  pass = search rules;
  faultless = search rules;
  silences = search rules;
  moves = λ start row moves.
      let so = c.loop.invariant.moves start row moves in
      subst (λ fault. ServesBy (setting_of (g.C.Clock.moment c.args.site.now.clock.now) c.args.site.now.port) start (side_of (known c.carry_all.new.pass) (g.N.Network.events c.carry_all.new.network) (g.N.Network.counts c.carry_all.new.network) (option_map (λ line. wire_of (g.N.Link.Link.left line.link) (g.N.Link.Link.given line.link) line.reader) c.carry_all.new.line) no_hand no_row) (Ok fault)) c.in-Ok-None.field-0-is (c.in-Ok-None.ensures.serves start (asked_for (setting_of (g.C.Clock.moment c.args.site.now.clock.now) c.args.site.now.port) start (known c.loop.pass) (known c.ask.new.pass) (g.N.Network.events c.loop.network) (g.N.Network.counts c.loop.network) (option_map (λ line. wire_of (g.N.Link.Link.left line.link) (g.N.Link.Link.given line.link) line.reader) c.loop.line) so.0 (nexts.Request c.in-Request.rid c.in-Request.body) (subst (λ next. AsksBy (setting_of (g.C.Clock.moment c.args.site.now.clock.now) c.args.site.now.port) (known c.loop.pass) (known c.ask.new.pass) (Ok next)) c.in-Request.is c.in-Ok.ensures.asks) so.1));
}

pub returns-in-RidsSpent-clause-works : goal.returns-in-RidsSpent-clause-works
returns-in-RidsSpent-clause-works g c = λ start row moves.
    let so = c.loop.invariant.moves start row moves in
    record { hand = no_hand; row = no_row; moves = asked_for (setting_of (g.C.Clock.moment c.args.site.now.clock.now) c.args.site.now.port) start (known c.loop.pass) (known c.ask.new.pass) (g.N.Network.events c.loop.network) (g.N.Network.counts c.loop.network) (option_map (λ line. wire_of (g.N.Link.Link.left line.link) (g.N.Link.Link.given line.link) line.reader) c.loop.line) so.0 nexts.RidsSpent (subst (λ next. AsksBy (setting_of (g.C.Clock.moment c.args.site.now.clock.now) c.args.site.now.port) (known c.loop.pass) (known c.ask.new.pass) (Ok next)) c.in-RidsSpent.is c.in-Ok.ensures.asks) so.1; ends = ends_spent (setting_of (g.C.Clock.moment c.args.site.now.clock.now) c.args.site.now.port) (known c.loop.pass) (known c.ask.new.pass) start.known.seen (subst (λ next. AsksBy (setting_of (g.C.Clock.moment c.args.site.now.clock.now) c.args.site.now.port) (known c.loop.pass) (known c.ask.new.pass) (Ok next)) c.in-RidsSpent.is c.in-Ok.ensures.asks) }

pub returns-in-Some-look-clause-works : goal.returns-in-Some-look-clause-works
returns-in-Some-look-clause-works g c = λ start row moves.
    let so = c.loop.invariant.moves start row moves in
    record {
      hand = no_hand;
      row = no_row;
      moves = looked (setting_of (g.C.Clock.moment c.args.site.now.clock.now) c.args.site.now.port) start (known c.ask.new.pass) (known c.look.new.pass) (g.N.Network.events c.loop.network) (g.N.Network.counts c.loop.network) (option_map (λ line. wire_of (g.N.Link.Link.left line.link) (g.N.Link.Link.given line.link) line.reader) c.loop.line) no_hand no_row _ c.in-Some-look.ensures.looks (asked_for (setting_of (g.C.Clock.moment c.args.site.now.clock.now) c.args.site.now.port) start (known c.loop.pass) (known c.ask.new.pass) (g.N.Network.events c.loop.network) (g.N.Network.counts c.loop.network) (option_map (λ line. wire_of (g.N.Link.Link.left line.link) (g.N.Link.Link.given line.link) line.reader) c.loop.line) so.0 nexts.Nothing (subst (λ next. AsksBy (setting_of (g.C.Clock.moment c.args.site.now.clock.now) c.args.site.now.port) (known c.loop.pass) (known c.ask.new.pass) (Ok next)) c.in-Nothing.is c.in-Ok.ensures.asks) so.1);
      ends = subst (EndsBy (setting_of (g.C.Clock.moment c.args.site.now.clock.now) c.args.site.now.port) start.known.seen (known c.look.new.pass).seen no_row) (sym c.ended_by.ensures) (ends_ended (setting_of (g.C.Clock.moment c.args.site.now.clock.now) c.args.site.now.port) start.known.seen (known c.ask.new.pass) (known c.look.new.pass) no_row c.in-Some-look.end c.in-Some-look.ensures.looks);
    }

pub returns-then-eq-clause-works : goal.returns-then-eq-clause-works
returns-then-eq-clause-works g c = λ start row moves.
    let so = c.loop.invariant.moves start row moves in
    record {
      hand = no_hand;
      row = no_row;
      moves = looked (setting_of (g.C.Clock.moment c.args.site.now.clock.now) c.args.site.now.port) start (known c.ask.new.pass) (known c.look.new.pass) (g.N.Network.events c.loop.network) (g.N.Network.counts c.loop.network) (option_map (λ line. wire_of (g.N.Link.Link.left line.link) (g.N.Link.Link.given line.link) line.reader) c.loop.line) no_hand no_row c.look.result c.look.ensures.looks (asked_for (setting_of (g.C.Clock.moment c.args.site.now.clock.now) c.args.site.now.port) start (known c.loop.pass) (known c.ask.new.pass) (g.N.Network.events c.loop.network) (g.N.Network.counts c.loop.network) (option_map (λ line. wire_of (g.N.Link.Link.left line.link) (g.N.Link.Link.given line.link) line.reader) c.loop.line) so.0 nexts.Nothing (subst (λ next. AsksBy (setting_of (g.C.Clock.moment c.args.site.now.clock.now) c.args.site.now.port) (known c.loop.pass) (known c.ask.new.pass) (Ok next)) c.in-Nothing.is c.in-Ok.ensures.asks) so.1);
      ends = was_idle (setting_of (g.C.Clock.moment c.args.site.now.clock.now) c.args.site.now.port) start.known.seen (known c.loop.pass) (known c.ask.new.pass) (known c.look.new.pass) c.look.result
          (moves_begin (setting_of (g.C.Clock.moment c.args.site.now.clock.now) c.args.site.now.port) start (side_of (known c.loop.pass) (g.N.Network.events c.loop.network) (g.N.Network.counts c.loop.network) (option_map (λ line. wire_of (g.N.Link.Link.left line.link) (g.N.Link.Link.given line.link) line.reader) c.loop.line) no_hand so.0) so.1) (subst (λ next. AsksBy (setting_of (g.C.Clock.moment c.args.site.now.clock.now) c.args.site.now.port) (known c.loop.pass) (known c.ask.new.pass) (Ok next)) c.in-Nothing.is c.in-Ok.ensures.asks) c.look.ensures.looks;
    }

pub loop-preserved : goal.loop-preserved
loop-preserved g c = record {
  next = tt;
  finite = tt;
  pass = search rules;
  faultless = search rules;
  silences = search rules;
  moves = λ start row moves.
      let so = c.loop.invariant.moves start row moves in
      (no_row, looked (setting_of (g.C.Clock.moment c.args.site.now.clock.now) c.args.site.now.port) start (known c.ask.new.pass) (known c.look.new.pass) (g.N.Network.events c.loop.network) (g.N.Network.counts c.loop.network) (option_map (λ line. wire_of (g.N.Link.Link.left line.link) (g.N.Link.Link.given line.link) line.reader) c.loop.line) no_hand no_row c.look.result c.look.ensures.looks (asked_for (setting_of (g.C.Clock.moment c.args.site.now.clock.now) c.args.site.now.port) start (known c.loop.pass) (known c.ask.new.pass) (g.N.Network.events c.loop.network) (g.N.Network.counts c.loop.network) (option_map (λ line. wire_of (g.N.Link.Link.left line.link) (g.N.Link.Link.given line.link) line.reader) c.loop.line) so.0 nexts.Nothing (subst (λ next. AsksBy (setting_of (g.C.Clock.moment c.args.site.now.clock.now) c.args.site.now.port) (known c.loop.pass) (known c.ask.new.pass) (Ok next)) c.in-Nothing.is c.in-Ok.ensures.asks) so.1));
}
