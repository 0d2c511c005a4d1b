use Rattle.std.proofs.Common.{◌∙◌, ◌+◌, ◌<◌, [], length, ap, ap₂, arith, sym, subst, if◌then◌else◌}
use Rattle.std.specs.List.{slice_get}
use Rattle.bosh_types.specs.declared.condition.Condition.TheVariants.{UndefinedCondition}
use Rattle.script_text.specs.declared.manager.Changed.{Changed}
use Rattle.script_text.specs.Manager.{at_host, has_room, opened_turn, opening_by, refused, with_opened}
use Rattle.script_text.specs.Stands.{IsChange, IsTurn}
use Rattle.script_text.proofs.LiveLemmas.{IfOk-from}
use Rattle.script_text.proofs.ManagerLemmas.{host_at, live_length, none_live, rest_until}
use Rattle.script_text.proofs.RestLemmas.{rest_more, rest_of}
use Rattle.script_text.proofs.manager.Manager.create_at.Goals as goal

pub returns-then-not-has_room : goal.returns-then-not-has_room
returns-then-not-has_room c = IfOk-from c.refuse-then-not-has_room.result _ _ (λ changed it m is.
    let host = host_at m.hosts c.args.place (subst (λ hosts. c.args.place < length hosts) is.hosts (omega (arith, c.if-place-len.false, c.len.ensures))) in
    let conn = c.args.post.now.conn in
    let number = m.opened + 1 in
    let o = opening_by host.0 number c.args.post.now.body c.args.post.now.request c.args.creation.now m.moment in
    subst (λ at. IsChange changed (at_host m conn c.args.post.now.body c.args.post.now.request c.args.creation.now at)) (sym host.1)
    (subst (λ b. IsChange changed (if b then with_opened m number (opened_turn number conn o) else refused m conn UndefinedCondition))
    (sym c.if-not-has_room.true ∙ c.has_room.ensures.room ∙ ap₂ has_room (live_length c.args.self.live.items m.live is.live) is.opened) (it m is)))
    c.refuse-then-not-has_room.ensures

pub returns : goal.returns
returns c = λ m is.
    let host = host_at m.hosts c.args.place (subst (λ hosts. c.args.place < length hosts) is.hosts (omega (arith, c.if-place-len.false, c.len.ensures))) in
    let conn = c.args.post.now.conn in
    let number = m.opened + 1 in
    let o = opening_by host.0 number c.args.post.now.body c.args.post.now.request c.args.creation.now m.moment in
    let changed : Changed = record {
      lines = c.in_ok-lines.field-0.lines;
      manager = record { hosts = c.args.self.hosts; moment = c.args.self.moment; begun = c.args.self.begun; opened = c.args.self.opened + 1; live = c.keep_live.new.kept; soonest = c.sooner-soonest.result };
      over = c.keep_live.new.over;
    } in
    let turn = subst (λ n. IsTurn c.in_ok-lines.field-0 (opened_turn number conn (opening_by host.0 number c.args.post.now.body c.args.post.now.request c.args.creation.now n))) is.moment
    (subst (λ k. IsTurn c.in_ok-lines.field-0 (opened_turn (k + 1) conn (opening_by host.0 (k + 1) c.args.post.now.body c.args.post.now.request c.args.creation.now c.args.self.moment))) is.opened
    (c.in_ok-lines.ensures host.0 (ap (λ hosts. slice_get hosts c.args.place) is.hosts ∙ host.1))) in
    subst (λ at. IsChange changed (at_host m conn c.args.post.now.body c.args.post.now.request c.args.creation.now at)) (sym host.1)
    (subst (λ b. IsChange changed (if b then with_opened m number (opened_turn number conn o) else refused m conn UndefinedCondition))
    (sym c.if-not-has_room.false ∙ c.has_room.ensures.room ∙ ap₂ has_room (live_length c.args.self.live.items m.live is.live) is.opened)
    (record {
      lines = turn.lines;
      over = c.in_ok-keep_live.ensures.over (opened_turn number conn o).after turn.live [] (none_live _ c.new-over.ensures.items);
      manager = record {
        hosts = is.hosts;
        moment = is.moment;
        begun = is.begun;
        opened = ap (λ k. k + 1) is.opened;
        live = c.in_ok-keep_live.ensures.live (opened_turn number conn o).after turn.live m.live is.live;
        rest = rest_more _ (opened_turn number conn o).after m.live (rest_until _ _ m.live c.sooner-soonest.ensures.first is.rest)
            (rest_of c.due.result _ (opened_turn number conn o).after (c.due.ensures (opened_turn number conn o).after turn.live) c.sooner-soonest.ensures.other);
      };
    }))
