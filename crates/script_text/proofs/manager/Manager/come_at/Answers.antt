use Rattle.std.proofs.Common.{◌++◌, List, [], take, drop, refl, sym, subst}
use Rattle.std.proofs.lemmas.Option.{slice_get_read}
use Rattle.script_text.specs.Live.{PlainLive, if_live, turn_at}
use Rattle.script_text.specs.Manager.{comes_at}
use Rattle.script_text.specs.Stands.{AreLive, IsChange, IsTurn}
use Rattle.script_text.proofs.ManagerLemmas.{back_at, live_at, none_live, rest_until}
use Rattle.script_text.proofs.RestLemmas.{rest_at, rest_of}
use Rattle.script_text.proofs.manager.Manager.come_at.Goals as goal

pub returns : goal.returns
returns c = λ m is otherwise.
    let at = live_at c.args.self.live.items m.live c.args.place c.remove-live.result is.live
    (slice_get_read c.args.self.live.items _ c.args.place c.remove-live.result refl c.requires.within c.remove-live.ensures.value) in
    let turn = subst (λ n. IsTurn c.in_ok-lines.field-0 (turn_at n c.args.event at.0)) is.moment (c.in_ok-lines.ensures at.0 at.2) in
    subst (λ o. IsChange (record {
      lines = c.in_ok-lines.field-0.lines;
      manager = record { hosts = c.args.self.hosts; moment = c.args.self.moment; begun = c.args.self.begun; opened = c.args.self.opened; live = c.insert_live.new.lives; soonest = c.sooner-self.result };
      over = c.insert_live.new.over;
    }) (comes_at m c.args.event otherwise c.args.place o)) (sym at.1) (record {
      lines = turn.lines;
      over = c.in_ok-insert_live.ensures.over (turn_at m.moment c.args.event at.0).after turn.live [] (none_live _ c.new-over.ensures.items);
      manager = record {
        hosts = is.hosts;
        moment = is.moment;
        begun = is.begun;
        opened = is.opened;
        live = back_at c.args.place c.args.self.live.items _ m.live (turn_at m.moment c.args.event at.0).after is.live c.requires.within
            (subst (λ (l : List _). (ts : List PlainLive) → AreLive l ts
            → AreLive c.insert_live.new.lives.items (take c.args.place ts ++ (if_live (turn_at m.moment c.args.event at.0).after ++ drop c.args.place ts)))
            c.remove-live.ensures.items (c.in_ok-insert_live.ensures.live (turn_at m.moment c.args.event at.0).after turn.live));
        rest = rest_at c.args.place _ (turn_at m.moment c.args.event at.0).after m.live (rest_until _ _ m.live c.sooner-self.ensures.first is.rest)
            (rest_of c.due.result _ (turn_at m.moment c.args.event at.0).after (c.due.ensures (turn_at m.moment c.args.event at.0).after turn.live) c.sooner-self.ensures.other);
      };
    })
