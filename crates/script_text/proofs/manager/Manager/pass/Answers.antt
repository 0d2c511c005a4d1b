use Rattle.std.proofs.Common.{refl, sym, subst, ◌∙◌}
use Rattle.script_text.specs.Stands.{AreLive, IsManager}
use Rattle.script_text.proofs.ManagerLemmas.{none_live}
use Rattle.script_text.proofs.RestLemmas.{passes_by, rest_same}
use Rattle.script_text.proofs.manager.Manager.pass.Goals as goal

pub returns : goal.returns
returns c = λ m is.
    let passes = passes_by c.args.self.soonest c.args.now m.live c.is_due_by.ensures.range (c.is_due_by.ensures.before c.if-is_due_by.false) is.rest in
    record {
      lines = c.new.ensures.items ∙ sym passes.0;
      over = subst (λ l. AreLive c.new-2.result.items l) (sym passes.2) (none_live _ c.new-2.ensures.items);
      manager = record {
        hosts = is.hosts;
        moment = refl;
        begun = is.begun;
        opened = is.opened;
        live = subst (λ l. AreLive c.args.self.live.items l) (sym passes.1) is.live;
        rest = rest_same c.args.self.soonest m.live _ (sym passes.1) is.rest;
      };
    }
