use Rattle.std.proofs.Common.{rules, ℕ, ◌==◌, not}
use Rattle.std.proofs.lemmas.Fn.{filter_same}
use Rattle.xmpp_backend.proofs.wires.Wires.remove.Goals as goal

pub returns : goal.returns
returns c = rw (← c.self.view_is) (filter_same _ (λ (other : ℕ). not (other == c.args.wire)) _ (λ x b f' k. search rules) _ _ c.retain.ensures.filtered)
