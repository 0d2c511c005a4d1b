use Rattle.std.proofs.Common.{◌≡◌, ◌∙◌, [], ap, map, sym, subst}
use Rattle.parked_gate.specs.Passes.{gate_of, known}
use Rattle.session_pump.specs.Pumping.{facts_of}
use Rattle.bosh_server.proofs.PumpLemmas.{has_run}
use Rattle.bosh_server.proofs.pumping.pump_to_end.Goals as goal

pub invariant_of-put-clause-home : goal.invariant_of-put-clause-home
invariant_of-put-clause-home g c = c.make_turns.ensures.pass ∙ ap (λ y. gate_of y.directory) c.deref-2.ensures ∙ c.args.post.home

pub invariant_of-put-clause-runs : goal.invariant_of-put-clause-runs
invariant_of-put-clause-runs g c =
    let port = g.E.Backend in
    let made = c.new_pump-pump in
    has_run port.told port.counts g.J.Naming.stands made.result c.make_turns.new.pump
    (subst (λ h. ∥ map (facts_of port.told port.counts) h.stands.items ≡ g.J.Naming.stands ∥₁) (sym made.ensures.hosts) c.args.post.stands)
    made.ensures.sessions made.ensures.lines made.ensures.dues
    (subst (λ p. ∥ (known p).mine ≡ [] ∥₁) (sym made.ensures.directory) c.args.post.no_entry)
    c.make_turns.ensures.row
