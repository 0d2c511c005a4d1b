use Rattle.std.proofs.Common.{ap, refl, ℕ}
use Rattle.xmpp_backend.specs.Counts.{Counts}
use Rattle.stream_backend.specs.Serving.{TellsOn}
use Rattle.stream_backend.proofs.PollLemmas.{all_still, gives_on, gives_stanza, polls_lines, serving_polled, serving_quiet, tells_on}
use Rattle.stream_backend.proofs.backend.StreamBackendBackend.poll.Goals as goal

abbrev counts_with : ℕ → ℕ → Counts
counts_with idle answers = record { faults = 0; idle = idle; answers = answers }

pub invariant_of-self : goal.invariant_of-self
invariant_of-self g c =
    serving_quiet c.self.inside.lists c.self.inside.lines.items c.look_round.new.lines.items c.self.invariant (all_still c.self.inside.lines.items c.hear.new.lines.items c.look_round.new.lines.items c.hear.ensures c.in-None.ensures.none)

pub invariant_of-self-in-Some : goal.invariant_of-self-in-Some
invariant_of-self-in-Some g c =
    serving_polled c.in-Some.sight.look c.in-Some.sight.wire c.self.inside.lists c.tell-polled.new.lists c.tell-polled.result c.self.inside.lines.items c.look_round.new.lines.items c.self.invariant
    (tells_on c.self.inside.lines.items c.hear.new.lines.items c.look_round.new.lines.items c.hear.ensures c.in-Some.sight.at c.in-Some.sight.wire c.in-Some.sight.look c.in-Some.ensures.some.0)
    c.tell-polled.ensures

pub returns-in-None-clause-polls : goal.returns-in-None-clause-polls
returns-in-None-clause-polls g c =
    rw (← c.self.view_is) (refl, ap (λ (n : ℕ). counts_with n c.self.inside.answers) c.counted_on-self-inside.ensures, all_still c.self.inside.lines.items c.hear.new.lines.items c.look_round.new.lines.items c.hear.ensures c.in-None.ensures.none)

pub returns-in-Some-clause-polls : goal.returns-in-Some-clause-polls
returns-in-Some-clause-polls g c =
    rw (← c.self.view_is)
    (polls_lines c.in-Some.sight.look c.in-Some.sight.wire
    (record {
      told = c.self.inside.lists;
      counts = counts_with c.self.inside.idle c.self.inside.answers;
      lines = c.self.inside.lines.items;
      net = g.N.Network.counts c.self.inside.network;
      events = g.N.Network.events c.self.inside.network;
    })
    (record {
      told = c.tell-polled.new.lists;
      counts = counts_with c.self.inside.idle c.answers_with-self-inside.result;
      lines = c.look_round.new.lines.items;
      net = g.N.Network.counts c.look_round.new.network;
      events = g.N.Network.events c.look_round.new.network;
    })
    c.tell-polled.result c.tell-polled.ensures (ap (λ (n : ℕ). counts_with c.self.inside.idle n) c.answers_with-self-inside.ensures)
    (tells_on c.self.inside.lines.items c.hear.new.lines.items c.look_round.new.lines.items c.hear.ensures c.in-Some.sight.at c.in-Some.sight.wire c.in-Some.sight.look c.in-Some.ensures.some.0))

pub returns-in-Some-clause-stanza : goal.returns-in-Some-clause-stanza
returns-in-Some-clause-stanza g c =
    gives_stanza c.in-Some.sight.look c.in-Some.sight.wire c.self.inside.lists c.tell-polled.new.lists c.tell-polled.result c.self.inside.lines.items c.look_round.new.lines.items
    (tells_on c.self.inside.lines.items c.hear.new.lines.items c.look_round.new.lines.items c.hear.ensures c.in-Some.sight.at c.in-Some.sight.wire c.in-Some.sight.look c.in-Some.ensures.some.0)
    c.tell-polled.ensures

pub returns-in-Some-clause-opened : goal.returns-in-Some-clause-opened
returns-in-Some-clause-opened g c =
    rw (← c.self.view_is)
    (gives_on c.in-Some.sight.look c.in-Some.sight.wire c.self.inside.lists c.tell-polled.new.lists c.tell-polled.result c.self.inside.lines.items c.look_round.new.lines.items c.self.invariant
    (tells_on c.self.inside.lines.items c.hear.new.lines.items c.look_round.new.lines.items c.hear.ensures c.in-Some.sight.at c.in-Some.sight.wire c.in-Some.sight.look c.in-Some.ensures.some.0)
    c.tell-polled.ensures)
