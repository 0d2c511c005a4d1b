use Rattle.std.proofs.Common.{◌∙◌, ap}
use Rattle.stream_names.specs.Streams.{is_among}
use Rattle.session_core.specs.Queue.{Queue}
use Rattle.session_core.proofs.Fronts.{closing_counted}
use Rattle.session_core.proofs.outbox.Outbox.push_closing.Goals as goal

pub invariant_of-self-2 : goal.invariant_of-self-2
invariant_of-self-2 c =
    rw (c.in_ok-push.ensures.items, c.insert.ensures)
    (closing_counted c.self.inside.items.items c.self.inside.bytes c.args.stream c.self.inside.closed c.args.closing c.number-number.ensures.in_range
    (ap (λ (q : Queue). is_among q.closed c.args.stream) c.self.view_is ∙ c.requires) c.self.invariant)
