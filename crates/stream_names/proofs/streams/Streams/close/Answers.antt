use Rattle.std.proofs.Common.{◌∙◌, ◌≡◌, ap, sym, subst, List, ℕ}
use Rattle.stream_names.specs.PlainStreams.{AreSound, PlainStreams, with_closed}
use Rattle.stream_names.proofs.Numbers.{closed_none, sound_without}
use Rattle.stream_names.proofs.streams.Streams.close.Goals as goal

pub returns-then-not-contains-clause-after : goal.returns-then-not-contains-clause-after
returns-then-not-contains-clause-after c =
    subst (λ (s : PlainStreams). s ≡ with_closed s c.args.stream) c.self.view_is
    (closed_none (record { opened = c.self.inside.opened; running = c.self.inside.running }) c.args.stream (sym c.contains.ensures ∙ c.if-not-contains.true))

pub invariant_of-self-2 : goal.invariant_of-self-2
invariant_of-self-2 c =
    subst (λ (running : List ℕ). AreSound (record { opened = c.self.inside.opened; running = running })) (sym c.remove.ensures)
    (sound_without (record { opened = c.self.inside.opened; running = c.self.inside.running }) c.args.stream c.self.invariant)
