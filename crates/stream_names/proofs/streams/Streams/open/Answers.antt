use Rattle.std.proofs.Common.{◌∙◌, ◌≡◌, ◌+◌, ap, sym, subst, List, ℕ}
use Rattle.stream_names.specs.PlainStreams.{AreSound}
use Rattle.stream_names.specs.Streams.{with_stream}
use Rattle.stream_names.proofs.Numbers.{sound_next}
use Rattle.stream_names.proofs.streams.Streams.open.Goals as goal

pub invariant_of-self : goal.invariant_of-self
invariant_of-self c =
    subst (λ (running : List ℕ). AreSound (record { opened = c.self.inside.opened + 1; running = running }))
    (sym (c.insert.ensures ∙ ap (with_stream c.self.inside.running) c.in_ok-stream.ensures.1))
    (sound_next (record { opened = c.self.inside.opened; running = c.self.inside.running }) c.self.invariant c.in_ok-stream.ensures.0)
