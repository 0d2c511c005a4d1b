use Rattle.std.proofs.Common.{◌≡◌, sym, subst, List, ℕ}
use Rattle.stream_names.specs.PlainStreams.{AreSound}
use Rattle.stream_names.proofs.Numbers.{sound_without_all}
use Rattle.stream_names.proofs.streams.Streams.close_all.Goals as goal

pub invariant_of-self : goal.invariant_of-self
invariant_of-self c =
    subst (λ (running : List ℕ). AreSound (record { opened = c.self.inside.opened; running = running })) (sym c.remove_all.ensures)
    (sound_without_all (record { opened = c.self.inside.opened; running = c.self.inside.running }) c.args.others.now c.self.invariant)
