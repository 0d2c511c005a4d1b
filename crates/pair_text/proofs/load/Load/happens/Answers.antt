use Rattle.std.proofs.Common.{◌≡◌, subst, sym}
use Rattle.two_ends.specs.Worlds.{IsWorld}
use Rattle.pair_text.proofs.load.Load.happens.Goals as goal

pub returns : goal.returns
returns c = λ plain is. record {
  world = (c.in_ok-_seen.ensures plain.world (subst (λ world. IsWorld world plain.world) (sym c.deref_mut.ensures.value) is.world)).world_is;
  copies = is.copies;
  puts = is.puts;
  gives = is.gives;
}
