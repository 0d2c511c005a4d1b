-- What the code keeps of a load stands for the plain one.
use Rattle.std.specs.Prelude.{◌≡◌}
use Rattle.two_ends.specs.Worlds.{IsWorld}
use Rattle.pair_text.specs.declared.load.Load.{Load}
use Rattle.pair_text.specs.Load.{PlainLoad}

pub record IsLoad (load : Load) (plain : PlainLoad) : Type 0 where
  pub world : IsWorld load.world.value plain.world
  pub copies : load.copies ≡ plain.copies
  pub puts : load.puts ≡ plain.puts
  pub gives : load.gives ≡ plain.gives
