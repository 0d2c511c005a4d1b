use Rattle.reply_keep.specs.StandsFor.{StandsFor}
use Rattle.reply_keep.proofs.keep.Keep.copied.Goals as goal

pub returns : goal.returns
unfolding StandsFor
returns c = λ plain stands. rw c.in_ok-copy_places.ensures stands
