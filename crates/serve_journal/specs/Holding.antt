-- What a back end tells that holds back what it is passed.
use Rattle.std.specs.Prelude.{Option, Some, None}
use Rattle.xmpp_backend.specs.Told.{Told}

-- what the back end within tells, where nothing is held back
abbrev pub told_unheld : {K : Type 0} → Option K → Option Told → Option Told
told_unheld None told = told
told_unheld (Some keeper) told = None
