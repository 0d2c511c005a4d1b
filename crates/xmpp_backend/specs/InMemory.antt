-- What a back end of any kind in memory tells and counts.
use Rattle.xmpp_backend.specs.Counts.{Counts}
use Rattle.xmpp_backend.specs.Owing.{told_of}
use Rattle.xmpp_backend.specs.Told.{Told}
use Rattle.xmpp_backend.specs.declared.in_memory.InMemory.{InMemory}
use Rattle.xmpp_backend.specs.declared.in_memory.InMemory.TheVariants as kinds

abbrev pub told_in : InMemory → Told
told_in (kinds.Echo echo) = told_of echo
told_in (kinds.Room room) = told_of room
told_in (kinds.Scripted script) = told_of script.owing

abbrev pub counted_in : InMemory → Counts
counted_in (kinds.Echo echo) = echo.counts
counted_in (kinds.Room room) = room.counts
counted_in (kinds.Scripted script) = script.owing.counts
