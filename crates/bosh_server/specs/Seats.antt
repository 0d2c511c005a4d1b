-- What is kept of a connection in a loop.
use Rattle.std.proofs.Props.{props}
use Rattle.session_table.specs.Purses.{Sessions}
use Rattle.serve_loop.specs.Connections.{IsServedBy}
use Rattle.serve_loop.specs.declared.connection.Stage.{Stage}
use Rattle.serve_loop.specs.declared.connection.Stage.TheVariants as stages

-- that a request which waits does so in a session that is held has one proof at most
pub IsServedBy-prop : (sessions : Sessions) (stage : Stage) → IsProp (IsServedBy sessions stage)
IsServedBy-prop sessions (stages.Waiting w closing looked) = Prim.hlevel props
IsServedBy-prop sessions stages.Reading = Prim.hlevel props
IsServedBy-prop sessions (stages.Asked body closing) = Prim.hlevel props
IsServedBy-prop sessions (stages.Owing what) = Prim.hlevel props
IsServedBy-prop sessions (stages.Over end) = Prim.hlevel props
