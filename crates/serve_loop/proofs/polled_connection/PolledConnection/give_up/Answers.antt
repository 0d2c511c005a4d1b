use Rattle.std.proofs.Common.{refl}
use Rattle.serve_loop.specs.declared.connection.Stage.TheVariants as stages
use Rattle.serve_loop.specs.declared.owed.Owed.TheVariants as owed
use Rattle.serve_loop.proofs.SteppingLemmas.{moves_up, step_whole}
use Rattle.serve_loop.proofs.polled_connection.PolledConnection.give_up.Goals as goal

pub returns-in-Reading-clause-moves : goal.returns-in-Reading-clause-moves
returns-in-Reading-clause-moves c = λ site now.
    step_whole site now now c.args.self.now.standing (record { stage = stages.Owing owed.NoMemory; place = 0 }) stages.Reading (stages.Owing owed.NoMemory)
    c.in-Reading.is (λ start stands. stands) refl refl (moves_up site now)
