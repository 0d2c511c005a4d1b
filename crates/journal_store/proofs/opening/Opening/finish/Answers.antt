use Rattle.journal_store.proofs.OpeningLemmas.{finish_crash}
use Rattle.journal_store.proofs.opening.Opening.finish.Goals as goal

pub returns-in-Done-put-clause-any_moment : goal.returns-in-Done-put-clause-any_moment
returns-in-Done-put-clause-any_moment g c = λ told contents read.
    finish_crash g.D.Disk.seen g.D.Disk.time g.D.Disk.left c.args.self contents read c.requires.ended c.trim.new.disk (c.trim.ensures.any_moment told read.durable)
    c.put.new.disk (c.trim.ensures.cut told c.in-Done.is) (c.put.ensures.any_moment told (c.trim.ensures.durable told c.in-Done.is))

pub returns-in-Failed-put-clause-any_moment : goal.returns-in-Failed-put-clause-any_moment
returns-in-Failed-put-clause-any_moment g c = λ told contents read.
    finish_crash g.D.Disk.seen g.D.Disk.time g.D.Disk.left c.args.self contents read c.requires.ended c.trim.new.disk (c.trim.ensures.any_moment told read.durable)
    c.put.new.disk (c.trim.ensures.cut told c.in-Done.is) (c.put.ensures.any_moment told (c.trim.ensures.durable told c.in-Done.is))
