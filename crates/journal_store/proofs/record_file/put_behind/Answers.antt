use Rattle.journal_store.proofs.StoreLemmas.{stored_by, first_crash, both_crash}
use Rattle.journal_store.proofs.record_file.put_behind.Goals as goal

pub returns-in-Done-clause-stored : goal.returns-in-Done-clause-stored
returns-in-Done-clause-stored g c = λ told is_done contents added is at_end is_added.
    stored_by contents added c.args.gate c.args.behind.now at_end is_added (g.D.Disk.seen c.args.disk.now) (g.D.Disk.seen c.put.new.disk) _ is (c.put.ensures.written told c.in-Done.is) (c.put-in-Done.ensures.written told is_done)

pub returns-in-Done-clause-any_moment : goal.returns-in-Done-clause-any_moment
returns-in-Done-clause-any_moment g c = λ told contents added fits fits' is at_end is_added only.
    both_crash contents added c.args.gate c.args.behind.now at_end is_added g.D.Disk.time g.D.Disk.left fits fits' c.args.disk.now c.put.new.disk c.put-in-Done.new.disk
    (g.D.Disk.seen c.args.disk.now) (g.D.Disk.seen c.put.new.disk) is (c.put.ensures.written told c.in-Done.is) (c.put.ensures.any_moment told only) (c.put-in-Done.ensures.any_moment told (c.put.ensures.durable told c.in-Done.is))

pub returns-in-Failed-clause-any_moment : goal.returns-in-Failed-clause-any_moment
returns-in-Failed-clause-any_moment g c = λ told contents added fits fits' is at_end is_added only.
    first_crash contents added c.args.gate c.args.behind.now at_end is_added g.D.Disk.time g.D.Disk.left fits fits' c.args.disk.now c.put.new.disk
    (g.D.Disk.seen c.args.disk.now) is (c.put.ensures.any_moment told only)
