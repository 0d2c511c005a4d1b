use Rattle.disk_tests.proofs.images.records.Goals as goal

pub read_row-requires : goal.read_row-requires
read_row-requires c = λ told. (c.in-Opened.ensures.nothing_read told).0
