use Rattle.session_table.proofs.RestoringLemmas.{opened_of}
use Rattle.session_table.proofs.directory.Directory.resume.Goals as goal

pub end-requires : goal.end-requires
end-requires c = record { alone = opened_of c.args.self.now 0 c.new-handle.result c.enter.new.self c.requires.alone c.in_ok-enter.ensures.ok }
