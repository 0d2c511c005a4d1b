use Rattle.std.proofs.Common.{◌∙◌, ◌++◌, List, ap}
use Rattle.std.specs.Prelude.{slice_get}
use Rattle.serve_journal.specs.declared.writer.Early.{Early}
use Rattle.serve_journal.proofs.WriteLemmas.{puts_none, puts_then}
use Rattle.serve_journal.proofs.writer.Writer.take.Goals as goal

pub loop-init : goal.loop-init
loop-init g c = record {
  puts = λ told stored waiting writes.
      puts_none g.D.Disk.seen g.D.Disk.time g.D.Disk.left c.note.new.self stored waiting (c.in_ok-note.ensures.writes told stored waiting writes);
  taken = c.in_ok-note.ensures.taken;
  file = c.note.ensures.file;
}

pub put-requires-clause-next : goal.put-requires-clause-next
put-requires-clause-next g c = λ told stored waiting stores early at.
    c.in-Some.ensures.next told stored waiting stores early (ap (λ (l : List Early). slice_get l c.in-Some.place) c.as_slice.ensures.value ∙ at)

pub loop-preserved : goal.loop-preserved
loop-preserved g c = record {
  puts = λ told stored waiting writes.
      let first = c.loop.invariant.puts told stored waiting writes in
      puts_then g.D.Disk.seen g.D.Disk.time g.D.Disk.left c.loop.self c.put.new.self stored waiting first (c.in_ok-put.ensures.puts told stored (waiting ++ first.more) first.writes);
  taken = c.put.ensures.taken ∙ c.loop.invariant.taken;
  file = c.put.ensures.file ∙ c.loop.invariant.file;
}
