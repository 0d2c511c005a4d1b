use Rattle.std.proofs.Common.{◌≡◌, ◌∙◌, ◌++◌, ◌∷◌, [], List, drop, sym, ap, append_assoc, take}
use Rattle.entry_queue.specs.declared.queue.Noted.{Noted}
use Rattle.serve_journal.proofs.WriteLemmas.{puts_then, took}
use Rattle.serve_journal.proofs.writer.Writer.put_all.Goals as goal

pub loop-preserved : goal.loop-preserved
loop-preserved g c =
    let here : drop c.loop.counter c.args.entries.now.items ≡ c.in-Some.noted ∷ c.pop_front.new.self.items = sym c.loop.invariant.rest ∙ c.in-Some.ensures.items in
    let both = took c.args.entries.now.items c.loop.counter c.in-Some.noted c.pop_front.new.self.items here in
    record {
      puts = λ told stored waiting writes.
          let first = c.loop.invariant.puts told stored waiting writes in
          puts_then g.D.Disk.seen g.D.Disk.time g.D.Disk.left c.loop.self c.take.new.self stored waiting first (c.in_ok-take.ensures.puts told stored (waiting ++ first.more) first.writes);
      taken =
          c.in_ok-take.ensures.taken
          ∙ ap (λ (l : List Noted). l ++ c.in-Some.noted ∷ []) c.loop.invariant.taken
          ∙ append_assoc c.args.self.now.taken (take c.loop.counter c.args.entries.now.items) (c.in-Some.noted ∷ [])
          ∙ ap (λ (l : List Noted). c.args.self.now.taken ++ l) (sym both.0);
      rest = both.1;
      file = c.take.ensures.file ∙ c.loop.invariant.file;
    }
