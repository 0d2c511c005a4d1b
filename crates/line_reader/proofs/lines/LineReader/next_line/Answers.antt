use Rattle.std.proofs.Common.{arith, subst, sym, ◌∙◌}
use Rattle.line_reader.specs.Lines.{Reads, MovesPiece}
use Rattle.line_reader.proofs.ReadLemmas.{filled, more_read, line_ended, source_ended, too_long}
use Rattle.line_reader.proofs.lines.LineReader.next_line.Goals as goal

pub returns-then-not-branch-clause-reads : goal.returns-then-not-branch-clause-reads
returns-then-not-branch-clause-reads g c =
    subst (Reads _ _) (sym c.last_line.ensures)
    (source_ended _ _ _ c.loop-self.line.items c.loop-self.invariant.read c.in_ok-fill.ensures.keeps (c.in_ok-fill.ensures.end c.if-not-branch.true) (omega (arith, c.loop-self-test.true, c.len.ensures)))

pub returns-then-branch-clause-reads : goal.returns-then-branch-clause-reads
returns-then-branch-clause-reads g c =
    let has = filled _ _ _ c.loop-self.line.items c.loop-self.invariant.read c.in_ok-fill.ensures.keeps in
    let moved = subst (λ ended. MovesPiece ended c.fill.new.self c.move_piece.new.self c.loop-self.line.items c.move_piece.new.line.items) c.if-branch.true c.in_ok-move_piece.ensures in
    subst (Reads _ _) (sym c.ended_line.ensures) (line_ended _ (g.S.Source.left c.fill.new.source) c.fill.new.self c.move_piece.new.self c.loop-self.line.items c.move_piece.new.line.items has moved)

pub loop-self-preserved : goal.loop-self-preserved
loop-self-preserved g c =
    let has = filled _ _ _ c.loop-self.line.items c.loop-self.invariant.read c.in_ok-fill.ensures.keeps in
    let moved = subst (λ ended. MovesPiece ended c.fill.new.self c.move_piece.new.self c.loop-self.line.items c.move_piece.new.line.items) c.if-branch.false c.in_ok-move_piece.ensures in
    record {
      read = more_read _ (g.S.Source.left c.fill.new.source) c.fill.new.self c.move_piece.new.self c.loop-self.line.items c.move_piece.new.line.items has moved;
      faults = c.in_ok-fill.ensures.counts ∙ c.loop-self.invariant.faults;
    }

pub returns-clause-reads : goal.returns-clause-reads
returns-clause-reads g c = too_long _ (g.S.Source.left c.loop-self.source) c.loop-self.self c.loop-self.line.items c.loop-self.invariant.read (omega (arith, c.loop-self-test.false, c.len.ensures))
