use Rattle.std.proofs.Common.{◌++◌, ◌-◌, take, drop, position, ◌∙◌, ap}
use Rattle.line_reader.proofs.LinesLemmas.{is_feed, piece_ended, piece_whole}
use Rattle.line_reader.proofs.lines.LineReader.move_piece.Goals as goal

pub returns-in_ok-extend_from_slice-in-Some : goal.returns-in_ok-extend_from_slice-in-Some
returns-in_ok-extend_from_slice-in-Some c =
    piece_ended c.self.inside.room.items c.args.self.now c.args.line.now.items c.extend_from_slice.new.self.items c.self.inside.start c.self.inside.end c.in-Some.i c.self.view_is
    (c.in-Some.ensures ∙ ap (λ items. position is_feed (take (c.self.inside.end - c.self.inside.start) (drop c.self.inside.start items))) c.deref.ensures.value)
    (c.in_ok-extend_from_slice-in-Some.ensures.items ∙ ap (λ items. c.args.line.now.items ++ take c.in-Some.i (take (c.self.inside.end - c.self.inside.start) (drop c.self.inside.start items))) c.deref.ensures.value)

pub returns-in_ok-extend_from_slice-in-None : goal.returns-in_ok-extend_from_slice-in-None
returns-in_ok-extend_from_slice-in-None c =
    piece_whole c.self.inside.room.items c.args.self.now c.args.line.now.items c.extend_from_slice-in-None.new.self.items c.self.inside.start c.self.inside.end c.self.view_is
    (c.in-None.ensures ∙ ap (λ items. position is_feed (take (c.self.inside.end - c.self.inside.start) (drop c.self.inside.start items))) c.deref.ensures.value)
    (c.in_ok-extend_from_slice-in-None.ensures.items ∙ ap (λ items. c.args.line.now.items ++ take (c.self.inside.end - c.self.inside.start) (drop c.self.inside.start items)) c.deref.ensures.value)
