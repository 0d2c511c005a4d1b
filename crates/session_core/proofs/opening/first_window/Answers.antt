use Rattle.session_core.proofs.OpenedLemmas.{creation_taken}
use Rattle.session_core.proofs.opening.first_window.Goals as goal

pub returns : goal.returns
returns c = creation_taken c.args.rid c.args.width c.args.copy c.place-placed.result c.place-placed.new.self _ c.requires.some
    (c.place-placed.ensures.answer _ c.in_ok-window.ensures) (c.place-placed.ensures.after _ c.in_ok-window.ensures) c.take_ready-taken.ensures.after
