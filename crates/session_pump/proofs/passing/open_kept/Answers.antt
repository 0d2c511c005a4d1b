use Rattle.std.proofs.Common.{ap, refl, rules}
use Rattle.session_pump.proofs.ListLemmas.{got_read}
use Rattle.session_pump.proofs.PassingLemmas.{moves_on, opened_last}
use Rattle.session_pump.proofs.ServingLemmas.{on_ok}
use Rattle.session_pump.proofs.TurnedLemmas.{turned_none}
use Rattle.session_pump.proofs.passing.open_kept.Goals as goal

pub returns-in_err-meet_kept-clause-moves : goal.returns-in_err-meet_kept-clause-moves
returns-in_err-meet_kept-clause-moves g c = turned_none _ _ _ c.requires.held (λ k. c.in_err-meet_kept.ensures.moves (g.C.Clock.moment c.args.clock.now) k)

pub returns-clause-moves : goal.returns-clause-moves
returns-clause-moves g c =
    moves_on _ _ _ _ _ _ _ _ _ _ (turned_none _ _ _ c.requires.held (λ k. c.in_ok-meet_kept.ensures.moves (g.C.Clock.moment c.args.clock.now) k))
    (c.open_side.ensures.moves _ _ (got_read c.meet_kept.new.line.sides.items c.meet_kept.new.line.sides.items _ c.in-Some.side.now refl (search rules) (search rules)))

pub returns-clause-none : goal.returns-clause-none
returns-clause-none g c = on_ok _ (ap (λ l. l.kept) c.in_ok-meet_kept.ensures.met.1)

pub returns-clause-opened : goal.returns-clause-opened
returns-clause-opened g c =
    opened_last _ _ _ c.in_ok-meet_kept.ensures.met.0 _ _ (search rules) (ap (λ l. l.sides) c.in_ok-meet_kept.ensures.met.1) c.requires.opened c.open_side.ensures.opened
