use Rattle.std.proofs.Common.{refl}
use Rattle.serve_loop.proofs.ConnectionLemmas.{after_write, moves_to_end, moves_to_fault, moves_to_refusal, moves_to_request}
use Rattle.serve_loop.proofs.polled_connection.stage_by.Goals as goal

pub returns-in-Request-clause-moves : goal.returns-in-Request-clause-moves
returns-in-Request-clause-moves c = λ site purse stream rest given given' n m reads keeps counts.
    let trail = c.args.trail.now in
    moves_to_request site (after_write stream given trail purse n) (after_write rest given' trail purse m) c.in-Request.body c.in-Request.closing c.asked_stage.result
    (rw c.in-Request.is at reads) keeps refl refl (rw c.in-Request.is at counts) c.asked_stage.ensures

pub returns-in-Refused-clause-moves : goal.returns-in-Refused-clause-moves
returns-in-Refused-clause-moves c = λ site purse stream rest given given' n m reads keeps counts.
    moves_to_refusal site (after_write stream given c.args.trail.now purse n) (after_write rest given' c.refused.new.trail purse m) c.in-Refused.refusal c.refused.result
    (rw c.in-Refused.is at reads) keeps refl (rw c.in-Refused.is at counts) c.refused.ensures.stage c.refused.ensures.told

pub returns-in-End-clause-moves : goal.returns-in-End-clause-moves
returns-in-End-clause-moves c = λ site purse stream rest given given' n m reads keeps counts.
    let trail = c.args.trail.now in
    moves_to_end site (after_write stream given trail purse n) (after_write rest given' trail purse m) (rw c.in-End.is at reads) keeps refl refl (rw c.in-End.is at counts)

pub returns-in-ReadFault-clause-moves : goal.returns-in-ReadFault-clause-moves
returns-in-ReadFault-clause-moves c = λ site purse stream rest given given' n m reads keeps counts.
    let trail = c.args.trail.now in
    moves_to_fault site (after_write stream given trail purse n) (after_write rest given' trail purse m) (rw c.in-ReadFault.is at reads) keeps refl refl (rw c.in-ReadFault.is at counts)
