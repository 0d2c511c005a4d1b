use Rattle.std.proofs.Common.{◌≡◌, subst, sym}
use Rattle.pair_text.specs.Load.{brings}
use Rattle.pair_text.specs.Loads.{IsLoad}
use Rattle.pair_text.proofs.LoadSteps.{on_ok_map}
use Rattle.pair_text.proofs.load.Load.turn.Goals as goal

pub returns-in-0 : goal.returns-in-0
returns-in-0 c = on_ok_map c.put.result _ _
    (λ does plain is. subst (λ rest. IsLoad c.put.new.self (brings c.args.word rest plain)) (sym c.in-0.is) (does plain is)) c.put.ensures

pub returns-in-1 : goal.returns-in-1
returns-in-1 c = on_ok_map c.put-in-1.result _ _
    (λ does plain is. subst (λ rest. IsLoad c.put-in-1.new.self (brings c.args.word rest plain)) (sym c.in-1.is) (does plain is)) c.put-in-1.ensures

pub returns-in-2 : goal.returns-in-2
returns-in-2 c = on_ok_map c.give.result _ _
    (λ does plain is. subst (λ rest. IsLoad c.give.new.self (brings c.args.word rest plain)) (sym c.in-2.is) (does plain is)) c.give.ensures

pub returns-in-3 : goal.returns-in-3
returns-in-3 c = on_ok_map c.happens.result _ _
    (λ does plain is. subst (λ rest. IsLoad c.happens.new.self (brings c.args.word rest plain)) (sym c.in-3.is) (does plain is)) c.happens.ensures

pub returns-in-4 : goal.returns-in-4
returns-in-4 c = on_ok_map c.carry_lowest.result _ _
    (λ does plain is. subst (λ rest. IsLoad c.carry_lowest.new.self (brings c.args.word rest plain)) (sym c.in-4.is) (does plain is)) c.carry_lowest.ensures

pub returns-in-5 : goal.returns-in-5
returns-in-5 c = on_ok_map c.carry_greatest.result _ _
    (λ does plain is. subst (λ rest. IsLoad c.carry_greatest.new.self (brings c.args.word rest plain)) (sym c.in-5.is) (does plain is)) c.carry_greatest.ensures

pub returns-in-6 : goal.returns-in-6
returns-in-6 c = on_ok_map c.return_lowest.result _ _
    (λ does plain is. subst (λ rest. IsLoad c.return_lowest.new.self (brings c.args.word rest plain)) (sym c.in-6.is) (does plain is)) c.return_lowest.ensures

pub returns-in-7 : goal.returns-in-7
returns-in-7 c = on_ok_map c.wait.result _ _
    (λ does plain is. subst (λ rest. IsLoad c.wait.new.self (brings c.args.word rest plain)) (sym c.in-7.is) (does plain is)) c.wait.ensures
