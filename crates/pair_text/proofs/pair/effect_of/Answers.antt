use Rattle.std.proofs.Common.{◌≡◌, subst, sym}
use Rattle.pair_text.specs.Script.{read_step}
use Rattle.pair_text.specs.Stands.{Does}
use Rattle.pair_text.proofs.LoadSteps.{ok_map}
use Rattle.pair_text.proofs.pair.effect_of.Goals as goal

pub returns-in-Line : goal.returns-in-Line
returns-in-Line c = ok_map c.effect_in.result _ _
    (λ effect does plain is. subst (λ line. Does effect (read_step plain c.args.n line)) (sym c.in-Line.is) (does plain is)) c.effect_in.ensures

pub returns-in-TooLong : goal.returns-in-TooLong
returns-in-TooLong c = ok_map c.bad.result _ _
    (λ effect does plain is. subst (λ line. Does effect (read_step plain c.args.n line)) (sym c.in-TooLong.is) does) c.bad.ensures

pub returns-in-NoLine : goal.returns-in-NoLine
returns-in-NoLine c = ok_map c.bad-in-NoLine.result _ _
    (λ effect does plain is. subst (λ line. Does effect (read_step plain c.args.n line)) (sym c.in-NoLine.is) does) c.bad-in-NoLine.ensures
