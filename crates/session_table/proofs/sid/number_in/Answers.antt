use Rattle.std.proofs.Common.{◌∙◌, ap}
use Rattle.std.specs.Result.{result_ok}
use Rattle.session_table.proofs.SidLemmas.{digits_are_utf8, digits_parse}
use Rattle.session_table.proofs.sid.number_in.Goals as goal

pub returns-in_default : goal.returns-in_default
returns-in_default c = λ number few is. absurd (c.in_default.ensures.cases.0 (digits_are_utf8 c.args.sid.now c.digits_at_end.result.now number few is c.digits_at_end.ensures))

pub returns : goal.returns
returns c = λ number few is.
    c.ok.ensures.value
    ∙ ap result_ok (digits_parse c.args.sid.now c.digits_at_end.result.now c.in-Ok.digits.now number c.parse.result few is c.digits_at_end.ensures c.in-Ok.ensures.cases.0 c.parse.ensures.value.0)
