use Rattle.std.proofs.Common.{◌≡◌, ◌∙◌}
use Rattle.bosh_types.specs.Rid.{rid_of}
use Rattle.bosh_types.proofs.RidLemmas.{made_is, written, refused}
use Rattle.bosh_types.proofs.rid.Rid.read.Goals as goal

pub returns-in_err-number-clause-refused : goal.returns-in_err-number-clause-refused
returns-in_err-number-clause-refused c = refused c.args.text.now c.from_residual.result (c.from_residual.ensures ∙ c.in_err-number.ensures)

value : (c : goal.After-new) → c.new.result ≡ rid_of c.args.text.now
value c = made_is c.args.text.now c.in_ok-number.field-0 c.new.result c.in_ok-number.ensures c.new.ensures

pub returns-clause-value : goal.returns-clause-value
returns-clause-value c = value c

pub returns-clause-written : goal.returns-clause-written
returns-clause-written c = written c.args.text.now c.new.result (value c)

pub returns-clause-refused : goal.returns-clause-refused
returns-clause-refused c = refused c.args.text.now c.new.result (value c)
