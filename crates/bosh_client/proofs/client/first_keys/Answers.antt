use Rattle.std.proofs.Common.{◌≡◌, false, arith}
use Rattle.std.specs.Prelude.{◌==◌}
use Rattle.std.proofs.lemmas.Bool.Decides.{nat_tests}
use Rattle.bosh_client.proofs.SetupLemmas.{keys_range}
use Rattle.bosh_client.proofs.client.first_keys.Goals as goal

pub new-requires-clause-some : goal.new-requires-clause-some
new-requires-clause-some c =
    let some : (c.args.setup.now.keys == 0) ≡ false = grind (arith, nat_tests) in
    (keys_range c.args.setup.now c.requires some).0

pub new-requires-clause-few : goal.new-requires-clause-few
new-requires-clause-few c =
    let some : (c.args.setup.now.keys == 0) ≡ false = grind (arith, nat_tests) in
    (keys_range c.args.setup.now c.requires some).1
