use Rattle.std.proofs.Common.{◌≡◌, ◌∙◌, ℕ, ◌≤◌, None, Some, ap, arith}
use Rattle.std.specs.Prelude.{Option}
use Rattle.std.specs.Option.{SomeIff, unwrap_or}
use Rattle.bosh_types.specs.Rid.{IsRid}
use Rattle.bosh_client.specs.declared.replies.Answered.TheVariants as answerings
use Rattle.bosh_client.specs.PlainClient.{lowest, taken}
use Rattle.bosh_client.specs.StandsFor.{StandsFor}
use Rattle.bosh_client.proofs.FoundLemmas.{lowest_is}
use Rattle.bosh_client.proofs.RunLemmas.{lowest_at_most}
use Rattle.bosh_client.proofs.SetupLemmas.{not_some}
use Rattle.bosh_client.proofs.client.Client.again.Goals as goal

or_made : (o : Option ℕ) (n other : ℕ) → IsRid n → SomeIff o (IsRid n) n → unwrap_or o other ≡ n
or_made None n other is made = absurd (made is)
or_made (Some x) n other is made = made.1

pub returns : goal.returns
unfolding StandsFor
returns c = λ plain stands made none.
    let low : c.lowest.result ≡ lowest plain = c.lowest.ensures.value ∙ lowest_is stands.requests in
    let most : lowest plain ≤ c.args.rid = lowest_at_most plain c.args.rid stands.requests.ids made (not_some (taken plain c.args.rid) none) in
    let is : IsRid c.lowest.result = (c.lowest.ensures.some, omega (arith, low, most, c.value-value.ensures.in_range.1)) in
    ap (λ first. answerings.Again first c.args.rid) (c.unwrap_or-first.ensures ∙ or_made c.new.result c.lowest.result c.args.rid is c.new.ensures ∙ low)
