use Rattle.std.proofs.Common.{◌∙◌, refl, sym, ap, subst}
use Rattle.std.specs.Option.{option_or}
use Rattle.bosh_client.specs.declared.exchanges.Slot.TheVariants.{Answered}
use Rattle.bosh_client.specs.Places.{Places, filled}
use Rattle.bosh_client.specs.declared.setup.ClientSetup.{ClientSetup}
use Rattle.bosh_client.specs.PlainClient.{Taken, lies_on, on_stream}
use Rattle.bosh_client.specs.Machine.{with_answer}
use Rattle.bosh_client.specs.StandsFor.{HoldsRequests, StandsFor}
use Rattle.bosh_client.proofs.AnswerLemmas.{answered_holds, filled_holds}
use Rattle.bosh_client.proofs.client.Client.take.Goals as goal

pub returns : goal.returns
unfolding StandsFor
returns c = λ plain body stands made none agrees.
    let client = c.args.self.now in
    let answer : Taken = record { body = body; tells = c.args.told; moment = c.args.now } in
    let on = c.new-payloads.ensures ∙ ap (λ n. on_stream n c.args.told.payloads) (c.lies_on-on.ensures c.args.told refl ∙ ap (λ (s : ClientSetup). lies_on s c.args.rid c.args.told) stands.setup_is) in
    let places = c.fill.ensures ∙ ap (λ ps. filled client.exchanges c.args.rid (Answered ps c.is_some.result)) on
    ∙ ap (λ b. filled client.exchanges c.args.rid (Answered (on_stream (lies_on plain.setup c.args.rid c.args.told) c.args.told.payloads) b)) c.is_some.ensures in
    let held = subst (λ (p : Places). HoldsRequests p client.inbox (with_answer plain c.args.rid answer)) (sym places) (filled_holds plain c.args.rid answer none client.exchanges client.inbox stands.requests made) in
    answered_holds plain c.args.rid answer none client _ _ _ _ stands (c.move_on.ensures.stands (with_answer plain c.args.rid answer) held)
    (c.or.ensures ∙ ap (λ a. option_or c.args.made a) c.take.ensures.value ∙ ap (λ a. option_or a client.agreed) agrees)
    c.or-self.ensures
