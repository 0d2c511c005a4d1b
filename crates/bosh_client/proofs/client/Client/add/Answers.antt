use Rattle.std.proofs.Common.{◌≡◌, ◌∙◌, ◌++◌, ◌∷◌, [], true, sym, ap, refl, arith}
use Rattle.std.specs.Prelude.{nat_lt}
use Rattle.std.proofs.lemmas.Bool.Decides.{nat_tests}
use Rattle.bosh_types.specs.Limits.{most_streams}
use Rattle.stream_names.specs.PlainStreams.{PlainStreams}
use Rattle.bosh_client.specs.declared.outgoing.Outgoing.TheVariants.{Add}
use Rattle.bosh_client.specs.PlainClient.{streams}
use Rattle.bosh_client.specs.StandsFor.{StandsFor}
use Rattle.bosh_client.proofs.StepLemmas.{accepted_holds, choose_no, choose_yes, does_same}
use Rattle.bosh_client.proofs.StreamLemmas.{closing_add, goes_on_open}
use Rattle.bosh_client.proofs.client.Client.add.Goals as goal

pub returns-clause-step : goal.returns-clause-step
unfolding StandsFor
returns-clause-step c = λ plain stands.
    let on = sym (c.is_over.ensures plain stands) ∙ c.if-is_over.false in
    let bytes = c.from_vec-to.ensures ∙ c.in_ok-from_slice.ensures.items in
    let queue = c.in_ok-push_other.ensures.after ∙ ap (λ b. c.args.self.now.queue ++ Add b ∷ []) bytes in
    let count = ap (λ (s : PlainStreams). s.opened) stands.streams_are in
    let room : nat_lt (streams plain).opened most_streams ≡ true = grind (arith, nat_tests, count, c.opened.ensures.value) in
    let closing = stands.closing_is ∙ goes_on_open plain on ∙ sym (closing_add plain c.args.to.now on room) in
    does_same (choose_no _ _ _ on ∙ choose_yes _ _ _ room)
    (record { replies = refl; after = accepted_holds c.args.self.now plain (Add c.args.to.now) _ _ _ stands queue c.open-stream.ensures.after closing })
