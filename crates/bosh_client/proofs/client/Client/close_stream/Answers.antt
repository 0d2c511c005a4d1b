use Rattle.std.proofs.Common.{◌∙◌, sym, ap, refl}
use Rattle.std.specs.Prelude.{length, ◌==◌}
use Rattle.stream_names.specs.PlainStreams.{PlainStreams, with_closed}
use Rattle.bosh_client.specs.declared.outgoing.Outgoing.TheVariants.{Close}
use Rattle.bosh_client.specs.StandsFor.{StandsFor}
use Rattle.bosh_client.proofs.StepLemmas.{accepted_holds, choose_no, choose_yes, does_same}
use Rattle.bosh_client.proofs.StreamLemmas.{closing_close}
use Rattle.bosh_client.proofs.client.Client.close_stream.Goals as goal

pub returns-clause-step : goal.returns-clause-step
unfolding StandsFor
returns-clause-step c = λ plain stands.
    let on = sym (c.is_over.ensures plain stands) ∙ c.if-is_over.false in
    let has = sym (c.has_stream.ensures plain stands) ∙ c.if-not-has_stream.false in
    let left = c.close-shut.ensures.after ∙ ap (λ (s : PlainStreams). with_closed s c.args.stream) stands.streams_are in
    let closing = c.is_empty-self.ensures ∙ ap (λ xs. length xs == 0) (c.running.ensures ∙ ap (λ (s : PlainStreams). s.running) left) ∙ sym (closing_close plain c.args.stream on) in
    does_same (choose_no _ _ _ on ∙ choose_yes _ _ _ has)
    (record { replies = refl; after = accepted_holds c.args.self.now plain (Close c.args.stream) _ _ _ stands c.in_ok-push_other.ensures.after c.close-shut.ensures.after closing })
