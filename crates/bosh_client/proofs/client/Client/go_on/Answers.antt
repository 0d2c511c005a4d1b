use Rattle.std.proofs.Common.{◌≡◌, ◌∙◌, ◌+◌, ◌-◌, ◌++◌, ◌∷◌, ◌≤◌, ◌<◌, ◌^◌, [], ℕ, List, length, take, drop, sym, ap, subst, refl, arith}
use Rattle.body_writer.specs.Request.{request_text}
use Rattle.bosh_client.specs.declared.exchanges.Slot.TheVariants.{Open}
use Rattle.bosh_client.specs.declared.outgoing.Outgoing.{Outgoing}
use Rattle.bosh_client.specs.declared.replies.Next.TheVariants.{Request}
use Rattle.bosh_client.specs.KeyPlace.{keys_turned}
use Rattle.bosh_client.specs.Outgoing.{front_of}
use Rattle.bosh_client.specs.PlainClient.{Made, next_id, queued}
use Rattle.bosh_client.specs.Requests.{later_parts}
use Rattle.bosh_client.specs.StandsFor.{HoldsKeys, StandsFor}
use Rattle.bosh_client.proofs.DueLemmas.{keys_step, later_some}
use Rattle.bosh_client.proofs.FoundLemmas.{next_is}
use Rattle.bosh_client.proofs.Fronts.{front_within, length-take-within}
use Rattle.bosh_client.proofs.StepLemmas.{requested_holds}
use Rattle.bosh_client.proofs.client.Client.go_on.Goals as goal

pub returns-clause-step : goal.returns-clause-step
unfolding StandsFor
returns-clause-step c = λ plain a stands agreed rid.
    let client = c.args.self.now in
    let items : List Outgoing = front_of (queued plain) in
    let request : Made = record { items = items; parts = later_parts plain a items } in
    let load = c.load-load.ensures in
    let front : take c.load-load.result.count client.queue ≡ items = load.front_is ∙ ap front_of stands.queue_is in
    let count : length items ≡ c.load-load.result.count = sym (ap length front) ∙ length-take-within c.load-load.result.count client.queue load.within in
    let parts = c.in_ok-parts.ensures plain a stands agreed rid load c.in_ok-follows.ensures in
    let bytes = c.in_ok-body.ensures ∙ c.in_ok-write_request.ensures ∙ ap request_text parts in
    let places = c.in_ok-push.ensures.after ∙ ap (λ (b : List ℕ). record client.exchanges { slots = client.exchanges.slots ++ Open b ∷ [] }) bytes in
    let some : 1 ≤ length plain.requests = later_some a stands.requests agreed in
    let small : length plain.requests - 1 + 1 < 2 ^ 64 = omega (arith, some, c.requires, next_is stands.requests) in
    let keys = keys_step plain.setup (length plain.requests - 1) client.keys stands.in_range small stands.keys in
    let later : length plain.requests - 1 + 1 ≡ length plain.requests = omega (arith, some) in
    record {
      replies = ap (λ (n : ℕ). Request n c.in_ok-sent.sent) rid ∙ ap (λ (b : List ℕ). Request (next_id plain) b) (c.in_ok-sent.ensures ∙ bytes);
      after =
          requested_holds client plain request c.push.new.self c.drop_front.new.self c.turn_keys.new.keys stands refl places
          (c.drop_front.ensures ∙ ap (λ n. drop n client.queue) (sym count)) (front_within (queued plain))
          (rw c.turn_keys.ensures (subst (λ (n : ℕ). HoldsKeys (keys_turned client.keys) plain.setup n) later keys));
    }
