-- Whether events are timely is a test.
use Rattle.std.proofs.Common.{◌≡◌, ◌↔◌, Bool, true, ◌&&◌, List, [], ◌∷◌, refl, ap}
use Rattle.std.specs.Prelude.{Option, None, Some, is_none}
use Rattle.session_laws.proofs.Tests.{both_true}
use Rattle.bosh_client.specs.PlainClient.{taken}
use Rattle.world_laws.specs.declared.event.WorldEvent.{WorldEvent}
use Rattle.world_laws.specs.declared.event.WorldEvent.TheVariants as events
use Rattle.world_laws.specs.Steps.{step}
use Rattle.world_laws.specs.Timely.{IsInTime, IsTimely, is_in_time, is_timely}
use Rattle.world_laws.specs.World.{PlainWorld}

none_is : {X : Type 0} (o : Option X) → is_none o ≡ true → o ≡ None
none_is None is = refl
none_is (Some x) is = absurd (cc)

both : (a b : Bool) → a ≡ true → b ≡ true → a && b ≡ true
both a b is also = cc

one_test : (w : PlainWorld) (event : WorldEvent) → (is_in_time w event ≡ true) ↔ IsInTime w event
one_test w (events.At moment) = (λ is. tt, λ is. refl)
one_test w (events.Put stanza) = (λ is. tt, λ is. refl)
one_test w (events.PutOn stream stanza) = (λ is. tt, λ is. refl)
one_test w (events.Add to) = (λ is. tt, λ is. refl)
one_test w (events.StopOn stream) = (λ is. tt, λ is. refl)
one_test w events.Restart = (λ is. tt, λ is. refl)
one_test w (events.Pause seconds) = (λ is. tt, λ is. refl)
one_test w events.Stop = (λ is. tt, λ is. refl)
one_test w events.Send = (λ is. tt, λ is. refl)
one_test w (events.Carry rid) = (λ is. none_is (taken w.client rid) is, λ is. ap is_none is)
one_test w (events.Give stanza) = (λ is. tt, λ is. refl)
one_test w (events.GiveOn stream stanza) = (λ is. tt, λ is. refl)
one_test w (events.Shut closing) = (λ is. tt, λ is. refl)
one_test w (events.ShutOn stream closing) = (λ is. tt, λ is. refl)
one_test w (events.Return number) = (λ is. tt, λ is. refl)

pub timely_test : (w : PlainWorld) (list : List WorldEvent) → (is_timely w list ≡ true) ↔ IsTimely w list
timely_test w [] = (λ is. tt, λ is. refl)
timely_test w (event ∷ list) =
    let rest = timely_test (step w event).after list in
    let here = one_test w event in (
      λ is.
          let parts = both_true (is_in_time w event) (is_timely (step w event).after list) is in
          (here.0 parts.0, rest.0 parts.1),
      λ is. both (is_in_time w event) (is_timely (step w event).after list) (here.1 is.0) (rest.1 is.1),
    )
