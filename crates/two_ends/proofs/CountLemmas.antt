-- A world's sums after an event.
use Rattle.std.proofs.Common.{◌≡◌, ℕ, ◌≤◌, Bool, List, Option, Some, None, length, refl, sym, ◌∙◌, ap, subst}
use Rattle.std.specs.Prelude.{IsTrue, is_some}
use Rattle.bosh_client.specs.PlainClient.{deliverable}
use Rattle.world_laws.specs.declared.event.WorldEvent.{WorldEvent}
use Rattle.world_laws.specs.declared.seen.SeenItem.{SeenItem}
use Rattle.world_laws.specs.Manager.{PlainManager}
use Rattle.world_laws.specs.Setup.{IsAllowed}
use Rattle.world_laws.specs.Steps.{step}
use Rattle.world_laws.specs.Sums.{PlainSums, sums_of}
use Rattle.world_laws.specs.World.{PlainWorld}
use Rattle.two_ends.specs.declared.manager.Manager.{Manager}
use Rattle.two_ends.specs.declared.sums.Sums.{Sums}
use Rattle.two_ends.specs.declared.world.World.{World}
use Rattle.two_ends.specs.Counting.{Grows, IsMadeEnd, IsPassedOn}
use Rattle.two_ends.specs.Serves.{serves}
use Rattle.two_ends.specs.Summed.{IsCounted, counted, given_by, given_now, given_since, grown, put_by}
use Rattle.two_ends.specs.Worlds.{IsEnd, IsPlain, IsPlainStep, IsStep, IsWorld}
use Rattle.two_ends.proofs.HandingLemmas.{handed_within}

made_end : (end : Option Manager) (o : Option PlainManager) → IsEnd end o → IsMadeEnd o
made_end end None is = tt
made_end None (Some m) is = absurd is
made_end (Some manager) (Some m) is = is.journal.made

pub both_open : (end : Option Manager) (o : Option PlainManager) → IsEnd end o → is_some end ≡ is_some o
both_open None None is = refl
both_open None (Some m) is = absurd is
both_open (Some manager) None is = absurd is
both_open (Some manager) (Some m) is = refl

since_is : (before after : Option PlainManager) (greeting : List (List ℕ)) (given : ℕ) → given_now (is_some before) (is_some after) (length greeting) given ≡ given_since before after greeting given
since_is None None greeting given = refl
since_is None (Some m) greeting given = refl
since_is (Some m) after greeting given = refl

with_sums : (world : World) (w : PlainWorld) (sums : Sums) → IsPlain world w → IsPlain (record world { sums = sums }) w
with_sums world w sums is = record {
  rest = record {
    host_is = is.rest.host_is;
    greeting_is = is.rest.greeting_is;
    moment_is = is.rest.moment_is;
    first_is = is.rest.first_is;
    client = is.rest.client;
    sent_are = is.rest.sent_are;
    network_is = is.rest.network_is;
    written_are = is.rest.written_are;
  };
  end = is.end;
}

-- what the law says of events
abbrev pub Counts : Type 0
Counts = (w : PlainWorld) (event : WorldEvent) → IsTrue (serves w.host w.greeting) → IsMadeEnd w.manager → IsPassedOn w.manager
    → w.client.handed_out ≤ length (deliverable w.client) → IsAllowed event → Grows w.client w.manager w.greeting (put_by event) (given_by event) (step w event)

pub counted_step : (world : World) (w : PlainWorld) → IsWorld world w → (event : WorldEvent) → IsAllowed event → Counts
    → (news : List SeenItem) (next : World) → IsPlainStep news next (step w event)
    → (put given : ℕ) → put ≡ put_by event → given ≡ given_now (is_some world.manager) (is_some next.manager) (length world.site.greeting) (given_by event)
    → (items : List SeenItem) → items ≡ news → (sums : Sums) → ((plain : PlainSums) → IsCounted world.sums plain → IsCounted sums (grown plain put given items))
    → IsStep news (record next { sums = sums }) (step w event)
counted_step world w is event allowed counts news next happens put given put_is given_is items items_are sums after =
    let rest = is.plain.rest in
    let served : IsTrue (serves w.host w.greeting) =
    subst (λ g. IsTrue (serves w.host g)) rest.greeting_is (subst (λ h. IsTrue (serves h world.site.greeting)) rest.host_is world.site.served) in
    let within = handed_within world.client w.client rest.client in
    let grows = counts w event served (made_end world.manager w.manager is.plain.end) is.is_passed_on within allowed in
    let later = (step w event).after in
    let seen : items ≡ (step w event).seen = items_are ∙ happens.seen_is in
    let since : given ≡ given_since w.manager later.manager w.greeting (given_by event) =
    given_is
    ∙ ap (λ (b : Bool). given_now b (is_some next.manager) (length world.site.greeting) (given_by event)) (both_open world.manager w.manager is.plain.end)
    ∙ ap (λ (b : Bool). given_now (is_some w.manager) b (length world.site.greeting) (given_by event)) (both_open next.manager later.manager happens.world_is.end)
    ∙ ap (λ (g : List (List ℕ)). given_now (is_some w.manager) (is_some later.manager) (length g) (given_by event)) rest.greeting_is
    ∙ since_is w.manager later.manager w.greeting (given_by event) in
    let sum : IsCounted sums (grown (sums_of w) (put_by event) (given_since w.manager later.manager w.greeting (given_by event)) (step w event).seen) =
    subst (λ (n : ℕ). IsCounted sums (grown (sums_of w) n (given_since w.manager later.manager w.greeting (given_by event)) (step w event).seen)) put_is
    (subst (λ (n : ℕ). IsCounted sums (grown (sums_of w) put n (step w event).seen)) since
    (subst (λ (l : List SeenItem). IsCounted sums (grown (sums_of w) put given l)) seen (after (sums_of w) is.sums_are))) in
    record {
      seen_is = happens.seen_is;
      world_is = record {
        plain = with_sums next later sums happens.world_is;
        sums_are = record {
          put_is = sum.put_is ∙ ap counted (sym grows.put_is);
          inward_is = sum.inward_is ∙ ap counted (sym grows.inward_is);
          given_is = sum.given_is ∙ ap counted (sym grows.given_is);
          got_is = sum.got_is ∙ ap counted (sym grows.got_is);
        };
        is_passed_on = grows.passed_is;
      };
    }
