-- Events happen one after the other.
use Rattle.std.proofs.Common.{◌≡◌, List, [], ◌∷◌, ◌++◌, length, refl, sym, ◌∙◌, ap, subst, arith, append_assoc, append-nil}
use Rattle.world_laws.specs.declared.event.WorldEvent.{WorldEvent}
use Rattle.world_laws.specs.declared.seen.SeenItem.{SeenItem}
use Rattle.bosh_client.specs.Promises.{Begins}
use Rattle.world_laws.specs.Promises.{KeepsBothPrefixes, ShowsAll, all_seen, content_on, lying_on, was_given, was_made}
use Rattle.world_laws.specs.Steps.{after, report, step}
use Rattle.world_laws.specs.World.{PlainWorld}
use Rattle.two_ends.specs.declared.world.World.{World}
use Rattle.two_ends.specs.Worlds.{IsStep, IsWorld, ShowsBothPrefixes}

-- what was seen by now, and what is left to see, is all
pub record RunsOn (world : World) (seen : List (List SeenItem)) (rest : List WorldEvent) (w : PlainWorld) (events : List WorldEvent) : Type 0 where
  pub now : PlainWorld
  pub is : IsWorld world now
  pub report_is : seen ++ report now rest ≡ report w events
  pub after_is : after now rest ≡ after w events

pub runs_from : (world : World) (w : PlainWorld) (events : List WorldEvent) → IsWorld world w → RunsOn world [] events w events
runs_from world w events is = record { now = w; is = is; report_is = refl; after_is = refl }

pub runs_more : (world next : World) (seen : List (List SeenItem)) (event : WorldEvent) (rest : List WorldEvent) (w : PlainWorld) (events : List WorldEvent) (news : List SeenItem)
    → ((d : PlainWorld) → IsWorld world d → IsStep news next (step d event)) → RunsOn world seen (event ∷ rest) w events → RunsOn next (seen ++ news ∷ []) rest w events
runs_more world next seen event rest w events news happens on =
    let s = happens on.now on.is in
    let after_it = (step on.now event).after in
    record {
      now = after_it;
      is = s.world_is;
      report_is = append_assoc seen (news ∷ []) (report after_it rest) ∙ ap (λ (items : List SeenItem). seen ++ items ∷ report after_it rest) s.seen_is ∙ on.report_is;
      after_is = on.after_is;
    }

pub runs_end : (world : World) (seen : List (List SeenItem)) (w : PlainWorld) (events : List WorldEvent) → RunsOn world seen [] w events → (seen ≡ report w events) × IsWorld world (after w events)
runs_end world seen w events on = (sym (append-nil seen) ∙ on.report_is, subst (λ (d : PlainWorld). IsWorld world d) on.after_is on.is)

pub no_event_left : (events : List WorldEvent) → length events ≡ 0 → events ≡ []
no_event_left [] is = refl
no_event_left (event ∷ events) is = absurd (omega (arith, is))

-- of a world that was new, what was seen shows both beginnings
pub run_shows : (w : PlainWorld) (events : List WorldEvent) (told : List (List SeenItem)) → told ≡ report w events → ShowsAll (after w events) (all_seen (report w events)) → KeepsBothPrefixes (after w events)
    → ShowsBothPrefixes (after w events) (all_seen told)
run_shows w events told is shows keeps =
    let all : ShowsAll (after w events) (all_seen told) = subst (λ (r : List (List SeenItem)). ShowsAll (after w events) (all_seen r)) (sym is) shows in
    record {
      inward_is = λ stream. subst (λ items. Begins (content_on stream items) (was_made (after w events) stream)) (sym all.inward_is) (keeps.inward_is stream);
      handed_is = λ stream. subst (λ items. Begins (lying_on stream items) (was_given (after w events) stream)) (sym all.handed_is) (keeps.handed_is stream);
    }
