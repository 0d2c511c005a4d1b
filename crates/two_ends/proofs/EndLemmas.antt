-- What comes to the manager of a world, where there is one.
use Rattle.std.proofs.Common.{◌≡◌, ℕ, max, List, [], ◌∷◌, Option, Some, None, refl, sym, ◌∙◌, ap, subst}
use Rattle.bosh_types.specs.declared.ending.Closing.{Closing}
use Rattle.session_core.specs.declared.replies.Taken.{Taken}
use Rattle.session_core.specs.Machine.{back, back_closed}
use Rattle.world_laws.specs.declared.seen.SeenItem.{SeenItem}
use Rattle.world_laws.specs.declared.seen.SeenItem.TheVariants as seen
use Rattle.world_laws.specs.declared.seen.Word.TheVariants as words
use Rattle.world_laws.specs.declared.told.Told.{Told}
use Rattle.world_laws.specs.Manager.{PlainManager, Turn, gives, passes, session, shuts}
use Rattle.world_laws.specs.Steps.{at, gives_to, only, passes_to, shuts_to, taken_refusals, turns}
use Rattle.world_laws.specs.World.{PlainWorld}
use Rattle.two_ends.specs.declared.manager.Manager.{Manager}
use Rattle.two_ends.specs.declared.world.World.{World}
use Rattle.two_ends.specs.Stands.{IsManager, IsTurn}
use Rattle.two_ends.specs.Worlds.{IsEnd, IsRest, IsPlainStep, IsPlain}

-- the manager that is there stands for the plain one
pub record HasManager (manager : Manager) (o : Option PlainManager) : Type 0 where
  pub plain : PlainManager
  pub is : o ≡ Some plain
  pub stands : IsManager manager plain

pub has_manager : (world : Option Manager) (manager : Manager) (o : Option PlainManager) → world ≡ Some manager → IsEnd world o → HasManager manager o
has_manager None manager o is end = absurd (cc)
has_manager (Some other) manager None is end = absurd end
has_manager (Some other) manager (Some m) is end =
    let same : other ≡ manager = cc in
    record { plain = m; is = refl; stands = subst (λ x. IsManager x m) same end }

pub no_manager : (world : Option Manager) (o : Option PlainManager) → world ≡ None → IsEnd world o → o ≡ None
no_manager None None is end = refl
no_manager None (Some m) is end = absurd end
no_manager (Some other) o is end = absurd (cc)

pub shut_step : (world : World) (w : PlainWorld) (manager : Manager) (stream : ℕ) (closing : Closing) (taken : Taken) (told : List Told) (after : Manager) (refused : List SeenItem) (news : List SeenItem) (next : World) → IsPlain world w → world.manager ≡ Some manager
    → ((m : PlainManager) → IsManager manager m → (taken ≡ (back_closed (session m) stream closing world.moment).1) × IsTurn told after (shuts m stream closing world.moment))
    → refused ≡ taken_refusals words.Shut taken
    → ((turn : Turn) → IsTurn told after turn → IsPlainStep news next (turns w refused turn))
    → IsPlainStep news next (shuts_to w stream closing w.manager)
shut_step world w manager stream closing taken told after refused news next is has call refusals step =
    let there = has_manager world.manager manager w.manager has is.end in
    let came = call there.plain there.stands in
    let moment = is.rest.moment_is in
    let first : refused ≡ taken_refusals words.Shut (back_closed (session there.plain) stream closing w.moment).1 =
    refusals ∙ ap (taken_refusals words.Shut) (came.0 ∙ ap (λ (n : ℕ). (back_closed (session there.plain) stream closing n).1) moment) in
    subst (λ o. IsPlainStep news next (shuts_to w stream closing o)) (sym there.is)
    (subst (λ items. IsPlainStep news next (turns w items (shuts there.plain stream closing w.moment))) first
    (step (shuts there.plain stream closing w.moment) (subst (λ (n : ℕ). IsTurn told after (shuts there.plain stream closing n)) moment came.1)))

pub give_step : (world : World) (w : PlainWorld) (manager : Manager) (stream : ℕ) (stanza : List ℕ) (taken : Taken) (told : List Told) (after : Manager) (refused : List SeenItem) (news : List SeenItem) (next : World) → IsPlain world w → world.manager ≡ Some manager
    → ((m : PlainManager) → IsManager manager m → (taken ≡ (back (session m) stream stanza world.moment).1) × IsTurn told after (gives m stream stanza world.moment))
    → refused ≡ taken_refusals words.Give taken
    → ((turn : Turn) → IsTurn told after turn → IsPlainStep news next (turns w refused turn))
    → IsPlainStep news next (gives_to w stream stanza w.manager)
give_step world w manager stream stanza taken told after refused news next is has call refusals step =
    let there = has_manager world.manager manager w.manager has is.end in
    let came = call there.plain there.stands in
    let moment = is.rest.moment_is in
    let first : refused ≡ taken_refusals words.Give (back (session there.plain) stream stanza w.moment).1 =
    refusals ∙ ap (taken_refusals words.Give) (came.0 ∙ ap (λ (n : ℕ). (back (session there.plain) stream stanza n).1) moment) in
    subst (λ o. IsPlainStep news next (gives_to w stream stanza o)) (sym there.is)
    (subst (λ items. IsPlainStep news next (turns w items (gives there.plain stream stanza w.moment))) first
    (step (gives there.plain stream stanza w.moment) (subst (λ (n : ℕ). IsTurn told after (gives there.plain stream stanza n)) moment came.1)))

-- where there is none this alone is seen
pub only_step : (world : World) (w : PlainWorld) (item : SeenItem) (news : List SeenItem) → IsPlain world w → news ≡ item ∷ [] → IsPlainStep news world (only w item)
only_step world w item news is it = record { seen_is = it; world_is = is }

pub shut_none : (world : World) (w : PlainWorld) (stream : ℕ) (closing : Closing) (news : List SeenItem) (next : World) → IsPlain world w → world.manager ≡ None → IsPlainStep news next (only w (seen.RefusedOver words.Shut)) → IsPlainStep news next (shuts_to w stream closing w.manager)
shut_none world w stream closing news next is has step = subst (λ o. IsPlainStep news next (shuts_to w stream closing o)) (sym (no_manager world.manager w.manager has is.end)) step

pub give_none : (world : World) (w : PlainWorld) (stream : ℕ) (stanza : List ℕ) (news : List SeenItem) (next : World) → IsPlain world w → world.manager ≡ None → IsPlainStep news next (only w (seen.RefusedOver words.Give)) → IsPlainStep news next (gives_to w stream stanza w.manager)
give_none world w stream stanza news next is has step = subst (λ o. IsPlainStep news next (gives_to w stream stanza o)) (sym (no_manager world.manager w.manager has is.end)) step

-- Time passes.

pub rest_at : (world : World) (w : PlainWorld) (moment now : ℕ) → now ≡ max world.moment moment → IsRest world w → IsRest (record world { moment = now }) (at w moment)
rest_at world w moment now is_now is = record {
  host_is = is.host_is;
  greeting_is = is.greeting_is;
  moment_is = is_now ∙ ap (λ (n : ℕ). max n moment) is.moment_is;
  first_is = is.first_is;
  client = is.client;
  sent_are = is.sent_are;
  network_is = is.network_is;
  written_are = is.written_are;
}

pub at_step : (world : World) (w : PlainWorld) (manager : Manager) (moment now : ℕ) (told : List Told) (after : Manager) (first : List SeenItem) (news : List SeenItem) (next : World) → IsPlain world w
    → world.manager ≡ Some manager → now ≡ max world.moment moment → ((m : PlainManager) → IsManager manager m → IsTurn told after (passes m now)) → first ≡ []
    → ((turn : Turn) → IsTurn told after turn → IsPlainStep news next (turns (at w moment) first turn))
    → IsPlainStep news next (passes_to (at w moment) w.manager)
at_step world w manager moment now told after first news next is has is_now call none step =
    let there = has_manager world.manager manager w.manager has is.end in
    let same : now ≡ (at w moment).moment = is_now ∙ ap (λ (n : ℕ). max n moment) is.rest.moment_is in
    subst (λ o. IsPlainStep news next (passes_to (at w moment) o)) (sym there.is)
    (subst (λ items. IsPlainStep news next (turns (at w moment) items (passes there.plain (at w moment).moment))) none
    (step (passes there.plain (at w moment).moment) (subst (λ (n : ℕ). IsTurn told after (passes there.plain n)) same (call there.plain there.stands))))

pub at_none : (world : World) (w : PlainWorld) (moment now : ℕ) (news : List SeenItem) → IsPlain world w → world.manager ≡ None → now ≡ max world.moment moment → news ≡ []
    → IsPlainStep news (record world { moment = now }) (passes_to (at w moment) w.manager)
at_none world w moment now news is has is_now it =
    let absent = no_manager world.manager w.manager has is.end in
    subst (λ o. IsPlainStep news (record world { moment = now }) (passes_to (at w moment) o)) (sym absent)
    (record { seen_is = it; world_is = record { rest = rest_at world w moment now is_now is.rest; end = is.end } })
