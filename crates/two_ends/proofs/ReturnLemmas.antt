-- An answer comes to the client of a world.
use Rattle.std.proofs.Common.{◌≡◌, ℕ, zero, suc, ◌<◌, List, [], ◌∷◌, ◌++◌, Option, Some, None, length, map, slice_get, refl, sym, ◌∙◌, ap, subst, arith}
use Rattle.std.specs.Option.{option_map}
use Rattle.std.proofs.lemmas.Option.{slice_get-map, slice_get_past}
use Rattle.bosh_client.specs.declared.client.Client.{Client}
use Rattle.bosh_client.specs.declared.replies.Answered.{Answered}
use Rattle.bosh_client.specs.declared.replies.Answered.TheVariants as answerings
use Rattle.bosh_client.specs.declared.replies.ClientEnd.{ClientEnd}
use Rattle.bosh_client.specs.declared.replies.Why.{Why}
use Rattle.bosh_client.specs.Machine.{answer}
use Rattle.bosh_client.specs.PlainClient.{PlainClient, end_of}
use Rattle.bosh_client.specs.StandsFor.{Does, StandsFor}
use Rattle.world_laws.specs.declared.seen.SeenItem.{SeenItem}
use Rattle.world_laws.specs.declared.seen.SeenItem.TheVariants as seen
use Rattle.world_laws.specs.Steps.{all_handed, ended_seen, got, left_of, returned, returns, returns_to}
use Rattle.world_laws.specs.World.{PlainWorld}
use Rattle.world_laws.proofs.ClientLemmas.{answer_by}
use Rattle.two_ends.specs.declared.world.World.{World}
use Rattle.two_ends.specs.declared.world.Written.{Written}
use Rattle.two_ends.specs.Worlds.{IsPlain, IsPlainStep, IsRest, pair_of}
use Rattle.two_ends.proofs.CopyLemmas.{kept_step}
use Rattle.two_ends.proofs.RestLemmas.{rest_client}

-- Which answer comes.

written_at : (world : World) (w : PlainWorld) → IsRest world w → (place : ℕ) → slice_get w.written place ≡ option_map pair_of (slice_get world.written.items place)
written_at world w is place = ap (λ (l : List (ℕ × List ℕ)). slice_get l place) (sym is.written_are) ∙ slice_get-map pair_of world.written.items place

pub return_some : (world : World) (w : PlainWorld) → IsPlain world w → (number place : ℕ) (written : Written) → number ≡ suc place → slice_get world.written.items place ≡ Some written
    → (news : List SeenItem) (next : World) → IsPlainStep news next (returned w written.rid (answer w.client written.rid written.body w.moment)) → IsPlainStep news next (returns w number)
return_some world w is number place written same there news next step =
    subst (λ (n : ℕ). IsPlainStep news next (returns w n)) (sym same)
    (subst (λ o. IsPlainStep news next (returns_to w o)) (sym (written_at world w is.rest place ∙ ap (option_map pair_of) there)) step)

pub return_none : (world : World) (w : PlainWorld) → IsPlain world w → (number : ℕ) → (0 < number → length world.written.items < number)
    → (news : List SeenItem) → news ≡ seen.NoCopy ∷ [] → IsPlainStep news world (returns w number)
return_none world w is zero past news it = kept_step world w is (seen.NoCopy ∷ []) news it
return_none world w is (suc place) past news it =
    let none : slice_get world.written.items place ≡ None = slice_get_past world.written.items place (omega (arith, past (omega arith))) in
    subst (λ o. IsPlainStep news world (returns_to w o)) (sym (written_at world w is.rest place ∙ ap (option_map pair_of) none)) (kept_step world w is (seen.NoCopy ∷ []) news it)

-- What it does.

module _ (c : PlainClient) (rid : ℕ) (body : List ℕ) (now : ℕ) where
  unmade_same : (answer c rid body now).1 ≡ answerings.Unmade → (answer c rid body now).0 ≡ c
  unmade_same = answer_by c rid body now (λ p. p.1 ≡ answerings.Unmade → p.0 ≡ c) (λ is. refl) (λ is. refl) (λ is. refl) (λ why is. refl) (λ t same is. absurd (cc))

  stale_same : (answer c rid body now).1 ≡ answerings.Stale → (answer c rid body now).0 ≡ c
  stale_same = answer_by c rid body now (λ p. p.1 ≡ answerings.Stale → p.0 ≡ c) (λ is. refl) (λ is. refl) (λ is. refl) (λ why is. refl) (λ t same is. absurd (cc))

  broken_same : (why : Why) → (answer c rid body now).1 ≡ answerings.Broken why → (answer c rid body now).0 ≡ c
  broken_same why = answer_by c rid body now (λ p. p.1 ≡ answerings.Broken why → p.0 ≡ c) (λ is. refl) (λ is. refl) (λ is. refl) (λ other is. refl) (λ t same is. absurd (cc))

  again_same : (first last : ℕ) → (answer c rid body now).1 ≡ answerings.Again first last → (answer c rid body now).0 ≡ c
  again_same first last = answer_by c rid body now (λ p. p.1 ≡ answerings.Again first last → p.0 ≡ c) (λ is. refl) (λ is. refl) (λ is. refl) (λ why is. refl) (λ t took is. absurd (cc))

  pub answers_keep : ((answer c rid body now).0.setup ≡ c.setup) × ((answer c rid body now).0.requests ≡ c.requests)
  answers_keep = answer_by c rid body now (λ p. (p.0.setup ≡ c.setup) × (p.0.requests ≡ c.requests)) (refl, refl) (refl, refl) (refl, refl) (λ why. (refl, refl)) (λ t took. (refl, refl))

module _ (world : World) (w : PlainWorld) (is : IsPlain world w) (rid : ℕ) (body : List ℕ) (client : Client) (answered : Answered) (does : Does client answered (answer w.client rid body world.moment)) where
  abbrev after : PlainClient
  after = (answer w.client rid body w.moment).0

  at_moment : Does client answered (answer w.client rid body w.moment)
  at_moment = subst (λ (n : ℕ). Does client answered (answer w.client rid body n)) is.rest.moment_is does

  -- the client that took it, or did not
  taken_world : IsPlain (record world { client = client }) (record w { client = after })
  taken_world =
      let keeps = answers_keep w.client rid body w.moment in
      record { rest = rest_client world w is.rest client after at_moment.after keeps.0 keeps.1; end = is.end }

  abbrev later : World
  later = record world { client = client }

  module _ (news : List SeenItem) where
    returned_as : (next : World) (reply : Answered) → answered ≡ reply → IsPlainStep news next (returned w rid (after, reply)) → IsPlainStep news next (returned w rid (answer w.client rid body w.moment))
    returned_as next reply same step = subst (λ (r : Answered). IsPlainStep news next (returned w rid (after, r))) (sym same ∙ at_moment.replies) step

    -- where it was not taken nothing changes
    unchanged : (items : List SeenItem) → after ≡ w.client → news ≡ items → IsPlainStep news later (record { seen = items; after = w })
    unchanged items same it = kept_step later w (subst (λ (c : PlainClient). IsPlain later (record w { client = c })) same taken_world) items news it

    pub unmade_step : answered ≡ answerings.Unmade → news ≡ [] → IsPlainStep news later (returned w rid (answer w.client rid body w.moment))
    unmade_step same it = returned_as later answerings.Unmade same (unchanged [] (unmade_same w.client rid body w.moment (sym at_moment.replies ∙ same)) it)

    pub stale_step : answered ≡ answerings.Stale → news ≡ seen.Stale rid ∷ [] → IsPlainStep news later (returned w rid (answer w.client rid body w.moment))
    stale_step same it =
        returned_as later answerings.Stale same (unchanged (seen.Stale rid ∷ []) (stale_same w.client rid body w.moment (sym at_moment.replies ∙ same)) it)

    pub broken_step : (why : Why) → answered ≡ answerings.Broken why → news ≡ seen.Broken rid ∷ [] → IsPlainStep news later (returned w rid (answer w.client rid body w.moment))
    broken_step why same it =
        returned_as later (answerings.Broken why) same (unchanged (seen.Broken rid ∷ []) (broken_same w.client rid body w.moment why (sym at_moment.replies ∙ same)) it)

    pub again_step : (first last : ℕ) → answered ≡ answerings.Again first last → news ≡ seen.Again first last ∷ [] → IsPlainStep news later (returned w rid (answer w.client rid body w.moment))
    again_step first last same it =
        returned_as later (answerings.Again first last) same (unchanged (seen.Again first last ∷ []) (again_same w.client rid body w.moment first last (sym at_moment.replies ∙ same)) it)

    pub done_step : (next : World) → answered ≡ answerings.Done → (before : Option ClientEnd) → before ≡ end_of w.client
        → ((v : PlainWorld) → IsPlain later v
        → IsPlainStep news next (record { seen = map got (left_of v.client) ++ ended_seen before (end_of v.client); after = record v { client = all_handed v.client } }))
        → IsPlainStep news next (returned w rid (answer w.client rid body w.moment))
    done_step next same before before_is step =
        returned_as next answerings.Done same
        (subst (λ b. IsPlainStep news next (record { seen = map got (left_of after) ++ ended_seen b (end_of after); after = record w { client = all_handed after } })) before_is
        (step (record w { client = after }) taken_world))

-- all that is left is handed out
pub took_step : (world : World) (w : PlainWorld) → IsPlain world w → (client : Client) → StandsFor client (all_handed w.client) → (before end : Option ClientEnd) → end ≡ end_of (all_handed w.client)
    → (none items all : List SeenItem) → none ≡ [] → items ≡ none ++ map got (left_of w.client) → all ≡ items ++ ended_seen before end
    → (news : List SeenItem) → news ≡ all
    → IsPlainStep news (record world { client = client }) (record { seen = map got (left_of w.client) ++ ended_seen before (end_of w.client); after = record w { client = all_handed w.client } })
took_step world w is client stands before end end_is none items all nothing left more news it = record {
  seen_is = it ∙ more ∙ ap (λ (l : List SeenItem). l ++ ended_seen before end) (left ∙ ap (λ (l : List SeenItem). l ++ map got (left_of w.client)) nothing)
      ∙ ap (λ (e : Option ClientEnd). map got (left_of w.client) ++ ended_seen before e) end_is;
  world_is = record { rest = rest_client world w is.rest client (all_handed w.client) stands refl refl; end = is.end };
}
