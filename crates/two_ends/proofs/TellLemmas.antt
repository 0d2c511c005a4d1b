-- What a manager tells is seen, one thing after the other.
use Rattle.std.proofs.Common.{◌≡◌, ℕ, List, [], ◌∷◌, ◌++◌, length, map, refl, sym, ◌∙◌, ap, subst, arith, append-nil, Some}
use Rattle.std.proofs.lemmas.List.{length-map}
use Rattle.bosh_types.specs.declared.condition.Condition.{Condition}
use Rattle.bosh_client.specs.declared.client.Client.{Client}
use Rattle.bosh_client.specs.StandsFor.{StandsFor}
use Rattle.world_laws.specs.declared.seen.SeenItem.{SeenItem}
use Rattle.world_laws.specs.declared.told.Told.{Told}
use Rattle.world_laws.specs.Manager.{Turn, refusal_to}
use Rattle.world_laws.specs.Steps.{answers_in, numbered, refuses, turns}
use Rattle.world_laws.specs.World.{PlainWorld}
use Rattle.two_ends.specs.declared.manager.Manager.{Manager}
use Rattle.two_ends.specs.declared.site.Site.{Site}
use Rattle.two_ends.specs.declared.world.World.{World}
use Rattle.two_ends.specs.declared.world.Written.{Written}
use Rattle.two_ends.specs.Stands.{IsTurn}
use Rattle.two_ends.specs.Worlds.{IsEnd, IsPlain, IsRest, IsPlainStep, pair_of}

-- what was seen, and what is left to see, is all
pub record SeesOn (seen : List SeenItem) (written : List Written) (told : List Told) (now : List SeenItem) (network : List Written) (rest : List Told) : Type 0 where
  pub seen_is : now ++ numbered (length network) rest ≡ seen ++ numbered (length written) told
  pub written_is : map pair_of network ++ answers_in rest ≡ map pair_of written ++ answers_in told

pub sees_from : (seen : List SeenItem) (written : List Written) (told : List Told) → SeesOn seen written told seen written told
sees_from seen written told = record { seen_is = refl; written_is = refl }

pub sees_more : (seen : List SeenItem) (written : List Written) (told : List Told) (now later : List SeenItem) (network longer : List Written) (first : Told) (rest : List Told)
    → later ++ numbered (length longer) rest ≡ now ++ numbered (length network) (first ∷ rest) → map pair_of longer ++ answers_in rest ≡ map pair_of network ++ answers_in (first ∷ rest)
    → SeesOn seen written told now network (first ∷ rest) → SeesOn seen written told later longer rest
sees_more seen written told now later network longer first rest one two on = record { seen_is = one ∙ on.seen_is; written_is = two ∙ on.written_is }

pub sees_end : (seen : List SeenItem) (written : List Written) (told : List Told) (now : List SeenItem) (network : List Written) → SeesOn seen written told now network []
    → (now ≡ seen ++ numbered (length written) told) × (map pair_of network ≡ map pair_of written ++ answers_in told)
sees_end seen written told now network on = (sym (append-nil now) ∙ on.seen_is, sym (append-nil (map pair_of network)) ∙ on.written_is)

pub nothing_left : (told : List Told) → length told ≡ 0 → told ≡ []
nothing_left [] is = refl
nothing_left (first ∷ told) is = absurd (omega (arith, is))

-- a world after what its manager told
pub turned_step : (world later : World) (w : PlainWorld) → IsRest world w → (told : List Told) (manager : Manager) (turn : Turn) → IsTurn told manager turn
    → (first news : List SeenItem) → (news ≡ first ++ numbered (length world.written.items) told) × (map pair_of later.written.items ≡ map pair_of world.written.items ++ answers_in told)
    → later.site ≡ world.site → later.moment ≡ world.moment → later.first ≡ world.first → later.client ≡ world.client → later.sent ≡ world.sent → later.manager ≡ Some manager
    → IsPlainStep news later (turns w first turn)
turned_step world later w rest told manager turn is first news sees site moment first_id client sent manager_is =
    let count : length world.written.items ≡ length w.written = sym (length-map world.written.items pair_of) ∙ ap length rest.written_are in
    record {
      seen_is = sees.0 ∙ ap (λ (n : ℕ). first ++ numbered n told) count ∙ ap (λ (l : List Told). first ++ numbered (length w.written) l) is.told_is;
      world_is = record {
        rest = record {
          host_is = ap (λ (s : Site). s.host) site ∙ rest.host_is;
          greeting_is = ap (λ (s : Site). s.greeting) site ∙ rest.greeting_is;
          moment_is = moment ∙ rest.moment_is;
          first_is = first_id ∙ rest.first_is;
          client = subst (λ (x : Client). StandsFor x w.client) (sym client) rest.client;
          sent_are = ap (λ v. v.items) sent ∙ rest.sent_are;
          network_is = rest.network_is;
          written_are = sees.1 ∙ ap (λ (l : List (ℕ × List ℕ)). l ++ answers_in told) rest.written_are ∙ ap (λ (l : List Told). w.written ++ answers_in l) is.told_is;
        };
        end = subst (λ o. IsEnd o (Some turn.after)) (sym manager_is) is.manager_is;
      };
    }

-- a world after a request was refused
pub refused_step : (world later : World) (w : PlainWorld) → IsPlain world w → (rid : ℕ) (condition : Condition) (told : List Told) → told ≡ refusal_to rid condition ∷ []
    → (first news : List SeenItem) → first ≡ [] → (news ≡ first ++ numbered (length world.written.items) told) × (map pair_of later.written.items ≡ map pair_of world.written.items ++ answers_in told)
    → later.site ≡ world.site → later.moment ≡ world.moment → later.first ≡ world.first → later.client ≡ world.client → later.sent ≡ world.sent → later.manager ≡ world.manager
    → IsPlainStep news later (refuses w rid condition)
refused_step world later w is rid condition told told_is first news none sees site moment first_id client sent manager_is =
    let rest = is.rest in
    let count : length world.written.items ≡ length w.written = sym (length-map world.written.items pair_of) ∙ ap length rest.written_are in
    record {
      seen_is = sees.0 ∙ ap (λ (l : List SeenItem). l ++ numbered (length world.written.items) told) none ∙ ap (λ (n : ℕ). numbered n told) count ∙ ap (λ (l : List Told). numbered (length w.written) l) told_is;
      world_is = record {
        rest = record {
          host_is = ap (λ (s : Site). s.host) site ∙ rest.host_is;
          greeting_is = ap (λ (s : Site). s.greeting) site ∙ rest.greeting_is;
          moment_is = moment ∙ rest.moment_is;
          first_is = first_id ∙ rest.first_is;
          client = subst (λ (x : Client). StandsFor x w.client) (sym client) rest.client;
          sent_are = ap (λ v. v.items) sent ∙ rest.sent_are;
          network_is = rest.network_is;
          written_are = sees.1 ∙ ap (λ (l : List (ℕ × List ℕ)). l ++ answers_in told) rest.written_are ∙ ap (λ (l : List Told). w.written ++ answers_in l) told_is;
        };
        end = subst (λ o. IsEnd o w.manager) (sym manager_is) is.end;
      };
    }
