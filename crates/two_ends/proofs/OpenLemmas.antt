-- A world's creation opens its session.
use Rattle.std.proofs.Common.{◌≡◌, ◌≤◌, ℕ, List, [], length, Some, refl, sym, ◌∙◌, ap, subst, arith}
use Rattle.std.specs.Prelude.{IsTrue}
use Rattle.std.proofs.lemmas.Bool.{and_parts}
use Rattle.std.proofs.lemmas.Str.{IsUtf8-from_is_utf8}
use Rattle.bosh_types.specs.declared.terms.Terms.{Terms}
use Rattle.body_cutter.specs.BodyText.{IsText}
use Rattle.body_cutter.proofs.Rows.{cuts_compute}
use Rattle.body_writer.specs.Answer.{answer_text}
use Rattle.session_attrs.specs.declared.request.Creation.{Creation}
use Rattle.session_attrs.specs.declared.request.Kind.TheVariants as kinds
use Rattle.session_attrs.specs.declared.request.Request.{Request}
use Rattle.session_attrs.specs.Serving.{is_host_name, may_greet}
use Rattle.session_attrs.specs.Terms.{terms_of}
use Rattle.session_attrs.proofs.ServingLemmas.{host_text}
use Rattle.session_core.specs.Journal.{IsOpening, IsReadFrom}
use Rattle.session_core.specs.Machine.{created_parts}
use Rattle.session_core.specs.declared.opening.Opening.{Opening}
use Rattle.session_core.specs.Opened.{opening_of}
use Rattle.session_core.proofs.GreetingLemmas.{greeting_fits}
use Rattle.session_journal.specs.declared.entry.Entry.{Entry}
use Rattle.session_journal.specs.Entries.{request_in}
use Rattle.session_journal.specs.Stored.{IsJournalOf}
use Rattle.world_laws.specs.declared.told.Told.{Told}
use Rattle.world_laws.specs.Manager.{opens}
use Rattle.world_laws.specs.Steps.{name, opening}
use Rattle.world_laws.specs.World.{PlainWorld}
use Rattle.world_laws.proofs.RequestLemmas.{given_read}
use Rattle.two_ends.specs.declared.manager.Manager.{Manager}
use Rattle.two_ends.specs.declared.world.World.{World}
use Rattle.two_ends.specs.Serves.{serves}
use Rattle.two_ends.specs.Stands.{IsTurn}
use Rattle.two_ends.specs.Worlds.{IsRest}

name_text : IsText name
unfolding cuts_compute
name_text = (IsUtf8-from_is_utf8 name refl, refl)

-- what a world serves may be opened
pub may_open : (host : List ℕ) (greeting : List (List ℕ)) (request : Request) (creation : Creation) (body bytes sid : List ℕ) (terms : Terms) (now : ℕ) → IsTrue (serves host greeting)
    → request_in body ≡ Some request → request.kind ≡ kinds.Creation creation → bytes ≡ body → terms ≡ terms_of creation → sid ≡ name
    → IsOpening (opening_of request bytes terms sid host greeting now)
may_open host greeting request creation body bytes sid terms now served read kind same terms_are sid_is =
    let known = and_parts (is_host_name host) (may_greet greeting) served in
    record {
      read = subst (λ b. IsReadFrom b request) (sym same) (given_read body request read);
      creation = (creation, kind, terms_are);
      sid = subst (λ n. IsText n × (1 ≤ length n) × (length n ≤ 64)) (sym sid_is) (name_text, omega arith, omega arith);
      host = host_text host known.0;
      gap = (omega arith, omega arith);
      greeting = greeting_fits greeting known.1;
    }

-- and this is its opening
opening_same : (w : PlainWorld) (request : Request) (creation : Creation) (body bytes sid host : List ℕ) (greeting : List (List ℕ)) (terms : Terms) (now : ℕ)
    → bytes ≡ body → terms ≡ terms_of creation → sid ≡ name → host ≡ w.host → greeting ≡ w.greeting → now ≡ w.moment
    → opening_of request bytes terms sid host greeting now ≡ opening w request body creation
opening_same w request creation body bytes sid host greeting terms now body_is terms_are sid_is host_is greeting_is now_is =
    ap (λ b. opening_of request b terms sid host greeting now) body_is
    ∙ ap (λ t. opening_of request body t sid host greeting now) terms_are
    ∙ ap (λ n. opening_of request body (terms_of creation) n host greeting now) sid_is
    ∙ ap (λ n. opening_of request body (terms_of creation) name n greeting now) host_is
    ∙ ap (λ g. opening_of request body (terms_of creation) name w.host g now) greeting_is
    ∙ ap (λ (n : ℕ). opening_of request body (terms_of creation) name w.host w.greeting n) now_is

pub opened_turn : (world : World) (w : PlainWorld) → IsRest world w → (request : Request) (creation : Creation) (body bytes sid : List ℕ) (terms : Terms) (log : List Entry) (answer : List ℕ) (news : List Told) (manager : Manager)
    → bytes ≡ body → terms ≡ terms_of creation → sid ≡ name
    → IsJournalOf log (record { opening = opening_of request bytes terms sid world.site.host world.site.greeting world.moment; entries = [] })
    → answer ≡ answer_text (created_parts (opening_of request bytes terms sid world.site.host world.site.greeting world.moment))
    → ((o : Opening) → IsJournalOf log (record { opening = o; entries = [] }) → o.request.rid ≡ request.rid → answer ≡ answer_text (created_parts o) → IsTurn news manager (opens o))
    → IsTurn news manager (opens (opening w request body creation))
opened_turn world w rest request creation body bytes sid terms log answer news manager body_is terms_are sid_is stored told turn =
    let same = opening_same w request creation body bytes sid world.site.host world.site.greeting terms world.moment body_is terms_are sid_is rest.host_is rest.greeting_is rest.moment_is in
    turn (opening w request body creation) (subst (λ o. IsJournalOf log (record { opening = o; entries = [] })) same stored) refl (told ∙ ap (λ o. answer_text (created_parts o)) same)
