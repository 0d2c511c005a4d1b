-- A world after a call of its client.
use Rattle.std.proofs.Common.{◌≡◌, ℕ, List, [], ◌∷◌, ◌++◌, map, refl, sym, ◌∙◌, ap, ap₂, subst}
use Rattle.std.proofs.lemmas.List.{map-append}
use Rattle.bosh_client.specs.declared.client.Client.{Client}
use Rattle.bosh_client.specs.declared.replies.Next.{Next}
use Rattle.bosh_client.specs.declared.replies.Next.TheVariants as nexts
use Rattle.bosh_client.specs.declared.replies.Queued.{Queued}
use Rattle.bosh_client.specs.declared.setup.ClientSetup.{ClientSetup}
use Rattle.bosh_client.specs.Machine.{next_made, next_request}
use Rattle.bosh_client.specs.PlainClient.{Made, PlainClient, bytes_of, id_of}
use Rattle.bosh_client.specs.Requests.{agreed}
use Rattle.bosh_client.specs.StandsFor.{Does, StandsFor}
use Rattle.world_laws.specs.declared.seen.SeenItem.{SeenItem}
use Rattle.world_laws.specs.declared.seen.SeenItem.TheVariants as seen
use Rattle.world_laws.specs.declared.seen.Word.{Word}
use Rattle.world_laws.specs.Sound.{sent_of}
use Rattle.world_laws.specs.Steps.{queues, refusals, sends}
use Rattle.world_laws.specs.World.{PlainWorld}
use Rattle.world_laws.proofs.ClientLemmas.{Queues, next_by}
use Rattle.two_ends.specs.declared.site.Site.{Site}
use Rattle.two_ends.specs.declared.world.World.{World}
use Rattle.two_ends.specs.Worlds.{IsEnd, IsRest, IsPlainStep, IsPlain, pair_of}

-- the same requests, whatever else the client did
pub rest_client : (world : World) (w : PlainWorld) → IsRest world w → (client : Client) (c : PlainClient) → StandsFor client c → c.setup ≡ w.client.setup → c.requests ≡ w.client.requests
    → IsRest (record world { client = client }) (record w { client = c })
rest_client world w is client c stands setup requests = record {
  host_is = is.host_is;
  greeting_is = is.greeting_is;
  moment_is = is.moment_is;
  first_is = is.first_is ∙ ap (λ (s : ClientSetup). s.first) (sym setup);
  client = stands;
  sent_are = is.sent_are ∙ ap (map bytes_of) (sym requests);
  network_is = is.network_is ∙ ap (map sent_of) (sym requests);
  written_are = is.written_are;
}

pub queued_step : (world : World) (w : PlainWorld) → IsPlain world w → (client : Client) (word : Word) (queued : Queued) (p : PlainClient × Queued) → Does client queued p → Queues w.client p.0
    → (news : List SeenItem) → news ≡ refusals word queued → IsPlainStep news (record world { client = client }) (queues w word p)
queued_step world w is client word queued p does q news it = record {
  seen_is = it ∙ ap (refusals word) does.replies;
  world_is = record { rest = rest_client world w is.rest client p.0 does.after q.setup_is q.requests_are; end = is.end };
}

-- A request is made, or none.

abbrev Made_so : PlainClient → PlainClient × Next → Type 0
Made_so c p = (rid : ℕ) (body : List ℕ) → p.1 ≡ nexts.Request rid body
    → (request : Made) × (p.0 ≡ record c { requests = c.requests ++ request ∷ [] }) × (id_of request ≡ rid) × (bytes_of request ≡ body)

request_same : (request : Made) (rid : ℕ) (body : List ℕ) → nexts.Request (id_of request) (bytes_of request) ≡ nexts.Request rid body → (id_of request ≡ rid) × (bytes_of request ≡ body)
request_same request rid body is = (cc, cc)

made_so : (c : PlainClient) (now : ℕ) → Made_so c (next_request c now)
made_so c now = next_by c now (Made_so c) (λ rid body is. absurd (cc)) (λ rid body is. absurd (cc))
    (λ rid body is.
    let same = request_same (next_made c (agreed c)) rid body is in
    (next_made c (agreed c), refl, same.0, same.1))

pair_is : (request : Made) (rid : ℕ) (body : List ℕ) → id_of request ≡ rid → bytes_of request ≡ body → sent_of request ≡ (rid, body)
pair_is request rid body id bytes = ap₂ (λ (n : ℕ) (b : List ℕ). (n, b)) id bytes

none_made : (c : PlainClient) (now : ℕ) → (next_request c now).1 ≡ nexts.Nothing → (next_request c now).0 ≡ c
none_made c now = next_by c now (λ p. p.1 ≡ nexts.Nothing → p.0 ≡ c) (λ is. refl) (λ is. refl) (λ is. absurd (cc))

none_spent : (c : PlainClient) (now : ℕ) → (next_request c now).1 ≡ nexts.RidsSpent → (next_request c now).0 ≡ c
none_spent c now = next_by c now (λ p. p.1 ≡ nexts.RidsSpent → p.0 ≡ c) (λ is. refl) (λ is. refl) (λ is. absurd (cc))

module _ (world : World) (w : PlainWorld) (is : IsPlain world w) (client : Client) (next : Next) (does : Does client next (next_request w.client world.moment)) (news : List SeenItem) where
  at_moment : Does client next (next_request w.client w.moment)
  at_moment = subst (λ (n : ℕ). Does client next (next_request w.client n)) (is.rest.moment_is) does

  sends_as : (later : World) (n : Next) → next ≡ n → IsPlainStep news later (sends w ((next_request w.client w.moment).0, n)) → IsPlainStep news later (sends w (next_request w.client w.moment))
  sends_as later n same step = subst (λ (x : Next). IsPlainStep news later (sends w ((next_request w.client w.moment).0, x))) (sym same ∙ at_moment.replies) step

  unmoved : (item : SeenItem) → (next_request w.client w.moment).0 ≡ w.client → news ≡ item ∷ []
      → IsPlainStep news (record world { client = client }) (record { seen = item ∷ []; after = record w { client = (next_request w.client w.moment).0 } })
  unmoved item same it = record {
    seen_is = it;
    world_is = record {
      rest = rest_client world w is.rest client (next_request w.client w.moment).0 at_moment.after (ap (λ (c : PlainClient). c.setup) same) (ap (λ (c : PlainClient). c.requests) same);
      end = is.end;
    };
  }

  pub none_step : next ≡ nexts.Nothing → news ≡ seen.Nothing ∷ [] → IsPlainStep news (record world { client = client }) (sends w (next_request w.client w.moment))
  none_step same it = sends_as _ nexts.Nothing same (unmoved seen.Nothing (none_made w.client w.moment (sym at_moment.replies ∙ same)) it)

  pub spent_step : next ≡ nexts.RidsSpent → news ≡ seen.Spent ∷ [] → IsPlainStep news (record world { client = client }) (sends w (next_request w.client w.moment))
  spent_step same it = sends_as _ nexts.RidsSpent same (unmoved seen.Spent (none_spent w.client w.moment (sym at_moment.replies ∙ same)) it)

  -- one request more is in the network
  pub made_step : (rid : ℕ) (body : List ℕ) (later : World) → next ≡ nexts.Request rid body → later.site ≡ world.site → later.moment ≡ world.moment → later.first ≡ world.first
      → later.client ≡ client → later.manager ≡ world.manager → later.written ≡ world.written → later.sent.items ≡ world.sent.items ++ body ∷ []
      → news ≡ seen.Req rid body ∷ [] → IsPlainStep news later (sends w (next_request w.client w.moment))
  made_step rid body later same site moment first client_is manager written more it =
      let made = made_so w.client w.moment rid body (sym at_moment.replies ∙ same) in
      let c : PlainClient = (next_request w.client w.moment).0 in
      let requests : c.requests ≡ w.client.requests ++ made.0 ∷ [] = ap (λ (d : PlainClient). d.requests) made.1 in
      let setup : c.setup ≡ w.client.setup = ap (λ (d : PlainClient). d.setup) made.1 in
      let pair : sent_of made.0 ≡ (rid, body) = pair_is made.0 rid body made.2 made.3 in
      sends_as later (nexts.Request rid body) same (record {
        seen_is = it;
        world_is = record {
          rest = record {
            host_is = ap (λ (s : Site). s.host) site ∙ is.rest.host_is;
            greeting_is = ap (λ (s : Site). s.greeting) site ∙ is.rest.greeting_is;
            moment_is = moment ∙ is.rest.moment_is;
            first_is = first ∙ is.rest.first_is ∙ ap (λ (s : ClientSetup). s.first) (sym setup);
            client = subst (λ (x : Client). StandsFor x c) (sym client_is) at_moment.after;
            sent_are = more ∙ ap (λ l. l ++ body ∷ []) is.rest.sent_are ∙ ap (λ (b : List ℕ). map bytes_of w.client.requests ++ b ∷ []) (sym made.3)
                ∙ sym (map-append bytes_of w.client.requests (made.0 ∷ [])) ∙ ap (map bytes_of) (sym requests);
            network_is = ap (λ l. l ++ (rid, body) ∷ []) is.rest.network_is ∙ ap (λ (p : ℕ × List ℕ). map sent_of w.client.requests ++ p ∷ []) (sym pair)
                ∙ sym (map-append sent_of w.client.requests (made.0 ∷ [])) ∙ ap (map sent_of) (sym requests);
            written_are = ap (λ v. map pair_of v.items) written ∙ is.rest.written_are;
          };
          end = subst (λ o. IsEnd o w.manager) (sym manager) is.end;
        };
      })
