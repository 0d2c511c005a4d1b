-- What a session is opened with at a host.
use Rattle.std.proofs.Common.{◌≡◌, ◌≤◌, ◌<◌, ℕ, true, List, length, get_or, map, sym, subst, ◌∙◌, inl, inr}
use Rattle.std.specs.Prelude.{IsTrue}
use Rattle.std.specs.List.{list_all}
use Rattle.std.proofs.lemmas.List.Folds.{list_all_at}
use Rattle.bosh_types.specs.Limits.{longest_stanza, most_waiting}
use Rattle.bosh_types.specs.declared.hosts.HostName.{HostName}
use Rattle.body_cutter.specs.BodyText.{IsText}
use Rattle.body_cutter.specs.Cutting.{is_stanza}
use Rattle.body_cutter.proofs.Leads.{both}
use Rattle.server_ports.specs.Names.{IsNamePart}
use Rattle.session_attrs.specs.declared.request.Creation.{Creation}
use Rattle.session_attrs.specs.declared.request.Kind.TheVariants as kinds
use Rattle.session_core.specs.declared.outward.Outward.TheVariants.{Stanza}
use Rattle.session_core.specs.Journal.{IsReadFrom}
use Rattle.session_core.specs.Outward.{size_of_all}
use Rattle.session_core.proofs.GreetingLemmas.{greeting_fits}
use Rattle.session_laws.proofs.Tests.{is_or_not, true_false}
use Rattle.session_table.specs.declared.opening.Opening.{Opening}
use Rattle.session_table.specs.Replies.{MayOpen}
use Rattle.session_attrs.specs.Serving.{can_serve, is_host_name, may_greet}
use Rattle.session_attrs.proofs.ServingLemmas.{host_text}

-- what names the host and has its greeting may be opened
pub may_open : (host : HostName) (o : Opening) → IsTrue (can_serve host) → IsNamePart o.name → IsReadFrom o.body o.request
    → (creation : Creation) × (o.request.kind ≡ kinds.Creation creation) → o.host ≡ host.name → o.greeting ≡ host.greeting → MayOpen o
may_open host o good name read creation host_is greeting_is =
    let known = both (is_host_name host.name) (may_greet host.greeting) good in
    record {
      name = name;
      read = read;
      creation = creation;
      host = subst (λ n. IsText n × (1 ≤ length n) × (length n ≤ 1023)) (sym host_is) (host_text host.name known.0);
      greeting = subst (λ g. IsTrue (list_all is_stanza g) × (length g ≤ most_waiting) × (size_of_all (map (Stanza 0) g) ≤ longest_stanza)) (sym greeting_is) (greeting_fits host.greeting known.1);
    }

-- the host at a place among those that can be served
pub serves_at : (hosts : List HostName) (place : ℕ) (d : HostName) → IsTrue (list_all can_serve hosts) → place < length hosts → IsTrue (can_serve (get_or hosts place d))
serves_at hosts place d all within = elim (is_or_not (can_serve (get_or hosts place d))) [
  | inl good ↦ good
  | inr bad ↦ absurd (true_false (sym all ∙ list_all_at can_serve hosts place d within bad))
]
