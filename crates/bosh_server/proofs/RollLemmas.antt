-- What a whole server did with its links and its hosts.
use Rattle.std.proofs.Common.{◌≡◌, ◌-◌, ◌^◌, ◌<◌, ◌∷◌, [], List, ℕ, Bool, Option, Some, None, All, length, map, filter, arith, ap, ◌∙◌, subst, sym, refl}
use Rattle.std.proofs.Math.Logic.{∥∥₁_elim, ∥∥₁_map, ∥∥₁_prop}
use Rattle.std.proofs.lemmas.List.Elements.{All-nil}
use Rattle.std.specs.List.{sum_by}
use Rattle.std.specs.Option.{option_map}
use Rattle.bosh_types.specs.declared.hosts.HostName.{HostName}
use Rattle.server_ports.specs.Counts.{Counts}
use Rattle.session_attrs.specs.Serving.{can_serve}
use Rattle.session_pump.specs.declared.hosts.Host.{Host}
use Rattle.session_pump.specs.declared.hosts.Stand.{Stand}
use Rattle.session_pump.specs.declared.pump.Pump.{Pump}
use Rattle.session_pump.specs.Ends.{fresh}
use Rattle.session_pump.specs.Pumping.{HostFacts, facts_of, pumping_of}
use Rattle.session_table.specs.declared.entry.Entry.{Entry}
use Rattle.session_table.specs.declared.opening.Limits.{Limits}
use Rattle.session_table.specs.History.{IsLegal}
use Rattle.serve_loop.specs.Trail.{Setting, setting}
use Rattle.bosh_server.specs.declared.fates.Fate.{Fate}
use Rattle.xmpp_backend.specs.Counts.{Counts as Ports}
use Rattle.xmpp_backend.specs.Told.{Told}
use Rattle.bosh_server.specs.Behind.{EndsTogether, IsService, stands_of}
use Rattle.bosh_server.specs.Fates.{IsFate, IsOfHistory, site_of}

abbrev the_name : {E : Type 0} → Host E → HostName
the_name host = record { name = host.name; greeting = host.greeting }

module _ {L : Type 0} (left given : L → Option (List ℕ)) (closed : L → Option Bool) (faults : L → ℕ) where
  module _ {E : Type 0} (told : E → Option Told) (counts : E → Ports) where
    -- the links that came home are those that were accepted, and the pump that did is there
    pub serviced : (site : Setting) (stands : List HostFacts) (old new : Counts) (links : ℕ) (roll : List (List (Fate L))) (place : Option (Pump E)) (pump : Pump E)
        → (links < 2 ^ 64 - 1 → sum_by length roll ≡ links)
        → (new.accepted < 2 ^ 64 - 1 → links ≡ new.accepted - old.accepted)
        → ∥ All (λ fates. All (IsFate left given closed faults site) fates) roll ∥₁ → place ≡ Some pump
        → ∥ EndsTogether stands roll (pumping_of told counts pump) ∥₁
        → ∥ IsService left given closed faults site stands old new roll (option_map (pumping_of told counts) place) ∥₁
    serviced site stands old new links roll place pump all taken true_of there together =
        subst (λ place. ∥ IsService left given closed faults site stands old new roll (option_map (pumping_of told counts) place) ∥₁) (sym there)
        (∥∥₁_elim together ∥∥₁_prop
        (λ e. ∥∥₁_map true_of
        (λ t. record {
          rolled = record {
            all = λ low. (let is = taken low in all (omega (arith, is, low)) ∙ is);
            true_of = t;
            history = e.history;
            legal = e.legal;
            of_one = e.of_one;
          };
          pumped = e.pumped;
        })))

    -- none was accepted, and no pump was started
    pub serviced_none : (site : Setting) (stands : List HostFacts) (old new : Counts) (roll : List (List (Fate L))) (history : List Entry) (place : Option (Pump E)) → roll ≡ []
        → new.accepted ≡ old.accepted → ∥ IsLegal history ∥₁ → place ≡ None
        → ∥ IsService left given closed faults site stands old new roll (option_map (pumping_of told counts) place) ∥₁
    serviced_none site stands old new roll history place none same legal nowhere =
        subst (λ place. ∥ IsService left given closed faults site stands old new roll (option_map (pumping_of told counts) place) ∥₁) (sym nowhere)
        (∥∥₁_map legal
        (λ l. record {
          rolled = record {
            all = λ low. ap (sum_by length) none ∙ omega (arith, same);
            true_of = subst (All (λ fates. All (IsFate left given closed faults site) fates)) (sym none) (All-nil (λ fates. All (IsFate left given closed faults site) fates));
            history = history;
            legal = l;
            of_one = subst (All (λ fates. All (IsOfHistory history) fates)) (sym none) (All-nil (λ fates. All (IsOfHistory history) fates));
          };
          pumped = same;
        }))

-- the names of hosts that begin
names_fresh : {E : Type 0} (hosts : List (Host E))
    → map (λ (stand : Stand E). the_name stand.host) (map fresh hosts) ≡ map the_name hosts
names_fresh [] = refl
names_fresh (host ∷ hosts) = ap (λ names. the_name host ∷ names) (names_fresh hosts)

-- the site of a server is that of its hosts, its plan and its clock
pub site_is : {E : Type 0} (hosts : List (Host E)) (stands : List (Stand E)) (served : List HostName) (limits planned : Limits) (moment : Option ℕ) → stands ≡ map fresh hosts
    → served ≡ filter can_serve (map (λ (stand : Stand E). the_name stand.host) stands) → limits ≡ planned
    → setting served limits moment ≡ site_of hosts planned moment
site_is hosts stands served limits planned moment begun is same =
    ap (λ h. setting h limits moment) (is ∙ ap (λ s. filter can_serve (map (λ stand. the_name stand.host) s)) begun ∙ ap (filter can_serve) (names_fresh hosts))
    ∙ ap (λ l. setting (filter can_serve (map the_name hosts)) l moment) same

-- and what its hosts have behind them at first is that of those
pub stands_are : {E : Type 0} (told : E → Option Told) (counts : E → Ports) (hosts : List (Host E)) (stands : List (Stand E)) → stands ≡ map fresh hosts
    → map (facts_of told counts) stands ≡ stands_of told counts hosts
stands_are told counts hosts stands begun = ap (map (facts_of told counts)) begun
