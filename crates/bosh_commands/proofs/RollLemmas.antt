-- A server that accepted no link.
use Rattle.std.proofs.Common.{◌≡◌, ◌≤◌, ◌∙◌, List, [], ℕ, Bool, Option, Some, None, All, length, ap, subst, sym, arith}
use Rattle.std.specs.Prelude.{IfSome}
use Rattle.std.proofs.lemmas.List.Elements.{All-nil}
use Rattle.std.specs.List.{sum_by}
use Rattle.std.specs.Option.{option_map}
use Rattle.server_ports.specs.Counts.{Counts}
use Rattle.session_pump.specs.declared.hosts.Host.{Host}
use Rattle.session_pump.specs.declared.pump.Pump.{Pump}
use Rattle.session_pump.specs.Pumping.{pumping_of}
use Rattle.session_table.specs.declared.opening.Limits.{Limits}
use Rattle.session_table.specs.History.{IsLegal}
use Rattle.xmpp_backend.specs.Counts.{Counts as Ports}
use Rattle.xmpp_backend.specs.Told.{Told}
use Rattle.bosh_server.specs.declared.fates.Fate.{Fate}
use Rattle.bosh_server.specs.Behind.{IsService, stands_of}
use Rattle.bosh_server.specs.Fates.{IsFate, IsOfHistory, site_of}

-- what holds of all values holds of the one that is there
pub of_any : {A : Type 0} (o : Option A) (P : A → Type 0) → ((x : A) → P x) → IfSome o P
of_any None P all = tt
of_any (Some x) P all = all x

-- a history of nothing
legal_none : IsLegal []
legal_none = record { named = All-nil _; opened = All-nil _; few_opened = omega arith }

module _ {L E : Type 0} (left given : L → Option (List ℕ)) (closed : L → Option Bool) (faults : L → ℕ) (told : E → Option Told) (counts : E → Ports) (hosts : List (Host E)) (limits : Limits) (moment : Option ℕ) where
  pub none_serviced : (old new : Counts) (roll : List (List (Fate L))) (place : Option (Pump E)) → roll ≡ [] → place ≡ None → new.accepted ≡ old.accepted
      → ∥ IsService left given closed faults (site_of hosts limits moment) (stands_of told counts hosts) old new roll (option_map (pumping_of told counts) place) ∥₁
  none_serviced old new roll place none nowhere same =
      subst (λ place. ∥ IsService left given closed faults (site_of hosts limits moment) (stands_of told counts hosts) old new roll (option_map (pumping_of told counts) place) ∥₁) (sym nowhere)
      ∣ record {
        rolled = record {
          all = λ low. ap (sum_by length) none ∙ omega (arith, same);
          true_of = subst (All (λ fates. All (IsFate left given closed faults (site_of hosts limits moment)) fates)) (sym none) (All-nil (λ fates. All (IsFate left given closed faults (site_of hosts limits moment)) fates));
          history = [];
          legal = legal_none;
          of_one = subst (All (λ fates. All (IsOfHistory []) fates)) (sym none) (All-nil (λ fates. All (IsOfHistory []) fates));
        };
        pumped = same;
      } ∣₁
