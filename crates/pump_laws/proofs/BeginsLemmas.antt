-- A pump as `Pump::new` and `Hosts::new` make it, over a new purse and back ends that nobody called yet, is a new one.
use Rattle.std.proofs.Common.{◌≡◌, List, [], ◌∷◌, map, Option, refl, sym, subst}
use Rattle.std.specs.BTreeMap.{IsEmpty}
use Rattle.xmpp_backend.specs.Counts.{Counts}
use Rattle.xmpp_backend.specs.Told.{Told}
use Rattle.session_pump.specs.Ends.{end_of, fresh}
use Rattle.session_pump.specs.Hosts.{facts_of}
use Rattle.session_pump.specs.Pumping.{pumping_of}
use Rattle.session_pump.specs.declared.hosts.Host.{Host}
use Rattle.session_pump.specs.declared.pump.Pump.{Pump}
use Rattle.pump_laws.specs.InTurn.{Every}
use Rattle.pump_laws.specs.Rows.{IsNew, IsNewHost, IsUnused}

module _ {E : Type 0} (told : E → Option Told) (counts : E → Counts) where
  -- nobody called its back ends yet
  abbrev pub IsUncalled : Host E → Type 0
  IsUncalled host = Every IsUnused (end_of told counts host.end ∷ map (end_of told counts) host.spares.items)

  new_hosts : (hosts : List (Host E)) → Every IsUncalled hosts → Every IsNewHost (map (facts_of told counts) (map fresh hosts))
  new_hosts [] uncalled = tt
  new_hosts (host ∷ hosts) uncalled = (record { kept = refl; used = refl; failures = refl; unused = uncalled.0 }, new_hosts hosts uncalled.1)

  pub begins_new : (pump : Pump E) (hosts : List (Host E)) → pump.hosts.stands.items ≡ map fresh hosts → Every IsUncalled hosts → IsEmpty pump.purse.sessions → IsEmpty pump.lines
      → IsNew (pumping_of told counts pump)
  begins_new pump hosts are uncalled nobody no_line = record {
    sessions = nobody;
    lines = no_line;
    hosts = subst (λ stands. Every IsNewHost (map (facts_of told counts) stands)) (sym are) (new_hosts hosts uncalled);
  }
