use Rattle.std.proofs.Common.{◌≡◌, ℕ, ◌+◌, drop}
use Rattle.std.specs.List.{list_any}
use Rattle.std.specs.Str.{bytes_eq}
use Rattle.session_pump.specs.Places.{IsFirstPlace}
use Rattle.session_pump.proofs.hosts.Hosts.place_of.Given as goal

abbrev pub invariant-loop-stand : goal.invariant-loop-stand
invariant-loop-stand g l = record {
  place : l.place ≡ l.stand-index;
  rest : list_any (λ stand. bytes_eq stand.host.name l.name) l.self.stands.items ≡ list_any (λ stand. bytes_eq stand.host.name l.name) (drop l.stand-index l.self.stands.items);
  first : (p : ℕ) → IsFirstPlace (λ stand. bytes_eq stand.host.name l.name) (drop l.stand-index l.self.stands.items) p
      → IsFirstPlace (λ stand. bytes_eq stand.host.name l.name) l.self.stands.items (l.stand-index + p);
}
