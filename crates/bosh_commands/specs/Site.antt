-- Which hosts a server has.
use Rattle.std.specs.Prelude.{ℕ, Bool, true, false, not, ◌&&◌, nat_le, List, [], ◌∷◌, Option, Some, None, codes, length, if◌then◌else◌}
use Rattle.std.specs.List.{list_all, list_any}
use Rattle.std.specs.Str.{bytes_eq}
use Rattle.session_attrs.specs.Serving.{is_host_name}
use Rattle.bosh_commands.specs.declared.site.Site.{Site}

unfoldable pub is_test_host : List ℕ → Bool
is_test_host name = if bytes_eq name (codes "echo.localhost") then true else bytes_eq name (codes "room.localhost")

-- a name of a host, and of no test host
abbrev pub is_domain : List ℕ → Bool
is_domain name = if is_test_host name then false else is_host_name name

abbrev pub is_among : List ℕ → List (List ℕ) → Bool
is_among name names = list_any (λ other. bytes_eq other name) names

-- each stands once
unfoldable pub are_different : List (List ℕ) → Bool
are_different [] = true
are_different (name ∷ names) = not (is_among name names) && are_different names

-- at most eight names of domains
abbrev pub are_domains : List (List ℕ) → Bool
are_domains names = nat_le (length names) 8 && (are_different names && list_all is_domain names)

-- where no domain is named
abbrev pub usual_site : ℕ → Site
usual_site port = record { domains = codes "xmpp.localhost" ∷ []; port = port; has_test_hosts = true }

abbrev pub named_site : Bool → ℕ → List (List ℕ) → Option Site
named_site test_hosts port names = if are_domains names then Some (record { domains = names; port = port; has_test_hosts = test_hosts }) else None

-- the site that is named so, where it can be served
abbrev pub site_of : Bool → Option ℕ → Option (List (List ℕ)) → Option Site
site_of test_hosts None names = None
site_of test_hosts (Some port) None = Some (usual_site port)
site_of test_hosts (Some port) (Some names) = named_site test_hosts port names
