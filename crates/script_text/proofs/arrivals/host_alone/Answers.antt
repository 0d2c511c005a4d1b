use Rattle.std.proofs.Common.{sym, subst, ap₂, ◌∙◌}
use Rattle.std.specs.Prelude.{IsTrue}
use Rattle.bosh_types.specs.declared.hosts.HostName.{HostName}
use Rattle.session_attrs.specs.Serving.{can_serve}
use Rattle.script_text.proofs.OpeningLemmas.{alone_is_host}
use Rattle.script_text.proofs.arrivals.host_alone.Goals as goal

pub with-requires : goal.with-requires
with-requires c = subst (λ (host : HostName). IsTrue (can_serve host))
    (sym (ap₂ (λ n g. record { name = n; greeting = g }) (c.from_vec-name.ensures ∙ c.in_ok-from_slice.ensures.items) (c.from_vec-greeting.ensures ∙ c.new.ensures.items)))
    alone_is_host
