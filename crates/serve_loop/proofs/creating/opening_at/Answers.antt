use Rattle.std.proofs.Common.{◌∙◌}
use Rattle.serve_loop.proofs.SiteLemmas.{may_open}
use Rattle.serve_loop.proofs.creating.opening_at.Goals as goal

pub returns-clause-may : goal.returns-clause-may
returns-clause-may c = may_open c.args.host.now _ c.requires.host c.requires.name c.requires.read c.requires.creation (c.in_ok-host_name.ensures ∙ c.in_ok-copy_in.ensures)
    (c.from_vec-greeting.ensures ∙ c.in_ok-copy_items.ensures ∙ c.as_slice.ensures)
