use Rattle.std.proofs.Common.{subst, sym}
use Rattle.server_ports.specs.Names.{IsNamePart}
use Rattle.server_name.proofs.NameLemmas.{part_where}
use Rattle.server_name.proofs.named.NamedNames.draw.Goals as goal

pub returns-in-Some-clause-part : goal.returns-in-Some-clause-part
returns-in-Some-clause-part g c =
    part_where c.joined.result c.as_slice.result.now c.as_slice-in-Some.result.now c.as_slice.ensures.fits (subst IsNamePart (sym c.as_slice-in-Some.ensures) c.in_ok-drawn.ensures.part) c.joined.ensures
