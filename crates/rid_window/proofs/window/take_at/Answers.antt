use Rattle.std.proofs.Common.{None, arith, sym, ap}
use Rattle.std.proofs.lemmas.List.{get_or_past}
use Rattle.circular_buffer.specs.Buffer.{buffer}
use Rattle.rid_window.proofs.window.take_at.Goals as goal
use Rattle.rid_window.proofs.Struck.{set_past}

pub returns-then-place-len-clause-emptied : goal.returns-then-place-len-clause-emptied
returns-then-place-len-clause-emptied g c = ap (λ items. buffer items c.args.places.now.capacity) (set_past c.args.places.now.items c.args.place (omega arith))

pub returns-then-place-len-clause-item : goal.returns-then-place-len-clause-item
returns-then-place-len-clause-item g c = sym (get_or_past c.args.places.now.items c.args.place None (omega arith))
