use Rattle.std.proofs.Common.{◌≡◌, take, true}
use Rattle.xmpp_backend.specs.Dues.{bytes_left, items_left}
use Rattle.xmpp_backend.proofs.hold.held_beside.Given as goal

-- so many were counted
abbrev pub invariant-loop-index : goal.invariant-loop-index
invariant-loop-index l = record {
  held : l.hold.held ≡ true;
  items : l.hold.items ≡ items_left l.wire (take l.index l.kept.items);
  bytes : l.hold.bytes ≡ bytes_left l.wire (take l.index l.kept.items);
}
