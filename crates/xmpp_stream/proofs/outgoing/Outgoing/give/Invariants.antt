use Rattle.std.proofs.Common.{◌≡◌, ℕ, List, length}
use Rattle.std.specs.Prelude.{Option}
use Rattle.std.specs.Io.KnownBytes.{Keeps}
use Rattle.bosh_types.specs.declared.inward.Inward.{Inward}
use Rattle.xmpp_stream.specs.Wire.{IsWritten}
use Rattle.xmpp_stream.proofs.outgoing.Outgoing.give.Given as goal

-- it is written as before, and nothing was answered but what was taken
abbrev pub invariant-pay : goal.invariant-pay
invariant-pay g l = record {
  written : (start : Option (List ℕ)) (passed : List Inward) → IsWritten start (g.L.Link.given l.fn.link) l.fn.self passed → IsWritten start (g.L.Link.given l.link) l.self passed;
  idle : g.L.PollLink.idle l.link ≡ g.L.PollLink.idle l.fn.link;
  faults : g.L.Link.faults l.link ≡ g.L.Link.faults l.fn.link;
  left : Keeps (g.L.Link.left l.fn.link) (g.L.Link.left l.link);
  others : l.self ≡ record l.fn.self { owed = l.self.owed };
}

abbrev pub decreases-pay : goal.decreases-pay
decreases-pay g l = length l.self.owed
