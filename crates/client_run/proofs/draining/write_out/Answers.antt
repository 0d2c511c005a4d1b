use Rattle.std.proofs.Common.{rules, refl, subst}
use Rattle.std.specs.Prelude.{Ok}
use Rattle.std.specs.Io.KnownBytes.{Appends}
use Rattle.parked_gate.specs.Passes.{known}
use Rattle.client_run.specs.Handing.{HandsOut, line, line_of, nothing, out_of}
use Rattle.client_run.proofs.draining.write_out.Goals as goal

pub loop-init : goal.loop-init
loop-init g c = record { next = tt; finite = tt; pass = search rules; counts = refl; writes = nothing }

pub returns-in-Err-clause-drains : goal.returns-in-Err-clause-drains
returns-in-Err-clause-drains g c = record { last = out_of (known c.loop.pass) (g.K.Sink.given c.loop.sink); writes = c.loop.invariant.writes; ends = (c.in-Err.ensures.hands, refl) }

pub loop-preserved : goal.loop-preserved
loop-preserved g c = record {
  next = tt;
  finite = tt;
  pass = search rules;
  counts = search rules;
  writes = line (known c.hand_out.new.pass) (g.K.Sink.given c.give_line.new.sink) c.in-Some-payload.stanza c.loop.invariant.writes
      (subst (λ payload. HandsOut (known c.loop.pass) (known c.hand_out.new.pass) (Ok payload)) c.in-Some-payload.is c.in-Ok.ensures.hands)
      (subst (λ bytes. Appends (g.K.Sink.given c.loop.sink) (g.K.Sink.given c.give_line.new.sink) (line_of bytes)) c.as_slice.ensures c.in-Ok-give_line.ensures.given);
}
