-- How many lines of three kinds there are.
use Rattle.std.specs.Prelude.{◌+◌}
use Rattle.trace_audit.specs.declared.line.TraceLine.{TraceLine}
use Rattle.trace_audit.specs.declared.line.TraceLine.TheVariants.{Sent, In, Got}
use Rattle.trace_audit.specs.declared.outcome.Audited.{Audited}
use Rattle.trace_audit.specs.declared.outcome.Audited.TheVariants.{Yes}
use Rattle.trace_audit.specs.declared.tally.Tally.{Tally}

abbrev pub no_lines : Tally
no_lines = record { requests = 0; passed = 0; got = 0 }

abbrev pub with_line : Tally → TraceLine → Tally
with_line t (Sent body) = record { requests = t.requests + 1; passed = t.passed; got = t.got }
with_line t (In item) = record { requests = t.requests; passed = t.passed + 1; got = t.got }
with_line t (Got stanza) = record { requests = t.requests; passed = t.passed; got = t.got + 1 }
with_line t line = t

abbrev pub yes_of : Tally → Audited
yes_of t = Yes t.requests t.passed t.got
