-- How a command over a source and a sink ends, and the status that says so.
use Rattle.std.specs.Prelude.{ℕ}
use Rattle.script_text.specs.declared.driven.Driven.{Driven}
use Rattle.script_text.specs.declared.driven.Driven.TheVariants as driven
use Rattle.trace_audit.specs.declared.outcome.Audited.{Audited}
use Rattle.trace_audit.specs.declared.outcome.Audited.TheVariants as audited
use Rattle.bosh_commands.specs.declared.ends.End.{End}
use Rattle.bosh_commands.specs.declared.ends.End.TheVariants as ends

-- where a script was run to its end
abbrev pub status_of : Driven → ℕ
status_of driven.Done = 0
status_of (driven.Bad line kind) = 3

-- where a trace was judged
abbrev pub audit_status : Audited → ℕ
audit_status (audited.Yes requests passed got) = 0
audit_status (audited.No line rule) = 10
audit_status (audited.Bad line kind) = 3

-- the status of an ending
abbrev pub end_status : End → ℕ
end_status ends.Done = 0
end_status ends.Bad = 3
end_status ends.No = 10
