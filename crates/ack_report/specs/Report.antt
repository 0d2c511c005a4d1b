-- What an acknowledgement makes due, and what it drops, XEP-0124 section 9.2.
use Rattle.std.specs.Prelude.{ℕ, ◌+◌, nat_lt, nat_le, Bool, true, false, if◌then◌else◌, Option, Some, None}
use Rattle.bosh_types.specs.declared.kept.KeptAnswer.{KeptAnswer}
use Rattle.reply_keep.specs.PlainKeep.{PlainKeep, kept_at, after_ack}
use Rattle.ack_report.specs.Reporting.{Reporting}

-- the report of an answer that was given a second ago or earlier
abbrev pub report_given : ℕ → ℕ → Option KeptAnswer → Option (ℕ × ℕ)
report_given now rid None = None
report_given now rid (Some answer) = if nat_le (answer.given + 1000) now then Some (rid, answer.given) else None

-- the answer after the acknowledged one was given, is kept, and should have come by now
abbrev pub report_of : PlainKeep → ℕ → ℕ → ℕ → Option (ℕ × ℕ)
report_of plain ack answered now =
    if nat_lt ack answered then report_given now (ack + 1) (kept_at plain (ack + 1)) else None

-- a later report takes the place of an earlier one
abbrev pub later_of : Option (ℕ × ℕ) → Option (ℕ × ℕ) → Option (ℕ × ℕ)
later_of earlier None = earlier
later_of earlier (Some report) = Some report

-- the report that is due after a request: one without an acknowledgement changes nothing
abbrev pub due_on : Bool → Option (ℕ × ℕ) → PlainKeep → Option ℕ → ℕ → ℕ → Option (ℕ × ℕ)
due_on false due plain ack answered now = due
due_on true due plain None answered now = due
due_on true due plain (Some ack) answered now = later_of due (report_of plain ack answered now)

-- what a session knows after a request
abbrev pub after_request : Reporting → PlainKeep → Option ℕ → ℕ → ℕ → Reporting
after_request reporting plain ack answered now =
    record reporting { due = due_on reporting.on reporting.due plain ack answered now }

-- an acknowledgement drops the kept answers up to its id
abbrev pub keep_on : Bool → PlainKeep → Option ℕ → PlainKeep
keep_on false plain ack = plain
keep_on true plain None = plain
keep_on true plain (Some ack) = after_ack plain ack

-- the kept answers after a request
abbrev pub keep_after : Reporting → PlainKeep → Option ℕ → PlainKeep
keep_after reporting plain ack = keep_on reporting.on plain ack
