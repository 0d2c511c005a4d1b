-- What the words of the command line ask for, and what the program's status says.
use Rattle.std.specs.Prelude.{ℕ, ◌≡◌, List, [], ◌∷◌, Option, Some, None, IfSome, String, string_bytes, codes, if◌then◌else◌}
use Rattle.std.specs.Io.KnownBytes.{Appends}
use Rattle.std.specs.Global.{Global}
use Rattle.std.specs.Str.{bytes_eq}
use Rattle.bosh_ports.specs.Sink.{AppendsFront}
use Rattle.script_text.specs.Given.{GivesItsReport}
use Rattle.script_text.specs.Report.{report_text}
use Rattle.script_text.specs.Script.{drive_of}
use Rattle.pair_text.specs.Load.{GivesItsLoad, load_text}
use Rattle.pair_text.specs.Report.{pair_report_text}
use Rattle.pair_text.specs.Script.{pair_of}
use Rattle.pair_text.specs.Told.{GivesItsPair}
use Rattle.trace_audit.specs.declared.outcome.Audited.{Audited}
use Rattle.trace_audit.specs.Outcome.{Audits, GivesPart}
use Rattle.trace_audit.specs.Report.{outcome_text}
use Rattle.bosh_commands.specs.declared.command.LocalCommand.{LocalCommand}
use Rattle.bosh_commands.specs.declared.command.LocalCommand.TheVariants as commands
use Rattle.bosh_commands.specs.Ends.{audit_status, status_of}
use Rattle.bosh_commands.specs.Number.{number_of}

-- a word alone
unfoldable pub script_command : List ℕ → Option LocalCommand
script_command word =
    if bytes_eq word (codes "drive") then Some commands.Drive
    else if bytes_eq word (codes "pair") then Some commands.Pair
    else if bytes_eq word (codes "audit") then Some commands.Audit
    else if bytes_eq word (codes "--help") then Some commands.Help
    else if bytes_eq word (codes "--version") then Some commands.Version
    else None

-- what is shown of the program: its commands, its version
unfoldable pub help_text : List ℕ
help_text = codes "Robelava, an XMPP BOSH connection manager.\n\nrobelava serve --port PORT       serves XMPP over BOSH at http://127.0.0.1:PORT/http-bind\nrobelava client --port PORT --to HOST\n                                 sends each line of its input as a stanza, and writes what comes\nrobelava drive < SCRIPT          reports what becomes of bodies that reach a manager\nrobelava keep FILE < SCRIPT      the same, with sessions that a file keeps\nrobelava pair < SCRIPT           the same of a client and a manager over a network that loses\nrobelava load NUMBER             makes such a run from a number\nrobelava audit < TRACE           judges what two peers exchanged in one session\n\nserve --help and client --help show their options.\n"

unfoldable pub version_text : List ℕ
version_text = codes "robelava 0.1.0\n"

-- `load` and a number
unfoldable pub load_command : List ℕ → List ℕ → Option LocalCommand
load_command word number =
    if bytes_eq word (codes "load") then elim (number_of number) [ None ↦ None | Some n ↦ Some (commands.Load n) ] else None

-- the command that the words are
abbrev pub command_of : List (String Global) → Option LocalCommand
command_of [] = None
command_of (word ∷ []) = script_command (string_bytes word)
command_of (word ∷ number ∷ []) = load_command (string_bytes word) (string_bytes number)
command_of (word ∷ number ∷ other ∷ others) = None

-- this status is the command's, and the sink was given its report and nothing else; the script is told where the source tells it, and
-- so is the trace
abbrev pub GivesWhole : Option LocalCommand → Option (List ℕ) → ℕ → Option (List ℕ) → Option (List ℕ) → Type 0
GivesWhole None left status old new = ⊥
GivesWhole (Some commands.Drive) left status old new =
    IfSome left (λ script. (status ≡ status_of (drive_of script).outcome) × Appends old new (report_text (drive_of script).report))
GivesWhole (Some commands.Pair) left status old new =
    IfSome left (λ script. (status ≡ status_of (pair_of script).outcome) × Appends old new (pair_report_text (pair_of script).report))
GivesWhole (Some commands.Audit) left status old new =
    (outcome : Audited) × IfSome left (λ trace. Audits trace outcome) × (status ≡ audit_status outcome) × Appends old new (outcome_text outcome)
GivesWhole (Some (commands.Load number)) left status old new = (status ≡ 0) × Appends old new (load_text number)
GivesWhole (Some commands.Help) left status old new = (status ≡ 0) × Appends old new help_text
GivesWhole (Some commands.Version) left status old new = (status ≡ 0) × Appends old new version_text

-- the sink was given a front of the report
abbrev pub GivesFront : Option LocalCommand → Option (List ℕ) → Option (List ℕ) → Option (List ℕ) → Type 0
GivesFront None left old new = ⊥
GivesFront (Some commands.Drive) left old new = IfSome left (λ script. AppendsFront old new (report_text (drive_of script).report))
GivesFront (Some commands.Pair) left old new = IfSome left (λ script. AppendsFront old new (pair_report_text (pair_of script).report))
GivesFront (Some commands.Audit) left old new = GivesPart left old new
GivesFront (Some (commands.Load number)) left old new = AppendsFront old new (load_text number)
GivesFront (Some commands.Help) left old new = AppendsFront old new help_text
GivesFront (Some commands.Version) left old new = AppendsFront old new version_text

-- the sink was given a report that keeps its word: of each session of a script, or of the two ends of its world; of a trace, where it is
-- a yes, that it holds and keeps both prefixes
abbrev pub GivesItsWord : Option LocalCommand → Option (List ℕ) → Option (List ℕ) → Option (List ℕ) → Type 0
GivesItsWord None left old new = ⊥
GivesItsWord (Some commands.Drive) left old new = IfSome left (λ script. GivesItsReport script old new)
GivesItsWord (Some commands.Pair) left old new = IfSome left (λ script. GivesItsPair script old new)
GivesItsWord (Some commands.Audit) left old new = (outcome : Audited) × IfSome left (λ trace. Audits trace outcome) × Appends old new (outcome_text outcome)
GivesItsWord (Some (commands.Load number)) left old new = GivesItsLoad number old new
GivesItsWord (Some commands.Help) left old new = Appends old new help_text
GivesItsWord (Some commands.Version) left old new = Appends old new version_text
