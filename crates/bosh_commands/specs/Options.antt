-- The words of the command `serve`.
use Rattle.std.specs.Prelude.{ℕ, ◌≡◌, ◌⊎◌, ◌&&◌, nat_le, Bool, true, false, List, [], ◌∷◌, Option, Some, None, String, codes, map, option_map, string_bytes, if◌then◌else◌}
use Rattle.std.specs.Str.{bytes_eq}
use Rattle.std.specs.Global.{Global}
use Rattle.clap.specs.Words.{App, IsAmong, Kinds, Row, Rule, Text, all_of, fault_of, first_of, matches_of, new_app, new_rule, with_rule}
use Rattle.clap.specs.declared.builder.action.ArgAction.TheVariants.{Append, SetTrue}
use Rattle.clap.specs.declared.error.kind.ErrorKind.TheVariants.{DisplayHelp, DisplayVersion}
use Rattle.bosh_types.specs.Rid.{rid_of}
use Rattle.bosh_server.specs.declared.plan.ServePlan.{ServePlan}
use Rattle.session_table.specs.declared.opening.Limits.{Limits}
use Rattle.server_name.specs.Names.{name_read}
use Rattle.bosh_commands.specs.Site.{site_of}
use Rattle.bosh_commands.specs.declared.site.Site.{Site}
use Rattle.bosh_commands.specs.declared.options.Beside.{Beside}
use Rattle.bosh_commands.specs.declared.options.ServeOptions.{ServeOptions}
use Rattle.bosh_commands.specs.declared.options.Wanted.{Wanted}
use Rattle.bosh_commands.specs.declared.options.Wanted.TheVariants as wanted

-- the options, as the parser of words knows them

-- one that takes a value, and has this one where none is given
abbrev pub usual_rule : Text → Text → Rule
usual_rule name usual = record (new_rule name) { long = Some name; value_names = 1; defaults = usual ∷ [] }

-- one that takes a value, and may be left out
abbrev pub optional_rule : Text → Rule
optional_rule name = record (new_rule name) { long = Some name; value_names = 1 }

-- one that takes no value
abbrev pub switch_rule : Text → Rule
switch_rule name = record (new_rule name) { long = Some name; action = Some SetTrue }

-- it tells its version
abbrev pub with_version : App → App
with_version app = record app { top = record app.top { has_version = true } }

-- the port has to be given
abbrev pub port_rule : Rule
port_rule = record (optional_rule (codes "port")) { required = true }

-- a domain may be named several times
abbrev pub xmpp_rule : Rule
xmpp_rule = record (optional_rule (codes "xmpp")) { action = Some Append }

-- the rules of where a server listens, by how many threads, and how long
abbrev pub with_counts : App → App
with_counts app = with_rule (with_rule (with_rule app port_rule) (usual_rule (codes "workers") (codes "8"))) (usual_rule (codes "connections") (codes "0"))

-- of how much it takes
abbrev pub with_limits : App → App
with_limits app =
    with_rule (with_rule (with_rule (with_rule (with_rule (with_rule app
    (usual_rule (codes "sessions") (codes "256")))
    (usual_rule (codes "openings") (codes "1048576")))
    (optional_rule (codes "open")))
    (usual_rule (codes "incoming") (codes "67108864")))
    (usual_rule (codes "journal-limit") (codes "16777216")))
    (usual_rule (codes "gap-waits") (codes "1"))

-- of when it ends, and which hosts it has
abbrev pub with_site : App → App
with_site app =
    with_rule (with_rule (with_rule (with_rule app
    (switch_rule (codes "until-eof")))
    xmpp_rule)
    (usual_rule (codes "xmpp-port") (codes "5222")))
    (switch_rule (codes "test-hosts"))

-- and of what it tells of itself, and where it keeps its sessions
abbrev pub with_telling : App → App
with_telling app =
    with_rule (with_rule (with_rule (with_rule app
    (optional_rule (codes "trace")))
    (switch_rule (codes "log")))
    (optional_rule (codes "name")))
    (optional_rule (codes "journal"))

abbrev pub serve_app : App
serve_app = with_telling (with_site (with_limits (with_counts (with_version (new_app (codes "serve"))))))

-- the number that a text writes in plain decimal, without a sign or a leading zero
abbrev pub plain_number : Text → Option ℕ
plain_number text = if bytes_eq text (codes "0") then Some 0 else rid_of text

-- a number within these bounds
abbrev pub within : ℕ → ℕ → Option ℕ → Option ℕ
within least greatest None = None
within least greatest (Some n) = if nat_le least n && nat_le n greatest then Some n else None

abbrev pub number_in : ℕ → ℕ → Option Text → Option ℕ
number_in least greatest None = None
number_in least greatest (Some text) = within least greatest (plain_number text)

-- whether a word that takes no value stands there
abbrev pub flag_in : Option Text → Bool
flag_in None = false
flag_in (Some text) = bytes_eq text (codes "true")

abbrev pub limits_from : Option ℕ → Option ℕ → Option ℕ → Option ℕ → Option Limits
limits_from (Some live) (Some openings) (Some journal) (Some gap_waits) = Some (record { live = live; openings = openings; journal = journal; gap_waits = gap_waits })
limits_from (Some live) (Some openings) (Some journal) None = None
limits_from (Some live) (Some openings) None gap_waits = None
limits_from (Some live) None journal gap_waits = None
limits_from None openings journal gap_waits = None

-- what the texts of these options say: 1 to 65,536 live sessions, 1 to 4,294,967,295 openings, a journal of 65,536 to 1,099,511,627,776
-- counted bytes, and an error for a copy beyond a gap after 1 to 10 times `wait`
abbrev pub limits_of : (Text → Option Text) → Option Limits
limits_of text_of =
    limits_from (number_in 1 65536 (text_of (codes "sessions"))) (number_in 1 4294967295 (text_of (codes "openings"))) (number_in 65536 1099511627776 (text_of (codes "journal-limit")))
    (number_in 1 10 (text_of (codes "gap-waits")))

-- 1 to 1,048,576 open connections, where the words say how many
abbrev pub open_in : Option Text → Option (Option ℕ)
open_in None = Some None
open_in (Some text) = option_map Some (number_in 1 1048576 (Some text))

abbrev pub plan_from : Option ℕ → Option ℕ → Option Limits → Option (Option ℕ) → Option ℕ → Option ServePlan
plan_from (Some workers) (Some connections) (Some limits) (Some most) (Some incoming) =
    Some (record { workers = workers; connections = connections; limits = limits; «open» = most; incoming = incoming })
plan_from (Some workers) (Some connections) (Some limits) (Some most) None = None
plan_from (Some workers) (Some connections) (Some limits) None incoming = None
plan_from (Some workers) (Some connections) None most incoming = None
plan_from (Some workers) None limits most incoming = None
plan_from None connections limits most incoming = None

-- what the texts of these options say: 1 to 64 workers, up to 1,048,576 connections, the limits of sessions and of open connections, and
-- 1,048,576 to 1,099,511,627,776 bytes that come in
abbrev pub plan_of : (Text → Option Text) → Option ServePlan
plan_of text_of =
    plan_from (number_in 1 64 (text_of (codes "workers"))) (number_in 0 1048576 (text_of (codes "connections"))) (limits_of text_of)
    (open_in (text_of (codes "open"))) (number_in 1048576 1099511627776 (text_of (codes "incoming")))

-- the port of the XMPP server from 1 to 65535, the domains that are named, and whether the test hosts are wanted
abbrev pub site_in : (Text → Option Text) → Option (List Text) → Option Site
site_in text_of names = site_of (flag_in (text_of (codes "test-hosts"))) (number_in 1 65535 (text_of (codes "xmpp-port"))) names

-- the name of the server, where the words say one; it has 1 to 14 letters, digits and `-`, a letter first
abbrev pub named_by : Option Text → Option (Option Text)
named_by None = None
named_by (Some name) = Some (Some name)

abbrev pub named_in : Option Text → Option (Option Text)
named_in None = Some None
named_in (Some text) = named_by (name_read text)

-- what the texts of these options say, none of which can be wrong: whether the server ends with its input, whether it writes a log, where it
-- writes traces, and where it keeps its sessions
abbrev pub beside_of : (Text → Option Text) → Beside
beside_of text_of = record {
  until_eof = flag_in (text_of (codes "until-eof"));
  log = flag_in (text_of (codes "log"));
  trace = text_of (codes "trace");
  journal = text_of (codes "journal");
}

abbrev pub options_from : Beside → Option ℕ → Option ServePlan → Option Site → Option (Option Text) → Option ServeOptions
options_from b (Some port) (Some plan) (Some site) (Some name) =
    Some (record { port = port; until_eof = b.until_eof; plan = plan; site = site; trace = b.trace; log = b.log; name = name; journal = b.journal })
options_from b (Some port) (Some plan) (Some site) None = None
options_from b (Some port) (Some plan) None name = None
options_from b (Some port) None site name = None
options_from b None plan site name = None

-- what the texts of the options say, and these names of domains: the port from 1 to 65535, how it runs, its hosts, its name, and what can't be
-- wrong
abbrev pub options_of : (Text → Option Text) → Option (List Text) → Option ServeOptions
options_of text_of names =
    options_from (beside_of text_of) (number_in 1 65535 (text_of (codes "port"))) (plan_of text_of) (site_in text_of names) (named_in (text_of (codes "name")))

-- options where the parser of words has no fault to find
abbrev pub options_by : Kinds → List Row → Option ServeOptions
options_by [] rows = options_of (λ id. first_of id rows) (all_of (codes "xmpp") rows)
options_by (kind ∷ kinds) rows = None

-- the options that the words of `serve` are, where they are any
unfoldable pub options_in : List Text → Option ServeOptions
options_in words = options_by (fault_of serve_app words) (matches_of serve_app words)

abbrev pub options_wanted : Wanted → Option ServeOptions
options_wanted (wanted.Shown text) = None
options_wanted (wanted.Serve options) = Some options
options_wanted wanted.Nothing = None

-- the server is to end with its input
abbrev pub ends_with_input : Option ServeOptions → Bool
ends_with_input None = false
ends_with_input (Some options) = options.until_eof

-- a text is to be shown
abbrev pub is_shown : Wanted → Bool
is_shown (wanted.Shown text) = true
is_shown (wanted.Serve options) = false
is_shown wanted.Nothing = false

-- the parser of words may tell that help is wanted, or the version
abbrev pub MayAsk : Kinds → Type 0
MayAsk kinds = IsAmong DisplayHelp kinds ⊎ IsAmong DisplayVersion kinds

-- it tells just that
abbrev pub Asks : Kinds → Type 0
Asks kinds = (kinds ≡ DisplayHelp ∷ []) ⊎ (kinds ≡ DisplayVersion ∷ [])

-- whether a text is shown: only where help or the version may be what is asked for, and wherever just that is
abbrev pub ShowsWhatIsAsked : Kinds → Bool → Type 0
ShowsWhatIsAsked kinds shown = (shown ≡ true → MayAsk kinds) × (Asks kinds → shown ≡ true)

-- what the parser of words may find of words of `serve`: faults, or that a text is asked for
unfoldable pub serve_faults : List Text → Kinds
serve_faults words = fault_of serve_app words

abbrev pub serve_findings : List (String Global) → Kinds
serve_findings [] = []
serve_findings (first ∷ rest) = if bytes_eq (string_bytes first) (codes "serve") then serve_faults (map (λ word. string_bytes word) (first ∷ rest)) else []

-- the first word names the command
abbrev pub serve_options : List (String Global) → Option ServeOptions
serve_options [] = None
serve_options (first ∷ rest) = if bytes_eq (string_bytes first) (codes "serve") then options_in (map (λ word. string_bytes word) (first ∷ rest)) else None
