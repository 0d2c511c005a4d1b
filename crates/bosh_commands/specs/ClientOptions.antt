-- The words of the command `client`.
use Rattle.std.specs.Prelude.{◌≡◌, ◌≤◌, ℕ, Bool, true, false, List, [], ◌∷◌, Option, Some, None, String, codes, length, map, nat_le, ◌&&◌, string_bytes, if◌then◌else◌}
use Rattle.std.specs.Str.{bytes_eq}
use Rattle.std.specs.Global.{Global}
use Rattle.clap.specs.Words.{App, Kinds, Row, Rule, Text, fault_of, first_of, matches_of, new_app, new_rule, with_rule}
use Rattle.bosh_types.specs.Rid.{rid_of}
use Rattle.session_attrs.specs.Serving.{is_allowed_text}
use Rattle.bosh_commands.specs.Options.{number_in, port_rule, with_version}
use Rattle.bosh_commands.specs.declared.client_options.Asked.{Asked}
use Rattle.bosh_commands.specs.declared.client_options.Asked.TheVariants as asked
use Rattle.bosh_commands.specs.declared.client_options.ClientOptions.{ClientOptions}
use Rattle.bosh_commands.specs.declared.client_options.First.{First}
use Rattle.bosh_commands.specs.declared.client_options.First.TheVariants as first

-- the options, as the parser of words knows them
abbrev pub to_rule : Rule
to_rule = record (new_rule (codes "to")) { long = Some (codes "to"); value_names = 1; required = true }

abbrev pub rid_rule : Rule
rid_rule = record (new_rule (codes "rid")) { long = Some (codes "rid"); value_names = 1 }

abbrev pub wait_rule : Rule
wait_rule = record (new_rule (codes "wait")) { long = Some (codes "wait"); value_names = 1; defaults = codes "60" ∷ [] }

abbrev pub hold_rule : Rule
hold_rule = record (new_rule (codes "hold")) { long = Some (codes "hold"); value_names = 1; defaults = codes "1" ∷ [] }

abbrev pub client_app : App
client_app = with_rule (with_rule (with_rule (with_rule (with_rule (with_version (new_app (codes "client"))) port_rule) to_rule) rid_rule) wait_rule) hold_rule

-- the name of a host has at most 1023 bytes, which are UTF-8 of characters that XML 1.0, section 2.2, allows
abbrev pub is_host : List ℕ → Bool
is_host text = nat_le (length text) 1023 && is_allowed_text text

abbrev pub host_in : Option Text → Option (List ℕ)
host_in None = None
host_in (Some text) = if is_host text then Some text else None

-- the first request id is drawn where none is given
abbrev pub first_by : Option ℕ → Option First
first_by None = None
first_by (Some rid) = Some (first.Given rid)

abbrev pub first_in : Option Text → Option First
first_in None = Some first.Drawn
first_in (Some text) = first_by (rid_of text)

abbrev pub client_from : Option ℕ → Option (List ℕ) → Option First → Option ℕ → Option ℕ → Option ClientOptions
client_from (Some port) (Some to) (Some first) (Some wait) (Some hold) = Some (record { port = port; to = to; first = first; wait = wait; hold = hold })
client_from (Some port) (Some to) (Some first) (Some wait) None = None
client_from (Some port) (Some to) (Some first) None hold = None
client_from (Some port) (Some to) None wait hold = None
client_from (Some port) None first wait hold = None
client_from None to first wait hold = None

-- what the texts of the options say: the port from 1 to 65535, the host, the first id, up to 120 seconds, and up to 4 requests held
abbrev pub client_of : (Text → Option Text) → Option ClientOptions
client_of text_of = client_from (number_in 1 65535 (text_of (codes "port"))) (host_in (text_of (codes "to"))) (first_in (text_of (codes "rid"))) (number_in 0 120 (text_of (codes "wait"))) (number_in 0 4 (text_of (codes "hold")))

-- options where the parser of words has no fault to find
abbrev pub client_by : Kinds → List Row → Option ClientOptions
client_by [] rows = client_of (λ id. first_of id rows)
client_by (kind ∷ kinds) rows = None

-- the options that the words of `client` are, where they are any
abbrev pub client_in : List Text → Option ClientOptions
client_in words = client_by (fault_of client_app words) (matches_of client_app words)

abbrev pub options_asked : Asked → Option ClientOptions
options_asked (asked.Shown text) = None
options_asked (asked.Run options) = Some options
options_asked asked.Nothing = None

-- a text is to be shown
abbrev pub shows_text : Asked → Bool
shows_text (asked.Shown text) = true
shows_text (asked.Run options) = false
shows_text asked.Nothing = false

-- a client may begin with them
pub record Fits (options : ClientOptions) : Type 0 where
  pub wait : options.wait ≤ 120
  pub hold : options.hold ≤ 4
  pub host : is_host options.to ≡ true

abbrev pub AskedFit : Asked → Type 0
AskedFit (asked.Shown text) = Unit {0}
AskedFit (asked.Run options) = Fits options
AskedFit asked.Nothing = Unit {0}

-- what the parser of words may find of words of `client`: faults, or that a text is asked for
unfoldable pub client_faults : List Text → Kinds
client_faults words = fault_of client_app words

abbrev pub client_findings : List (String Global) → Kinds
client_findings [] = []
client_findings (first ∷ rest) = if bytes_eq (string_bytes first) (codes "client") then client_faults (map (λ word. string_bytes word) (first ∷ rest)) else []

-- the first word names the command
abbrev pub client_options : List (String Global) → Option ClientOptions
client_options [] = None
client_options (first ∷ rest) = if bytes_eq (string_bytes first) (codes "client") then client_in (map (λ word. string_bytes word) (first ∷ rest)) else None
