-- Hosts at which sessions can be opened.
use Rattle.std.specs.Prelude.{ℕ, ◌&&◌, nat_le, Bool, false, List, chars, length, sum_by, if◌then◌else◌}
use Rattle.std.specs.List.{list_all}
use Rattle.std.specs.Str.{is_utf8}
use Rattle.body_cutter.specs.Chars.{is_allowed}
use Rattle.body_cutter.specs.Cutting.{is_stanza}
use Rattle.bosh_types.specs.declared.hosts.HostName.{HostName}
use Rattle.bosh_types.specs.Limits.{longest_stanza, most_waiting}

-- UTF-8 of the characters that XML 1.0 section 2.2 allows
abbrev pub is_allowed_text : List ℕ → Bool
is_allowed_text bytes = if is_utf8 bytes then list_all is_allowed (chars bytes) else false

-- the name of a host has 1 to 1023 bytes
unfoldable pub is_host_name : List ℕ → Bool
is_host_name name = (nat_le 1 (length name) && nat_le (length name) 1023) && is_allowed_text name

-- what one answer may take: at most 1024 stanzas of at most 1,000,000 bytes in all
unfoldable pub may_greet : List (List ℕ) → Bool
may_greet greeting =
    list_all is_stanza greeting && (nat_le (length greeting) most_waiting && nat_le (sum_by (λ stanza. length stanza) greeting) longest_stanza)

-- a session may be opened at this host
abbrev pub can_serve : HostName → Bool
can_serve host = is_host_name host.name && may_greet host.greeting
