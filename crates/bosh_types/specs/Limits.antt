-- The limits of what a manager takes, as numbers.
use Rattle.std.specs.Prelude.{ℕ}

-- a body has at most so many bytes
abbrev pub longest_body : ℕ
longest_body = 1048576

-- so many children
abbrev pub most_children : ℕ
most_children = 1024

-- elements nested so deep
abbrev pub most_depth : ℕ
most_depth = 64

-- and so many attributes in each tag
abbrev pub most_attributes : ℕ
most_attributes = 32

-- a stanza, and the payload of a body, have at most so many bytes
abbrev pub longest_stanza : ℕ
longest_stanza = 1000000

-- the head of an HTTP message has at most so many bytes
abbrev pub longest_head : ℕ
longest_head = 8192

-- and so many fields
abbrev pub most_fields : ℕ
most_fields = 64

-- so many items wait in a session at most
abbrev pub most_waiting : ℕ
most_waiting = 1024

-- of so many bytes in all
abbrev pub waiting_bytes : ℕ
waiting_bytes = 4194304

-- the journal of a session has at most so many counted bytes
abbrev pub journal_bytes : ℕ
journal_bytes = 16777216

-- so many sessions are live at most
abbrev pub most_sessions : ℕ
most_sessions = 256

-- and so many are opened in one run
abbrev pub most_openings : ℕ
most_openings = 1048576

-- so many workers serve at most
abbrev pub most_workers : ℕ
most_workers = 64

-- a session has at most so many streams
abbrev pub most_streams : ℕ
most_streams = 8

-- a script has at most so many lines
abbrev pub most_lines : ℕ
most_lines = 1000000

-- each of so many bytes at most, without its LF
abbrev pub longest_line : ℕ
longest_line = 2097152
