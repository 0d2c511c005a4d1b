-- What is known of a session's streams, XEP-0124 section 16: they are counted in the order in which they were opened.
use Rattle.std.specs.Prelude.{ℕ, ◌+◌, ◌<◌, ◌≤◌, ◌==◌, nat_lt, not, List, [], ◌∷◌, All, length, if◌then◌else◌}
use Rattle.bosh_types.specs.Limits.{most_streams}
use Rattle.stream_names.specs.declared.streams.Shut.{Shut}
use Rattle.stream_names.specs.declared.streams.Shut.TheVariants.{Unknown, Last, Closed}
use Rattle.stream_names.specs.Streams.{is_among, with_stream, without, without_all}

-- how many were opened, and those of them that are open
pub record PlainStreams : Type 0 where
  pub opened : ℕ
  pub running : List ℕ

-- a session begins with stream 0
abbrev pub begun : PlainStreams
begun = record { opened = 1; running = 0 ∷ [] }

-- the next one is opened
abbrev pub with_next : PlainStreams → PlainStreams
with_next streams = record { opened = streams.opened + 1; running = with_stream streams.running streams.opened }

-- where fewer than eight were opened; an eighth is the last
abbrev pub after_open : PlainStreams → PlainStreams
after_open streams = if nat_lt streams.opened most_streams then with_next streams else streams

-- one is closed
abbrev pub with_closed : PlainStreams → ℕ → PlainStreams
with_closed streams stream = record streams { running = without streams.running stream }

-- some are closed
abbrev pub with_all_closed : PlainStreams → List ℕ → PlainStreams
with_all_closed streams others = record streams { running = without_all streams.running others }

-- what closing one makes of the session: nothing where it wasn't open
abbrev pub shut_of : PlainStreams → ℕ → Shut
shut_of streams stream =
    if not (is_among streams.running stream) then Unknown
    else if length (without streams.running stream) == 0 then Last
    else Closed

-- eight were opened at most, and only such a one is open
pub record AreSound (streams : PlainStreams) : Type 0 where
  pub some : 1 ≤ streams.opened
  pub few : streams.opened ≤ most_streams
  pub opened_once : All (λ stream. stream < streams.opened) streams.running
