-- How much of something may be taken.
use Rattle.std.specs.Prelude.{ℕ, ◌+◌, nat_le, Option, Some, None, if◌then◌else◌}
use Rattle.bosh_http.specs.declared.awaited.Awaited.{Awaited}
use Rattle.bosh_http.specs.declared.awaited.Awaited.TheVariants as awaited
use Rattle.serve_loop.specs.declared.connection.Wants.{Wants}
use Rattle.serve_loop.specs.declared.connection.Wants.TheVariants as wants

-- how much is taken with so much more; none where that is above the most
abbrev pub taken_with : ℕ → ℕ → ℕ → Option ℕ
taken_with most taken count = if nat_le (taken + count) most then Some (taken + count) else None

-- how many bytes the content has that a connection waits for
abbrev pub content_awaited : Wants → Awaited → ℕ
content_awaited wants.Bytes awaited.Message = 0
content_awaited wants.Bytes awaited.Head = 0
content_awaited wants.Bytes (awaited.Content length) = length
content_awaited wants.Nothing awaits = 0
content_awaited wants.Room awaits = 0
content_awaited (wants.Answer number) awaits = 0
content_awaited (wants.End end) awaits = 0
