-- A session as it is opened where nobody names a limit of its journal, nor how long a copy may wait beyond a gap.
use Rattle.std.specs.Prelude.{ℕ, List}
use Rattle.bosh_types.specs.Limits.{journal_bytes}
use Rattle.bosh_types.specs.declared.terms.Terms.{Terms}
use Rattle.session_attrs.specs.declared.request.Request.{Request}
use Rattle.session_core.specs.declared.opening.Opening.{Opening}

-- the opening with a request and its body, the terms, the name of the session, the host and its greeting, and the moment; its
-- journal may have 16,777,216 counted bytes, and a copy beyond a gap is struck after `wait`
abbrev pub opening_of : Request → List ℕ → Terms → List ℕ → List ℕ → List (List ℕ) → ℕ → Opening
opening_of request body terms sid host greeting now =
    record { request = request; body = body; terms = terms; sid = sid; host = host; greeting = greeting; at = now; limit = journal_bytes; gap_waits = 1 }
