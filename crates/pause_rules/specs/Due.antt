-- When a held request, a copy beyond a gap and a silent client have had their time, in milliseconds.
use Rattle.std.specs.Prelude.{◌≡◌, ℕ, ◌+◌, ◌*◌, ◌^◌, ◌<◌, ◌≤◌, Bool, false, nat_le, nat_lt, if◌then◌else◌, Option, Some, None, IsTrue}
use Rattle.bosh_types.specs.declared.terms.Terms.{Terms}

-- the request arrived `wait` seconds ago or earlier, XEP-0124 section 7.1
abbrev pub is_wait_due : Terms → ℕ → ℕ → Bool
is_wait_due terms arrived now = nat_le (arrived + terms.wait * 1000) now

-- the copy arrived so many times `wait` seconds ago or earlier, XEP-0124 section 17.3
abbrev pub is_gap_due : Terms → ℕ → ℕ → ℕ → Bool
is_gap_due terms waits arrived now = nat_le (arrived + waits * (terms.wait * 1000)) now

-- more than the period has passed since the quiet moment, XEP-0124 section 10
abbrev pub is_silent_due : ℕ → ℕ → ℕ → Bool
is_silent_due period quiet now = nat_lt (quiet + period * 1000) now

-- the moment, and none where no moment of 64 bits is so late
abbrev pub within_moments : ℕ → Option ℕ
within_moments millis = if nat_lt millis (2 ^ 64) then Some millis else None

-- when a request that arrived then has been held for the session's `wait`, XEP-0124 section 7.1
abbrev pub wait_due_at : Terms → ℕ → Option ℕ
wait_due_at terms arrived = within_moments (arrived + terms.wait * 1000)

-- when a copy that arrived then has been beyond a gap for so many times the session's `wait`
abbrev pub gap_due_at : Terms → ℕ → ℕ → Option ℕ
gap_due_at terms waits arrived = within_moments (arrived + waits * (terms.wait * 1000))

-- when a client that has been quiet since then has been silent for too long, XEP-0124 section 10
abbrev pub silent_due_at : ℕ → ℕ → Option ℕ
silent_due_at period quiet = within_moments (quiet + period * 1000 + 1)

-- the first moment at which a test holds, and none exactly where it holds at no moment of 64 bits
abbrev pub IsFirstMoment : (ℕ → Bool) → Option ℕ → Type 0
IsFirstMoment test (Some moment) = IsTrue (test moment) × ((other : ℕ) → IsTrue (test other) → moment ≤ other)
IsFirstMoment test None = (moment : ℕ) → moment < 2 ^ 64 → test moment ≡ false
