-- The terms of a session, XEP-0124 section 7. The limits are this project's profile.
use Rattle.std.specs.Prelude.{ℕ, Bool, ◌+◌, ◌==◌, ◌&&◌, ◌||◌, nat_lt, min, if◌then◌else◌}
use Rattle.std.specs.Option.{unwrap_or}
use Rattle.bosh_types.specs.declared.terms.Terms.{Terms}
use Rattle.session_attrs.specs.declared.request.Creation.{Creation}

-- how long requests are to be held, in seconds: 60 where the creation doesn't say, XEP-0124 section 7.1
abbrev pub asked_wait : Creation → ℕ
asked_wait creation = unwrap_or creation.wait 60

-- how many requests are to be held: 1 where the creation doesn't say, XEP-0124 section 7.1
abbrev pub asked_hold : Creation → ℕ
asked_hold creation = unwrap_or creation.hold 1

-- a client that lets nothing be held polls, XEP-0124 section 12
abbrev pub is_polling : Creation → Bool
is_polling creation = (asked_wait creation == 0) || (asked_hold creation == 0)

-- a version is lower by its major part, then by its minor part, both as numbers
abbrev pub is_lower : ℕ × ℕ → ℕ × ℕ → Bool
is_lower this other = nat_lt this.0 other.0 || ((this.0 == other.0) && nat_lt this.1 other.1)

abbrev pub lower_version : ℕ × ℕ → ℕ × ℕ → ℕ × ℕ
lower_version this other = if is_lower this other then this else other

-- at most 120 seconds, and none in a polling session
abbrev pub wait_of : Creation → ℕ
wait_of creation = if is_polling creation then 0 else min (asked_wait creation) 120

-- at most 4 requests, and none in a polling session
abbrev pub hold_of : Creation → ℕ
hold_of creation = if is_polling creation then 0 else min (asked_hold creation) 4

-- a polling client may be silent for longer, XEP-0124 sections 10 and 12
abbrev pub inactivity_of : Creation → ℕ
inactivity_of creation = if is_polling creation then 75 else 30

-- the terms of a creation; one more request may be open than is held, XEP-0124 section 11
unfoldable pub terms_of : Creation → Terms
terms_of creation = record {
  wait = wait_of creation;
  hold = hold_of creation;
  requests = hold_of creation + 1;
  inactivity = inactivity_of creation;
  polling = 5;
  maxpause = 120;
  version = lower_version creation.version (1, 11);
  polled = is_polling creation;
}
