-- What a client may begin with.
use Rattle.std.specs.Prelude.{ℕ, ◌==◌, ◌&&◌, ◌||◌, nat_le, Bool, not, length}
use Rattle.session_attrs.specs.Serving.{is_allowed_text}
use Rattle.bosh_client.specs.declared.setup.ClientSetup.{ClientSetup}

-- a key sequence has 2 to 4096 keys; with 0 there is none
abbrev pub is_key_count : ℕ → Bool
is_key_count keys = not (keys == 1) && nat_le keys 4096

unfoldable pub is_setup : ClientSetup → Bool
is_setup setup =
    (((nat_le setup.wait 120 && nat_le setup.hold 4) && is_key_count setup.keys) && nat_le (length setup.to) 1023) && is_allowed_text setup.to

-- a client that lets nothing be held polls, XEP-0124 section 12
abbrev pub polls : ClientSetup → Bool
polls setup = (setup.wait == 0) || (setup.hold == 0)
