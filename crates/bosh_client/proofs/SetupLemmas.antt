-- What is known of the numbers of a setup.
use Rattle.std.proofs.Common.{◌≡◌, ◌≤◌, Bool, true, false, ◌&&◌, length, refl, arith}
use Rattle.std.specs.Prelude.{Option, None, Some, is_some, not, ◌==◌, nat_le}
use Rattle.std.proofs.lemmas.Bool.{leb-true}
use Rattle.std.proofs.lemmas.Bool.Decides.{nat_tests}
use Rattle.body_cutter.specs.Chars.{is_allowed}
use Rattle.body_cutter.specs.Utf8.{IsUtf8Of}
use Rattle.bosh_client.specs.declared.setup.ClientSetup.{ClientSetup}
use Rattle.session_attrs.specs.Serving.{is_allowed_text}
use Rattle.session_attrs.proofs.ServingLemmas.{allowed_text}
use Rattle.bosh_client.specs.Setup.{is_key_count, is_setup}

and_true : (a b : Bool) → (a && b) ≡ true → (a ≡ true) × (b ≡ true)
and_true true b both = (refl, both)
and_true false b both = absurd (cc)

pub hold_few : (setup : ClientSetup) → is_setup setup ≡ true → setup.hold ≤ 4
unfolding is_setup
hold_few setup is =
    let few : nat_le setup.hold 4 ≡ true = (and_true _ _ (and_true _ _ (and_true _ _ (and_true _ _ is).0).0).0).1 in
    grind (arith, nat_tests, few)

-- a key sequence has two keys at least, and 4096 at most
pub keys_range : (setup : ClientSetup) → is_setup setup ≡ true → (setup.keys == 0) ≡ false → (2 ≤ setup.keys) × (setup.keys ≤ 4096)
unfolding is_setup
keys_range setup is some =
    let count : is_key_count setup.keys ≡ true = (and_true _ _ (and_true _ _ (and_true _ _ is).0).0).1 in
    let parts = and_true (not (setup.keys == 1)) (nat_le setup.keys 4096) count in
    (grind (arith, nat_tests, parts.0, some), grind (arith, nat_tests, parts.1))

-- the wait is of 120 seconds at most, and the host has at most 1023 bytes, which are a text
pub record SetupParts (setup : ClientSetup) : Type 0 where
  pub wait : setup.wait ≤ 120
  pub hold : setup.hold ≤ 4
  pub long : length setup.to ≤ 1023
  pub to : IsUtf8Of is_allowed setup.to

pub setup_parts : (setup : ClientSetup) → is_setup setup ≡ true → SetupParts setup
unfolding is_setup
setup_parts setup is =
    let all = and_true _ (is_allowed_text setup.to) is in
    let sized = and_true _ (nat_le (length setup.to) 1023) all.0 in
    let keyed = and_true _ (is_key_count setup.keys) sized.0 in
    let held = and_true (nat_le setup.wait 120) (nat_le setup.hold 4) keyed.0 in
    record {
      wait = leb-true setup.wait 120 held.0;
      hold = leb-true setup.hold 4 held.1;
      long = leb-true (length setup.to) 1023 sized.1;
      to = (allowed_text setup.to all.1).1;
    }

pub not_some : {X : Type 0} (o : Option X) → not (is_some o) ≡ true → is_some o ≡ false
not_some None is = refl
not_some (Some x) is = absurd (cc)

pub none_is : {X : Type 0} (o : Option X) → is_some o ≡ false → o ≡ None
none_is None is = refl
none_is (Some x) is = absurd (cc)
