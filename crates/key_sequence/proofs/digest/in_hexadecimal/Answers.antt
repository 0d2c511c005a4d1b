use Rattle.std.proofs.Common.{Result, Ok, Err, IsOk, OnOk, ◌∙◌, arith}
use Rattle.key_sequence.proofs.Digits.{encode_lower-digits}
use Rattle.key_sequence.proofs.digest.in_hexadecimal.Goals as goal

-- what holds at `Ok` holds
told : {T E P : Type 0} (r : Result T E) → IsOk r → OnOk r P → P
told (Ok x) ok fact = fact
told (Err e) ok fact = absurd (cc)

pub new-requires : goal.new-requires
new-requires c =
    let written = told c.encode_to_slice.result (c.encode_to_slice.ensures.fits.1 (omega arith)) c.encode_to_slice.ensures.written in
    rw written (encode_lower-digits c.args.bytes.now (λ i. omega (arith, c.type_inv.bytes i)))

pub returns : goal.returns
returns c = c.new.ensures ∙ told c.encode_to_slice.result (c.encode_to_slice.ensures.fits.1 (omega arith)) c.encode_to_slice.ensures.written
