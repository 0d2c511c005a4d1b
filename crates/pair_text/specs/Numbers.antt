-- Numbers in a script of two ends.
use Rattle.std.specs.Prelude.{ℕ, List, Option, Some, codes, if◌then◌else◌}
use Rattle.std.specs.Str.{bytes_eq}
use Rattle.bosh_types.specs.Rid.{rid_of}

-- a number in plain decimal: `0`, or one that a request id might be
unfoldable pub number_of : List ℕ → Option ℕ
number_of text = if bytes_eq text (codes "0") then Some 0 else rid_of text
