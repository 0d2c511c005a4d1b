-- Request ids, XEP-0124 sections 7 and 14.
use Rattle.std.specs.Prelude.{ℕ, Option, Some, None, List, ◌≤◌, nat_le, if◌then◌else◌}
use Rattle.bosh_types.specs.Decimal.{positive_of}

-- the greatest request id, 2^53 - 1
abbrev pub greatest_rid : ℕ
greatest_rid = 9007199254740991

-- a request id is from 1 to the greatest
abbrev pub IsRid : ℕ → Type 0
IsRid n = (1 ≤ n) × (n ≤ greatest_rid)

-- the number, where it is at most the greatest request id
abbrev pub within_greatest : Option ℕ → Option ℕ
within_greatest None = None
within_greatest (Some n) = if nat_le n greatest_rid then Some n else None

-- the request id that the text writes in plain decimal, without a sign or a leading zero
abbrev pub rid_of : List ℕ → Option ℕ
rid_of text = within_greatest (positive_of text)
