-- What is known of a request that was read from its body.
use Rattle.std.proofs.Common.{◌≡◌, ℕ, List, Option, Some, None}
use Rattle.std.specs.Option.{option_and_then}
use Rattle.bosh_types.specs.Rid.{IsRid, rid_of}
use Rattle.bosh_types.proofs.RidLemmas.{rid_of-IsRid}
use Rattle.session_attrs.specs.declared.request.Request.{Request}
use Rattle.session_attrs.specs.Values.{values_of}
use Rattle.session_attrs.proofs.MeaningLemmas.{reads_means}
use Rattle.session_core.specs.Journal.{IsReadFrom}

rid_within : (value : Option (List ℕ)) (rid : ℕ) → option_and_then rid_of value ≡ Some rid → IsRid rid
rid_within None rid is = absurd (cc)
rid_within (Some text) rid is = rid_of-IsRid text rid is

-- its id is a request id
pub read-rid : (body : List ℕ) (request : Request) → IsReadFrom body request → IsRid request.rid
read-rid body request read = rid_within (values_of body (read.0).attrs).rid request.rid (reads_means (values_of body (read.0).attrs) (read.0).children request read.2).rid
