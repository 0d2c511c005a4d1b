-- The refusals of a request as facts, in the order in which they are tested. The first whose fact holds is the refusal.
use Rattle.std.specs.Prelude.{ℕ, Bool, false, not, ◌&&◌, List, [], ◌∷◌, Option, None, Some, is_none, is_some, if◌then◌else◌}
use Rattle.std.specs.List.{find}
use Rattle.std.specs.Option.{option_and_then}
use Rattle.bosh_types.specs.Rid.{rid_of}
use Rattle.session_attrs.specs.declared.refusal.AttrRefusal.{AttrRefusal}
use Rattle.session_attrs.specs.declared.refusal.AttrRefusal.TheVariants.{WrongNamespace, NoRid, BadRid, BadNumber, BadAck, BadType, BadFlag}
use Rattle.session_attrs.specs.declared.refusal.Numbered.{Numbered}
use Rattle.session_attrs.specs.declared.refusal.Numbered.TheVariants.{Wait, Hold, Ver, Pause}
use Rattle.session_attrs.specs.Forms.{number_of, pause_of, version_of, wish_of, ack_of, terminate_of, flag_of, says_httpbind}
use Rattle.session_attrs.specs.Rows.{is_bad}
use Rattle.session_attrs.specs.Values.{Values}

-- a request that names no session creates one, XEP-0124 section 7.1
abbrev pub creates : Values → Bool
creates v = is_none v.sid

-- the request id, where there is one
abbrev pub rid_named : Values → Option ℕ
rid_named v = option_and_then rid_of v.rid

-- an acknowledgement that is no lower request id, XEP-0124 section 9
abbrev pub is_bad_ack : Option ℕ → Option (List ℕ) → Bool
is_bad_ack None ack = false
is_bad_ack (Some rid) ack = is_bad (ack_of rid) ack

-- the numbers of a creation, and the pause of a later request, XEP-0124 sections 7.1 and 10
abbrev pub is_bad_number : Values → Numbered → Bool
is_bad_number v Wait = creates v && is_bad number_of v.wait
is_bad_number v Hold = creates v && is_bad number_of v.hold
is_bad_number v Ver = creates v && is_bad version_of v.ver
is_bad_number v Pause = not (creates v) && is_bad pause_of v.pause

-- the fact of each refusal
abbrev pub fact : Values → AttrRefusal → Bool
fact v WrongNamespace = not (says_httpbind v.xmlns)
fact v NoRid = is_none v.rid
fact v BadRid = is_bad rid_of v.rid
fact v (BadNumber field) = is_bad_number v field
fact v BadAck = if creates v then is_bad wish_of v.ack else is_bad_ack (rid_named v) v.ack
fact v BadType = if creates v then is_some v.type else is_bad terminate_of v.type
fact v BadFlag = is_bad flag_of v.restart

-- the refusals in their order
abbrev pub refusals : List AttrRefusal
refusals =
    WrongNamespace ∷ NoRid ∷ BadRid ∷ BadNumber Wait ∷ BadNumber Hold ∷ BadNumber Ver ∷ BadNumber Pause
    ∷ BadAck ∷ BadType ∷ BadFlag ∷ []

-- the first that holds
unfoldable pub request_refusal : Values → Option AttrRefusal
request_refusal v = find (fact v) refusals
