-- What refusals and errors are shown as.
use Rattle.std.specs.Prelude.{ℕ, List, ◌++◌, codes}
use Rattle.session_attrs.specs.declared.refusal.AttrRefusal.{AttrRefusal}
use Rattle.session_attrs.specs.declared.refusal.AttrRefusal.TheVariants.{WrongNamespace, NoRid, BadRid, BadNumber, BadAck, BadType, BadFlag}
use Rattle.session_attrs.specs.declared.refusal.Numbered.{Numbered}
use Rattle.session_attrs.specs.declared.refusal.Numbered.TheVariants.{Wait, Hold, Ver, Pause}
use Rattle.session_attrs.specs.declared.refusal.RequestError.{RequestError}
use Rattle.session_attrs.specs.declared.refusal.RequestError.TheVariants.{Memory, Refused}

abbrev pub said_number : Numbered → List ℕ
said_number Wait = codes "wait"
said_number Hold = codes "hold"
said_number Ver = codes "ver"
said_number Pause = codes "pause"

abbrev pub said_refusal : AttrRefusal → List ℕ
said_refusal WrongNamespace = codes "the body is not in the namespace"
said_refusal NoRid = codes "there is no request id"
said_refusal BadRid = codes "the request id is not one"
said_refusal (BadNumber field) = codes "the number in " ++ said_number field ++ codes " is not one"
said_refusal BadAck = codes "the acknowledgement is not one"
said_refusal BadType = codes "the type is not one of such a request"
said_refusal BadFlag = codes "the restart is neither true nor false"

abbrev pub said_error : RequestError → List ℕ
said_error Memory = codes "memory ran out"
said_error (Refused refusal) = said_refusal refusal
