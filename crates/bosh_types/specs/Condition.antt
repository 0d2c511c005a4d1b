-- The names of the terminal binding conditions, XEP-0124 section 17.2.
use Rattle.std.specs.Prelude.{List, ℕ, codes}
use Rattle.bosh_types.specs.declared.condition.Condition.{Condition}
use Rattle.bosh_types.specs.declared.condition.Condition.TheVariants.{BadRequest, HostUnknown, ImproperAddressing, ItemNotFound, OtherRequest, PolicyViolation, RemoteConnectionFailed, RemoteStreamError, SystemShutdown, UndefinedCondition}

-- the value of the attribute `condition`
abbrev pub name_of : Condition → List ℕ
name_of BadRequest = codes "bad-request"
name_of HostUnknown = codes "host-unknown"
name_of ImproperAddressing = codes "improper-addressing"
name_of ItemNotFound = codes "item-not-found"
name_of OtherRequest = codes "other-request"
name_of PolicyViolation = codes "policy-violation"
name_of RemoteConnectionFailed = codes "remote-connection-failed"
name_of RemoteStreamError = codes "remote-stream-error"
name_of SystemShutdown = codes "system-shutdown"
name_of UndefinedCondition = codes "undefined-condition"
