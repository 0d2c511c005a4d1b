-- What a body asks of a manager.
use Rattle.std.specs.Prelude.{ℕ, List, Option, Some, None, Result, Ok, Err}
use Rattle.bosh_types.specs.declared.condition.Condition.TheVariants.{BadRequest, HostUnknown, ImproperAddressing}
use Rattle.bosh_types.specs.declared.hosts.HostName.{HostName}
use Rattle.body_cutter.specs.Cutting.{body_cut_of}
use Rattle.body_cutter.specs.declared.parts.Cut.{Cut}
use Rattle.body_cutter.specs.declared.parts.CutRefusal.{CutRefusal}
use Rattle.session_attrs.specs.declared.admission.Admitted.{Admitted}
use Rattle.session_attrs.specs.declared.admission.Admitted.TheVariants as admitted
use Rattle.session_attrs.specs.declared.refusal.AttrRefusal.{AttrRefusal}
use Rattle.session_attrs.specs.declared.request.Kind.{Kind}
use Rattle.session_attrs.specs.declared.request.Kind.TheVariants as kinds
use Rattle.session_attrs.specs.declared.request.Request.{Request}
use Rattle.session_attrs.specs.Admission.{admitted_of}
use Rattle.session_attrs.specs.Reading.{request_of}
use Rattle.session_attrs.specs.Values.{values_of}
use Rattle.serve_loop.specs.declared.asked.Asked.{Asked}
use Rattle.serve_loop.specs.declared.asked.Asked.TheVariants.{Nothing, Creation, Later}

abbrev pub unrefused : Result Request AttrRefusal → Option Request
unrefused (Ok request) = Some request
unrefused (Err refusal) = None

abbrev pub request_from : List ℕ → Result Cut CutRefusal → Option Request
request_from body (Ok cut) = unrefused (request_of (values_of body cut.attrs) cut.children)
request_from body (Err refusal) = None

-- the request that a body is, where it can be cut and read
abbrev pub request_in : List ℕ → Option Request
request_in body = request_from body (body_cut_of body)

abbrev pub admitted_as : Request → Admitted → Asked
admitted_as request (admitted.Host place) = Creation request place
admitted_as request admitted.Improper = Nothing ImproperAddressing
admitted_as request admitted.Unknown = Nothing HostUnknown

abbrev pub asked_by : List HostName → Request → Kind → Asked
asked_by hosts request (kinds.Later sid) = Later request
asked_by hosts request (kinds.Creation creation) = admitted_as request (admitted_of request.to hosts)

abbrev pub asked_as : List HostName → Option Request → Asked
asked_as hosts None = Nothing BadRequest
asked_as hosts (Some request) = asked_by hosts request request.kind

abbrev pub asked_of : List HostName → List ℕ → Asked
asked_of hosts body = asked_as hosts (request_in body)
