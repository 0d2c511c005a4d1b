-- What follows from what a body asks.
use Rattle.std.proofs.Common.{◌≡◌, ℕ, ◌<◌, ◌==◌, List, [], ◌∷◌, length, Option, Some, None, Result, Ok, Err, bytes_eq, refl, sym, ◌∙◌, ap, subst, inl, inr}
use Rattle.std.proofs.lemmas.List.Quantifiers.{position-Some}
use Rattle.std.specs.List.{position}
use Rattle.body_cutter.specs.Cutting.{body_cut_of}
use Rattle.body_cutter.specs.declared.parts.Cut.{Cut}
use Rattle.body_cutter.specs.declared.parts.CutRefusal.{CutRefusal}
use Rattle.bosh_types.specs.declared.condition.Condition.TheVariants.{BadRequest}
use Rattle.bosh_types.specs.declared.hosts.HostName.{HostName}
use Rattle.session_attrs.specs.declared.admission.Admitted.{Admitted}
use Rattle.session_attrs.specs.declared.admission.Admitted.TheVariants as admitted
use Rattle.session_attrs.specs.declared.refusal.AttrRefusal.{AttrRefusal}
use Rattle.session_attrs.specs.declared.request.Creation.{Creation as CreationTerms}
use Rattle.session_attrs.specs.declared.request.Kind.{Kind}
use Rattle.session_attrs.specs.declared.request.Kind.TheVariants as kinds
use Rattle.session_attrs.specs.declared.request.Request.{Request}
use Rattle.session_attrs.specs.Admission.{admitted_of, host_at, place_of}
use Rattle.session_attrs.specs.Reading.{request_of}
use Rattle.session_attrs.specs.Values.{values_of}
use Rattle.session_core.specs.Journal.{IsReadFrom}
use Rattle.session_laws.proofs.Tests.{if_false, if_true, is_or_not}
use Rattle.serve_loop.specs.declared.asked.Asked.{Asked}
use Rattle.serve_loop.specs.declared.asked.Asked.TheVariants.{Nothing, Creation, Later}
use Rattle.serve_loop.specs.Asked.{admitted_as, asked_as, asked_by, asked_of, request_from, request_in, unrefused}
use Rattle.serve_loop.specs.Trail.{Names}

-- A request that a body is, is read from it.

unrefused_is : (read : Result Request AttrRefusal) (request : Request) → unrefused read ≡ Some request → read ≡ Ok request
unrefused_is (Ok r) request is = ap Ok (let same : r ≡ request = cc in same)
unrefused_is (Err refusal) request is = absurd (let no : None ≡ Some request = is in cc)

from_cut : (body : List ℕ) (cut : Result Cut CutRefusal) (request : Request) → body_cut_of body ≡ cut → request_from body cut ≡ Some request → IsReadFrom body request
from_cut body (Ok cut) request is read = (cut, is, unrefused_is (request_of (values_of body cut.attrs) cut.children) request read)
from_cut body (Err refusal) request is read = absurd (let no : None ≡ Some request = read in cc)

pub read_from : (body : List ℕ) (request : Request) → request_in body ≡ Some request → IsReadFrom body request
read_from body request is = from_cut body (body_cut_of body) request refl is

-- A later request.

not_later : (r request : Request) (a : Admitted) → admitted_as r a ≡ Later request → ⊥
not_later r request (admitted.Host place) is = cc
not_later r request admitted.Improper is = cc
not_later r request admitted.Unknown is = cc

later_kind : (hosts : List HostName) (r request : Request) (kind : Kind) → r.kind ≡ kind → asked_by hosts r kind ≡ Later request
    → (r ≡ request) × ((sid : List ℕ) × (r.kind ≡ kinds.Later sid))
later_kind hosts r request (kinds.Later sid) is asks = (let same : r ≡ request = cc in same, (sid, is))
later_kind hosts r request (kinds.Creation terms) is asks = absurd (not_later r request (admitted_of r.to hosts) asks)

later_in : (hosts : List HostName) (read : Option Request) (request : Request) → asked_as hosts read ≡ Later request
    → (read ≡ Some request) × ((sid : List ℕ) × (request.kind ≡ kinds.Later sid))
later_in hosts None request asks = absurd (let no : Nothing BadRequest ≡ Later request = asks in cc)
later_in hosts (Some r) request asks =
    let is = later_kind hosts r request r.kind refl asks in
    (ap Some is.0, subst (λ (q : Request). (sid : List ℕ) × (q.kind ≡ kinds.Later sid)) is.0 is.1)

pub asks_later : (hosts : List HostName) (body : List ℕ) (request : Request) → asked_of hosts body ≡ Later request
    → (request_in body ≡ Some request) × ((sid : List ℕ) × (request.kind ≡ kinds.Later sid))
asks_later hosts body request asks = later_in hosts (request_in body) request asks

-- A creation.

at_host : (r request : Request) (place : ℕ) (a : Admitted) → admitted_as r a ≡ Creation request place → (r ≡ request) × (a ≡ admitted.Host place)
at_host r request place (admitted.Host at) is = (let same : r ≡ request = cc in same, let there : at ≡ place = cc in ap admitted.Host there)
at_host r request place admitted.Improper is = absurd cc
at_host r request place admitted.Unknown is = absurd cc

host_place : (o : Option ℕ) (place : ℕ) → host_at o ≡ admitted.Host place → o ≡ Some place
host_place None place is = absurd cc
host_place (Some at) place is = ap Some (let there : at ≡ place = cc in there)

place_within : (name : List ℕ) (hosts : List HostName) (place : ℕ) → place_of name hosts ≡ Some place → place < length hosts
place_within name [] place is = absurd (let no : None ≡ Some place = is in cc)
place_within name (host ∷ hosts) place is = (position-Some (λ (h : HostName). bytes_eq h.name name) (host ∷ hosts) place host is).0

admitted_within : (to : Option (List ℕ)) (hosts : List HostName) (place : ℕ) → admitted_of to hosts ≡ admitted.Host place → place < length hosts
admitted_within None hosts place is = absurd (let no : admitted.Improper ≡ admitted.Host place = is in cc)
admitted_within (Some name) hosts place is = elim (is_or_not (length name == 0)) [
  | inl empty ↦ absurd (let no : admitted.Improper ≡ admitted.Host place = sym (if_true (length name == 0) admitted.Improper (host_at (place_of name hosts)) empty) ∙ is in cc)
  | inr some ↦ place_within name hosts place (host_place (place_of name hosts) place (sym (if_false (length name == 0) admitted.Improper (host_at (place_of name hosts)) some) ∙ is))
]

-- what is known of a creation that is admitted
pub record Admits (hosts : List HostName) (body : List ℕ) (request : Request) (place : ℕ) : Type 0 where
  pub read : request_in body ≡ Some request
  pub creation : (creation : CreationTerms) × (request.kind ≡ kinds.Creation creation)
  pub within : place < length hosts

creation_kind : (hosts : List HostName) (body : List ℕ) (r request : Request) (place : ℕ) (kind : Kind) → request_in body ≡ Some r → r.kind ≡ kind
    → asked_by hosts r kind ≡ Creation request place → Admits hosts body request place
creation_kind hosts body r request place (kinds.Later sid) read is asks = absurd (let no : Later r ≡ Creation request place = asks in cc)
creation_kind hosts body r request place (kinds.Creation terms) read is asks =
    let at = at_host r request place (admitted_of r.to hosts) asks in
    record {
      read = read ∙ ap Some at.0;
      creation = subst (λ (q : Request). (creation : CreationTerms) × (q.kind ≡ kinds.Creation creation)) at.0 (terms, is);
      within = admitted_within r.to hosts place at.1;
    }

creation_in : (hosts : List HostName) (body : List ℕ) (read : Option Request) (request : Request) (place : ℕ) → request_in body ≡ read
    → asked_as hosts read ≡ Creation request place → Admits hosts body request place
creation_in hosts body None request place is asks = absurd (let no : Nothing BadRequest ≡ Creation request place = asks in cc)
creation_in hosts body (Some r) request place is asks = creation_kind hosts body r request place r.kind is refl asks

pub asks_creation : (hosts : List HostName) (body : List ℕ) (request : Request) (place : ℕ) → asked_of hosts body ≡ Creation request place → Admits hosts body request place
asks_creation hosts body request place asks = creation_in hosts body (request_in body) request place refl asks
