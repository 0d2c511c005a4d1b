-- What a session of a script is opened with.
use Rattle.std.proofs.Common.{◌≡◌, ◌≤◌, ◌<◌, ◌^◌, ℕ, List, [], ◌++◌, length, Some, refl, sym, subst, ◌∙◌, ap, arith}
use Rattle.std.specs.Prelude.{IsTrue, codes}
use Rattle.std.specs.Fmt.{decimal}
use Rattle.std.specs.List.{slice_get}
use Rattle.std.proofs.lemmas.Fmt.{length-decimal-le}
use Rattle.bosh_types.specs.declared.hosts.HostName.{HostName}
use Rattle.bosh_types.specs.declared.terms.Terms.{Terms}
use Rattle.body_cutter.specs.BodyText.{IsText}
use Rattle.body_cutter.proofs.Leads.{both}
use Rattle.body_cutter.proofs.Rows.{cuts_compute}
use Rattle.body_writer.proofs.Plain.{plain_text, plain-append, decimal_plain}
use Rattle.session_attrs.specs.declared.request.Creation.{Creation}
use Rattle.session_attrs.specs.declared.request.Kind.TheVariants as kinds
use Rattle.session_attrs.specs.declared.request.Request.{Request}
use Rattle.session_attrs.specs.Terms.{terms_of}
use Rattle.session_core.specs.Journal.{IsOpening, IsReadFrom}
use Rattle.session_core.specs.Opened.{opening_of}
use Rattle.session_core.proofs.GreetingLemmas.{greeting_fits}
use Rattle.session_attrs.specs.Serving.{can_serve, is_host_name, may_greet}
use Rattle.session_attrs.proofs.ServingLemmas.{host_text}
use Rattle.script_text.specs.Manager.{sid_of}

-- the name of a session may stand in an answer
sid_text : (number : ℕ) → number < 10 ^ 19 → number < 2 ^ 64 → IsText (sid_of number) × (1 ≤ length (sid_of number)) × (length (sid_of number) ≤ 64)
unfolding sid_of
sid_text number few small = (
  plain_text (codes "s" ++ decimal number) (plain-append (codes "s") (decimal number) refl (decimal_plain number small)),
  omega arith,
  omega (arith, length-decimal-le 19 number (omega arith) few small),
)

-- a session may be opened for a host of a script
pub opens : (host : HostName) (number now : ℕ) (body sid name : List ℕ) (request : Request) (creation : Creation) (terms : Terms)
    → IsTrue (can_serve host) → number < 10 ^ 19 → number < 2 ^ 64 → sid ≡ sid_of number → name ≡ host.name → IsReadFrom body request
    → request.kind ≡ kinds.Creation creation → terms ≡ terms_of creation
    → IsOpening (opening_of request body terms sid name host.greeting now)
opens host number now body sid name request creation terms good few small sid_is name_is read kind terms_is =
    let known = both (is_host_name host.name) (may_greet host.greeting) good in
    record {
      read = read;
      creation = (creation, kind, terms_is);
      sid = subst (λ n. IsText n × (1 ≤ length n) × (length n ≤ 64)) (sym sid_is) (sid_text number few small);
      host = subst (λ n. IsText n × (1 ≤ length n) × (length n ≤ 1023)) (sym name_is) (host_text host.name known.0);
      gap = (omega arith, omega arith);
      greeting = greeting_fits host.greeting known.1;
    }

pub one_host : (hosts : List HostName) (place : ℕ) (at host : HostName) → slice_get hosts place ≡ Some at → slice_get hosts place ≡ Some host → at ≡ host
one_host hosts place at host one other = cc

-- the host of a script that tells of one session
pub alone_is_host : IsTrue (can_serve (record { name = codes "example.org"; greeting = [] }))
unfolding cuts_compute is_host_name may_greet
alone_is_host = refl
