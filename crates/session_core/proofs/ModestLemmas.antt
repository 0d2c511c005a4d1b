-- A request that may arrive is within the limits of its body.
use Rattle.std.proofs.Common.{◌≡◌, ℕ, ◌<◌, nat_lt, Bool, true, false, List, inl, inr, Option, Some, None, length, sym, ◌∙◌, ap, arith}
use Rattle.std.specs.Prelude.{IfSome, if◌then◌else◌}
use Rattle.std.specs.Option.{option_map}
use Rattle.std.proofs.lemmas.Bool.{cases_lt}
use Rattle.std.proofs.lemmas.Bool.Decides.{nat_tests}
use Rattle.bosh_types.specs.Rid.{rid_of}
use Rattle.body_cutter.specs.declared.parts.Cut.{Cut}
use Rattle.body_cutter.proofs.Cuts.{body_cut}
use Rattle.session_attrs.specs.declared.request.Kind.{Kind}
use Rattle.session_attrs.specs.declared.request.Kind.TheVariants as kinds
use Rattle.session_attrs.specs.declared.request.Request.{Request}
use Rattle.session_attrs.specs.Forms.{ack_of, below}
use Rattle.session_attrs.specs.Meaning.{MeansKind}
use Rattle.session_attrs.specs.Rows.{Says, told}
use Rattle.session_attrs.specs.Values.{Values, values_of}
use Rattle.session_attrs.proofs.MeaningLemmas.{reads_means}
use Rattle.session_core.specs.Arriving.{IsModest}
use Rattle.session_core.specs.Journal.{Arrive, IsAllowed}

lower : (rid : ℕ) (read : Option ℕ) (ack : ℕ) → below rid read ≡ Some ack → ack < rid
lower rid None ack is = absurd (cc)
lower rid (Some n) ack is = elim (cases_lt n rid) [
  | inl less ↦ (
      let test : nat_lt n rid ≡ true = grind (arith, nat_tests) in
      let same : Some n ≡ Some ack = sym (ap (λ (b : Bool). if b then Some n else None) test) ∙ is in
      let here : n ≡ ack = cc in
      omega arith)
  | inr more ↦ (
      let test : nat_lt n rid ≡ false = grind (arith, nat_tests) in
      let none : None ≡ Some ack = sym (ap (λ (b : Bool). if b then Some n else None) test) ∙ is in
      absurd (cc))
]

told_some : (read : Option ℕ) (ack : Option ℕ) → option_map Some read ≡ Some ack → ack ≡ read
told_some None ack is = absurd (cc)
told_some (Some n) ack is = cc

ack_lower : (rid : ℕ) (value : Option (List ℕ)) (ack : Option ℕ) → Says (told (ack_of rid)) None value ack → IfSome ack (λ a. a < rid)
unfolding ack_of
ack_lower rid value None says = tt
ack_lower rid None (Some a) says = absurd (cc)
ack_lower rid (Some text) (Some a) says = lower rid (rid_of text) a (sym (told_some (below rid (rid_of text)) (Some a) says))

kind_ack : (v : Values) (request : Request) (sid : List ℕ) (kind : Kind) → kind ≡ kinds.Later sid → MeansKind v request kind → IfSome request.ack (λ a. a < request.rid)
kind_ack v request sid (kinds.Creation creation) is means = absurd (cc)
kind_ack v request sid (kinds.Later other) is means = ack_lower request.rid v.ack request.ack means.1.ack

pub modest : (request : Request) (body : List ℕ) (now : ℕ) → IsAllowed (Arrive request body now) → IsModest request body
modest request body now allowed =
    let cut = allowed.0.0 in
    let is = (body_cut body cut).0 allowed.0.1 in
    let means = reads_means (values_of body cut.attrs) cut.children request allowed.0.2 in
    let children : cut.children ≡ is.1.children = ap (λ (c : Cut). c.children) is.4 in
    record {
      bytes = is.0;
      stanzas = omega (arith, ap length means.stanzas, ap length children, is.3.children);
      ack = kind_ack (values_of body cut.attrs) request allowed.1.0 request.kind allowed.1.1 means.kind;
    }
