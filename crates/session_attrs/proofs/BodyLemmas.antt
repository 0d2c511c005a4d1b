-- The request that the text of a body makes.
use Rattle.std.proofs.Common.{◌≡◌, ◌↔◌, ℕ, List, Option, Some, None, Result, Ok, Err, IfOk, refl, sym, ◌∙◌, ap, subst}
use Rattle.std.specs.Prelude.{option_and_then}
use Rattle.body_cutter.specs.declared.parts.Cut.{Cut}
use Rattle.body_cutter.specs.declared.parts.CutRefusal.{CutRefusal}
use Rattle.body_cutter.specs.Cutting.{body_cut_of}
use Rattle.body_cutter.proofs.Cuts.{body_cut}
use Rattle.session_attrs.specs.declared.request.Request.{Request}
use Rattle.session_attrs.specs.Body.{Makes, request_in, unrefused}
use Rattle.session_attrs.specs.Reading.{request_of}
use Rattle.session_attrs.specs.Values.{values_of}
use Rattle.session_attrs.proofs.MeaningLemmas.{means_reads, reads_means}

some_same : {X : Type 0} {x y : X} → Some x ≡ Some y → x ≡ y
some_same is = cc

none_some : {P X : Type 0} {x : X} → None ≡ Some x → P
none_some is = absurd (cc)

unrefused_ok : {E X : Type 0} (r : Result X E) (x : X) → unrefused r ≡ Some x → r ≡ Ok x
unrefused_ok (Ok y) x is = ap Ok (some_same is)
unrefused_ok (Err e) x is = none_some is

-- what the parts of a body mean
abbrev read_of : List ℕ → Cut → Option Request
read_of text cut = unrefused (request_of (values_of text cut.attrs) cut.children)

by_cut : (text : List ℕ) (request : Request) (r : Result Cut CutRefusal) → body_cut_of text ≡ r → option_and_then (read_of text) (unrefused r) ≡ Some request → Makes text request
by_cut text request (Ok cut) cuts is =
    (cut, (body_cut text cut).0 cuts, reads_means (values_of text cut.attrs) cut.children request (unrefused_ok (request_of (values_of text cut.attrs) cut.children) request is))
by_cut text request (Err refusal) cuts is = none_some is

pub makes_is : (text : List ℕ) (request : Request) → (request_in text ≡ Some request) ↔ Makes text request
makes_is text request = (
  λ is. by_cut text request (body_cut_of text) refl is,
  λ m. ap (λ (r : Result Cut CutRefusal). option_and_then (read_of text) (unrefused r)) ((body_cut text m.0).1 m.1)
      ∙ ap unrefused (means_reads (values_of text m.0.attrs) m.0.children request m.2),
)

pub one_made : (text : List ℕ) (q r : Request) → Makes text q → Makes text r → q ≡ r
one_made text q r a b = some_same (sym ((makes_is text q).1 a) ∙ (makes_is text r).1 b)

-- what is read is what is made
pub read_makes : (text : List ℕ) (read : Option Request) → read ≡ request_in text → (request : Request) → (read ≡ Some request) ↔ Makes text request
read_makes text read is request = (λ some. (makes_is text request).0 (sym is ∙ some), λ m. is ∙ (makes_is text request).1 m)

pub all_make : {E : Type 0} (text : List ℕ) (result : Result (Option Request) E) → IfOk result (λ read. read ≡ request_in text) → IfOk result (λ read. (request : Request) → (read ≡ Some request) ↔ Makes text request)
all_make text (Ok read) is = read_makes text read is
all_make text (Err e) is = tt
