-- The request that the text of a body makes.
use Rattle.std.specs.Prelude.{ℕ, List, Option, None, Some, Result, Ok, Err, option_and_then}
use Rattle.body_cutter.specs.declared.parts.Cut.{Cut}
use Rattle.body_cutter.specs.BodyText.{IsBody}
use Rattle.body_cutter.specs.Cutting.{body_cut_of}
use Rattle.session_attrs.specs.declared.request.Request.{Request}
use Rattle.session_attrs.specs.Meaning.{Means}
use Rattle.session_attrs.specs.Reading.{request_of}
use Rattle.session_attrs.specs.Values.{values_of}

-- what was read, unless it was refused
abbrev pub unrefused : {E X : Type 0} → Result X E → Option X
unrefused (Ok x) = Some x
unrefused (Err refusal) = None

-- the request that a text makes, where it can be cut and read
abbrev pub request_in : List ℕ → Option Request
request_in text =
    option_and_then (λ (cut : Cut). unrefused (request_of (values_of text cut.attrs) cut.children)) (unrefused (body_cut_of text))

-- the text is a body's within the limits, and its attributes and children mean this request
abbrev pub Makes : List ℕ → Request → Type 0
Makes text request = (cut : Cut) × IsBody text cut × Means (values_of text cut.attrs) cut.children request
