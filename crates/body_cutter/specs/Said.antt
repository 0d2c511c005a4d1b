-- What refusals and errors are shown as.
use Rattle.std.specs.Prelude.{ℕ, List, ◌++◌, codes}
use Rattle.std.specs.Fmt.{decimal}
use Rattle.body_cutter.specs.declared.parts.CutError.{CutError}
use Rattle.body_cutter.specs.declared.parts.CutError.TheVariants.{Memory, Refused}
use Rattle.body_cutter.specs.declared.parts.CutRefusal.{CutRefusal}
use Rattle.body_cutter.specs.declared.parts.CutRefusal.TheVariants.{TooLong, NotUtf8, NotBody, Forbidden, Malformed, TooManyAttributes, TooManyChildren, TooDeep}

abbrev pub said_refusal : CutRefusal → List ℕ
said_refusal TooLong = codes "the text is too long"
said_refusal NotUtf8 = codes "the text is not UTF-8"
said_refusal NotBody = codes "the text is no body"
said_refusal (Forbidden place) = codes "forbidden at byte " ++ decimal place
said_refusal (Malformed place) = codes "malformed at byte " ++ decimal place
said_refusal TooManyAttributes = codes "a tag has too many attributes"
said_refusal TooManyChildren = codes "there are too many children"
said_refusal TooDeep = codes "an element lies too deep"

abbrev pub said_error : CutError → List ℕ
said_error Memory = codes "memory ran out"
said_error (Refused refusal) = said_refusal refusal
