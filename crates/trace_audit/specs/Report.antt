-- The report of an audit: one line.
use Rattle.std.specs.Prelude.{ℕ, List, ◌++◌, codes}
use Rattle.std.specs.Fmt.{decimal}
use Rattle.trace_audit.specs.declared.line.BadKind.{BadKind}
use Rattle.trace_audit.specs.declared.line.BadKind.TheVariants.{Count, End, Length, Grammar}
use Rattle.trace_audit.specs.declared.outcome.Audited.{Audited}
use Rattle.trace_audit.specs.declared.outcome.Audited.TheVariants.{Yes, No, Bad}
use Rattle.trace_audit.specs.declared.outcome.Rule.{Rule}
use Rattle.trace_audit.specs.declared.outcome.Rule.TheVariants.{Body, Number, Altered, Inward, Order, Changed, Payload, Took, Got}

-- the name of a rule
abbrev pub rule_text : Rule → List ℕ
rule_text Body = codes "body"
rule_text Number = codes "number"
rule_text Altered = codes "altered"
rule_text Inward = codes "inward"
rule_text Order = codes "order"
rule_text Changed = codes "changed"
rule_text Payload = codes "payload"
rule_text Took = codes "took"
rule_text Got = codes "got"

-- the word for a kind of bad line
abbrev pub kind_text : BadKind → List ℕ
kind_text Count = codes "count"
kind_text End = codes "end"
kind_text Length = codes "length"
kind_text Grammar = codes "grammar"

-- `yes REQUESTS IN GOT`, `no LINE RULE`, `bad LINE KIND`, with its LF
unfoldable pub outcome_text : Audited → List ℕ
outcome_text (Yes requests passed got) = codes "yes " ++ decimal requests ++ codes " " ++ decimal passed ++ codes " " ++ decimal got ++ codes "\n"
outcome_text (No line rule) = codes "no " ++ decimal line ++ codes " " ++ rule_text rule ++ codes "\n"
outcome_text (Bad line kind) = codes "bad " ++ decimal line ++ codes " " ++ kind_text kind ++ codes "\n"
