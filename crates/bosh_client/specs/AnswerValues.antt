-- The values of the attributes that an answer is read from.
use Rattle.std.specs.Prelude.{ℕ, List, Option, codes}
use Rattle.body_cutter.specs.declared.parts.Attr.{Attr}
use Rattle.session_attrs.specs.Attributes.{value_of}

-- each value, where the attribute is there
pub record AnswerValues : Type 0 where
  pub xmlns : Option (List ℕ)
  pub type : Option (List ℕ)
  pub condition : Option (List ℕ)
  pub sid : Option (List ℕ)
  pub requests : Option (List ℕ)
  pub polling : Option (List ℕ)
  pub maxpause : Option (List ℕ)
  pub stream : Option (List ℕ)
  pub ack : Option (List ℕ)

-- the values by a look-up by name; all other attributes are ignored
abbrev pub values_by : (List ℕ → Option (List ℕ)) → AnswerValues
values_by look = record {
  xmlns = look (codes "xmlns");
  type = look (codes "type");
  condition = look (codes "condition");
  sid = look (codes "sid");
  requests = look (codes "requests");
  polling = look (codes "polling");
  maxpause = look (codes "maxpause");
  stream = look (codes "stream");
  ack = look (codes "ack");
}

-- those of a body that was cut from this text
abbrev pub values_of : List ℕ → List Attr → AnswerValues
values_of text attrs = values_by (λ name. value_of text attrs name)
