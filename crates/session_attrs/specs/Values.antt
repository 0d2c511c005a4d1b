-- The values of the attributes that a request is read from.
use Rattle.std.specs.Prelude.{ℕ, List, Option, codes}
use Rattle.body_cutter.specs.declared.parts.Attr.{Attr}
use Rattle.session_attrs.specs.Attributes.{value_of}

-- each value, where the attribute is there
pub record Values : Type 0 where
  pub xmlns : Option (List ℕ)
  pub rid : Option (List ℕ)
  pub sid : Option (List ℕ)
  pub wait : Option (List ℕ)
  pub hold : Option (List ℕ)
  pub ver : Option (List ℕ)
  pub pause : Option (List ℕ)
  pub ack : Option (List ℕ)
  pub type : Option (List ℕ)
  pub restart : Option (List ℕ)
  pub to : Option (List ℕ)
  pub key : Option (List ℕ)
  pub newkey : Option (List ℕ)
  pub stream : Option (List ℕ)

-- the values by their names; all other attributes are ignored
abbrev pub values_of : List ℕ → List Attr → Values
values_of text attrs = record {
  xmlns = value_of text attrs (codes "xmlns");
  rid = value_of text attrs (codes "rid");
  sid = value_of text attrs (codes "sid");
  wait = value_of text attrs (codes "wait");
  hold = value_of text attrs (codes "hold");
  ver = value_of text attrs (codes "ver");
  pause = value_of text attrs (codes "pause");
  ack = value_of text attrs (codes "ack");
  type = value_of text attrs (codes "type");
  restart = value_of text attrs (codes "xmpp:restart");
  to = value_of text attrs (codes "to");
  key = value_of text attrs (codes "key");
  newkey = value_of text attrs (codes "newkey");
  stream = value_of text attrs (codes "stream");
}
