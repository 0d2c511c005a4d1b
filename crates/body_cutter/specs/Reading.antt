-- How the reader of the code stands for the reader of the definitions.
use Rattle.std.specs.Prelude.{◌≡◌, Bool, true, false, Option, None, Some}
use Rattle.body_cutter.specs.declared.reader.Reader.{Reader}
use Rattle.body_cutter.specs.declared.parts.Cut.{Cut}
use Rattle.body_cutter.specs.Reader.{State}

-- what the reader of the code keeps
abbrev pub state_of : Reader → State
state_of r = record {
  kind = r.kind;
  place = r.place;
  wide = r.wide;
  reference = r.reference;
  elements = r.elements;
  name = r.name.items;
  name_start = r.name_start;
  name_end = r.name_end;
  seen = r.seen;
  value = r.value.items;
  attrs = r.attrs.items;
  child_start = r.child_start;
  children = r.children.items;
  too_many_attributes = r.too_many_attributes;
  too_deep = r.too_deep;
}

-- the parts of a body that was read
abbrev pub cut_of : State → Cut
cut_of s = record { attrs = s.attrs; children = s.children }

-- the step is taken, or it can't be and nothing changes
abbrev pub Takes : Option State → State → Bool → State → Type 0
Takes after old true new = after ≡ Some new
Takes after old false new = (after ≡ None) × (new ≡ old)
