-- The value of an attribute by its name, in a list of written attributes.
use Rattle.std.proofs.Common.{◌≡◌, ◌∙◌, ℕ, zero, suc, ◌-◌, ◌<◌, Bool, true, false, ◌&&◌, List, [], ◌∷◌, ◌++◌, length, take, drop, refl, ap, arith, append_assoc}
use Rattle.std.specs.Prelude.{Option, None, Some, cond, map, codes, nat_le, if◌then◌else◌}
use Rattle.std.specs.List.{All, find}
use Rattle.std.specs.Option.{option_map}
use Rattle.std.specs.Str.{bytes_eq}
use Rattle.std.proofs.lemmas.Bool.Decides.{nat_tests}
use Rattle.std.proofs.lemmas.List.Elements.{All-head, All-tail}
use Rattle.body_cutter.specs.declared.parts.Attr.{Attr}
use Rattle.body_cutter.specs.Built.{Written}
use Rattle.body_cutter.specs.Grammar.{Name}
use Rattle.body_cutter.specs.Pieces.{IsNamed, bytes_at}
use Rattle.session_attrs.specs.Attributes.{is_named, is_within, value_of}
use Rattle.session_attrs.specs.Values.{Values}

-- the value of the first of these with this name
abbrev pub value_in : List Written → List ℕ → Option (List ℕ)
value_in [] name = None
value_in (row ∷ rows) name = if bytes_eq row.name name then Some row.value else value_in rows name

some_length : (n : ℕ) (bytes : List ℕ) → 0 < length (take n bytes) → 0 < n
some_length zero bytes h = h
some_length (suc n) bytes h = omega arith

name_length : {name text rest : List ℕ} → Name name text rest → 0 < length name
name_length (Name.begins e n) = omega arith

-- a name that stands in the text lies within it
lies_within : (text : List ℕ) (attr : Attr) → IsNamed text attr → is_within text attr.name ≡ true
lies_within text attr is =
    let some : 0 < attr.name.end - attr.name.start = some_length (attr.name.end - attr.name.start) (drop attr.name.start text) (name_length is.is) in
    let first : nat_le attr.name.start attr.name.end ≡ true = grind (arith, nat_tests, some) in
    let last : nat_le attr.name.end (length text) ≡ true = grind (arith, nat_tests, is.within) in
    rw (first, last) refl

named_by : (text name : List ℕ) (attr : Attr) (row : Written) → IsNamed text attr → bytes_at text attr.name ≡ row.name → is_named text name attr ≡ bytes_eq row.name name
unfolding is_named
named_by text name attr row is same =
    ap (λ (b : Bool). b && bytes_eq (bytes_at text attr.name) name) (lies_within text attr is) ∙ ap (λ (n : List ℕ). bytes_eq n name) same

picked : (t : Bool) (attr : Attr) (value : List ℕ) (found : Option Attr) (rest : Option (List ℕ)) → attr.value ≡ value → option_map (λ a. a.value) found ≡ rest →
    option_map (λ (a : Attr). a.value) (cond t (Some attr) found) ≡ (if t then Some value else rest)
picked true attr value found rest e k = ap Some e
picked false attr value found rest e k = k

cons_same : {X : Type 0} {x y : X} {xs ys : List X} → x ∷ xs ≡ y ∷ ys → (x ≡ y) × (xs ≡ ys)
cons_same e = (cc, cc)

-- a value by its name in the text is the value by its name among the attributes that were written
pub value_of_written : (text name : List ℕ) (attrs : List Attr) (rows : List Written) → All (IsNamed text) attrs → map (λ attr. bytes_at text attr.name) attrs ≡ map (λ row. row.name) rows →
    map (λ attr. attr.value) attrs ≡ map (λ row. row.value) rows → value_of text attrs name ≡ value_in rows name
unfolding value_of
value_of_written text name [] [] are names values = refl
value_of_written text name [] (row ∷ rows) are names values = cc
value_of_written text name (attr ∷ attrs) [] are names values = cc
value_of_written text name (attr ∷ attrs) (row ∷ rows) are names values =
    let n = cons_same names in
    let v = cons_same values in
    ap (λ (t : Bool). option_map (λ (a : Attr). a.value) (cond t (Some attr) (find (is_named text name) attrs))) (named_by text name attr row (All-head (IsNamed text) attr attrs are) n.0)
    ∙ picked (bytes_eq row.name name) attr row.value (find (is_named text name) attrs) (value_in rows name) v.0
    (value_of_written text name attrs rows (All-tail (IsNamed text) attr attrs are) n.1 v.1)

-- the values that a look-up by name gives
abbrev pub values_by : (List ℕ → Option (List ℕ)) → Values
values_by look = record {
  xmlns = look (codes "xmlns");
  rid = look (codes "rid");
  sid = look (codes "sid");
  wait = look (codes "wait");
  hold = look (codes "hold");
  ver = look (codes "ver");
  pause = look (codes "pause");
  ack = look (codes "ack");
  type = look (codes "type");
  restart = look (codes "xmpp:restart");
  to = look (codes "to");
  key = look (codes "key");
  newkey = look (codes "newkey");
  stream = look (codes "stream");
}

pub values_same : (look other : List ℕ → Option (List ℕ)) → ((name : List ℕ) → look name ≡ other name) → values_by look ≡ values_by other
values_same look other same = λ i. values_by (λ name. same name i)

-- the first that is there
abbrev pub first : Option (List ℕ) → Option (List ℕ) → Option (List ℕ)
first None other = other
first (Some value) other = Some value

pub first-none : (o : Option (List ℕ)) → first o None ≡ o
first-none None = refl
first-none (Some value) = refl

-- these attributes give this look-up, before others that give the rest
pub record Looks (rows : List Written) (look : List ℕ → Option (List ℕ) → Option (List ℕ)) : Type 0 where
  pub gives : (rest : List Written) (name : List ℕ) → value_in (rows ++ rest) name ≡ look name (value_in rest name)

-- an optional value with this name
abbrev pub look_for : List ℕ → Option (List ℕ) → List ℕ → Option (List ℕ) → Option (List ℕ)
look_for own value name rest = if bytes_eq own name then first value rest else rest

either : (b : Bool) (o : Option (List ℕ)) → o ≡ (if b then o else o)
either true o = refl
either false o = refl

pub looks_none : (own : List ℕ) → Looks [] (look_for own None)
looks_none own = record { gives = λ rest name. either (bytes_eq own name) (value_in rest name) }

pub looks_one : (row : Written) → Looks (row ∷ []) (look_for row.name (Some row.value))
looks_one row = record { gives = λ rest name. refl }

pub looks_nothing : Looks [] (λ name rest. rest)
looks_nothing = record { gives = λ rest name. refl }

pub looks_both : {rows more : List Written} {look other : List ℕ → Option (List ℕ) → Option (List ℕ)} → Looks rows look → Looks more other → Looks (rows ++ more) (λ name rest. look name (other name rest))
looks_both {rows = rows} {more = more} {look = look} {other = other} one two = record {
  gives = λ rest name.
      ap (λ (all : List Written). value_in all name) (append_assoc rows more rest) ∙ one.gives (more ++ rest) name
      ∙ ap (λ (o : Option (List ℕ)). look name o) (two.gives rest name);
}
