-- Gathering some parts, and giving them.
use Rattle.std.proofs.Common.{◌≡◌, ℕ, List, [], ◌++◌, Option, sym, ◌∙◌, ap, subst, append_assoc, Result, Ok, Err, IsErr, true≢false}
use Rattle.std.proofs.lemmas.List.{append-nil}
use Rattle.std.proofs.KnownBytes.{Appends-trans, Appends-nil}
use Rattle.std.specs.Io.KnownBytes.{Appends}
use Rattle.bosh_ports.specs.Sink.{AppendsFront, GivesAll}
use Rattle.bosh_http.specs.Gathering.{Gathered, Gathers}

-- nothing was given, and the part is gathered after what was
pub gathered_on : (old : Option (List ℕ)) (before after part : List ℕ) → after ≡ before ++ part → Gathered old old before after part
gathered_on old before after part is = record { out = []; gave = Appends-nil old; whole = sym is }

-- what was gathered is given, and the part alone is gathered
pub gathered_anew : (old new : Option (List ℕ)) (before after part : List ℕ) → Appends old new before → after ≡ part → Gathered old new before after part
gathered_anew old new before after part gave is = record { out = before; gave = gave; whole = ap (λ l. before ++ l) (sym is) }

-- both were given
pub gathered_none : (old mid new : Option (List ℕ)) (before after part : List ℕ) → Appends old mid before → Appends mid new part → after ≡ [] → Gathered old new before after part
gathered_none old mid new before after part first next none = record {
  out = before ++ part;
  gave = Appends-trans old mid new before part first next;
  whole = sym (append-nil (before ++ part)) ∙ ap (λ l. (before ++ part) ++ l) (sym none);
}

-- a front of what was gathered
pub front_before : (old new : Option (List ℕ)) (before part : List ℕ) → AppendsFront old new before → AppendsFront old new (before ++ part)
front_before old new before part front = (front.0, front.1 ++ part, ap (λ l. l ++ part) front.2 ∙ append_assoc front.0 front.1 part, front.3)

-- or all of it, and a front of the part
pub front_after : (old mid new : Option (List ℕ)) (before part : List ℕ) → Appends old mid before → AppendsFront mid new part → AppendsFront old new (before ++ part)
front_after old mid new before part gave front = (
  before ++ front.0,
  front.1,
  ap (λ l. before ++ l) front.2 ∙ sym (append_assoc before front.0 front.1),
  Appends-trans old mid new before front.0 gave front.3,
)

-- the parts so far are what was given, and then what is gathered
pub record SoFar (old new : Option (List ℕ)) (gathered parts : List ℕ) : Type 0 where
  pub out : List ℕ
  pub gave : Appends old new out
  pub whole : parts ≡ out ++ gathered

pub one_part : (old mid new : Option (List ℕ)) (before after parts part : List ℕ) → SoFar old mid before parts → Gathered mid new before after part → SoFar old new after (parts ++ part)
one_part old mid new before after parts part so g = record {
  out = so.out ++ g.out;
  gave = Appends-trans old mid new so.out g.out so.gave g.gave;
  whole = ap (λ l. l ++ part) so.whole ∙ append_assoc so.out before part ∙ ap (λ l. so.out ++ l) g.whole ∙ sym (append_assoc so.out g.out after);
}

pub all_parts : (old mid new : Option (List ℕ)) (gathered parts : List ℕ) → SoFar old mid gathered parts → Appends mid new gathered → Appends old new parts
all_parts old mid new gathered parts so gave = subst (Appends old new) (sym so.whole) (Appends-trans old mid new so.out gathered so.gave gave)

-- a front of what is to come
pub part_of : (old mid new : Option (List ℕ)) (gathered parts more : List ℕ) → SoFar old mid gathered parts → AppendsFront mid new (gathered ++ more) → AppendsFront old new (parts ++ more)
part_of old mid new gathered parts more so front = (
  so.out ++ front.0,
  front.1,
  ap (λ l. l ++ more) so.whole ∙ append_assoc so.out gathered more ∙ ap (λ l. so.out ++ l) front.2 ∙ sym (append_assoc so.out front.0 front.1),
  Appends-trans old mid new so.out front.0 so.gave front.3,
)

pub gathers_fault : {T E : Type 0} → (result : Result T E) (old new : Option (List ℕ)) (before after part : List ℕ) → IsErr result → AppendsFront old new (before ++ part)
    → Gathers result old new before after part
gathers_fault (Ok x) old new before after part failed front = absurd (true≢false (sym failed))
gathers_fault (Err e) old new before after part failed front = front

-- the part is given at once
pub gathers_none : {T E : Type 0} → (result : Result T E) (old mid new : Option (List ℕ)) (before after part : List ℕ) → Appends old mid before → GivesAll result mid new part → after ≡ []
    → Gathers result old new before after part
gathers_none (Ok x) old mid new before after part gave given none = gathered_none old mid new before after part gave given none
gathers_none (Err e) old mid new before after part gave given none = front_after old mid new before part gave given

-- what is gathered at the end is given
pub gives_parts : {T E : Type 0} → (result : Result T E) (old mid new : Option (List ℕ)) (gathered parts : List ℕ) → SoFar old mid gathered parts → GivesAll result mid new gathered
    → GivesAll result old new parts
gives_parts (Ok x) old mid new gathered parts so given = all_parts old mid new gathered parts so given
gives_parts (Err e) old mid new gathered parts so front =
    let whole = part_of old mid new gathered parts [] so (front.0, front.1, append-nil gathered ∙ front.2, front.3) in
    (whole.0, whole.1, sym (append-nil parts) ∙ whole.2, whole.3)
