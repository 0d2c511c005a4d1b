-- Tools for what holds of each state: a move, taken apart.
use Rattle.std.proofs.Common.{◌≡◌, ◌∙◌, ◌<◌, ℕ, Bool, true, false, List, [], ◌∷◌, ◌++◌, refl, sym, ap, subst, arith, append_assoc, append-nil}
use Rattle.std.specs.Prelude.{Option, None, Some, ◌==◌, if◌then◌else◌}
use Rattle.std.proofs.lemmas.Bool.{eqb-true, lt-leb, ne_eqb}
use Rattle.std.proofs.lemmas.Bool.Decides.{nat_tests}
use Rattle.body_cutter.specs.declared.place.Place.{Place}
use Rattle.body_cutter.specs.declared.place.Wide.{Wide}
use Rattle.body_cutter.specs.declared.place.Wide.TheVariants.{Whole, One, Two, Three, AfterE0, AfterEd, AfterEf, AfterEfBf, AfterF0, AfterF4}
use Rattle.body_cutter.specs.declared.place.Kind.{Kind}
use Rattle.body_cutter.specs.declared.place.Around.{Around}
use Rattle.body_cutter.specs.declared.place.Around.TheVariants.{NoBody, NoStanza, Body, Child}
use Rattle.body_cutter.specs.declared.place.Act.{Act}
use Rattle.body_cutter.specs.declared.place.Move.{Move}
use Rattle.body_cutter.specs.Chars.{is_space, wide_next, ends_whole}
use Rattle.body_cutter.specs.Names.{without_first}
use Rattle.body_cutter.specs.Tables.{goes, goes_if}
use Rattle.body_cutter.proofs.Control.{Control, led, goes_on}
use Rattle.body_cutter.proofs.Utf8Takes.{begins_one}
use Rattle.body_cutter.proofs.CompletionTools.{AllWhole}
use Rattle.body_cutter.proofs.CompletionStates.{Sound, InChild, Lacks}

-- what holds of the next state, if there is one
abbrev pub Kept : Kind → Wide → Option Control → Type 0
Kept kind v None = Unit {0}
Kept kind v (Some c) = Sound kind c v

-- and of where a move leads
pub record Leads (kind : Kind) (v : Wide) (c : Control) (b : ℕ) (o : Option Move) : Type 0 where
  pub kept : Kept kind v (goes_on o c b)

pub split : {kind : Kind} {v : Wide} {c : Control} {b : ℕ} (t : Bool) (x y : Option Move) → (t ≡ true → Leads kind v c b x) → (t ≡ false → Leads kind v c b y) → Leads kind v c b (if t then x else y)
split true x y f g = f refl
split false x y f g = g refl

pub only : {kind : Kind} {v : Wide} {c : Control} {b : ℕ} (t : Bool) (place : Place) (act : Act) → (t ≡ true → Leads kind v c b (goes place act)) → Leads kind v c b (goes_if t place act)
only true place act f = f refl
only false place act f = record { kept = tt }

pub dead : {kind : Kind} {v : Wide} {c : Control} {b : ℕ} → Leads kind v c b None
dead = record { kept = tt }

-- an ASCII byte stands between whole characters
tail_none : {P : Type 0} {v : Wide} → None ≡ Some v → P
tail_none h = absurd (cc)

some_same : {x y : Wide} → Some x ≡ Some y → x ≡ y
some_same h = cc

ascii_tail : (b : ℕ) (w v : Wide) → b < 128 → wide_next w b ≡ Some v → w ≡ Whole
unfolding wide_next
ascii_tail b Whole v l h = refl
ascii_tail b One v l h = tail_none (sym (rw (lt-leb 0x80 b l) refl) ∙ h)
ascii_tail b Two v l h = tail_none (sym (rw (lt-leb 0x80 b l) refl) ∙ h)
ascii_tail b Three v l h = tail_none (sym (rw (lt-leb 0x80 b l) refl) ∙ h)
ascii_tail b AfterE0 v l h = tail_none (sym (rw (lt-leb 0xa0 b (omega (arith, l))) refl) ∙ h)
ascii_tail b AfterEd v l h = tail_none (sym (rw (lt-leb 0x80 b l) refl) ∙ h)
ascii_tail b AfterEf v l h = tail_none (sym (rw (ne_eqb b 0xbf (λ e. omega (arith, l, e)), lt-leb 0x80 b l) refl) ∙ h)
ascii_tail b AfterEfBf v l h = tail_none (sym (rw (lt-leb 0x80 b l) refl) ∙ h)
ascii_tail b AfterF0 v l h = tail_none (sym (rw (lt-leb 0x90 b (omega (arith, l))) refl) ∙ h)
ascii_tail b AfterF4 v l h = tail_none (sym (rw (lt-leb 0x80 b l) refl) ∙ h)

pub ascii : (b : ℕ) (w v : Wide) → b < 128 → wide_next w b ≡ Some v → (w ≡ Whole) × (v ≡ Whole)
ascii b w v l h =
    let e = ascii_tail b w v l h in
    (e, some_same (sym (sym (ap (λ (x : Wide). wide_next x b) e) ∙ h) ∙ begins_one b l))

pub byte_below : (b n : ℕ) → n < 128 → (b == n) ≡ true → b < 128
byte_below b n l e = omega (arith, l, eqb-true b n e)

pub space_below : (b : ℕ) → is_space b ≡ true → b < 128
unfolding is_space
space_below b h = grind (arith, nat_tests)

-- after whole characters
pub in_whole : (a : Around) → InChild a Whole
in_whole NoBody = refl
in_whole NoStanza = refl
in_whole Body = refl
in_whole Child = tt

pub in_whole_at : (a : Around) (v : Wide) → v ≡ Whole → InChild a v
in_whole_at a v e = subst (λ (x : Wide). InChild a x) (sym e) (in_whole a)

-- names
pub no_bytes : (w : Wide) → w ≡ Whole → Lacks [] w
no_bytes w e = subst (λ (x : Wide). Lacks [] x) (sym e) (record { ends = λ more. refl })

pub wide_step : (b : ℕ) (w v : Wide) (more : List ℕ) → wide_next w b ≡ Some v → ends_whole w (b ∷ more) ≡ ends_whole v more
unfolding ends_whole
wide_step b w v more e = ap (λ (o : Option Wide). elim o [ None ↦ false | Some next ↦ ends_whole next more ]) e

pub one_byte : (b : ℕ) (w v : Wide) → w ≡ Whole → wide_next w b ≡ Some v → Lacks (b ∷ []) v
one_byte b w v s e = record { ends = λ more. wide_step b Whole v more (sym (ap (λ (x : Wide). wide_next x b) s) ∙ e) }

pub grown : (b : ℕ) (w v : Wide) (name : List ℕ) → Lacks name w → wide_next w b ≡ Some v → Lacks (name ++ b ∷ []) v
grown b w v name l e =
    record { ends = λ more. ap (ends_whole Whole) (append_assoc name (b ∷ []) more) ∙ l.ends (b ∷ more) ∙ wide_step b w v more e }

pub whole_name : (w : Wide) (name : List ℕ) → w ≡ Whole → Lacks name w → ends_whole Whole name ≡ true
unfolding ends_whole
whole_name w name s l = sym (ap (ends_whole Whole) (append-nil name)) ∙ l.ends [] ∙ ap (λ (x : Wide). ends_whole x []) s

pub outer_whole : (elements : List (List ℕ)) → AllWhole elements → AllWhole (without_first elements)
outer_whole [] h = tt
outer_whole (name ∷ outer) h = h.1

-- a gate that must be open
pub gated : {kind : Kind} {v : Wide} (t : Bool) (move : Move) (c : Control) → Kept kind v (led move (Some c)) → Kept kind v (led move (if t then None else Some c))
gated true move c k = tt
gated false move c k = k
