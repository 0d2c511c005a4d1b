-- What is found where an element is looked for.
use Rattle.std.proofs.Common.{◌≡◌, ◌+◌, ◌≤◌, ℕ, List, [], length, take, drop, refl, sym, subst, arith}
use Rattle.std.specs.Prelude.{IfNone, Option, None, Result, Ok, IfOk, OnOk, ◌-◌}
use Rattle.std.proofs.Math.Seq.{take-add}
use Rattle.std.proofs.lemmas.List.{take-append-drop, length-drop}
use Rattle.body_cutter.specs.Begun.{BeginsNone, HasBegun, IsBeginning, IsTold}
use Rattle.body_cutter.specs.BodyText.{IsStanza}
use Rattle.body_cutter.specs.declared.parts.CutRefusal.{CutRefusal}
use Rattle.body_cutter.specs.declared.stanza_cutter.Fed.{Fed}
use Rattle.body_cutter.specs.declared.stanza_cutter.Fed.TheVariants as fed
use Rattle.body_cutter.specs.declared.stanza_cutter.StanzaCutter.{StanzaCutter}
use Rattle.xmpp_stream.specs.declared.scan.Scan.{Scan}
use Rattle.xmpp_stream.specs.Cut.{Scanning, Scans}

-- what is said of an answer without an error
pub ok_is : {T E : Type 0} (P : T → Type 0) (r : Result T E) (x : T) → r ≡ Ok x → IfOk r P → P x
ok_is {T} {E} P r x e h = subst (λ (q : Result T E). IfOk q P) e h

pub on_ok_is : {T E : Type 0} {P : Type 0} (r : Result T E) (x : T) → r ≡ Ok x → OnOk r P → P
on_ok_is {T} {E} {P} r x e h = subst (λ (q : Result T E). OnOk q P) e h

pub none_is : {A : Type 0} {P : Type 0} (o : Option A) → o ≡ None → IfNone o P → P
none_is {A} {P} o e h = subst (λ (q : Option A). IfNone q P) e h

pub unscanned : (scan : Scan) → scan.cutter ≡ None → scan.count ≡ 0 → Scans scan []
unscanned scan c n = (n, subst (λ (o : Option StanzaCutter). Scanning o []) (sym c) refl)

module _ (count at : ℕ) (rest : List ℕ) (told : Fed) (same : at ≡ count) (t : IsTold told (take count rest) (drop at rest)) where
  there : (sure : Fed) → told ≡ sure → IsTold sure (take count rest) (drop count rest)
  there sure e = subst (λ (f : Fed). IsTold f (take count rest) (drop count rest)) e (subst (λ (n : ℕ). IsTold told (take count rest) (drop n rest)) same t)

  pub found_more : (cutter : StanzaCutter) → told ≡ fed.More cutter → HasBegun cutter rest × IsBeginning rest
  found_more cutter e = subst (λ (xs : List ℕ). HasBegun cutter xs × IsBeginning xs) (take-append-drop count rest) (there (fed.More cutter) e)

  pub found_none : (refusal : CutRefusal) → told ≡ fed.Refused refusal → BeginsNone rest refusal
  found_none refusal e = subst (λ (xs : List ℕ). BeginsNone xs refusal) (take-append-drop count rest) (there (fed.Refused refusal) e)

  pub found_whole : (more whole : ℕ) → told ≡ fed.Whole more → count ≤ length rest → whole ≡ length rest - (length (drop at rest) - more) → (whole ≤ length rest) × IsStanza (take whole rest)
  found_whole more whole e within is =
      let k = there (fed.Whole more) e in
      let below : more ≤ length (drop count rest) = k.0 in
      let sum : count + more ≡ whole = omega (arith, length-drop count rest, length-drop at rest, below, same, is, within) in
      (omega (arith, is), subst (λ (n : ℕ). IsStanza (take n rest)) sum (subst IsStanza (sym (take-add count more rest)) k.1))
