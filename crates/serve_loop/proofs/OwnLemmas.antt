-- What a session's pass has seen of its own: just what it made.
use Rattle.std.proofs.Common.{◌≡◌, ℕ, List, [], ◌∷◌, ◌++◌, length, Option, Some, None, refl, sym, ◌∙◌, ap, subst, append-nil, length-append, cond, eq-eqb, arith}
use Rattle.std.specs.Prelude.{◌==◌}
use Rattle.std.specs.Option.{option_to_list}
use Rattle.std.proofs.lemmas.List.Elements.{filter-append}
use Rattle.parked_gate.specs.Histories.{Appends, calls_of}
use Rattle.parked_gate.specs.Passes.{Known, known}
use Rattle.session_journal.specs.declared.entry.Entry.{Entry}
use Rattle.session_table.specs.declared.handle.SessionHandle.{SessionHandle}

-- the entries of the caller of this number
abbrev pub own : ℕ → List Entry → List Entry
own number log = calls_of (λ e. e.caller) number log

pub own-append : (number : ℕ) (log rest : List Entry) → own number (log ++ rest) ≡ own number log ++ own number rest
own-append number log rest = filter-append (λ (e : Entry). e.caller == number) log rest

pub owns : (x : SessionHandle) (number : ℕ) → (known x.pass).number ≡ number → own number (known x.pass).seen ≡ (known x.pass).mine
owns x number is = subst (λ (n : ℕ). own n (known x.pass).seen ≡ (known x.pass).mine) is x.pass.own

none_more : {A : Type 0} (xs ys : List A) → xs ++ ys ≡ xs → ys ≡ []
none_more xs [] same = refl
none_more xs (y ∷ ys) same = absurd (omega (arith, length-append xs (y ∷ ys), ap length same))

tails : {A : Type 0} (x y : A) (xs ys : List A) → x ∷ xs ≡ y ∷ ys → xs ≡ ys
tails x y xs ys same = cc

heads : {A : Type 0} (x y : A) (xs ys : List A) → x ∷ xs ≡ y ∷ ys → x ≡ y
heads x y xs ys same = cc

same_front : {A : Type 0} (e : A) (xs ys : List A) → xs ++ e ∷ [] ≡ ys ++ e ∷ [] → xs ≡ ys
same_front e [] [] same = refl
same_front e [] (y ∷ ys) same = absurd (omega (arith, length-append ys (e ∷ []), ap length same))
same_front e (x ∷ xs) [] same = absurd (omega (arith, length-append xs (e ∷ []), ap length same))
same_front e (x ∷ xs) (y ∷ ys) same = ap (λ z. z ∷ xs) (heads x y _ _ same) ∙ ap (λ zs. y ∷ zs) (same_front e xs ys (tails x y _ _ same))

-- since a look began nothing of its own came
pub none_since_look : (number : ℕ) (old new : Known Entry) (rest : List Entry) → new.seen ≡ old.seen ++ rest → own number old.seen ≡ old.mine → own number new.seen ≡ new.mine
    → new.mine ≡ old.mine → own number rest ≡ []
none_since_look number old new rest is was now mine =
    none_more (own number old.seen) (own number rest) (sym (own-append number old.seen rest) ∙ (ap (own number) (sym is) ∙ (now ∙ (mine ∙ sym was))))

before_made : (number : ℕ) (before after mine : List Entry) (made : Option Entry) → Appends (λ e. e.caller) number before made after → own number after ≡ mine ++ option_to_list made
    → own number before ≡ mine
before_made number before after mine None appends now = ap (own number) (sym appends) ∙ (now ∙ append-nil mine)
before_made number before after mine (Some e) appends now =
    same_front e (own number before) mine (sym (own_last) ∙ (ap (own number) (sym appends.0) ∙ now))
  where
    own_last : own number (before ++ e ∷ []) ≡ own number before ++ e ∷ []
    own_last = own-append number before (e ∷ []) ∙ ap (λ b. own number before ++ cond b (e ∷ []) []) (eq-eqb e.caller number appends.1)

-- and before a call that it made
pub none_before_call : (number : ℕ) (old new : Known Entry) (before rest : List Entry) (made : Option Entry) → before ≡ old.seen ++ rest → Appends (λ e. e.caller) number before made new.seen
    → own number old.seen ≡ old.mine → own number new.seen ≡ new.mine → new.mine ≡ old.mine ++ option_to_list made → own number rest ≡ []
none_before_call number old new before rest made is appends was now mine =
    none_more (own number old.seen) (own number rest)
    (sym (own-append number old.seen rest) ∙ (ap (own number) (sym is) ∙ (before_made number before new.seen old.mine made appends (now ∙ mine) ∙ sym was)))
