-- A row of the table of attributes: what an optional attribute says, and when it is refused.
use Rattle.std.specs.Prelude.{◌≡◌, Bool, true, false, ℕ, List, Option, None, Some, is_none, Result, Ok, Err}
use Rattle.std.specs.Option.{ok_or, option_map}
use Rattle.session_attrs.specs.declared.refusal.AttrRefusal.{AttrRefusal}
use Rattle.session_attrs.specs.declared.refusal.RequestError.{RequestError}
use Rattle.session_attrs.specs.declared.refusal.RequestError.TheVariants.{Memory, Refused}

-- the value, where there is one, says x; an absent one says what is usual
abbrev pub Says : {X : Type 0} → (List ℕ → Option X) → X → Option (List ℕ) → X → Type 0
Says read usual None x = x ≡ usual
Says read usual (Some text) x = read text ≡ Some x

-- the value is there, and out of form
abbrev pub is_bad : {X : Type 0} → (List ℕ → Option X) → Option (List ℕ) → Bool
is_bad read None = false
is_bad read (Some text) = is_none (read text)

-- what the value says, or the refusal of one out of form
abbrev pub row : {X : Type 0} → (List ℕ → Option X) → X → AttrRefusal → Option (List ℕ) → Result X AttrRefusal
row read usual refusal None = Ok usual
row read usual refusal (Some text) = ok_or (read text) refusal

-- a value that is told as it is, with none where it is absent
abbrev pub told : {X : Type 0} → (List ℕ → Option X) → List ℕ → Option (Option X)
told read text = option_map Some (read text)

-- first this, then the rest; the first refusal stands
infixl 10 ◌>>=◌
abbrev pub ◌>>=◌ : {A B : Type 0} → Result A AttrRefusal → (A → Result B AttrRefusal) → Result B AttrRefusal
(Ok x) >>= f = f x
(Err refusal) >>= f = Err refusal

-- what was answered is this, unless memory ran out
abbrev pub Answers : {A : Type 0} → Result A RequestError → Result A AttrRefusal → Type 0
Answers (Ok x) answer = answer ≡ Ok x
Answers (Err Memory) answer = Unit {0}
Answers (Err (Refused refusal)) answer = answer ≡ Err refusal

-- what holds of a refusal, where it was one
abbrev pub IfRefused : {A : Type 0} → Result A RequestError → (AttrRefusal → Type 0) → Type 0
IfRefused (Ok x) P = Unit {0}
IfRefused (Err Memory) P = Unit {0}
IfRefused (Err (Refused refusal)) P = P refusal
