-- A row of the table, and what comes after it.
use Rattle.std.proofs.Common.{◌≡◌, ℕ, Bool, true, false, cond, List, Option, Some, None, is_none, is_some, Result, Ok, Err, refl, sym, ◌∙◌, ap}
use Rattle.std.specs.Option.{ok_or}
use Rattle.std.specs.Result.{result_err}
use Rattle.session_attrs.specs.declared.refusal.AttrRefusal.{AttrRefusal}
use Rattle.session_attrs.specs.declared.refusal.AttrRefusal.TheVariants.{BadType}
use Rattle.session_attrs.specs.Forms.{no_type_of}
use Rattle.session_attrs.specs.Rows.{Says, is_bad, row, told, ◌>>=◌}

refusal_read : {X B : Type 0} (o : Option X) (r : AttrRefusal) (f : X → Result B AttrRefusal) (rest : Option AttrRefusal) → ((x : X) → result_err (f x) ≡ rest) → result_err (ok_or o r >>= f) ≡ cond (is_none o) (Some r) rest
refusal_read None r f rest after = refl
refusal_read (Some x) r f rest after = after x

-- the refusal of a row, or that of what comes after it
pub refusal_row : {X B : Type 0} (read : List ℕ → Option X) (usual : X) (r : AttrRefusal) (value : Option (List ℕ)) (f : X → Result B AttrRefusal) (rest : Option AttrRefusal) → ((x : X) → result_err (f x) ≡ rest) → result_err (row read usual r value >>= f) ≡ cond (is_bad read value) (Some r) rest
refusal_row read usual r None f rest after = after usual
refusal_row read usual r (Some text) f rest after = refusal_read (read text) r f rest after

told_read : {X B : Type 0} (read : List ℕ → Option X) (text : List ℕ) (o : Option X) → read text ≡ o → (r : AttrRefusal) (f : Option X → Result B AttrRefusal) (rest : Option AttrRefusal) → ((x : Option X) → result_err (f x) ≡ rest) → result_err (row (told read) None r (Some text) >>= f) ≡ cond (is_bad read (Some text)) (Some r) rest
told_read read text None is r f rest after = rw is refl
told_read read text (Some x) is r f rest after = rw is (after (Some x))

pub refusal_told : {X B : Type 0} (read : List ℕ → Option X) (r : AttrRefusal) (value : Option (List ℕ)) (f : Option X → Result B AttrRefusal) (rest : Option AttrRefusal) → ((x : Option X) → result_err (f x) ≡ rest) → result_err (row (told read) None r value >>= f) ≡ cond (is_bad read value) (Some r) rest
refusal_told read r None f rest after = after None
refusal_told read r (Some text) f rest after = told_read read text (read text) refl r f rest after

pub refusal_no_type : {B : Type 0} (value : Option (List ℕ)) (f : Bool → Result B AttrRefusal) (rest : Option AttrRefusal) → ((x : Bool) → result_err (f x) ≡ rest) → result_err (row no_type_of false BadType value >>= f) ≡ cond (is_some value) (Some BadType) rest
refusal_no_type None f rest after = after false
refusal_no_type (Some text) f rest after = refl

-- a row that says x
pub says_row : {X : Type 0} (read : List ℕ → Option X) (usual : X) (r : AttrRefusal) (value : Option (List ℕ)) (x : X) → Says read usual value x → row read usual r value ≡ Ok x
says_row read usual r None x is = ap Ok (sym is)
says_row read usual r (Some text) x is = ap (λ o. ok_or o r) is

ok_some : {X : Type 0} (o : Option X) (r : AttrRefusal) (x : X) → ok_or o r ≡ Ok x → o ≡ Some x
ok_some None r x is = cc
ok_some (Some y) r x is = cc

-- what a row says
pub row_says : {X : Type 0} (read : List ℕ → Option X) (usual : X) (r : AttrRefusal) (value : Option (List ℕ)) (x : X) → row read usual r value ≡ Ok x → Says read usual value x
row_says read usual r None x is = cc
row_says read usual r (Some text) x is = ok_some (read text) r x is

-- first this, then that
pub bind_is : {A B : Type 0} (m : Result A AttrRefusal) (f : A → Result B AttrRefusal) (x : A) (y : Result B AttrRefusal) → m ≡ Ok x → f x ≡ y → (m >>= f) ≡ y
bind_is m f x y first then = ap (λ n. n >>= f) first ∙ then

pub bind_ok : {A B : Type 0} (m : Result A AttrRefusal) (f : A → Result B AttrRefusal) (y : B) → (m >>= f) ≡ Ok y → (x : A) × (m ≡ Ok x) × (f x ≡ Ok y)
bind_ok (Ok x) f y is = (x, refl, is)
bind_ok (Err r) f y is = cc

pub err_is : {A : Type 0} (m : Result A AttrRefusal) (r : AttrRefusal) → result_err m ≡ Some r → m ≡ Err r
err_is (Ok x) r is = cc
err_is (Err s) r is = cc

pub ok_is : {A : Type 0} (m : Result A AttrRefusal) → result_err m ≡ None → (x : A) × (m ≡ Ok x)
ok_is (Ok x) is = (x, refl)
ok_is (Err s) is = cc
