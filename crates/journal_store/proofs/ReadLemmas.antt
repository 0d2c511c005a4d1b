-- Reading texts one after the other.
use Rattle.std.proofs.Common.{◌≡◌, ℕ, suc, List, [], ◌∷◌, ◌++◌, Option, Some, None, Err, refl, sym, ◌∙◌, ap, append_assoc}
use Rattle.journal_store.specs.Reading.{◌>>=◌, Gives, text_at, texts_at}
use Rattle.journal_store.specs.declared.reading.ReadError.{ReadError}
use Rattle.journal_store.specs.declared.reading.ReadError.TheVariants.{NoEntry, NoMemory}

abbrev pub Texts : Type 0
Texts = Option (List (List ℕ) × List ℕ)

-- what is read, with these texts before it
abbrev pub with_front : List (List ℕ) → Texts → Texts
with_front front None = None
with_front front (Some read) = Some (front ++ read.0, read.1)

-- what is read, with this text before it
abbrev onto : List ℕ → Texts → Texts
onto text read = read >>= (λ texts. Some (text ∷ texts.0, texts.1))

shift : (front : List (List ℕ)) (text : List ℕ) (read : Texts) → with_front front (onto text read) ≡ with_front (front ++ text ∷ []) read
shift front text None = refl
shift front text (Some read) = ap (λ (l : List (List ℕ)). Some (l, read.1)) (sym (append_assoc front (text ∷ []) read.0))

-- one text more was read
pub texts_more : (front : List (List ℕ)) (left : ℕ) (rest text after : List ℕ) → text_at rest ≡ Some (text, after)
    → with_front (front ++ text ∷ []) (texts_at left after) ≡ with_front front (texts_at (suc left) rest)
unfolding texts_at
texts_more front left rest text after is =
    sym (ap (λ (read : Option (List ℕ × List ℕ)). with_front front (read >>= (λ t. texts_at left t.1 >>= (λ texts. Some (t.0 ∷ texts.0, texts.1))))) is ∙ shift front text (texts_at left after))

-- no text stands there
pub texts_none : (front : List (List ℕ)) (left : ℕ) (rest : List ℕ) → text_at rest ≡ None → with_front front (texts_at (suc left) rest) ≡ None
unfolding texts_at
texts_none front left rest is = ap (λ (read : Option (List ℕ × List ℕ)). with_front front (read >>= (λ t. texts_at left t.1 >>= (λ texts. Some (t.0 ∷ texts.0, texts.1))))) is

-- where one text can't be read all can't be
pub texts_fail : {X Y Z : Type 0} (view : X → List ℕ × List ℕ) (view' : Y → Z) (error : ReadError) (rest : List ℕ) (all : Option Z) → (text_at rest ≡ None → all ≡ None) → Gives view (Err error) (text_at rest) → Gives view' (Err error) all
texts_fail view view' NoEntry rest all so is = so is
texts_fail view view' NoMemory rest all so is = tt
