-- Tools for the other way: what is in the grammar is taken.
use Rattle.std.proofs.Common.{◌≡◌, ◌∙◌, ◌+◌, ℕ, Bool, true, false, List, refl, sym, ap, subst}
use Rattle.std.specs.Prelude.{Option, Some, ◌==◌, not}
use Rattle.std.proofs.lemmas.Bool.{eqb-true}
use Rattle.body_cutter.specs.declared.place.Place.{Place}
use Rattle.body_cutter.specs.declared.place.Kind.{Kind}
use Rattle.body_cutter.specs.declared.place.Reference.{Reference}
use Rattle.body_cutter.specs.Chars.{is_space, is_letter, is_digit, begins_name_plainly, grows_name_plainly, is_name_start, is_name_byte}
use Rattle.body_cutter.specs.Grammar.{Spaces}
use Rattle.body_cutter.specs.Reader.{State, with_value, with_attr, without_element, is_body_tag}
use Rattle.body_cutter.specs.Names.{around, without_first}
use Rattle.body_cutter.proofs.Flow.{Words, Kept, Taken, by_byte, proceed, state, st, words}
use Rattle.body_cutter.proofs.Folds.{grown, attributed, closed}

-- where one byte passes a test and another doesn't
differs_at : (test : ℕ → Bool) (b n : ℕ) (t : Bool) → (b == n) ≡ t → test b ≡ true → test n ≡ false → (b == n) ≡ false
differs_at test b n true e h f = absurd (absurd_of (sym h ∙ ap test (eqb-true b n e) ∙ f))
  where
    absurd_of : true ≡ false → ⊥
    absurd_of h = cc
differs_at test b n false e h f = e

pub differs : (test : ℕ → Bool) (b n : ℕ) → test b ≡ true → test n ≡ false → (b == n) ≡ false
differs test b n h f = differs_at test b n (b == n) refl h f

pub no_space : (test : ℕ → Bool) (b : ℕ) → test b ≡ true → test 32 ≡ false → test 9 ≡ false → test 10 ≡ false → test 13 ≡ false → is_space b ≡ false
unfolding is_space
no_space test b h s t l r = rw (differs test b 32 h s, differs test b 9 h t, differs test b 10 h l, differs test b 13 h r) refl

-- the first byte of a name is no white space, `/`, `>` or `!`
pub start_no_space : (b : ℕ) → is_name_start b ≡ true → is_space b ≡ false
unfolding is_name_start begins_name_plainly is_letter
start_no_space b h = no_space is_name_start b h refl refl refl refl

pub start_differs : (b n : ℕ) → is_name_start b ≡ true → is_name_start n ≡ false → (b == n) ≡ false
start_differs b n h f = differs is_name_start b n h f

pub byte_no_space : (b : ℕ) → is_name_byte b ≡ true → is_space b ≡ false
unfolding is_name_byte grows_name_plainly begins_name_plainly is_letter is_digit
byte_no_space b h = no_space is_name_byte b h refl refl refl refl

no_name_at : (b : ℕ) (t : Bool) → is_name_byte b ≡ t → is_space b ≡ true → is_name_byte b ≡ false
no_name_at b true e h = absurd (absurd_of (sym h ∙ byte_no_space b e))
  where
    absurd_of : true ≡ false → ⊥
    absurd_of h = cc
no_name_at b false e h = e

pub space_no_name : (b : ℕ) → is_space b ≡ true → is_name_byte b ≡ false
space_no_name b h = no_name_at b (is_name_byte b) refl h

pub space_differs : (b n : ℕ) → is_space b ≡ true → is_space n ≡ false → (b == n) ≡ false
space_differs b n h f = differs is_space b n h f

-- white space where it leaves the state as it is
pub spaces_taken : {len : ℕ} {s : State} {k : Kept} {text rest : List ℕ} → ((at b : ℕ) → is_space b ≡ true → proceed s at b ≡ Some s) → Spaces text rest → Taken len s rest k → Taken len s text k
spaces_taken stays Spaces.none t = t
spaces_taken stays (Spaces.more e s) t = by_byte (stays _ _ e) (spaces_taken stays s t)

pub not_of : (b : Bool) → not b ≡ true → b ≡ false
not_of true h = absurd_of h
  where
    absurd_of : {P : Type 0} → false ≡ true → P
    absurd_of h = absurd (cc)
not_of false h = refl

-- the same name otherwise written
pub renamed : {len : ℕ} {kind : Kind} {place : Place} {elements : List (List ℕ)} {start stop : ℕ} {seen : List (List ℕ)} {name other : List ℕ} {k end : Kept} {text : List ℕ} → name ≡ other →
    Taken len (st kind place elements (words name start stop seen) k) text end → Taken len (st kind place elements (words other start stop seen) k) text end
renamed {len} {kind} {place} {elements} {start} {stop} {seen} {k = k} {end} {text} e t = subst (λ (n : List ℕ). Taken len (st kind place elements (words n start stop seen) k) text end) e t

-- what a move adds goes by whether the tag is the body's
module _ (kind : Kind) (place : Place) (reference : Option Reference) (elements : List (List ℕ)) (w : Words) (k : Kept) where
  pub value_grown : (body : Bool) → is_body_tag (around kind elements) ≡ body → (bytes : List ℕ) → with_value (state kind place reference elements w k) bytes ≡ state kind place reference elements w (grown body bytes k)
  unfolding with_value
  value_grown true e bytes = rw e refl
  value_grown false e bytes = rw e refl

  pub attr_added : (body : Bool) → is_body_tag (around kind elements) ≡ body → with_attr (state kind place reference elements w k) ≡ state kind place reference elements w (attributed body (record { start = w.start; end = w.end }) k)
  unfolding with_attr
  attr_added true e = rw e refl
  attr_added false e = rw e refl

  pub child_added : (child : Bool) → is_body_tag (around kind (without_first elements)) ≡ child → (at : ℕ) → without_element (state kind place reference elements w k) at ≡ state kind place reference (without_first elements) w (closed child (at + 1) k)
  unfolding without_element
  child_added true e at = rw e refl
  child_added false e at = rw e refl
