-- The reader takes a text exactly where its bytes end whole characters and its control takes it.
use Rattle.std.proofs.Common.{◌≡◌, ◌∙◌, ℕ, Bool, true, false, ◌&&◌, ◌+◌, List, [], ◌∷◌, refl, ap}
use Rattle.std.specs.Prelude.{Option, None, Some, is_none, if◌then◌else◌}
use Rattle.body_cutter.specs.declared.place.Wide.{Wide}
use Rattle.body_cutter.specs.declared.place.Kind.{Kind}
use Rattle.body_cutter.specs.declared.place.Act.{Act}
use Rattle.body_cutter.specs.declared.place.Act.TheVariants.{Pass, Mark, BeginName, GrowName, OpenElement, EndAttrName, ValueByte, ValueChar, EndAttr, CloseElement}
use Rattle.body_cutter.specs.declared.place.Move.{Move}
use Rattle.body_cutter.specs.Chars.{wide_next, ends_whole, is_whole}
use Rattle.body_cutter.specs.Names.{around, has_name, without_first, is_empty}
use Rattle.body_cutter.specs.Reader.{State, next_move, acted, placed, moved, step, is_body_tag, with_value, with_element, with_attr_name, attr_named, with_attr, without_element, with_name_begun, with_name_grown}
use Rattle.body_cutter.specs.Refusal.{Stopped, reading, is_complete, is_content, is_accepted}
use Rattle.body_cutter.proofs.Control.{Control, control_of, done, led, goes_on, advance, is_final, accepts}

-- a state and its control go on alike
abbrev pub Follows : Option State → Option Control → Kind → Type 0
Follows None None kind = Unit {0}
Follows None (Some c) kind = ⊥
Follows (Some s) None kind = ⊥
Follows (Some s) (Some c) kind = (control_of s ≡ c) × (s.kind ≡ kind)

either : (v : Bool) (s t : State) (c : Control) (kind : Kind) → Follows (Some s) (Some c) kind → Follows (Some t) (Some c) kind → Follows (Some (if v then s else t)) (Some c) kind
either true s t c kind this other = this
either false s t c kind this other = other

gated : (v : Bool) (s : State) (c : Control) (kind : Kind) → Follows (Some s) (Some c) kind → Follows (if v then None else Some s) (if v then None else Some c) kind
gated true s c kind h = tt
gated false s c kind h = h

value_follows : (s : State) (bytes : List ℕ) → Follows (Some (with_value s bytes)) (Some (control_of s)) s.kind
unfolding with_value
value_follows s bytes = either (is_body_tag (around s.kind s.elements)) _ _ _ _ (refl, refl) (refl, refl)

acted_follows : (act : Act) (s : State) (at b : ℕ) → Follows (acted act s at b) (done act (control_of s) b) s.kind
unfolding acted done attr_named with_attr_name with_attr without_element with_element with_name_begun with_name_grown
acted_follows Pass s at b = (refl, refl)
acted_follows Mark s at b = (refl, refl)
acted_follows BeginName s at b = (refl, refl)
acted_follows GrowName s at b = (refl, refl)
acted_follows OpenElement s at b = (refl, refl)
acted_follows EndAttrName s at b = gated (has_name s.seen s.name) _ _ _ (refl, refl)
acted_follows ValueByte s at b = value_follows s _
acted_follows (ValueChar character) s at b = value_follows s _
acted_follows EndAttr s at b = either (is_body_tag (around s.kind s.elements)) _ _ _ _ (refl, refl) (refl, refl)
acted_follows CloseElement s at b = either (is_body_tag (around s.kind (without_first s.elements))) _ _ _ _ (refl, refl) (refl, refl)

-- the same with what is left of the last character
abbrev pub Steps : Option State → Option Control → Wide → Kind → Type 0
Steps None None wide kind = Unit {0}
Steps None (Some c) wide kind = ⊥
Steps (Some s) None wide kind = ⊥
Steps (Some s) (Some c) wide kind = (control_of s ≡ c) × (s.kind ≡ kind) × (s.wide ≡ wide)

placed_steps : (wide : Wide) (move : Move) (o : Option State) (c : Option Control) (kind : Kind) → Follows o c kind → Steps (placed wide move o) (led move c) wide kind
placed_steps wide move None None kind h = tt
placed_steps wide move None (Some c) kind h = h
placed_steps wide move (Some s) None kind h = h
placed_steps wide move (Some s) (Some c) kind h = (ap (λ (d : Control). let r : Control = record d { place = move.place; reference = move.reference } in r) h.0, h.1, refl)

moved_steps : (wide : Wide) (move : Option Move) (s : State) (at b : ℕ) → Steps (moved (Some wide) move s at b) (goes_on move (control_of s) b) wide s.kind
moved_steps wide None s at b = tt
moved_steps wide (Some move) s at b = placed_steps wide move _ _ _ (acted_follows move.act s at b)

step_steps : (wide : Wide) (s : State) (at b : ℕ) → wide_next s.wide b ≡ Some wide → Steps (step s at b) (advance s.kind (control_of s) b) wide s.kind
unfolding step advance next_move
step_steps wide s at b e = rw e (moved_steps wide (next_move s b) s at b)

and-false : (a : Bool) → false ≡ (a && false)
and-false true = refl
and-false false = refl

and_turned : (a b c : Bool) → (a && (b && c)) ≡ (b && (a && c))
and_turned true true c = refl
and_turned true false c = refl
and_turned false true c = refl
and_turned false false c = refl

abbrev pub Splits : List ℕ → Type 0
Splits text = (at : ℕ) (s : State) → is_accepted (reading at s text) ≡ (ends_whole s.wide text && accepts s.kind (control_of s) text)

joined : (text : List ℕ) (at b : ℕ) (old : State) (o : Option State) (c : Option Control) (wide : Wide) (kind : Kind) → Splits text → Steps o c wide kind →
    is_accepted (elim o [ None ↦ Stopped at b old | Some next ↦ reading (at + 1) next text ]) ≡ (ends_whole wide text && elim c [ None ↦ false | Some next ↦ accepts kind next text ])
joined text at b old None None wide kind ih h = and-false (ends_whole wide text)
joined text at b old None (Some c) wide kind ih h = absurd h
joined text at b old (Some s) None wide kind ih h = absurd h
joined text at b old (Some s) (Some c) wide kind ih h =
    ih (at + 1) s
    ∙ ap (λ w. ends_whole w text && accepts s.kind (control_of s) text) h.2
    ∙ ap (λ k. ends_whole wide text && accepts k (control_of s) text) h.1
    ∙ ap (λ d. ends_whole wide text && accepts kind d text) h.0

after_byte : (b : ℕ) (text : List ℕ) (at : ℕ) (s : State) (o : Option Wide) → wide_next s.wide b ≡ o → Splits text →
    is_accepted (reading at s (b ∷ text)) ≡ (elim o [ None ↦ false | Some next ↦ ends_whole next text ] && accepts s.kind (control_of s) (b ∷ text))
unfolding reading accepts step
after_byte b text at s None e ih = ap (λ w. is_accepted (elim (moved w (next_move s b) s at b) [ None ↦ Stopped at b s | Some next ↦ reading (at + 1) next text ])) e
after_byte b text at s (Some wide) e ih = joined text at b s (step s at b) (advance s.kind (control_of s) b) wide s.kind ih (step_steps wide s at b e)

-- the reader takes a text exactly where its bytes end whole characters and its control takes it
pub splits : (text : List ℕ) → Splits text
unfolding reading accepts ends_whole is_complete is_final
splits [] at s = and_turned (is_content s.place) (is_whole s.wide) (is_none s.reference && is_empty s.elements)
splits (b ∷ text) at s = after_byte b text at s (wide_next s.wide b) refl (splits text)

-- a step of the reader is one of its control
pub step_follows : (wide : Wide) (s : State) (at b : ℕ) → wide_next s.wide b ≡ Some wide → Steps (step s at b) (advance s.kind (control_of s) b) wide s.kind
step_follows wide s at b e = step_steps wide s at b e
