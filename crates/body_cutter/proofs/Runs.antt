-- A text of whole characters is read as the reader without its test of characters takes it.
use Rattle.std.proofs.Common.{◌≡◌, ◌∙◌, ◌+◌, ◌-◌, ℕ, Bool, true, false, ◌&&◌, List, [], ◌∷◌, length, refl, sym, ap, arith}
use Rattle.std.specs.Prelude.{Option, None, Some, if◌then◌else◌}
use Rattle.body_cutter.specs.declared.place.Wide.{Wide}
use Rattle.body_cutter.specs.declared.place.Wide.TheVariants.{Whole}
use Rattle.body_cutter.specs.declared.place.Act.{Act}
use Rattle.body_cutter.specs.declared.place.Act.TheVariants.{Pass, Mark, BeginName, GrowName, OpenElement, EndAttrName, ValueByte, ValueChar, EndAttr, CloseElement}
use Rattle.body_cutter.specs.declared.place.Move.{Move}
use Rattle.body_cutter.specs.Chars.{wide_next, ends_whole, is_whole}
use Rattle.body_cutter.specs.Names.{around, has_name, without_first}
use Rattle.body_cutter.specs.Reader.{State, next_move, acted, placed, moved, step, is_body_tag, with_value, with_element, with_attr_name, attr_named, with_attr, without_element, with_name_begun, with_name_grown}
use Rattle.body_cutter.specs.Refusal.{Reading, Ended, Stopped, reading, is_complete, is_content}
use Rattle.body_cutter.proofs.Flow.{Kept, kept_of, proceed, flow, ended}

-- after a whole character
abbrev pub whole : State → State
whole s = record s { wide = Whole }

abbrev whole_some : Option State → Option State
whole_some None = None
whole_some (Some s) = Some (whole s)

either : (v : Bool) (s t : State) → (if v then whole s else whole t) ≡ whole (if v then s else t)
either true s t = refl
either false s t = refl

gated : (v : Bool) (s : State) → (if v then None else Some (whole s)) ≡ whole_some (if v then None else Some s)
gated true s = refl
gated false s = refl

value_whole : (s : State) (bytes : List ℕ) → with_value (whole s) bytes ≡ whole (with_value s bytes)
unfolding with_value
value_whole s bytes = either (is_body_tag (around s.kind s.elements)) _ s

acted_whole : (act : Act) (s : State) (at b : ℕ) → acted act (whole s) at b ≡ whole_some (acted act s at b)
unfolding acted attr_named with_attr_name with_attr without_element with_element with_name_begun with_name_grown
acted_whole Pass s at b = refl
acted_whole Mark s at b = refl
acted_whole BeginName s at b = refl
acted_whole GrowName s at b = refl
acted_whole OpenElement s at b = refl
acted_whole EndAttrName s at b = gated (has_name s.seen s.name) _
acted_whole ValueByte s at b = ap (λ (x : State). Some x) (value_whole s _)
acted_whole (ValueChar character) s at b = ap (λ (x : State). Some x) (value_whole s _)
acted_whole EndAttr s at b = ap (λ (x : State). Some x) (either (is_body_tag (around s.kind s.elements)) _ s)
acted_whole CloseElement s at b = ap (λ (x : State). Some x) (either (is_body_tag (around s.kind (without_first s.elements))) _ _)

placed_whole : (wide : Wide) (move : Move) (o : Option State) → placed Whole move (whole_some o) ≡ whole_some (placed wide move o)
placed_whole wide move None = refl
placed_whole wide move (Some s) = refl

moved_whole : (wide : Wide) (move : Option Move) (s : State) (at b : ℕ) → moved (Some Whole) move (whole s) at b ≡ whole_some (moved (Some wide) move s at b)
moved_whole wide None s at b = refl
moved_whole wide (Some move) s at b = ap (placed Whole move) (acted_whole move.act s at b) ∙ placed_whole wide move (acted move.act s at b)

-- a step without the test
proceed_whole : (wide : Wide) (s : State) (at b : ℕ) → proceed (whole s) at b ≡ whole_some (moved (Some wide) (next_move s b) s at b)
unfolding proceed next_move
proceed_whole wide s at b = moved_whole wide (next_move s b) s at b

-- what of a character is still to come after a step
placed_wide : (wide : Wide) (move : Move) (o : Option State) (next : State) → placed wide move o ≡ Some next → wide ≡ next.wide
placed_wide wide move None next e = absurd (cc)
placed_wide wide move (Some s) next e = cc

moved_wide : (wide : Wide) (move : Option Move) (s : State) (at b : ℕ) (next : State) → moved (Some wide) move s at b ≡ Some next → wide ≡ next.wide
moved_wide wide None s at b next e = absurd (cc)
moved_wide wide (Some move) s at b next e = placed_wide wide move _ next e

-- the text is read to its end from here, and this is kept
pub record ReadsAs (at : ℕ) (s : State) (text : List ℕ) (k : Kept) : Type 0 where
  pub end : State
  pub is : reading at s text ≡ Ended end
  pub kept : kept_of end ≡ k
  pub complete : is_complete end ≡ true

abbrev Known : ℕ → List ℕ → Kept → Type 0
Known len text k = (at : ℕ) (s : State) → at + length text ≡ len → ends_whole s.wide text ≡ true → flow len (whole s) text ≡ Some k → ReadsAs at s text k

at_end : (c : Bool) (s : State) (k : Kept) → ended c s ≡ Some k → (c ≡ true) × (kept_of s ≡ k)
at_end true s k e = (refl, cc)
at_end false s k e = absurd (cc)

abbrev onward : Option State → ℕ → List ℕ → Option Kept
onward o len text = elim o [ None ↦ None | Some next ↦ flow len next text ]

abbrev later : Option State → ℕ → ℕ → State → List ℕ → Reading
later o at b s text = elim o [ None ↦ Stopped at b s | Some next ↦ reading (at + 1) next text ]

stepped : (len at b : ℕ) (s : State) (text : List ℕ) (k : Kept) (o : Option State) → step s at b ≡ o → ((next : State) → o ≡ Some next → ends_whole next.wide text ≡ true) → at + 1 + length text ≡ len → onward (whole_some o) len text ≡ Some k → Known len text k → ReadsAs at s (b ∷ text) k
unfolding reading
stepped len at b s text k None e wide here f known = absurd (cc)
stepped len at b s text k (Some next) e wide here f known =
    let r = known (at + 1) next here (wide next refl) f in
    record { end = r.end; is = ap (λ (o : Option State). later o at b s text) e ∙ r.is; kept = r.kept; complete = r.complete }

by_character : (len at b : ℕ) (s : State) (text : List ℕ) (k : Kept) (o : Option Wide) → wide_next s.wide b ≡ o → (elim o [ None ↦ false | Some next ↦ ends_whole next text ]) ≡ true → at + length (b ∷ text) ≡ len → flow len (whole s) (b ∷ text) ≡ Some k → Known len text k → ReadsAs at s (b ∷ text) k
unfolding step flow
by_character len at b s text k None e w here f known = absurd (cc)
by_character len at b s text k (Some wide) e w here f known =
    let place : len - length (b ∷ text) ≡ at = omega (arith, here) in
    stepped len at b s text k (moved (Some wide) (next_move s b) s at b) (ap (λ (x : Option Wide). moved x (next_move s b) s at b) e)
    (λ next m. ap (λ (x : Wide). ends_whole x text) (sym (moved_wide wide (next_move s b) s at b next m)) ∙ w)
    (omega (arith, here))
    (ap (λ (o : Option State). onward o len text) (sym (ap (λ (n : ℕ). proceed (whole s) n b) place ∙ proceed_whole wide s at b)) ∙ f) known

whole_complete : (content wide rest : Bool) → wide ≡ true → (content && (true && rest)) ≡ true → (content && (wide && rest)) ≡ true
whole_complete content wide rest e f = ap (λ (x : Bool). content && (x && rest)) e ∙ f

pub reads : (len : ℕ) (text : List ℕ) (k : Kept) → Known len text k
unfolding reading flow ends_whole is_complete
reads len [] k at s here w f =
    let e = at_end (is_complete (whole s)) (whole s) k f in
    record { end = s; is = refl; kept = e.1; complete = whole_complete (is_content s.place) (is_whole s.wide) _ w e.0 }
reads len (b ∷ text) k at s here w f = by_character len at b s text k (wide_next s.wide b) refl w here f (reads len text k)
