-- Elements one after the other are children.
use Rattle.std.proofs.Common.{◌≡◌, ◌∙◌, ◌-◌, ◌≤◌, ℕ, List, [], ◌∷◌, ◌++◌, length, refl, sym, ap, subst, arith, append_assoc, append-nil}
use Rattle.std.specs.Prelude.{map, max, slice_range}
use Rattle.std.specs.List.{All}
use Rattle.std.proofs.lemmas.List.Elements.{All-head, All-tail}
use Rattle.std.proofs.lemmas.Bool.Decides.{nat_tests}
use Rattle.body_cutter.specs.Grammar.{Children, Single}
use Rattle.body_cutter.specs.Parts.{Parts, most_in_element, depth_of, children_of, most_in_children, depth_of_children, single_parts}
use Rattle.body_cutter.specs.Pieces.{bytes_at}
use Rattle.body_cutter.specs.Built.{elements_text, IsElementWithin}
use Rattle.body_cutter.proofs.ElementFronts.{ElementOf, element_front}
use Rattle.body_cutter.proofs.Slices.{slice_here}

-- an element by itself, before other text
record Standing (most depth : ℕ) (text other : List ℕ) : Type 0 where
  after_less : List ℕ
  is : text ++ other ≡ 60 ∷ after_less
  element : ElementOf most depth after_less other

single_stands : {text : List ℕ} (x : Single text) (other : List ℕ) → Standing ((single_parts x).most_attributes) ((single_parts x).depth) text other
unfolding single_parts
single_stands (Single.single {text = text} x) other =
    let k = element_front x in
    let bytes : k.bytes ≡ text = sym (k.here ∙ k.joined [] ∙ append-nil k.bytes) in
    record {
      after_less = text ++ other;
      is = refl;
      element = subst (λ (t : List ℕ). ElementOf (most_in_element x) (depth_of x) t other) (k.joined other ∙ ap (λ (t : List ℕ). t ++ other) bytes) (k.stays other);
    }

least : (a b n : ℕ) → a ≤ n → b ≤ n → max a b ≤ n
least a b n h l = grind (arith, nat_tests, h, l)

module _ (most depth : ℕ) (whole rest : List ℕ) where
  -- these elements are the children of this text
  pub record Listed (elements : List (List ℕ)) (text : List ℕ) : Type 0 where
    pub children : Children text rest
    pub bytes : map (bytes_at whole) (children_of (length whole) children) ≡ elements
    pub most_attributes : most_in_children children ≤ most
    pub depth_within : depth_of_children children ≤ depth

  one_more : (front element : List ℕ) (elements : List (List ℕ)) (own : Parts) → whole ≡ front ++ (element ++ elements_text elements rest) → own.most_attributes ≤ most → own.depth ≤ depth →
      Standing own.most_attributes own.depth element (elements_text elements rest) → Listed elements (elements_text elements rest) → Listed (element ∷ elements) (element ++ elements_text elements rest)
  unfolding children_of most_in_children depth_of_children
  one_more front element elements own h m d x k =
      let after = elements_text elements rest in
      let here : slice_range whole (length whole - length (60 ∷ x.after_less)) (length whole - length after) ≡ element =
      ap (λ (t : List ℕ). slice_range whole (length whole - length t) (length whole - length after)) (sym x.is) ∙ slice_here whole front element after h in
      let listed : Listed (element ∷ elements) (60 ∷ x.after_less) = record {
        children = Children.child x.element.element k.children;
        bytes = ap (λ (b : List ℕ). b ∷ map (bytes_at whole) (children_of (length whole) k.children)) here ∙ ap (λ (bs : List (List ℕ)). element ∷ bs) k.bytes;
        most_attributes = least (most_in_element x.element.element) (most_in_children k.children) most (subst (λ (n : ℕ). n ≤ most) (sym x.element.most_is) m) k.most_attributes;
        depth_within = least (depth_of x.element.element) (depth_of_children k.children) depth (subst (λ (n : ℕ). n ≤ depth) (sym x.element.depth_is) d) k.depth_within;
      } in
      subst (λ (t : List ℕ). Listed (element ∷ elements) t) (sym x.is) listed

  pub list : (front : List ℕ) (elements : List (List ℕ)) → whole ≡ front ++ elements_text elements rest → All (IsElementWithin most depth) elements → Listed elements (elements_text elements rest)
  unfolding children_of most_in_children depth_of_children
  list front [] h are = record { children = Children.none; bytes = refl; most_attributes = omega arith; depth_within = omega arith }
  list front (element ∷ elements) h are =
      let one = All-head (IsElementWithin most depth) element elements are in
      let x = single_stands one.1.1 (elements_text elements rest) in
      one_more front element elements (single_parts one.1.1) h
      (subst (λ (p : Parts). p.most_attributes ≤ most) (sym one.1.2) one.2) (subst (λ (p : Parts). p.depth ≤ depth) (sym one.1.2) one.3) x
      (list (front ++ element) elements (h ∙ sym (append_assoc front element (elements_text elements rest))) (All-tail (IsElementWithin most depth) element elements are))
