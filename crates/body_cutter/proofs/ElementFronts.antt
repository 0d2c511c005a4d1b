-- An element is made of bytes of its own, and stays what it is whatever follows them.
use Rattle.std.proofs.Common.{◌≡◌, ◌∙◌, ◌+◌, ℕ, false, List, [], ◌∷◌, ◌++◌, refl, ap}
use Rattle.std.specs.Prelude.{max}
use Rattle.body_cutter.specs.Grammar.{Name, Element, Content}
use Rattle.body_cutter.specs.Parts.{count_of, most_in_element, most_in_content, depth_of, depth_of_content}
use Rattle.body_cutter.proofs.Fronts.{Front, LongFront, HasTwo, TagOf, before, in_turn, two_more, still_open, name_front, tag_front, reference_front, section_front, end_tag_front}

-- an element of these measures
pub record ElementOf (most depth : ℕ) (text rest : List ℕ) : Type 0 where
  pub element : Element text rest
  pub most_is : most_in_element element ≡ most
  pub depth_is : depth_of element ≡ depth

-- content of these measures, and the front of an end tag
pub record ContentOf (most depth : ℕ) (text close : List ℕ) : Type 0 where
  pub content : Content text (60 ∷ 47 ∷ close)
  pub most_is : most_in_content content ≡ most
  pub depth_is : depth_of_content content ≡ depth

two_after : (front bytes : List ℕ) → HasTwo bytes → HasTwo (front ++ bytes)
two_after [] bytes h = h
two_after (b ∷ front) bytes h = two_more b (front ++ bytes) (two_after front bytes h)

after_two : {X Y Z : List ℕ → List ℕ → Type 0} {text after rest : List ℕ} → ((t a r : List ℕ) → X t a → Y a r → Z t r) → Front X text after → LongFront Y after rest → LongFront Z text rest
unfolding in_turn
after_two both j k = record { front = in_turn both j k.front; long = two_after j.bytes k.front.bytes k.long }

byte_before : {X Y : List ℕ → List ℕ → Type 0} (b : ℕ) {text rest : List ℕ} → ((t r : List ℕ) → X t r → Y (b ∷ t) r) → LongFront X text rest → LongFront Y (b ∷ text) rest
unfolding before
byte_before b more k = record { front = before b more k.front; long = two_more b k.front.bytes k.long }

mutual
  unfolding most_in_element most_in_content depth_of depth_of_content

  pub element_front : {text rest : List ℕ} (x : Element text rest) → Front (ElementOf (most_in_element x) (depth_of x)) text rest
  element_front (Element.empty_element n t) = in_turn (λ t a r j k. record { element = Element.empty_element j k.tag; most_is = k.counts; depth_is = refl }) (name_front n) (tag_front t)
  element_front (Element.full_element {name = name} n t c e) =
      in_turn (λ t a r j k. k t j) (name_front n)
      (in_turn {Z = λ a r. (text : List ℕ) → Name name text a → ElementOf (max (count_of t) (most_in_content c)) (depth_of_content c + 1) text r}
      (λ a b r j k text named. k text a named j) (tag_front t)
      (in_turn {Z = λ b r. (text a : List ℕ) → Name name text a → TagOf [] false false (count_of t) a b → ElementOf (max (count_of t) (most_in_content c)) (depth_of_content c + 1) text r}
      (λ b d r j k text a named tag. record {
        element = Element.full_element named tag.tag j.content k;
        most_is = ap (λ (m : ℕ). max m (most_in_content j.content)) tag.counts ∙ ap (λ (m : ℕ). max (count_of t) m) j.most_is;
        depth_is = ap (λ (d : ℕ). d + 1) j.depth_is;
      }) (content_front c refl).front (end_tag_front e)))

  content_front : {text rest : List ℕ} (c : Content text rest) {close : List ℕ} → rest ≡ 60 ∷ 47 ∷ close → LongFront (ContentOf (most_in_content c) (depth_of_content c)) text close
  content_front Content.no_content e = record {
    front = record { onto = λ o. 60 ∷ 47 ∷ o; bytes = 60 ∷ 47 ∷ []; joined = λ o. refl; here = e; stays = λ o. record { content = Content.no_content; most_is = refl; depth_is = refl } };
    long = tt;
  }
  content_front (Content.child_element x c) e =
      byte_before 60 (λ t r k. k)
      (after_two {Z = λ t r. ContentOf (max (most_in_element x) (most_in_content c)) (max (depth_of x) (depth_of_content c)) (60 ∷ t) r}
      (λ t a r j k. record {
        content = Content.child_element j.element k.content;
        most_is = ap (λ (m : ℕ). max m (most_in_content k.content)) j.most_is ∙ ap (λ (m : ℕ). max (most_in_element x) m) k.most_is;
        depth_is = ap (λ (m : ℕ). max m (depth_of_content k.content)) j.depth_is ∙ ap (λ (m : ℕ). max (depth_of x) m) k.depth_is;
      }) (element_front x) (content_front c e))
  content_front (Content.reference r c) e =
      byte_before 38 (λ t r k. k)
      (after_two {Z = λ t r. ContentOf (most_in_content c) (depth_of_content c) (38 ∷ t) r}
      (λ t a r j k. record { content = Content.reference j k.content; most_is = k.most_is; depth_is = k.depth_is }) (reference_front r) (content_front c e))
  content_front (Content.char {b = b} d x c) e =
      let k = content_front c e in
      record {
        front = record {
          onto = λ o. b ∷ k.front.onto o;
          bytes = b ∷ k.front.bytes;
          joined = λ o. ap (λ (t : List ℕ). b ∷ t) (k.front.joined o);
          here = ap (λ (t : List ℕ). b ∷ t) k.front.here;
          stays = λ o. let s = k.front.stays o in record { content = Content.char d (still_open b k o x) s.content; most_is = s.most_is; depth_is = s.depth_is };
        };
        long = two_more b k.front.bytes k.long;
      }
  content_front (Content.section s c) e =
      byte_before 60 (λ t r k. k) (byte_before 33 (λ t r k. k) (byte_before 91 (λ t r k. k) (byte_before 67 (λ t r k. k) (byte_before 68 (λ t r k. k)
      (byte_before 65 (λ t r k. k) (byte_before 84 (λ t r k. k) (byte_before 65 (λ t r k. k) (byte_before 91 (λ t r k. k)
      (after_two {Z = λ t r. ContentOf (most_in_content c) (depth_of_content c) (60 ∷ 33 ∷ 91 ∷ 67 ∷ 68 ∷ 65 ∷ 84 ∷ 65 ∷ 91 ∷ t) r}
      (λ t a r j k. record { content = Content.section j k.content; most_is = k.most_is; depth_is = k.depth_is }) (section_front s).front (content_front c e))))))))))
