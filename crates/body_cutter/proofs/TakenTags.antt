-- Tags of the grammar are taken.
use Rattle.std.proofs.Common.{◌≡◌, ◌+◌, ◌-◌, ◌≤◌, ℕ, Bool, true, false, List, [], ◌∷◌, ◌++◌, length, refl, sym, append_assoc, append-nil, arith}
use Rattle.body_cutter.specs.declared.place.Place.{Place}
use Rattle.body_cutter.specs.declared.place.Place.TheVariants.{TagName, TagSpace, TagSlash, AttrName, AfterValue, Content as InContent}
use Rattle.body_cutter.specs.declared.place.Kind.{Kind}
use Rattle.body_cutter.specs.Chars.{is_space, is_name_start, is_name_byte, grows_name_plainly, begins_name_plainly, is_letter, is_digit}
use Rattle.body_cutter.specs.Names.{around}
use Rattle.body_cutter.specs.Tables.{name_ended, tag_name_next, tag_space_next, tag_slash_next, after_value_next}
use Rattle.body_cutter.specs.Reader.{place_next, move_of, next_move, acted, is_body_tag, with_name_begun, with_name_grown, with_element}
use Rattle.body_cutter.specs.Grammar.{NameRest, Name, TagRest}
use Rattle.body_cutter.proofs.Flow.{Words, Kept, Taken, by_byte, by_last_byte, proceed, st, words}
use Rattle.body_cutter.proofs.Folds.{closed, deepened, tag_kept}
use Rattle.body_cutter.proofs.Taken.{start_differs, start_no_space, space_no_name, space_differs, renamed, child_added}
use Rattle.body_cutter.proofs.TakenValues.{attribute_taken}

module _ (len : ℕ) (kind : Kind) (outer : List (List ℕ)) (start stop : ℕ) (seen : List (List ℕ)) (k end : Kept) where
  -- a name's bytes
  pub tag_name_taken : {more text rest : List ℕ} (name : List ℕ) → NameRest more text rest → Taken len (st kind TagName outer (words (name ++ more) start stop seen) k) rest end → Taken len (st kind TagName outer (words name start stop seen) k) text end
  unfolding proceed next_move acted move_of place_next tag_name_next with_name_grown
  tag_name_taken name NameRest.none t = renamed (append-nil name) t
  tag_name_taken name (NameRest.more {b = b} {name = more} e n) t =
      by_byte {next = st kind TagName outer (words (name ++ b ∷ []) start stop seen) k} (rw e refl)
      (tag_name_taken (name ++ b ∷ []) n (renamed (sym (append_assoc name (b ∷ []) more)) t))

-- where a tag's rest begins
abbrev pub tag_place : Bool → Place
tag_place true = TagSpace
tag_place false = AfterValue

-- what follows goes on, whatever names were read
abbrev pub Onward : ℕ → Kind → List (List ℕ) → Kept → List ℕ → Kept → Type 0
Onward len kind elements k text end = (w : Words) → Taken len (st kind (InContent 0) elements w k) text end

-- what follows the end of an element, which may be a child
abbrev pub Closed : ℕ → Kind → List (List ℕ) → Bool → Kept → List ℕ → Kept → Type 0
Closed len kind outer child k text end = Onward len kind outer (closed child (len - length text) k) text end

-- what follows the start tag of an element, which may be empty
abbrev pub OnwardFrom : ℕ → Kind → List ℕ → List (List ℕ) → Bool → Bool → Kept → List ℕ → Kept → Type 0
OnwardFrom len kind element outer child true k text end = Closed len kind outer child k text end
OnwardFrom len kind element outer child false k text end = Onward len kind (element ∷ outer) k text end

-- the place after a byte
pub after_byte : (len b : ℕ) (text : List ℕ) → length (b ∷ text) ≤ len → len - length (b ∷ text) + 1 ≡ len - length text
after_byte len b text within = omega (arith, within)

module _ (len : ℕ) (kind : Kind) (element : List ℕ) (outer : List (List ℕ)) (child : Bool) (parent : is_body_tag (around kind outer) ≡ child) (end : Kept) where
  -- the `>` of an empty element
  pub slash_taken : (w : Words) (k : Kept) {rest : List ℕ} → Closed len kind outer child k rest end → Taken len (st kind TagSlash (element ∷ outer) w k) (62 ∷ rest) end
  unfolding proceed next_move acted move_of place_next tag_slash_next
  slash_taken w k {rest} t =
      by_last_byte {next = st kind (InContent 0) outer w (closed child (len - length rest) k)}
      (λ within. rw (child_added kind TagSlash _ (element ∷ outer) w k child parent (len - length (62 ∷ rest)), after_byte len 62 rest within) refl) (t w)

  module _ (body : Bool) (tag : is_body_tag (around kind (element ∷ outer)) ≡ body) where
    -- the rest of a tag
    pub tag_rest_taken : {seen : List (List ℕ)} {spaced is_empty : Bool} {text rest : List ℕ} (r : TagRest seen spaced is_empty text rest) (k : Kept) → OnwardFrom len kind element outer child is_empty (tag_kept body len r k) rest end →
        (name : List ℕ) (start stop : ℕ) → Taken len (st kind (tag_place spaced) (element ∷ outer) (words name start stop seen) k) text end
    unfolding proceed next_move acted move_of place_next tag_space_next after_value_next with_name_begun is_space is_name_start begins_name_plainly is_letter tag_kept
    tag_rest_taken {seen} {spaced = true} TagRest.empty k t name start stop = by_byte refl (slash_taken (words name start stop seen) k t)
    tag_rest_taken {seen} {spaced = false} TagRest.empty k t name start stop = by_byte refl (slash_taken (words name start stop seen) k t)
    tag_rest_taken {seen} {spaced = true} TagRest.opens k t name start stop = by_byte refl (t (words name start stop seen))
    tag_rest_taken {seen} {spaced = false} TagRest.opens k t name start stop = by_byte refl (t (words name start stop seen))
    tag_rest_taken {seen} {spaced = true} (TagRest.space {b = b} e r) k t name start stop =
        by_byte {next = st kind TagSpace (element ∷ outer) (words name start stop seen) k} (rw (space_differs b 47 e refl, space_differs b 62 e refl, e) refl) (tag_rest_taken r k t name start stop)
    tag_rest_taken {seen} {spaced = false} (TagRest.space {b = b} e r) k t name start stop =
        by_byte {next = st kind TagSpace (element ∷ outer) (words name start stop seen) k} (rw (space_differs b 47 e refl, space_differs b 62 e refl, e) refl) (tag_rest_taken r k t name start stop)
    tag_rest_taken {seen} {text = text} (TagRest.attribute (Name.begins {b = b} {name = more} e n) fresh before after q v r) k t name start stop =
        by_byte {next = st kind AttrName (element ∷ outer) (words (b ∷ []) (len - length text) stop seen) k} (rw (start_differs b 47 e refl, start_differs b 62 e refl, start_no_space b e, e) refl)
        (attribute_taken len kind (element ∷ outer) (len - length text) seen k body tag end stop n fresh before after q v (tag_rest_taken r _ t [] _ _))

    -- the rest of a start tag after its name
    pub named_taken : {is_empty : Bool} {text rest : List ℕ} (r : TagRest [] false is_empty text rest) (k : Kept) → OnwardFrom len kind element outer child is_empty (tag_kept body len r (deepened kind (element ∷ outer) k)) rest end →
        (start stop : ℕ) (seen : List (List ℕ)) → Taken len (st kind TagName outer (words element start stop seen) k) text end
    unfolding proceed next_move acted move_of place_next tag_name_next name_ended with_element is_name_byte grows_name_plainly begins_name_plainly is_letter is_digit is_space tag_kept
    named_taken TagRest.empty k t start stop seen = by_byte refl (slash_taken (words [] start stop []) (deepened kind (element ∷ outer) k) t)
    named_taken TagRest.opens k t start stop seen = by_byte refl (t (words [] start stop []))
    named_taken (TagRest.space {b = b} e r) k t start stop seen =
        by_byte {next = st kind TagSpace (element ∷ outer) (words [] start stop []) (deepened kind (element ∷ outer) k)} (rw (space_no_name b e, space_differs b 47 e refl, space_differs b 62 e refl, e) refl) (tag_rest_taken r _ t [] start stop)
