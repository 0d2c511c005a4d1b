-- How a disk in memory changes.
use Rattle.std.proofs.Common.{◌≡◌, ◌⊎◌, inl, inr, ℕ, ◌+◌, ◌-◌, ◌<◌, ◌≤◌, List, [], ◌∷◌, ◌++◌, length, take, drop, Vec, add-zero, take-append-drop, refl, sym, ◌∙◌, ap, subst, arith, append_assoc, length-append, length-drop}
use Rattle.std.specs.declared.alloc.Global.{Global}
use Rattle.std.proofs.lemmas.Bool.{cases_lt}
use Rattle.std.proofs.lemmas.List.{append-nil, take_at, drop_at, take_all, length-take-le, drop-drop, take-append-le}
use Rattle.journal_store.specs.Disk.{written, Torn, Only, GoesOn}
use Rattle.journal_store.specs.MemoryDisk.{Changes, left_after, left_after_all, left_by, LeftSince}
use Rattle.journal_store.specs.declared.disk.DiskDone.{DiskDone}
use Rattle.journal_store.specs.declared.disk.DiskDone.TheVariants.{Done, Failed}
use Rattle.journal_store.specs.declared.memory_disk.Change.{Change}
use Rattle.journal_store.specs.declared.memory_disk.Change.TheVariants.{Synced}

-- what one change more leaves
split : (images : List ℕ → Type 0) (changes : Changes) (v : Vec ℕ Global) (change : Change) (image : List ℕ)
    → left_after_all images (changes ++ (v, change) ∷ []) image → left_after v.items change (left_after_all images changes) image
split images [] v change image is = is
split images (first ∷ changes) v change image is = split (left_after first.0.items first.1 images) changes v change image is

joined : (images : List ℕ → Type 0) (changes : Changes) (v : Vec ℕ Global) (change : Change) (image : List ℕ)
    → left_after v.items change (left_after_all images changes) image → left_after_all images (changes ++ (v, change) ∷ []) image
joined images [] v change image is = is
joined images (first ∷ changes) v change image is = joined (left_after first.0.items first.1 images) changes v change image is

of_now : (changes : Changes) (image : List ℕ) → LeftSince changes (length changes) image → left_by changes image
of_now changes image is = subst (λ (l : Changes). left_by l image) (take_all is.0 changes is.1) is.3

to_now : (changes : Changes) (image : List ℕ) → left_by changes image → LeftSince changes (length changes) image
to_now changes image is =
    let same : length changes ≡ length changes = refl in
    (length changes, omega arith, omega arith, subst (λ (l : Changes). left_by l image) (sym (take_all (length changes) changes (omega arith))) is)

-- what may be done to a content while a change is made
abbrev pub Allows : Changes → Vec ℕ Global → Change → (List ℕ → List ℕ → Type 0) → Type 0
Allows changes v change Doing = (image : List ℕ) → left_after v.items change (left_by changes) image → (content : List ℕ) × left_by changes content × Doing content image

goes_push : (changes : Changes) (v : Vec ℕ Global) (change : Change) (Doing : List ℕ → List ℕ → Type 0) → Allows changes v change Doing
    → GoesOn Doing (length changes) (length (changes ++ (v, change) ∷ [])) (LeftSince changes) (LeftSince (changes ++ (v, change) ∷ []))
goes_push changes v change Doing allows = record {
  later = omega (arith, long);
  doing = λ image is. by_now image (allows image (split (λ _. ⊥) changes v change image (of_now more image is)));
  nothing_else = λ since image le is. by_count since image is (cases_lt is.0 (length more));
  keeps = λ since image le is. (is.0, is.1, omega (arith, is.2, long), subst (λ (l : Changes). left_by l image) (sym (take-append-le is.0 changes ((v, change) ∷ []) is.2)) is.3);
  counts = λ since image le is. (is.0, omega (arith, le, is.1), is.2, is.3);
}
  where
    more : Changes
    more = changes ++ (v, change) ∷ []

    long : length more ≡ length changes + 1
    long = length-append changes ((v, change) ∷ [])

    by_now : (image : List ℕ) → (content : List ℕ) × left_by changes content × Doing content image → (content : List ℕ) × LeftSince changes (length changes) content × Doing content image
    by_now image was = (was.0, to_now changes was.0 was.1, was.2)

    by_count : (since : ℕ) (image : List ℕ) (is : LeftSince more since image) → (is.0 < length more) ⊎ (length more ≤ is.0) → LeftSince changes since image ⊎ LeftSince more (length more) image
    by_count since image is (inl below) =
        let within : is.0 ≤ length changes = omega (arith, below, long) in
        inl (is.0, is.1, within, subst (λ (l : Changes). left_by l image) (take-append-le is.0 changes ((v, change) ∷ []) within) is.3)
    by_count since image is (inr whole) = inr (is.0, whole, is.2, is.3)

pub goes_on : (changes later : Changes) (v : Vec ℕ Global) (change : Change) (Doing : List ℕ → List ℕ → Type 0) → later ≡ changes ++ (v, change) ∷ [] → Allows changes v change Doing
    → GoesOn Doing (length changes) (length later) (LeftSince changes) (LeftSince later)
goes_on changes later v change Doing is allows =
    subst (λ (l : Changes). GoesOn Doing (length changes) (length l) (LeftSince changes) (LeftSince l)) (sym is) (goes_push changes v change Doing allows)

-- what is there after a change is among what a crash may leave
pub holds_after : (changes later : Changes) (v : Vec ℕ Global) (change : Change) (image : List ℕ) → later ≡ changes ++ (v, change) ∷ [] → left_after v.items change (left_by changes) image → left_by later image
holds_after changes later v change image is left = subst (λ (l : Changes). left_by l image) (sym is) (joined (λ _. ⊥) changes v change image left)

-- right after a sync a crash leaves what was there
pub synced_only : (changes later : Changes) (v : Vec ℕ Global) → later ≡ changes ++ (v, Synced) ∷ [] → Only v.items (LeftSince later (length later))
synced_only changes later v is image left =
    let here = subst (λ (l : Changes). left_by l image) is (of_now later image left) in
    split (λ _. ⊥) changes v Synced image here

pub torn_same : (at count : ℕ) (content : List ℕ) → Torn at count content content
torn_same at count content = record { before = refl; after = refl; no_shorter = omega arith; no_longer = omega arith }

pub written_nothing : (at : ℕ) (bytes content : List ℕ) → written at (take 0 bytes) content ≡ content
written_nothing at bytes content =
    ap (λ (l : List ℕ). l ++ drop (at + 0) content) (append-nil (take at content)) ∙ ap (λ (n : ℕ). take at content ++ drop n content) (add-zero at) ∙ take-append-drop at content

-- a write that came so far is one of its images
pub written_torn : (at count : ℕ) (bytes content : List ℕ) → at ≤ length content → length bytes ≤ count → Torn at count content (written at bytes content)
written_torn at count bytes content within short = record {
  before = ap (λ (l : List ℕ). take at l) regrouped ∙ take_at (take at content) (bytes ++ behind) at front;
  after =
      ap (λ (n : ℕ). drop n whole) places ∙ sym (drop-drop (count - length bytes) (at + length bytes) whole)
      ∙ ap (λ (l : List ℕ). drop (count - length bytes) l) (drop_at (take at content ++ bytes) behind (at + length bytes) parts)
      ∙ drop-drop (count - length bytes) (at + length bytes) content ∙ ap (λ (n : ℕ). drop n content) (sym places);
  no_shorter = omega (arith, size);
  no_longer = omega (arith, size, short);
}
  where
    behind : List ℕ
    behind = drop (at + length bytes) content

    whole : List ℕ
    whole = written at bytes content

    front : length (take at content) ≡ at
    front = length-take-le at content within

    parts : length (take at content ++ bytes) ≡ at + length bytes
    parts = omega (arith, length-append (take at content) bytes, front)

    regrouped : whole ≡ take at content ++ (bytes ++ behind)
    regrouped = append_assoc (take at content) bytes behind

    places : at + count ≡ at + length bytes + (count - length bytes)
    places = omega (arith, short)

    size : length whole ≡ at + length bytes + (length content - (at + length bytes))
    size = omega (arith, length-append (take at content ++ bytes) behind, parts, length-drop (at + length bytes) content)

-- a write that was done, or did nothing
pub torn_by_result : (result : DiskDone) (at : ℕ) (bytes content new : List ℕ) → at ≤ length content → (result ≡ Done → new ≡ written at bytes content) → (result ≡ Failed → new ≡ content)
    → Torn at (length bytes) content new
torn_by_result Done at bytes content new within done failed = subst (λ (l : List ℕ). Torn at (length bytes) content l) (sym (done refl)) (written_torn at (length bytes) bytes content within (omega arith))
torn_by_result Failed at bytes content new within done failed = subst (λ (l : List ℕ). Torn at (length bytes) content l) (sym (failed refl)) (torn_same at (length bytes) content)

-- a write that came so far
pub torn_by_count : (count at : ℕ) (bytes content new : List ℕ) → at ≤ length content → count ≤ length bytes → new ≡ written at (take count bytes) content → Torn at (length bytes) content new
torn_by_count count at bytes content new within short is =
    let size : length (take count bytes) ≡ count = length-take-le count bytes short in
    subst (λ (l : List ℕ). Torn at (length bytes) content l) (sym is) (written_torn at (length bytes) (take count bytes) content within (omega (arith, size, short)))
