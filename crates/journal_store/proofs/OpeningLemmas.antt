-- Reading records, and what a crash leaves while the end of a file is mended.
use Rattle.std.proofs.Common.{◌≡◌, inl, inr, ℕ, ◌+◌, ◌<◌, ◌≤◌, ◌^◌, List, [], ◌∷◌, ◌++◌, length, get_or, take, drop, true, false, refl, sym, ◌∙◌, ap, subst, arith, append_assoc, length-append, length-drop, take-append-drop}
use Rattle.std.proofs.lemmas.List.{append-nil, take_at, drop_at, take_all, drop_all, length-take-le, drop-drop}
use Rattle.std.specs.List.{AllByRecursion}
use Rattle.journal_store.specs.Crash.{EachCrash}
use Rattle.journal_store.specs.Disk.{part, written, Torn, CutOrNot, Only, Untouched, GoesOn}
use Rattle.journal_store.specs.Opening.{HasRead, SaysHead, IsHead}
use Rattle.journal_store.specs.Records.{HasLength, number4, record_of, records_of, file_of, IsRowOf}
use Rattle.journal_store.specs.declared.opening.Head.{Head}
use Rattle.journal_store.specs.declared.opening.Head.TheVariants as heads
use Rattle.journal_store.specs.declared.opening.Opening.{Opening}
use Rattle.journal_store.proofs.Moments.{weaker, then_crash}
use Rattle.journal_store.proofs.Numbers.{length-number4}
use Rattle.journal_store.proofs.RecordLemmas.{records-append, all-append, length-record, no_record_short}

-- a list of five is its five items
pub five : (bytes : List ℕ) → length bytes ≡ 5 → bytes ≡ get_or bytes 0 0 ∷ get_or bytes 1 0 ∷ get_or bytes 2 0 ∷ get_or bytes 3 0 ∷ get_or bytes 4 0 ∷ []
five [] is = absurd (omega arith)
five (a ∷ []) is = absurd (omega arith)
five (a ∷ b ∷ []) is = absurd (omega arith)
five (a ∷ b ∷ c ∷ []) is = absurd (omega arith)
five (a ∷ b ∷ c ∷ d ∷ []) is = absurd (omega arith)
five (a ∷ b ∷ c ∷ d ∷ e ∷ []) is = refl
five (a ∷ b ∷ c ∷ d ∷ e ∷ f ∷ more) is = absurd (omega arith)

-- the first five bytes of a record
front_of_record : (content rest : List ℕ) → take 5 (record_of content ++ rest) ≡ 1 ∷ number4 (length content)
front_of_record content rest =
    ap (λ (l : List ℕ). take 5 (1 ∷ l)) (append_assoc (number4 (length content)) content rest)
    ∙ take_at (1 ∷ number4 (length content)) (content ++ rest) 5 (omega (arith, length-number4 (length content)))

-- what the first bytes say is what stands there
pub head_at : (file : List ℕ) (at behind : ℕ) (head : Head) → at + 5 + behind ≡ length file → SaysHead (part at 5 file) behind head → IsHead file at head
head_at file at behind (heads.Record count) whole says = (
  drop 5 (drop at file),
  sym (take-append-drop 5 (drop at file)) ∙ ap (λ (l : List ℕ). l ++ drop 5 (drop at file)) says.0,
  omega (arith, says.1, whole, length-drop 5 (drop at file), length-drop at file),
  says.2,
)
head_at file at behind heads.NoRecord whole says = λ content rest fits is.
    let sizes : length (drop at file) ≡ length (record_of content ++ rest) = ap length is in
    says (length content) fits
    (omega (arith, whole, sizes, length-drop at file, length-append (record_of content) rest, length-record content))
    (ap (λ (l : List ℕ). take 5 l) is ∙ front_of_record content rest)
head_at file at behind heads.Failed whole says = tt

module _ {D : Type 0} (seen : D → List ℕ) (time : D → ℕ) (left : D → ℕ → List ℕ → Type 0) where
  -- the row of what was read to its end
  pub row_read : (opening : Opening D) (contents : List (List ℕ)) → HasRead seen time left opening contents → opening.has_ended ≡ true → IsRowOf (seen opening.disk) contents
  row_read opening contents read ended = record { end = drop opening.at (seen opening.disk); split = read.front; lengths = read.lengths; ended = read.ended ended }

  pub front_read : (opening : Opening D) (contents : List (List ℕ)) → HasRead seen time left opening contents → take opening.at (seen opening.disk) ≡ records_of contents
  front_read opening contents read =
      ap (λ (l : List ℕ). take opening.at l) read.front ∙ take_at (records_of contents) (drop opening.at (seen opening.disk)) opening.at (sym read.at)

  row_cut : (contents : List (List ℕ)) → AllByRecursion HasLength contents → IsRowOf (records_of contents) contents
  row_cut contents fits = record { end = []; split = sym (append-nil (records_of contents)); lengths = fits; ended = no_record_short [] (omega arith) }

  pub cut_row : (opening : Opening D) (contents : List (List ℕ)) → HasRead seen time left opening contents → opening.has_ended ≡ true → (image : List ℕ) → CutOrNot opening.at (seen opening.disk) image → IsRowOf image contents
  cut_row opening contents read ended image (inl whole) = subst (λ (l : List ℕ). IsRowOf l contents) (sym whole) (row_read opening contents read ended)
  cut_row opening contents read ended image (inr cut) = subst (λ (l : List ℕ). IsRowOf l contents) (sym (cut ∙ front_read opening contents read)) (row_cut contents read.lengths)

  -- one byte behind the records is no record
  torn_end : (contents : List (List ℕ)) (at : ℕ) → at ≡ length (records_of contents) → AllByRecursion HasLength contents → (image : List ℕ) → Torn at 1 (records_of contents) image → IsRowOf image contents
  torn_end contents at is fits image torn = record {
    end = drop at image;
    split = sym (take-append-drop at image) ∙ ap (λ (l : List ℕ). l ++ drop at image) (torn.before ∙ take_all at (records_of contents) (omega (arith, is)));
    lengths = fits;
    ended = no_record_short (drop at image) (omega (arith, length-drop at image, is, torn.no_longer));
  }

  pub written_end : (contents : List (List ℕ)) (at : ℕ) → at ≡ length (records_of contents) → written at (0 ∷ []) (records_of contents) ≡ file_of contents
  written_end contents at is =
      ap (λ (l : List ℕ). l ++ (0 ∷ []) ++ drop (at + 1) (records_of contents)) (take_all at (records_of contents) (omega (arith, is)))
      ∙ ap (λ (l : List ℕ). records_of contents ++ (0 ∷ []) ++ l) (drop_all (at + 1) (records_of contents) (omega (arith, is)))
      ∙ append-nil (file_of contents)

  module _ (opening : Opening D) (contents : List (List ℕ)) (read : HasRead seen time left opening contents) (ended : opening.has_ended ≡ true) (mid : D)
      (first : EachCrash time left opening.disk mid (CutOrNot opening.at (seen opening.disk))) where
    pub cut_crash : EachCrash time left opening.disk mid (λ image. IsRowOf image contents)
    cut_crash = weaker time left opening.disk mid (CutOrNot opening.at (seen opening.disk)) (λ image. IsRowOf image contents) first (cut_row opening contents read ended)

    pub finish_crash : (new : D) → seen mid ≡ take opening.at (seen opening.disk) → EachCrash time left mid new (Torn opening.at 1 (seen mid)) → EachCrash time left opening.disk new (λ image. IsRowOf image contents)
    finish_crash new is_cut second =
        let stands : seen mid ≡ records_of contents = is_cut ∙ front_read opening contents read in
        then_crash time left opening.disk mid new (λ image. IsRowOf image contents) cut_crash
        (weaker time left mid new (Torn opening.at 1 (seen mid)) (λ image. IsRowOf image contents) second
        (λ image torn. torn_end contents opening.at read.at read.lengths image (subst (λ (f : List ℕ). Torn opening.at 1 f image) stands torn)))

-- behind the head of a record stands its content
pub behind_head : (file : List ℕ) (at count : ℕ) (rest : List ℕ) → drop at file ≡ 1 ∷ number4 count ++ rest → drop (at + 5) file ≡ rest
behind_head file at count rest head =
    sym (drop-drop 5 at file) ∙ ap (λ (l : List ℕ). drop 5 l) head ∙ drop_at (1 ∷ number4 count) rest 5 (omega (arith, length-number4 count))

module _ (file : List ℕ) (contents : List (List ℕ)) (at count : ℕ) (rest content : List ℕ) (front : file ≡ records_of contents ++ drop at file) (is : at ≡ length (records_of contents))
    (head : drop at file ≡ 1 ∷ number4 count ++ rest) (room : count ≤ length rest) (read : content ≡ part (at + 5) count file) where
  content_is : content ≡ take count rest
  content_is = read ∙ ap (λ (l : List ℕ). take count l) (behind_head file at count rest head)

  pub size : length content ≡ count
  size = ap length content_is ∙ length-take-le count rest room

  behind : drop (at + (5 + count)) file ≡ drop count rest
  behind =
      let place : at + (5 + count) ≡ at + 5 + count = omega arith in
      ap (λ (n : ℕ). drop n file) place ∙ sym (drop-drop count (at + 5) file) ∙ ap (λ (l : List ℕ). drop count l) (behind_head file at count rest head)

  whole_record : drop at file ≡ record_of content ++ drop count rest
  whole_record =
      head
      ∙ ap (λ (l : List ℕ). 1 ∷ number4 count ++ l) (sym (take-append-drop count rest))
      ∙ ap (λ (n : ℕ). 1 ∷ number4 n ++ (take count rest ++ drop count rest)) (sym size)
      ∙ ap (λ (l : List ℕ). 1 ∷ number4 (length content) ++ (l ++ drop count rest)) (sym content_is)
      ∙ sym (ap (λ (l : List ℕ). 1 ∷ l) (append_assoc (number4 (length content)) content (drop count rest)))

  more : records_of (contents ++ content ∷ []) ≡ records_of contents ++ record_of content
  more = records-append contents (content ∷ []) ∙ ap (λ (l : List ℕ). records_of contents ++ l) (append-nil (record_of content))

  -- the row that is read has one content more
  pub front_more : file ≡ records_of (contents ++ content ∷ []) ++ drop (at + (5 + count)) file
  front_more =
      front
      ∙ ap (λ (l : List ℕ). records_of contents ++ l) whole_record
      ∙ sym (append_assoc (records_of contents) (record_of content) (drop count rest))
      ∙ ap (λ (l : List ℕ). l ++ drop count rest) (sym more)
      ∙ ap (λ (l : List ℕ). records_of (contents ++ content ∷ []) ++ l) (sym behind)

  pub at_more : at + (5 + count) ≡ length (records_of (contents ++ content ∷ []))
  at_more =
      let sizes : length (records_of (contents ++ content ∷ [])) ≡ length (records_of contents) + length (record_of content) = ap length more ∙ length-append (records_of contents) (record_of content) in
      omega (arith, sizes, length-record content, size, is)

-- what is only read is as durable as before
pub still_only : (file : List ℕ) (before now : ℕ) (past since : ℕ → List ℕ → Type 0) → Only file (past before) → GoesOn Untouched before now past since → Only file (since now)
still_only file before now past since only goes image is =
    let was = goes.doing image is in
    was.2 ∙ only was.0 was.1

-- what was read has one content more
pub has_more : {D : Type 0} (seen : D → List ℕ) (time : D → ℕ) (left : D → ℕ → List ℕ → Type 0) (opening new : Opening D) (contents : List (List ℕ)) (content : List ℕ) (count : ℕ)
    → HasRead seen time left opening contents → IsHead (seen opening.disk) opening.at (heads.Record count) → content ≡ part (opening.at + 5) count (seen opening.disk)
    → seen new.disk ≡ seen opening.disk → new.at ≡ opening.at + (5 + count) → new.length ≡ opening.length → Only (seen opening.disk) (left new.disk (time new.disk)) → new.has_ended ≡ false
    → HasRead seen time left new (contents ++ content ∷ [])
has_more seen time left opening new contents content count read head is same at_new length_new only open_end =
    let file = seen opening.disk in
    let fits : length content < 2 ^ 32 = omega (arith, size file contents opening.at count head.0 content read.front read.at head.1 head.2 is, head.3) in
    let front : file ≡ records_of (contents ++ content ∷ []) ++ drop new.at file =
    front_more file contents opening.at count head.0 content read.front read.at head.1 head.2 is ∙ ap (λ (n : ℕ). records_of (contents ++ content ∷ []) ++ drop n file) (sym at_new) in
    record {
      front = same ∙ front ∙ ap (λ (l : List ℕ). records_of (contents ++ content ∷ []) ++ drop new.at l) (sym same);
      lengths = all-append HasLength contents (content ∷ []) read.lengths (fits, tt);
      at = at_new ∙ at_more file contents opening.at count head.0 content read.front read.at head.1 head.2 is;
      length = length_new ∙ read.length ∙ ap length (sym same);
      durable = subst (λ (l : List ℕ). Only l (left new.disk (time new.disk))) (sym same) only;
      ended = λ yet. absurd (cc);
    }
