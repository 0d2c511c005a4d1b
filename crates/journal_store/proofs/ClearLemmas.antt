-- What a crash leaves while all records of a file go.
use Rattle.std.proofs.Common.{inl, inr, ⊎_elim, ℕ, ◌≤◌, List, [], length, take, refl, sym, subst, arith}
use Rattle.std.specs.List.{AllByRecursion}
use Rattle.journal_store.specs.Crash.{EachCrash}
use Rattle.journal_store.specs.Disk.{CutOrNot, Torn}
use Rattle.journal_store.specs.Records.{HasLength, IsBeforeOrNone, IsRowOf, file_of}
use Rattle.journal_store.proofs.Moments.{then_crash, weaker}
use Rattle.journal_store.proofs.RecordLemmas.{no_record_short, row_of_file}

-- in one byte there is no record
short_row : (image : List ℕ) → length image ≤ 1 → IsRowOf image []
short_row image short = record { end = image; split = refl; lengths = tt; ended = no_record_short image (omega (arith, short)) }

module _ {D : Type 0} (time : D → ℕ) (left : D → ℕ → List ℕ → Type 0) (contents : List (List ℕ)) (fits : AllByRecursion HasLength contents) (old mid : D)
    (cut : EachCrash time left old mid (CutOrNot 0 (file_of contents))) where
  -- the file is cut, or not
  pub cut_all : EachCrash time left old mid (IsBeforeOrNone contents)
  cut_all =
      weaker time left old mid (CutOrNot 0 (file_of contents)) (IsBeforeOrNone contents) cut
      (λ image was. ⊎_elim
      (λ same. inl (subst (λ (l : List ℕ). IsRowOf l contents) (sym same) (row_of_file contents fits)))
      (λ none. inr (subst (λ (l : List ℕ). IsRowOf l []) (sym none) (short_row [] (omega arith)))) was)

  -- and then a gate is closed at its start
  pub none_left : (new : D) → EachCrash time left mid new (Torn 0 1 (take 0 (file_of contents))) → EachCrash time left old new (IsBeforeOrNone contents)
  none_left new gate =
      then_crash time left old mid new (IsBeforeOrNone contents) cut_all
      (weaker time left mid new (Torn 0 1 (take 0 (file_of contents))) (IsBeforeOrNone contents) gate
      (λ image torn. inr (short_row image (omega (arith, torn.no_longer)))))
