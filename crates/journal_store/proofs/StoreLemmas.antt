-- What a crash leaves while records are put behind a closed gate and the gate is opened.
use Rattle.std.proofs.Common.{◌≡◌, inl, inr, ℕ, ◌+◌, List, [], ◌∷◌, ◌++◌, length, get_or, take, drop, sym, ◌∙◌, ap, subst, arith, append_assoc, length-append, take-append-drop}
use Rattle.std.proofs.lemmas.Bool.{cases_eq}
use Rattle.std.proofs.lemmas.List.{append-nil, take_at, drop_at, take_all, drop_all, drop_more}
use Rattle.std.specs.List.{AllByRecursion}
use Rattle.journal_store.specs.Crash.{EachCrash}
use Rattle.journal_store.specs.Disk.{written, Torn}
use Rattle.journal_store.specs.Records.{HasLength, records_of, file_of, IsRowOf, IsBeforeOrAfter}
use Rattle.journal_store.proofs.Moments.{weaker, then_crash}
use Rattle.journal_store.proofs.RecordLemmas.{file-append, all-append, no_record_gate}

module _ (contents added : List (List ℕ)) (gate : ℕ) (behind : List ℕ) (at_end : gate ≡ length (records_of contents)) (is_added : 1 ∷ behind ≡ file_of added) where
  -- the file with the records behind a gate
  abbrev with_gate : ℕ → List ℕ
  with_gate byte = records_of contents ++ byte ∷ behind

  length_file : length (file_of contents) ≡ gate + 1
  length_file = omega (arith, length-append (records_of contents) (0 ∷ []), at_end)

  length_with : (byte : ℕ) → length (with_gate byte) ≡ gate + 1 + length behind
  length_with byte = omega (arith, length-append (records_of contents) (byte ∷ behind), at_end)

  grouped : (byte : ℕ) (rest : List ℕ) → (records_of contents ++ byte ∷ []) ++ rest ≡ records_of contents ++ byte ∷ rest
  grouped byte rest = append_assoc (records_of contents) (byte ∷ []) rest

  front : (byte : ℕ) (rest : List ℕ) → take gate (records_of contents ++ byte ∷ rest) ≡ records_of contents
  front byte rest = take_at (records_of contents) (byte ∷ rest) gate (sym at_end)

  back : (byte : ℕ) → drop (gate + 1) (with_gate byte) ≡ behind
  back byte =
      ap (λ (l : List ℕ). drop (gate + 1) l) (sym (grouped byte behind))
      ∙ drop_at (records_of contents ++ byte ∷ []) behind (gate + 1) (omega (arith, length-append (records_of contents) (byte ∷ []), at_end))

  pub written_behind : written (gate + 1) behind (file_of contents) ≡ with_gate 0
  written_behind =
      ap (λ (l : List ℕ). l ++ behind ++ drop (gate + 1 + length behind) (file_of contents)) (take_all (gate + 1) (file_of contents) (omega (arith, length_file)))
      ∙ ap (λ (l : List ℕ). file_of contents ++ behind ++ l) (drop_all (gate + 1 + length behind) (file_of contents) (omega (arith, length_file)))
      ∙ append-nil (file_of contents ++ behind)
      ∙ grouped 0 behind

  opened : with_gate 1 ≡ file_of (contents ++ added)
  opened = ap (λ (l : List ℕ). records_of contents ++ l) is_added ∙ file-append contents added

  pub written_gate : written gate (1 ∷ []) (with_gate 0) ≡ file_of (contents ++ added)
  written_gate =
      ap (λ (l : List ℕ). l ++ (1 ∷ []) ++ drop (gate + 1) (with_gate 0)) (front 0 behind)
      ∙ ap (λ (l : List ℕ). records_of contents ++ (1 ∷ []) ++ l) (back 0)
      ∙ grouped 1 behind
      ∙ opened

  -- the closed gate stands in each image of the first write
  pub torn_behind : AllByRecursion HasLength contents → (image : List ℕ) → Torn (gate + 1) (length behind) (file_of contents) image → IsRowOf image contents
  torn_behind fits image torn = record {
    end = 0 ∷ drop (gate + 1) image;
    split =
        sym (take-append-drop (gate + 1) image)
        ∙ ap (λ (l : List ℕ). l ++ drop (gate + 1) image) (torn.before ∙ take_all (gate + 1) (file_of contents) (omega (arith, length_file)))
        ∙ grouped 0 (drop (gate + 1) image);
    lengths = fits;
    ended = no_record_gate 0 (drop (gate + 1) image) (omega arith);
  }

  -- in each image of the second all records stand behind some gate
  torn_gate : (image : List ℕ) → Torn gate 1 (with_gate 0) image → image ≡ with_gate (get_or image gate 0)
  torn_gate image torn =
      let byte = get_or image gate 0 in
      let rest : drop gate image ≡ byte ∷ behind =
      drop_more image gate 0 (omega (arith, torn.no_shorter, length_with 0)) ∙ ap (λ (l : List ℕ). byte ∷ l) (torn.after ∙ back 0) in
      sym (take-append-drop gate image) ∙ ap (λ (l : List ℕ). l ++ drop gate image) (torn.before ∙ front 0 behind) ∙ ap (λ (l : List ℕ). records_of contents ++ l) rest

  row_of_gate : AllByRecursion HasLength contents → AllByRecursion HasLength added → (byte : ℕ) (image : List ℕ) → image ≡ with_gate byte → IsBeforeOrAfter contents added image
  row_of_gate fits fits' byte image is = elim (cases_eq byte 1) [
    | inl open_gate ↦ inr (record {
      end = 0 ∷ [];
      split = is ∙ ap with_gate open_gate ∙ opened;
      lengths = all-append HasLength contents added fits fits';
      ended = no_record_gate 0 [] (omega arith);
    })
    | inr shut ↦ inl (record { end = byte ∷ behind; split = is; lengths = fits; ended = no_record_gate byte behind shut })
  ]

  pub stored_by : (file mid new : List ℕ) → file ≡ file_of contents → mid ≡ written (gate + 1) behind file → new ≡ written gate (1 ∷ []) mid → new ≡ file_of (contents ++ added)
  stored_by file mid new is is_mid is_new =
      let staged : mid ≡ with_gate 0 = is_mid ∙ ap (λ (l : List ℕ). written (gate + 1) behind l) is ∙ written_behind in
      is_new ∙ ap (λ (l : List ℕ). written gate (1 ∷ []) l) staged ∙ written_gate

  module _ {D : Type 0} (time : D → ℕ) (left : D → ℕ → List ℕ → Type 0) (fits : AllByRecursion HasLength contents) (fits' : AllByRecursion HasLength added) where
    pub first_crash : (old mid : D) (file : List ℕ) → file ≡ file_of contents → EachCrash time left old mid (Torn (gate + 1) (length behind) file) → EachCrash time left old mid (IsBeforeOrAfter contents added)
    first_crash old mid file is crash =
        weaker time left old mid _ (IsBeforeOrAfter contents added) crash (λ image torn. inl (torn_behind fits image (subst (λ (f : List ℕ). Torn (gate + 1) (length behind) f image) is torn)))

    pub both_crash : (old mid new : D) (file staged : List ℕ) → file ≡ file_of contents → staged ≡ written (gate + 1) behind file
        → EachCrash time left old mid (Torn (gate + 1) (length behind) file) → EachCrash time left mid new (Torn gate 1 staged) → EachCrash time left old new (IsBeforeOrAfter contents added)
    both_crash old mid new file staged is is_staged first second =
        let stands : staged ≡ with_gate 0 = is_staged ∙ ap (λ (l : List ℕ). written (gate + 1) behind l) is ∙ written_behind in
        then_crash time left old mid new (IsBeforeOrAfter contents added) (first_crash old mid file is first)
        (weaker time left mid new _ (IsBeforeOrAfter contents added) second (λ image torn.
        row_of_gate fits fits' (get_or image gate 0) image (torn_gate image (subst (λ (f : List ℕ). Torn gate 1 f image) stands torn))))
