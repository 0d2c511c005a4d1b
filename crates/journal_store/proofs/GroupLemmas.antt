-- Records that are added to a group.
use Rattle.std.proofs.Common.{◌≡◌, ℕ, ◌+◌, ◌-◌, ◌<◌, List, [], ◌∷◌, ◌++◌, length, take, drop, slice_set, sym, ◌∙◌, ap, arith, append_assoc, length-append}
use Rattle.std.proofs.Math.Seq.{set-append_seam}
use Rattle.std.proofs.lemmas.List.{append-nil, take_at, take_all}
use Rattle.journal_store.specs.Group.{AreRecords}
use Rattle.journal_store.specs.Records.{HasLength, framed, record_of, records_of}
use Rattle.journal_store.proofs.RecordLemmas.{records-append, all-append}

first_open : (bytes : List ℕ) (contents : List (List ℕ)) → bytes ≡ records_of contents → 0 < length bytes → (rest : List ℕ) × (bytes ≡ 1 ∷ rest)
first_open bytes [] is some = let none : length bytes ≡ 0 = ap length is in absurd (omega (arith, none, some))
first_open bytes (content ∷ contents) is some = (framed content ++ records_of contents, is)

-- behind the first gate of a group stand the rest of its records and a closed gate
pub behind_gate : (bytes view : List ℕ) → bytes ≡ view ++ 0 ∷ [] → AreRecords view → 0 < length view → 1 ∷ take (length bytes - 1) (drop 1 bytes) ≡ view ++ 0 ∷ []
behind_gate bytes view is records some =
    let first = first_open view records.contents records.split some in
    let whole : bytes ≡ 1 ∷ (first.0 ++ 0 ∷ []) = is ∙ ap (λ (l : List ℕ). l ++ 0 ∷ []) first.1 in
    let size : length bytes ≡ length (first.0 ++ 0 ∷ []) + 1 = ap length whole ∙ omega arith in
    ap (λ (l : List ℕ). 1 ∷ take (length bytes - 1) (drop 1 l)) whole
    ∙ ap (λ (l : List ℕ). 1 ∷ l) (take_all (length bytes - 1) (first.0 ++ 0 ∷ []) (omega (arith, size)))
    ∙ sym (ap (λ (l : List ℕ). l ++ 0 ∷ []) first.1)

pub added_records : (view content : List ℕ) → AreRecords view → HasLength content → AreRecords (view ++ record_of content)
added_records view content records fits = record {
  contents = records.contents ++ content ∷ [];
  split =
      ap (λ (l : List ℕ). l ++ record_of content) records.split
      ∙ sym (records-append records.contents (content ∷ []) ∙ ap (λ (l : List ℕ). records_of records.contents ++ l) (append-nil (record_of content)));
  lengths = all-append HasLength records.contents (content ∷ []) records.lengths (fits, tt);
}

module _ (bytes view content new : List ℕ) (gate : ℕ) (is : bytes ≡ view ++ 0 ∷ []) (at_end : gate ≡ length view) (pushed : new ≡ bytes ++ framed content ++ 0 ∷ []) where
  long : new ≡ view ++ 0 ∷ (framed content ++ 0 ∷ [])
  long =
      pushed ∙ ap (λ (l : List ℕ). l ++ framed content ++ 0 ∷ []) is
      ∙ append_assoc (view ++ 0 ∷ []) (framed content) (0 ∷ [])
      ∙ append_assoc view (0 ∷ []) (framed content ++ 0 ∷ [])

  -- the gate that was closed is opened
  pub opened : slice_set new gate 1 ≡ (view ++ record_of content) ++ 0 ∷ []
  opened =
      ap (λ (l : List ℕ). slice_set l gate 1) long
      ∙ ap (λ (n : ℕ). slice_set (view ++ 0 ∷ (framed content ++ 0 ∷ [])) n 1) at_end
      ∙ set-append_seam view 0 (framed content ++ 0 ∷ []) 1
      ∙ sym (append_assoc view (record_of content) (0 ∷ []))

  pub opened_view : (count : ℕ) → count ≡ length new → take (count - 1) (slice_set new gate 1) ≡ view ++ record_of content
  opened_view count counts =
      let whole : length new ≡ length view + length (0 ∷ (framed content ++ 0 ∷ [])) = ap length long ∙ length-append view (0 ∷ (framed content ++ 0 ∷ [])) in
      let behind : length (0 ∷ (framed content ++ 0 ∷ [])) ≡ length (framed content) + 2 = omega (arith, length-append (framed content) (0 ∷ [])) in
      let record_size : length (record_of content) ≡ length (framed content) + 1 = omega arith in
      let size : length (view ++ record_of content) ≡ count - 1 = omega (arith, counts, whole, behind, record_size, length-append view (record_of content)) in
      ap (λ (l : List ℕ). take (count - 1) l) opened ∙ take_at (view ++ record_of content) (0 ∷ []) (count - 1) size
