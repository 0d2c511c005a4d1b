-- Rows of records.
use Rattle.std.proofs.Common.{◌≡◌, ◌==◌, true, ◌≢◌, ℕ, ◌+◌, ◌<◌, List, [], ◌∷◌, ◌++◌, length, take, drop, refl, sym, ◌∙◌, ap, arith, append_assoc, length-append}
use Rattle.std.proofs.lemmas.Bool.Decides.{nat_tests}
use Rattle.std.proofs.lemmas.List.{take_at, drop_at}
use Rattle.std.specs.List.{AllByRecursion}
use Rattle.journal_store.specs.Records.{HasLength, number4, record_of, records_of, file_of, BeginsNoRecord, IsRowOf}
use Rattle.journal_store.proofs.Numbers.{length-number4, same_number4}

-- the records of one row after those of another
pub records-append : (first second : List (List ℕ)) → records_of (first ++ second) ≡ records_of first ++ records_of second
records-append [] second = refl
records-append (content ∷ first) second =
    ap (λ (l : List ℕ). record_of content ++ l) (records-append first second) ∙ sym (append_assoc (record_of content) (records_of first) (records_of second))

pub file-append : (first second : List (List ℕ)) → records_of first ++ file_of second ≡ file_of (first ++ second)
file-append first second =
    sym (append_assoc (records_of first) (records_of second) (0 ∷ [])) ∙ ap (λ (l : List ℕ). l ++ 0 ∷ []) (sym (records-append first second))

pub all-append : {X : Type 0} (P : X → Type 0) (first second : List X) → AllByRecursion P first → AllByRecursion P second → AllByRecursion P (first ++ second)
all-append P [] second holds holds' = holds'
all-append P (x ∷ first) second holds holds' = (holds.0, all-append P first second holds.1 holds')

pub length-record : (content : List ℕ) → length (record_of content) ≡ 5 + length content
length-record content = omega (arith, length-append (number4 (length content)) content, length-number4 (length content))

-- what begins with another byte than an open gate begins with no record
pub no_record_gate : (gate : ℕ) (rest : List ℕ) → gate ≢ 1 → BeginsNoRecord (gate ∷ rest)
no_record_gate gate rest shut = λ content after fits same. shut (cc)

pub no_record_short : (bytes : List ℕ) → length bytes < 5 → BeginsNoRecord bytes
no_record_short bytes short = λ content after fits same.
    let long : length bytes ≡ length (record_of content ++ after) = ap length same in
    let parts : length (record_of content ++ after) ≡ length (record_of content) + length after = length-append (record_of content) after in
    omega (arith, long, parts, length-record content)

-- a record is the first one of one list of bytes only
pub same_record : (content content' rest rest' : List ℕ) → HasLength content → HasLength content' → record_of content ++ rest ≡ record_of content' ++ rest' → (content ≡ content') × (rest ≡ rest')
same_record content content' rest rest' fits fits' same =
    let behind : (number4 (length content) ++ content) ++ rest ≡ (number4 (length content') ++ content') ++ rest' = cc in
    let grouped : number4 (length content) ++ (content ++ rest) ≡ number4 (length content') ++ (content' ++ rest') =
    sym (append_assoc (number4 (length content)) content rest) ∙ behind ∙ append_assoc (number4 (length content')) content' rest' in
    let numbers : number4 (length content) ≡ number4 (length content') =
    sym (take_at (number4 (length content)) (content ++ rest) 4 (length-number4 (length content))) ∙ ap (λ (l : List ℕ). take 4 l) grouped ∙ take_at (number4 (length content')) (content' ++ rest') 4 (length-number4 (length content')) in
    let counts : length content ≡ length content' = same_number4 _ _ fits fits' numbers in
    let contents : content ++ rest ≡ content' ++ rest' =
    sym (drop_at (number4 (length content)) (content ++ rest) 4 (length-number4 (length content))) ∙ ap (λ (l : List ℕ). drop 4 l) grouped ∙ drop_at (number4 (length content')) (content' ++ rest') 4 (length-number4 (length content')) in (
      sym (take_at content rest (length content) refl) ∙ ap (λ (l : List ℕ). take (length content) l) contents ∙ take_at content' rest' (length content) (sym counts),
      sym (drop_at content rest (length content) refl) ∙ ap (λ (l : List ℕ). drop (length content) l) contents ∙ drop_at content' rest' (length content) (sym counts),
    )

same_row : (image : List ℕ) (one other : List (List ℕ)) (end end' : List ℕ) → image ≡ records_of one ++ end → image ≡ records_of other ++ end'
    → AllByRecursion HasLength one → AllByRecursion HasLength other → BeginsNoRecord end → BeginsNoRecord end' → one ≡ other
same_row image [] [] end end' is is' fits fits' ended ended' = refl
same_row image [] (content ∷ other) end end' is is' fits fits' ended ended' =
    absurd (ended content (records_of other ++ end') fits'.0 (sym is ∙ is' ∙ append_assoc (record_of content) (records_of other) end'))
same_row image (content ∷ one) [] end end' is is' fits fits' ended ended' =
    absurd (ended' content (records_of one ++ end) fits.0 (sym is' ∙ is ∙ append_assoc (record_of content) (records_of one) end))
same_row image (content ∷ one) (content' ∷ other) end end' is is' fits fits' ended ended' =
    let same = same_record content content' (records_of one ++ end) (records_of other ++ end') fits.0 fits'.0
    (sym (append_assoc (record_of content) (records_of one) end) ∙ sym is ∙ is' ∙ append_assoc (record_of content') (records_of other) end') in
    let behind : one ≡ other = same_row (records_of one ++ end) one other end end' refl same.1 fits.1 fits'.1 ended ended' in
    ap (λ (c : List ℕ). c ∷ one) same.0 ∙ ap (λ (l : List (List ℕ)). content' ∷ l) behind

-- an image has one row
pub one_row : (image : List ℕ) (one other : List (List ℕ)) → IsRowOf image one → IsRowOf image other → one ≡ other
one_row image one other row row' = same_row image one other row.end row'.end row.split row'.split row.lengths row'.lengths row.ended row'.ended

-- a whole file has the row that it was made of
pub row_of_file : (contents : List (List ℕ)) → AllByRecursion HasLength contents → IsRowOf (file_of contents) contents
row_of_file contents fits = record { end = 0 ∷ []; split = refl; lengths = fits; ended = no_record_gate 0 [] (omega arith) }

-- there is no record in no byte
pub none_added : (bytes : List ℕ) (added : List (List ℕ)) → (length bytes == 0) ≡ true → bytes ≡ records_of added → added ≡ []
none_added bytes [] empty is = refl
none_added bytes (content ∷ added) empty is =
    let none : length bytes ≡ 0 = grind (arith, nat_tests) in
    let some : length bytes ≡ length (record_of content ++ records_of added) = ap length is in
    absurd (omega (arith, none, some, length-append (record_of content) (records_of added), length-record content))
