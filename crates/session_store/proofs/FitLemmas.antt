-- What is written as a content of fewer than 2^32 bytes, and whose numbers fit their bytes, has a content.
use Rattle.std.proofs.Common.{◌≡◌, ℕ, ◌+◌, ◌<◌, ◌≤◌, List, [], ◌∷◌, ◌++◌, length, take, get_or, map, add-one, sym, ◌∙◌, ap, subst, arith, length-append}
use Rattle.std.specs.List.{AllByRecursion}
use Rattle.session_journal.specs.declared.entry.Entered.{Entered}
use Rattle.session_journal.specs.declared.entry.Entered.TheVariants as stored
use Rattle.session_journal.specs.declared.entry.Entry.{Entry}
use Rattle.journal_store.specs.Contents.{HasLengths, all_framed, content_of, fields_of, kind_of, moment_of, number2, number8, rules_version, texts_bytes}
use Rattle.journal_store.specs.Entries.{FitsContent, contents_of}
use Rattle.journal_store.specs.Records.{HasLength, framed, number4}
use Rattle.journal_store.specs.declared.reading.SessionEntry.{SessionEntry}
use Rattle.journal_store.proofs.EntryLemmas.{contents-append}
use Rattle.journal_store.proofs.Numbers.{length-number4}
use Rattle.journal_store.proofs.RecordLemmas.{all-append}
use Rattle.session_store.specs.Store.{FitsNumbers, of_session}
use Rattle.session_store.proofs.StoreLemmas.{map_behind, take_next}

-- a part is no longer than the whole
last : (before text : List ℕ) → length text ≤ length (before ++ text)
last before text =
    let a = length-append before text in
    omega (arith, a)

first : (text behind : List ℕ) → length text ≤ length (text ++ behind)
first text behind =
    let a = length-append text behind in
    omega (arith, a)

fewer : (text whole : List ℕ) → length text ≤ length whole → HasLength whole → HasLength text
fewer text whole less fits = omega (arith, less, fits)

text_fits : (text : List ℕ) → HasLength (framed text) → HasLength text
text_fits text fits = fewer text (framed text) (last (number4 (length text)) text) fits

-- texts that are written together
all_fit : (texts : List (List ℕ)) → HasLength (all_framed texts) → AllByRecursion HasLength texts
all_fit [] fits = tt
all_fit (text ∷ texts) fits = (
  text_fits text (fewer (framed text) (all_framed (text ∷ texts)) (first (framed text) (all_framed texts)) fits),
  all_fit texts (fewer (all_framed texts) (all_framed (text ∷ texts)) (last (framed text) (all_framed texts)) fits),
)

-- each is written with its length
count_fits : (texts : List (List ℕ)) → length texts ≤ length (all_framed texts)
count_fits [] = omega arith
count_fits (text ∷ texts) =
    let a = count_fits texts in
    let b = length-append (framed text) (all_framed texts) in
    let c = length-append (number4 (length text)) text in
    let d = length-number4 (length text) in
    omega (arith, a, b, c, d)

lengths_fit : (call : Entered) → HasLength (fields_of call) → HasLengths call
unfolding texts_bytes
lengths_fit (stored.Open sid host greeting body now limit gap_waits) fits =
    let numbers : List ℕ = number2 rules_version ++ number8 limit ++ number4 gap_waits in
    let to_host = fewer (numbers ++ framed sid ++ framed host ++ texts_bytes greeting) (fields_of (stored.Open sid host greeting body now limit gap_waits))
    (first (numbers ++ framed sid ++ framed host ++ texts_bytes greeting) (framed body)) fits in
    let to_sid = fewer (numbers ++ framed sid ++ framed host) (numbers ++ framed sid ++ framed host ++ texts_bytes greeting) (first (numbers ++ framed sid ++ framed host) (texts_bytes greeting)) to_host in
    let texts = fewer (texts_bytes greeting) (numbers ++ framed sid ++ framed host ++ texts_bytes greeting) (last (numbers ++ framed sid ++ framed host) (texts_bytes greeting)) to_host in
    let greeted = fewer (all_framed greeting) (texts_bytes greeting) (last (number4 (length greeting)) (all_framed greeting)) texts in (
      text_fits sid (fewer (framed sid) (numbers ++ framed sid) (last numbers (framed sid)) (fewer (numbers ++ framed sid) (numbers ++ framed sid ++ framed host) (first (numbers ++ framed sid) (framed host)) to_sid)),
      text_fits host (fewer (framed host) (numbers ++ framed sid ++ framed host) (last (numbers ++ framed sid) (framed host)) to_sid),
      omega (arith, count_fits greeting, greeted),
      all_fit greeting greeted,
      text_fits body (fewer (framed body) (fields_of (stored.Open sid host greeting body now limit gap_waits)) (last (numbers ++ framed sid ++ framed host ++ texts_bytes greeting) (framed body)) fits),
    )
lengths_fit (stored.Arrive body now) fits = text_fits body fits
lengths_fit (stored.Collect ticket) fits = tt
lengths_fit (stored.Back stream stanza now) fits = text_fits stanza (fewer (framed stanza) (number2 stream ++ framed stanza) (last (number2 stream) (framed stanza)) fits)
lengths_fit (stored.BackClosed stream closing now) fits = tt
lengths_fit (stored.Tick now) fits = tt
lengths_fit stored.TakeInward fits = tt
lengths_fit (stored.Limit kind cost now) fits = tt

content_fits : (e : SessionEntry) → FitsNumbers e → HasLength (content_of e.session e.entry) → FitsContent e
unfolding content_of
content_fits e numbers fits = record {
  session_fits = numbers.0;
  caller = numbers.1;
  lengths = lengths_fit e.entry.call
      (fewer (fields_of e.entry.call) (content_of e.session e.entry)
      (last (number4 e.session ++ number4 e.entry.caller ++ kind_of e.entry.call ∷ [] ++ number8 (moment_of e.entry.call)) (fields_of e.entry.call)) fits);
  ranges = numbers.2;
}

contents_fit : (entries : List SessionEntry) → AllByRecursion FitsNumbers entries → AllByRecursion HasLength (contents_of entries) → AllByRecursion FitsContent entries
contents_fit [] numbers fits = tt
contents_fit (e ∷ entries) numbers fits = (content_fits e numbers.0 fits.0, contents_fit entries numbers.1 fits.1)

behind_fit : (before after : List (List ℕ)) → AllByRecursion HasLength (before ++ after) → AllByRecursion HasLength after
behind_fit [] after fits = fits
behind_fit (content ∷ before) after fits = behind_fit before after fits.1

-- those that came to wait
pub added_fit : (waiting added : List SessionEntry) → AllByRecursion FitsNumbers added → AllByRecursion HasLength (contents_of (waiting ++ added)) → AllByRecursion FitsContent added
added_fit waiting added numbers fits =
    contents_fit added numbers
    (behind_fit (contents_of waiting) (contents_of added) (subst (λ (l : List (List ℕ)). AllByRecursion HasLength l) (contents-append waiting added) fits))

-- one entry more of a session
pub numbers_next : (session i : ℕ) (entries : List Entry) (e : Entry) → i < length entries → e ≡ get_or entries i e → FitsNumbers (of_session session e)
    → AllByRecursion FitsNumbers (map (of_session session) (take i entries)) → AllByRecursion FitsNumbers (map (of_session session) (take (i + 1) entries))
numbers_next session i entries e within is fits numbers =
    subst (λ (l : List SessionEntry). AllByRecursion FitsNumbers l)
    (sym (map_behind session (take i entries) (e ∷ [])) ∙ ap (λ (l : List Entry). map (of_session session) l) (sym (take_next entries i e within is) ∙ ap (λ n. take n entries) (sym (add-one i))))
    (all-append FitsNumbers (map (of_session session) (take i entries)) (of_session session e ∷ []) numbers (fits, tt))
