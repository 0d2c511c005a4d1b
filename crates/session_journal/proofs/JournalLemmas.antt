-- The journal that entries tell, with more entries after them.
use Rattle.std.proofs.Common.{◌≡◌, ℕ, List, [], ◌∷◌, ◌++◌, Option, Some, None, refl, sym, ◌∙◌, ap, ap₂}
use Rattle.std.specs.Prelude.{option_and_then}
use Rattle.body_cutter.specs.declared.parts.Cut.{Cut}
use Rattle.session_attrs.specs.declared.request.Request.{Request}
use Rattle.session_attrs.specs.Reading.{request_of}
use Rattle.session_attrs.specs.Values.{values_of}
use Rattle.session_core.specs.Journal as plain
use Rattle.session_core.specs.Journal.{Journal, IsReadFrom}
use Rattle.session_core.specs.declared.opening.Opening.{Opening}
use Rattle.session_journal.specs.declared.entry.Entry.{Entry}
use Rattle.session_journal.specs.Entries.{unrefused, request_in, opening_in, entry_in, all_of, entries_in, journal_in}
use Rattle.session_laws.specs.Growing.{with_later}

-- a body gives the request that is read from it
pub read_gives : (body : List ℕ) (request : Request) → IsReadFrom body request → request_in body ≡ Some request
read_gives body request read =
    ap (λ o. option_and_then (λ (cut : Cut). unrefused (request_of (values_of body cut.attrs) cut.children)) (unrefused o)) read.1
    ∙ ap unrefused read.2

-- both are there where the whole is
pub all_there : {X Y Z : Type 0} (join : X → Y → Z) (a : Option X) (b : Option Y) (z : Z) → all_of join a b ≡ Some z
    → (x : X) × (y : Y) × (a ≡ Some x) × (b ≡ Some y) × (z ≡ join x y)
all_there join None b z is = absurd (cc)
all_there join (Some x) None z is = absurd (cc)
all_there join (Some x) (Some y) z is = (x, y, refl, refl, cc)

abbrev pub consed : plain.Entry → List plain.Entry → List plain.Entry
consed first others = first ∷ others

pub entries_append : (es later : List Entry) (xs ys : List plain.Entry) → entries_in es ≡ Some xs → entries_in later ≡ Some ys
    → entries_in (es ++ later) ≡ Some (xs ++ ys)
entries_append [] later xs ys is there = there ∙ ap (λ l. Some (l ++ ys)) (nothing xs is)
  where
    nothing : (l : List plain.Entry) → ◌≡◌ {A = Option (List plain.Entry)} (Some []) (Some l) → [] ≡ l
    nothing l is = cc
entries_append (e ∷ es) later xs ys is there =
    let both = all_there consed (entry_in e) (entries_in es) xs is in
    ap₂ (all_of consed) both.2 (entries_append es later both.1 ys both.3 there) ∙ ap (λ l. Some (l ++ ys)) (sym both.4)

abbrev pub opened_with : Opening → List plain.Entry → Journal
opened_with opening later = record { opening = opening; entries = later }

-- more entries make the journal longer
pub journal_append : (log later : List Entry) (journal : Journal) (ys : List plain.Entry) → journal_in log ≡ Some journal → entries_in later ≡ Some ys
    → journal_in (log ++ later) ≡ Some (with_later journal ys)
journal_append [] later journal ys is there = absurd (cc)
journal_append (o ∷ es) later journal ys is there =
    let both = all_there opened_with (opening_in o.call) (entries_in es) journal is in
    ap₂ (all_of opened_with) both.2 (entries_append es later both.1 ys both.3 there) ∙ ap (λ (j : Journal). Some (with_later j ys)) (sym both.4)

-- one entry more
pub one_entry : (e : Entry) (x : plain.Entry) → entry_in e ≡ Some x → entries_in (e ∷ []) ≡ Some (x ∷ [])
one_entry e x is = ap (λ o. all_of consed o (Some [])) is

-- entries tell one journal
pub one_journal : (log : List Entry) (j k : Journal) → journal_in log ≡ Some j → journal_in log ≡ Some k → j ≡ k
one_journal log j k one other = cc
