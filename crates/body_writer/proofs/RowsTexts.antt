-- Rows one after the other, as texts.
use Rattle.std.proofs.Common.{◌≡◌, ◌∙◌, ℕ, List, [], ◌∷◌, ◌++◌, refl, sym, ap, append_assoc, append-nil}
use Rattle.std.specs.Prelude.{codes}
use Rattle.body_cutter.specs.Built.{Written, attributes_text}
use Rattle.body_writer.specs.Attribute.{attribute}
use Rattle.body_writer.specs.Rows.{rows_text}

pub rows_append : (rows more : List Written) → rows_text (rows ++ more) ≡ rows_text rows ++ rows_text more
rows_append [] more = refl
rows_append (a ∷ rows) more =
    ap (λ (t : List ℕ). attribute a.name a.spelling ++ t) (rows_append rows more)
    ∙ sym (append_assoc (attribute a.name a.spelling) (rows_text rows) (rows_text more))

-- a body up to the end of these rows
pub record Begun (rows : List Written) (text : List ℕ) : Type 0 where
  pub is : codes "<body" ++ rows_text rows ≡ text

pub begun : (rows : List Written) → Begun rows (codes "<body" ++ rows_text rows)
begun rows = record { is = refl }

-- more rows after it
pub after : {rows : List Written} {text : List ℕ} → Begun rows text → (more : List Written) → Begun (rows ++ more) (text ++ rows_text more)
after {rows = rows} {text = text} body more = record {
  is =
      ap (λ (t : List ℕ). codes "<body" ++ t) (rows_append rows more)
      ∙ sym (append_assoc (codes "<body") (rows_text rows) (rows_text more))
      ∙ ap (λ (t : List ℕ). t ++ rows_text more) body.is;
}

-- one row after it
pub after_one : {rows : List Written} {text : List ℕ} → Begun rows text → (row : Written) → Begun (rows ++ row ∷ []) (text ++ attribute row.name row.spelling)
after_one {rows = rows} {text = text} body row = record { is = (after body (row ∷ [])).is ∙ ap (λ (t : List ℕ). text ++ t) (append-nil (attribute row.name row.spelling)) }

row_written : (name spelling more : List ℕ) → 32 ∷ (name ++ (61 ∷ 39 ∷ (spelling ++ (39 ∷ more)))) ≡ attribute name spelling ++ more
unfolding attribute
row_written name spelling more =
    sym (append_assoc (32 ∷ name ++ 61 ∷ 39 ∷ [] ++ spelling) (39 ∷ []) more
    ∙ append_assoc (32 ∷ name ++ 61 ∷ 39 ∷ []) spelling (39 ∷ more)
    ∙ append_assoc (32 ∷ name) (61 ∷ 39 ∷ []) (spelling ++ 39 ∷ more))

pub rows_written : (rows : List Written) (rest : List ℕ) → attributes_text rows rest ≡ rows_text rows ++ rest
rows_written [] rest = refl
rows_written (a ∷ rows) rest =
    row_written a.name a.spelling (attributes_text rows rest)
    ∙ ap (λ (t : List ℕ). attribute a.name a.spelling ++ t) (rows_written rows rest)
    ∙ sym (append_assoc (attribute a.name a.spelling) (rows_text rows) rest)
