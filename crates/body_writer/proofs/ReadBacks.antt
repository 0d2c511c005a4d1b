-- A text of sound attributes and payloads is cut into these.
use Rattle.std.proofs.Common.{◌≡◌, ◌∙◌, ℕ, ◌≤◌, true, List, [], ◌∷◌, ◌++◌, length, refl, sym, ap, subst, arith, append_assoc}
use Rattle.std.specs.Prelude.{map, codes}
use Rattle.std.specs.List.{All}
use Rattle.std.proofs.lemmas.List.{length-map}
use Rattle.std.proofs.lemmas.List.Elements.{All-head, All-tail, All-weaker}
use Rattle.body_cutter.specs.declared.parts.Attr.{Attr}
use Rattle.body_cutter.specs.declared.parts.Cut.{Cut}
use Rattle.body_cutter.specs.declared.parts.Span.{Span}
use Rattle.body_cutter.specs.BodyText.{IsText, cut_with, limit_passed}
use Rattle.body_cutter.specs.Parts.{Parts}
use Rattle.body_cutter.specs.Built.{Written, IsWritten, IsElementWithin, ReadsBack, built_text, closing, elements_text}
use Rattle.body_cutter.specs.Pieces.{bytes_at}
use Rattle.body_cutter.proofs.BuiltBodies.{reads_back}
use Rattle.body_cutter.proofs.Readings.{one_body}
use Rattle.body_writer.specs.Attribute.{closed_with, joined}
use Rattle.body_writer.specs.Rows.{rows_text}
use Rattle.body_writer.specs.ReadBack.{ArePayloads, IsCutInto, ReadsAs, longest}
use Rattle.body_writer.proofs.Texts.{text_append, texts_ascii}
use Rattle.body_writer.proofs.Fresh.{Among, among_count, are_distinct, fresh}
use Rattle.body_writer.proofs.Blocks.{Sound, Block, all_among, chain_text}
use Rattle.body_writer.proofs.RowsTexts.{rows_written}

-- payloads one after the other, and the end of the body
joined_elements : (payloads : List (List ℕ)) (rest : List ℕ) → joined payloads ++ rest ≡ elements_text payloads rest
joined_elements [] rest = refl
joined_elements (payload ∷ payloads) rest = append_assoc payload (joined payloads) rest ∙ ap (λ (t : List ℕ). payload ++ t) (joined_elements payloads rest)

closed : (payloads : List (List ℕ)) → closing payloads ≡ closed_with payloads
unfolding closed_with
closed [] = refl
closed (payload ∷ payloads) = sym (ap (λ (t : List ℕ). 62 ∷ t) (joined_elements (payload ∷ payloads) (codes "</body>")))

elements : (payloads : List (List ℕ)) (rest : List ℕ) → All (IsElementWithin 32 64) payloads → IsText rest → IsText (elements_text payloads rest)
elements [] rest are is = is
elements (payload ∷ payloads) rest are is =
    let one = All-head (IsElementWithin 32 64) payload payloads are in
    text_append payload _ one.1.0 (elements payloads rest (All-tail (IsElementWithin 32 64) payload payloads are) is)

closing_text : (payloads : List (List ℕ)) → All (IsElementWithin 32 64) payloads → IsText (closing payloads)
closing_text [] are = texts_ascii _ refl
closing_text (payload ∷ payloads) are = text_append (62 ∷ []) _ (texts_ascii (62 ∷ []) refl) (elements (payload ∷ payloads) (codes "</body>") are (texts_ascii _ refl))

-- what a text that reads back is cut into
cut_into : (text : List ℕ) (attributes : List Written) (payloads : List (List ℕ)) → ReadsBack text attributes payloads 32 64 → length payloads ≤ 1024 → length text ≤ longest → ReadsAs text attributes payloads
cut_into text attributes payloads back few short = (
  (cut_with back.parts, (short, back.parts, back.is, record { attributes = back.most_attributes; children = count; depth = back.depth_within }, refl)),
  λ cut (within, parts, has, limits, e). into cut parts e (one_body text parts back.parts has back.is),
)
  where
    count : length back.parts.children ≤ 1024
    count =
        let same : length (map (λ child. bytes_at text child) back.parts.children) ≡ length payloads = ap (λ (xs : List (List ℕ)). length xs) back.children in
        let mapped : length (map (λ child. bytes_at text child) back.parts.children) ≡ length back.parts.children = rw length-map refl in
        omega (arith, few, same, mapped)

    into : (cut : Cut) (parts : Parts) → cut ≡ cut_with parts → (parts.attributes ≡ back.parts.attributes) × (parts.children ≡ back.parts.children) × (limit_passed parts ≡ limit_passed back.parts) → IsCutInto text cut attributes payloads
    into cut parts e same = record {
      names = ap (λ (c : Cut). map (λ attribute. bytes_at text attribute.name) c.attrs) e ∙ ap (λ (xs : List Attr). map (λ attribute. bytes_at text attribute.name) xs) same.0 ∙ back.names;
      values = ap (λ (c : Cut). map (λ attribute. attribute.value) c.attrs) e ∙ ap (λ (xs : List Attr). map (λ attribute. attribute.value) xs) same.0 ∙ back.values;
      children_are = ap (λ (c : Cut). map (λ child. bytes_at text child) c.children) e ∙ ap (λ (xs : List Span). map (λ child. bytes_at text child) xs) same.1 ∙ back.children;
    }

reads_as : (attributes : List Written) (names : List (List ℕ)) (payloads : List (List ℕ)) → All Sound attributes → Among attributes names → are_distinct names ≡ true → length names ≤ 32 → ArePayloads payloads →
    length (built_text attributes payloads) ≤ longest → ReadsAs (built_text attributes payloads) attributes payloads
reads_as attributes names payloads sound among distinct few are short =
    let whole = text_append (codes "<body") _ (texts_ascii (codes "<body") refl) (chain_text attributes (closing payloads) sound (closing_text payloads are.0)) in
    cut_into (built_text attributes payloads) attributes payloads
    (reads_back 32 64 attributes payloads whole (All-weaker Sound IsWritten (λ a s. s.written) attributes sound) (fresh among distinct) (omega (arith, few, among_count among)) are.0)
    are.1 short

-- a body of these attributes and payloads
pub rows_built : (rows : List Written) (payloads : List (List ℕ)) → codes "<body" ++ rows_text rows ++ closed_with payloads ≡ built_text rows payloads
rows_built rows payloads =
    append_assoc (codes "<body") (rows_text rows) (closed_with payloads)
    ∙ ap (λ (t : List ℕ). codes "<body" ++ t) (ap (λ (t : List ℕ). rows_text rows ++ t) (sym (closed payloads)) ∙ sym (rows_written rows (closing payloads)))

pub rows_read : {Holds : Type 0} {rows : List Written} {names : List (List ℕ)} → Block Holds rows names → (payloads : List (List ℕ)) → Holds → are_distinct names ≡ true → length names ≤ 32 → ArePayloads payloads →
    length (codes "<body" ++ rows_text rows ++ closed_with payloads) ≤ longest → ReadsAs (codes "<body" ++ rows_text rows ++ closed_with payloads) rows payloads
rows_read {rows = rows} {names = names} all payloads holds distinct few are short =
    subst (λ (t : List ℕ). ReadsAs t rows payloads) (sym (rows_built rows payloads))
    (reads_as rows names payloads (all.sound holds) (all_among all) distinct few are (subst (λ (t : List ℕ). length t ≤ longest) (rows_built rows payloads) short))
