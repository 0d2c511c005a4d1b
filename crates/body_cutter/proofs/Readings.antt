-- A text of the grammar is read, and gives what the grammar says.
use Rattle.std.proofs.Common.{◌≡◌, ◌∙◌, ◌≤◌, ℕ, true, false, List, length, refl, sym, ap, subst, arith}
use Rattle.std.specs.Prelude.{Some}
use Rattle.std.specs.Str.{is_utf8}
use Rattle.std.proofs.lemmas.Str.{is_utf8-from_IsUtf8}
use Rattle.body_cutter.specs.declared.place.Place.{Place}
use Rattle.body_cutter.specs.declared.place.Place.TheVariants.{Start, StanzaStart, Content as InContent}
use Rattle.body_cutter.specs.declared.place.Wide.TheVariants.{Whole}
use Rattle.body_cutter.specs.declared.place.Kind.TheVariants as kinds
use Rattle.body_cutter.specs.Chars.{ends_whole}
use Rattle.body_cutter.specs.Reader.{State, first_state}
use Rattle.body_cutter.specs.Refusal.{Ended, reading, is_accepted, is_complete, is_before_body, is_content, read_answer, ended_refusal, limit_refusal, text_answer}
use Rattle.body_cutter.specs.Grammar.{Document, Single}
use Rattle.body_cutter.specs.Parts.{Parts}
use Rattle.body_cutter.specs.BodyText.{IsBodyText, IsElementText, HasBodyParts, HasElementParts, limit_passed, answer_of}
use Rattle.body_cutter.proofs.Leads.{both}
use Rattle.body_cutter.proofs.ReadingLemmas.{text_within}
use Rattle.body_cutter.proofs.Flow.{Kept, kept_of, flow}
use Rattle.body_cutter.proofs.Runs.{ReadsAs, reads, whole}
use Rattle.body_cutter.proofs.TakenDocument.{document_kept, document_taken, single_kept, single_taken}
use Rattle.body_cutter.proofs.PartsKept.{IsKept, document_is, single_is}

document_flows : (text : List ℕ) (d : Document text) → flow (length text) (whole (first_state kinds.Body Start)) text ≡ Some (document_kept (length text) d)
unfolding first_state
document_flows text d = (document_taken (length text) d).is (omega arith)

single_flows : (text : List ℕ) (x : Single text) → flow (length text) (whole (first_state kinds.Stanza StanzaStart)) text ≡ Some (single_kept (length text) x)
unfolding first_state
single_flows text x = (single_taken (length text) x).is (omega arith)

document_reads : (text : List ℕ) (d : Document text) → ends_whole Whole text ≡ true → ReadsAs 0 (first_state kinds.Body Start) text (document_kept (length text) d)
unfolding first_state
document_reads text d w = reads (length text) text _ 0 (first_state kinds.Body Start) (omega arith) w (document_flows text d)

single_reads : (text : List ℕ) (x : Single text) → ends_whole Whole text ≡ true → ReadsAs 0 (first_state kinds.Stanza StanzaStart) text (single_kept (length text) x)
unfolding first_state
single_reads text x w = reads (length text) text _ 0 (first_state kinds.Stanza StanzaStart) (omega arith) w (single_flows text x)

-- what is in the grammar is read to its end
pub body_is_read : (text : List ℕ) → IsBodyText text → is_accepted (reading 0 (first_state kinds.Body Start) text) ≡ true
body_is_read text h = let r = document_reads text h.1 h.0.1 in ap is_accepted r.is ∙ r.complete

pub stanza_is_read : (text : List ℕ) → IsElementText text → is_accepted (reading 0 (first_state kinds.Stanza StanzaStart) text) ≡ true
stanza_is_read text h = let r = single_reads text h.1 h.0.1 in ap is_accepted r.is ∙ r.complete

content_is_late : (place : Place) → is_content place ≡ true → is_before_body place ≡ false
unfolding is_before_body
content_is_late (InContent count) h = refl
content_is_late _ h = absurd (cc)

kept_answer : (text : List ℕ) (end : State) (p : Parts) → is_complete end ≡ true → IsKept (kept_of end) p → read_answer text (Ended end) ≡ answer_of p
unfolding read_answer ended_refusal limit_refusal is_complete limit_passed
kept_answer text end p c k = rw (content_is_late end.place (both (is_content end.place) _ c).0, c, k.attrs, k.children, k.too_many_attributes, k.too_deep) refl

reads_answer : (text : List ℕ) (start : State) (k : Kept) (p : Parts) → ReadsAs 0 start text k → IsKept k p → read_answer text (reading 0 start text) ≡ answer_of p
reads_answer text start k p r h = ap (read_answer text) r.is ∙ kept_answer text r.end p r.complete (subst (λ (x : Kept). IsKept x p) (sym r.kept) h)

-- the reading of a body's text gives its parts, or the first limit that they pass
pub body_reading : (text : List ℕ) (parts : Parts) → HasBodyParts text parts → read_answer text (reading 0 (first_state kinds.Body Start) text) ≡ answer_of parts
body_reading text parts h = reads_answer text (first_state kinds.Body Start) _ parts (document_reads text h.1 h.0.1) (subst (λ (p : Parts). IsKept (document_kept (length text) h.1) p) h.2 (document_is (length text) h.1))

pub stanza_reading : (text : List ℕ) (parts : Parts) → HasElementParts text parts → read_answer text (reading 0 (first_state kinds.Stanza StanzaStart) text) ≡ answer_of parts
stanza_reading text parts h = reads_answer text (first_state kinds.Stanza StanzaStart) _ parts (single_reads text h.1 h.0.1) (subst (λ (p : Parts). IsKept (single_kept (length text) h.1) p) h.2 (single_is (length text) h.1))

-- and so does the whole answer
pub body_answer : (text : List ℕ) (parts : Parts) → HasBodyParts text parts → length text ≤ 1048576 → text_answer kinds.Body Start 1048576 (is_utf8 text) text ≡ answer_of parts
body_answer text parts h within = text_within kinds.Body Start 1048576 (is_utf8 text) text (answer_of parts) within (is_utf8-from_IsUtf8 text h.0.0) (body_reading text parts h)

pub stanza_answer : (text : List ℕ) (parts : Parts) → HasElementParts text parts → length text ≤ 1000000 → text_answer kinds.Stanza StanzaStart 1000000 (is_utf8 text) text ≡ answer_of parts
stanza_answer text parts h within = text_within kinds.Stanza StanzaStart 1000000 (is_utf8 text) text (answer_of parts) within (is_utf8-from_IsUtf8 text h.0.0) (stanza_reading text parts h)

-- what is kept of a text is one thing
same_kept : (k l : Kept) (p q : Parts) → k ≡ l → IsKept k p → IsKept l q → (p.attributes ≡ q.attributes) × (p.children ≡ q.children) × (limit_passed p ≡ limit_passed q)
unfolding limit_passed
same_kept k l p q e h g =
    let attrs = sym h.attrs ∙ ap (λ (x : Kept). x.attrs) e ∙ g.attrs in
    let children = sym h.children ∙ ap (λ (x : Kept). x.children) e ∙ g.children in
    let many = sym h.too_many_attributes ∙ ap (λ (x : Kept). x.too_many_attributes) e ∙ g.too_many_attributes in
    let deep = sym h.too_deep ∙ ap (λ (x : Kept). x.too_deep) e ∙ g.too_deep in
    (attrs, children, rw (many, children, deep) refl)

some_same : {k l : Kept} → Some k ≡ Some l → k ≡ l
some_same e = cc

pub one_body : (text : List ℕ) (p q : Parts) → HasBodyParts text p → HasBodyParts text q → (p.attributes ≡ q.attributes) × (p.children ≡ q.children) × (limit_passed p ≡ limit_passed q)
one_body text p q h g =
    same_kept (document_kept (length text) h.1) (document_kept (length text) g.1) p q (some_same (sym (document_flows text h.1) ∙ document_flows text g.1))
    (subst (λ (x : Parts). IsKept (document_kept (length text) h.1) x) h.2 (document_is (length text) h.1))
    (subst (λ (x : Parts). IsKept (document_kept (length text) g.1) x) g.2 (document_is (length text) g.1))

pub one_element : (text : List ℕ) (p q : Parts) → HasElementParts text p → HasElementParts text q → limit_passed p ≡ limit_passed q
one_element text p q h g =
    let same = same_kept (single_kept (length text) h.1) (single_kept (length text) g.1) p q (some_same (sym (single_flows text h.1) ∙ single_flows text g.1))
    (subst (λ (x : Parts). IsKept (single_kept (length text) h.1) x) h.2 (single_is (length text) h.1))
    (subst (λ (x : Parts). IsKept (single_kept (length text) g.1) x) g.2 (single_is (length text) g.1)) in
    same.2
