-- The rows of the table for bodies and for stanzas.
use Rattle.std.proofs.Common.{◌≡◌, true, false, List, [], ℕ, length, refl, inl, inr}
use Rattle.std.specs.Prelude.{◌↔◌, Result, Ok, Err, nat_lt, IfErr}
use Rattle.std.specs.Str.{is_utf8}
use Rattle.body_cutter.specs.declared.place.Place.TheVariants.{Start, StanzaStart}
use Rattle.body_cutter.specs.declared.place.Kind.TheVariants as kinds
use Rattle.body_cutter.specs.declared.parts.Cut.{Cut}
use Rattle.body_cutter.specs.declared.parts.CutError.{CutError}
use Rattle.body_cutter.specs.declared.parts.CutError.TheVariants.{Memory, Refused}
use Rattle.body_cutter.specs.declared.parts.CutRefusal.{CutRefusal}
use Rattle.body_cutter.specs.Reader.{State, first_state}
use Rattle.body_cutter.specs.Refusal.{Ended, reading, text_answer, is_before_body, is_forbidden, unit_result}
use Rattle.body_cutter.specs.Cutting.{Answers}
use Rattle.body_cutter.specs.BodyText.{IsBodyText, IsElementText}
use Rattle.body_cutter.specs.Viable.{NamesBody, Anything, IsForbiddenAfter, Row, TellsRow, is_for_place}
use Rattle.body_cutter.proofs.Leads.{ctl}
use Rattle.body_cutter.proofs.Readings.{body_is_read, stanza_is_read}
use Rattle.body_cutter.proofs.CompletionViable.{body_completed, stanza_completed}
use Rattle.body_cutter.proofs.CompletionNamed.{body_lands, stanza_lands, body_runs, stanza_runs}
use Rattle.body_cutter.proofs.CompletionForbidden.{forbidden_is}
use Rattle.body_cutter.proofs.CompletionRows.{answer_rowed}

body_forbids : (front : List ℕ) (s : State) (b : ℕ) → reading 0 (first_state kinds.Body Start) front ≡ Ended s → is_before_body s.place ≡ false → (is_forbidden front s b ≡ true) ↔ IsForbiddenAfter NamesBody front b
body_forbids front s b h l =
    forbidden_is kinds.Body (ctl Start [] [] []) (record { names = tt; name = refl; under = tt; quote = tt }) (inl refl) NamesBody body_lands front s b (body_runs front s h) l

pub stanza_forbids : (front : List ℕ) (s : State) (b : ℕ) → reading 0 (first_state kinds.Stanza StanzaStart) front ≡ Ended s → is_before_body s.place ≡ false → (is_forbidden front s b ≡ true) ↔ IsForbiddenAfter Anything front b
stanza_forbids front s b h l =
    forbidden_is kinds.Stanza (ctl StanzaStart [] [] []) (record { names = tt; name = refl; under = tt; quote = tt }) (inr refl) Anything stanza_lands front s b (stanza_runs front s h) l

-- a refusal for its place stands in its row
pub body_row : (text : List ℕ) (refusal : CutRefusal) → text_answer kinds.Body Start 1048576 (is_utf8 text) text ≡ Err refusal → is_for_place refusal ≡ true → Row IsBodyText NamesBody text refusal
unfolding text_answer
body_row text =
    answer_rowed IsBodyText NamesBody (first_state kinds.Body Start) body_is_read body_completed
    (λ front s h. body_lands front _ (body_runs front s h)) body_forbids text (nat_lt 1048576 (length text)) (is_utf8 text)

pub stanza_row : (text : List ℕ) (refusal : CutRefusal) → text_answer kinds.Stanza StanzaStart 1000000 (is_utf8 text) text ≡ Err refusal → is_for_place refusal ≡ true → Row IsElementText Anything text refusal
unfolding text_answer
stanza_row text =
    answer_rowed IsElementText Anything (first_state kinds.Stanza StanzaStart) stanza_is_read stanza_completed
    (λ front s h. stanza_lands front _ (stanza_runs front s h)) stanza_forbids text (nat_lt 1000000 (length text)) (is_utf8 text)

-- what a call tells that gives this answer
module _ (P Fits : List ℕ → Type 0) (text : List ℕ) where
  pub result_row : (r : Result Cut CutError) (answer : Result Cut CutRefusal) → Answers r answer → ((refusal : CutRefusal) → answer ≡ Err refusal → is_for_place refusal ≡ true → Row P Fits text refusal) → IfErr r (λ e. TellsRow P Fits e text)
  result_row (Ok cut) answer h f = tt
  result_row (Err Memory) answer h f = tt
  result_row (Err (Refused refusal)) answer h f = f refusal h

  pub unit_row : (r : Result Cut CutError) → IfErr r (λ e. TellsRow P Fits e text) → IfErr (unit_result r) (λ e. TellsRow P Fits e text)
  unit_row (Ok cut) h = tt
  unit_row (Err e) h = h
