-- The laws of the crates below on which those of a world rest.
use Rattle.std.proofs.Common.{◌≡◌, ◌↔◌, ℕ, ◌≤◌, true, List, [], ◌∷◌, length, map}
use Rattle.std.specs.Prelude.{Some, Ok, IsTrue, All}
use Rattle.body_cutter.specs.declared.parts.Cut.{Cut}
use Rattle.body_cutter.specs.BodyText.{IsBody, IsStanza}
use Rattle.body_cutter.specs.Cutting.{body_cut_of, is_stanza}
use Rattle.body_cutter.specs.Pieces.{bytes_at}
use Rattle.body_writer.specs.declared.answer.AnswerParts.{AnswerParts}
use Rattle.body_writer.specs.declared.request.RequestParts.{RequestParts}
use Rattle.body_writer.specs.Answer.{answer_text}
use Rattle.body_writer.specs.ReadBack.{IsAnswer, IsRequest}
use Rattle.body_writer.specs.Request.{request_text}
use Rattle.session_attrs.specs.Reading.{request_of}
use Rattle.session_attrs.specs.Values.{values_of}
use Rattle.session_core.specs.Journal.{Call as SessionCall, Entry, Journal, IsAllowed as MayCall, IsJournal, after_entry, entered_by, state_of}
use Rattle.session_core.specs.ReadBack.{IsInForm as IsRequestInForm, asked_by}
use Rattle.session_laws.specs.Growing.{with_later}
use Rattle.session_laws.specs.Laws.{KeptLaws}
use Rattle.bosh_client.specs.declared.setup.ClientSetup.{ClientSetup}
use Rattle.bosh_client.specs.AnswerReading.{answer_of}
use Rattle.bosh_client.specs.PlainClient.{PlainClient, deliverable}
use Rattle.bosh_client.specs.Promises.{Begins, Carries, HasForm, IsNamed}
use Rattle.bosh_client.specs.ReadBack.{IsInForm, told_of}
use Rattle.bosh_client.specs.Runs.{Call, IsAllowed, after, client_after}
use Rattle.bosh_client.specs.Setup.{is_setup}
use Rattle.bosh_client.specs.StandsFor.{AreFrom}

pub record Below : Type 0 where
  -- of sessions
  pub journals : (journal : Journal) → IsJournal journal → KeptLaws journal
  pub longer : (journal : Journal) (call : SessionCall) (entry : Entry) → IsJournal journal → MayCall call
      → entered_by (state_of journal) call ≡ Some entry.entered → IsJournal (with_later journal (entry ∷ []))
  pub state_is : (journal : Journal) (entry : Entry) → state_of (with_later journal (entry ∷ [])) ≡ after_entry (state_of journal) entry.entered
  -- of texts
  pub cuts : (text : List ℕ) (cut : Cut) → (body_cut_of text ≡ Ok cut) ↔ IsBody text cut
  pub stanzas : (text : List ℕ) → IsTrue (is_stanza text) ↔ IsStanza text
  pub request_body : (parts : RequestParts) → IsRequest parts → (cut : Cut) × IsBody (request_text parts) cut
  pub request_read : (parts : RequestParts) → IsRequest parts → IsRequestInForm parts parts.creation → (cut : Cut) → IsBody (request_text parts) cut
      → request_of (values_of (request_text parts) cut.attrs) cut.children ≡ Ok (asked_by parts cut.children)
  pub request_children : (parts : RequestParts) → IsRequest parts → (cut : Cut) → IsBody (request_text parts) cut
      → map (λ child. bytes_at (request_text parts) child) cut.children ≡ parts.payloads
  pub answer_read : (parts : AnswerParts) → IsAnswer parts → IsInForm parts → answer_of (answer_text parts) ≡ Ok (told_of parts)
  -- of clients
  pub ids : (setup : ClientSetup) (calls : List Call) → 1 ≤ setup.first → AreFrom (client_after setup calls).setup.first (client_after setup calls).requests
  pub forms : (setup : ClientSetup) (calls : List Call) → is_setup setup ≡ true → 1 ≤ setup.first → All IsAllowed calls → IsNamed (client_after setup calls)
      → All (λ request. HasForm setup request.parts) (client_after setup calls).requests
  pub carries : (setup : ClientSetup) (calls : List Call) → All Carries (client_after setup calls).requests
  pub tells : (setup : ClientSetup) (calls : List Call) → 1 ≤ setup.first
      → All (λ answer. answer_of answer.1.body ≡ Ok answer.1.tells) (client_after setup calls).answers
  pub handed : (setup : ClientSetup) (calls : List Call) → 1 ≤ setup.first
      → (client_after setup calls).handed_out ≤ length (deliverable (client_after setup calls))
  pub grows : (c : PlainClient) (calls : List Call) → Begins (deliverable c) (deliverable (after c calls))
