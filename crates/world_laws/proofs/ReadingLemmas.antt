-- What the client reads in the answers of a session: the stanzas that they took, or nothing.
use Rattle.std.proofs.Common.{◌≡◌, ℕ, ◌+◌, ◌<◌, ◌≤◌, ◌^◌, ◌==◌, ◌&&◌, true, not, List, [], ◌∷◌, length, map, inl, inr, ◌⊎◌, refl, sym, ◌∙◌, ap, arith, length-append, false, subst}
use Rattle.std.specs.Prelude.{⊤, None, Some, Option, Ok, IfSome, All, nat_le}
use Rattle.std.specs.Option.{unwrap_or}
use Rattle.std.specs.List.{list_any}
use Rattle.std.proofs.lemmas.Bool.{leb-true}
use Rattle.std.proofs.lemmas.List.Elements.{All-cons, All-head, All-nil, All-tail}
use Rattle.std.proofs.lemmas.List.Sums.{sum_by-cons}
use Rattle.bosh_types.specs.Limits.{longest_stanza}
use Rattle.bosh_types.specs.Rid.{IsRid, greatest_rid}
use Rattle.bosh_types.specs.declared.condition.Condition.{Condition}
use Rattle.bosh_types.specs.declared.ending.Closing.{Closing}
use Rattle.bosh_types.specs.declared.ending.Closing.TheVariants as closings
use Rattle.bosh_types.specs.declared.ending.Ending.{Ending}
use Rattle.bosh_types.specs.declared.ending.Ending.TheVariants as endings
use Rattle.body_cutter.specs.Built.{IsElementWithin}
use Rattle.body_writer.specs.declared.answer.AnswerKind.{AnswerKind}
use Rattle.body_writer.specs.declared.answer.AnswerKind.TheVariants.{Usual, Terminate, Error}
use Rattle.body_writer.specs.declared.answer.AnswerParts.{AnswerParts}
use Rattle.body_writer.specs.Answer.{answer_text}
use Rattle.body_writer.specs.Attribute.{joined}
use Rattle.body_writer.specs.ReadBack.{IsAnswer, IsWord}
use Rattle.session_core.specs.declared.outward.Front.{Front}
use Rattle.session_core.specs.declared.outward.Front.TheVariants.{OfClosing, OfStanzas}
use Rattle.session_core.specs.declared.outward.Outward.{Outward}
use Rattle.session_core.specs.declared.outward.Outward.TheVariants.{Close, Stanza}
use Rattle.session_core.specs.Answers.{fit_one_answer}
use Rattle.session_core.specs.Copy.{unnamed}
use Rattle.session_core.specs.Endings.{closing_condition, last_word, nothing, other_request, terminal, word_at_closing, word_for, word_if_breaker}
use Rattle.session_core.specs.Machine.{created_parts, first_answer}
use Rattle.session_core.specs.declared.opening.Opening.{Opening}
use Rattle.session_core.specs.Journal.{IsOpening}
use Rattle.session_core.specs.Outward.{is_close, items_in, lie_on_one, size_of, size_of_all, stanzas_in, stream_in}
use Rattle.session_core.specs.State.{Answered}
use Rattle.session_laws.proofs.Tests.{both_true, split}
use Rattle.bosh_client.specs.declared.replies.ClientEnd.{ClientEnd}
use Rattle.bosh_client.specs.declared.setup.ClientSetup.{ClientSetup}
use Rattle.bosh_client.specs.declared.told.Told.{Told}
use Rattle.bosh_client.specs.AnswerReading.{answer_of}
use Rattle.bosh_client.specs.Machine.{is_unknown}
use Rattle.bosh_client.specs.PlainClient.{stream_named}
use Rattle.bosh_client.specs.ReadBack.{IsInForm, end_in, naming_in, told_of}
use Rattle.bosh_client.specs.Setup.{is_setup}
use Rattle.world_laws.specs.Complete.{IsNoRefusal, TellsNoRefusal, is_refusal}
use Rattle.world_laws.specs.Sound.{IsOpenedBy}
use Rattle.world_laws.proofs.AnswerSizes.{answer_fits}
use Rattle.world_laws.proofs.Below.{Below}
use Rattle.world_laws.proofs.NameLemmas.{created_form, created_is, element, tells_same, terminal_form, terminal_is}
use Rattle.world_laws.proofs.ProperLemmas.{IsProper}
use Rattle.world_laws.proofs.ShapeLemmas.{Carrying, IsSaid, IsShaped, ShapedBy}
use Rattle.world_laws.proofs.TurnLemmas.{all_follow}

-- a stanza lies on this stream
abbrev pub LiesOn : ℕ → Outward → Type 0
LiesOn stream (Stanza other bytes) = other ≡ stream
LiesOn stream (Close other closing) = ⊤

-- the answer was written of these parts, which read back, and its payloads are the stanzas that it took, which lie on the stream that it says
pub record IsRead (bytes : List ℕ) (items : List Outward) : Type 0 where
  pub parts : AnswerParts
  pub bytes_are : bytes ≡ answer_text parts
  pub is : IsAnswer parts
  pub form : IsInForm parts
  pub payloads_are : parts.payloads ≡ stanzas_in items
  pub lie : All (LiesOn (unwrap_or parts.stream 0)) items
  pub no_refusal : IsNoRefusal parts.condition

-- it tells the stanzas among these, which lie on the stream that it says
pub record TellsItems (tells : Told) (items : List Outward) : Type 0 where
  pub payloads_are : tells.payloads ≡ stanzas_in items
  pub lie : All (LiesOn (stream_named tells.stream)) items

-- a closing is no refusal
closing_tells : (closing : Closing) → IsNoRefusal (closing_condition closing)
closing_tells closings.Plain = tt
closing_tells closings.RemoteConnectionFailed = refl
closing_tells closings.RemoteStreamError = refl
closing_tells closings.SystemShutdown = refl

end_tells : (kind : AnswerKind) (stream : Option ℕ) (condition : Option Condition) → IsNoRefusal condition → IfSome (end_in kind stream condition) (λ (e : ClientEnd). IsNoRefusal e.condition)
end_tells Usual stream condition none = tt
end_tells Terminate None condition none = none
end_tells Terminate (Some stream) condition none = tt
end_tells Error stream condition none = tt

-- What an answer carries.

stanzas_long : (items : List Outward) → length (joined (stanzas_in items)) ≡ size_of_all items
stanzas_long [] = refl
stanzas_long (Stanza stream bytes ∷ items) =
    omega (arith, length-append bytes (joined (stanzas_in items)), stanzas_long items, sum_by-cons size_of (Stanza stream bytes) items)
stanzas_long (Close stream closing ∷ items) = omega (arith, stanzas_long items, sum_by-cons size_of (Close stream closing) items)

stanzas_few : (items : List Outward) → length (stanzas_in items) ≤ length items
stanzas_few [] = omega arith
stanzas_few (Stanza stream bytes ∷ items) = omega (arith, stanzas_few items)
stanzas_few (Close stream closing ∷ items) = omega (arith, stanzas_few items)

stanza_elements : Below → (items : List Outward) → All IsProper items → All (IsElementWithin 32 64) (stanzas_in items)
stanza_elements below [] all = All-nil (IsElementWithin 32 64)
stanza_elements below (Stanza stream bytes ∷ items) all =
    All-cons (IsElementWithin 32 64) bytes (stanzas_in items) (element below bytes (All-head IsProper (Stanza stream bytes) items all))
    (stanza_elements below items (All-tail IsProper (Stanza stream bytes) items all))
stanza_elements below (Close stream closing ∷ items) all = stanza_elements below items (All-tail IsProper (Close stream closing) items all)

said_lies : (stream : ℕ) (item : Outward) → stream_in item ≡ stream → LiesOn stream item
said_lies stream (Stanza other bytes) is = is
said_lies stream (Close other closing) is = tt

short_items : (items : List Outward) → fit_one_answer items ≡ true → size_of_all items ≤ longest_stanza
short_items items fits = leb-true (size_of_all items) longest_stanza (both_true (not (list_any is_close items) && lie_on_one items) (nat_le (size_of_all items) longest_stanza) fits).1

said_stream : (stream : Option ℕ) → stream_named (naming_in stream) ≡ unwrap_or stream 0
said_stream None = refl
said_stream (Some stream) = refl

-- a body tells something, and its stream has a name that is known, if any
abbrev pub TellsNaming : List ℕ → Type 0
TellsNaming body = (tells : Told) × (answer_of body ≡ Ok tells) × (is_unknown tells.stream ≡ false)

known : (stream : Option ℕ) → is_unknown (naming_in stream) ≡ false
known None = refl
known (Some stream) = refl

pub greeting_lies : (greeting : List (List ℕ)) → All (LiesOn unnamed) (map (Stanza unnamed) greeting)
greeting_lies [] = All-nil (LiesOn unnamed)
greeting_lies (bytes ∷ greeting) = All-cons (LiesOn unnamed) (Stanza unnamed bytes) (map (Stanza unnamed) greeting) refl (greeting_lies greeting)

-- Each answer reads back.

module _ (below : Below) where
  -- an answer of this kind with these payloads
  carried_read : (first last answered moment : ℕ) (kind : AnswerKind) (condition : Option Condition) (payloads : List (List ℕ)) (items : List Outward) (bytes : List ℕ) → 1 ≤ first → last ≤ greatest_rid
      → answered ≤ greatest_rid → moment < 2 ^ 64 → All (IsElementWithin 32 64) payloads → length payloads ≤ 1024 → length (joined payloads) ≤ 1000000
      → payloads ≡ stanzas_in items → IsNoRefusal condition → (c : Carrying first last answered moment kind condition payloads bytes) → All (LiesOn (unwrap_or c.stream 0)) items → IsRead bytes items
  carried_read first last answered moment kind condition payloads items bytes some few given early elements count size are no_refusal c lie =
      let parts : AnswerParts = record { created = None; kind = kind; condition = condition; stream = c.stream; ack = c.ack; report = c.report; payloads = payloads } in
      let ack = ack_word c.ack c.acks in
      let report = report_words c.report c.reports in
      record {
        parts = parts;
        bytes_are = c.bytes_are;
        is = record {
          created = tt;
          stream = c.streams;
          ack = ack;
          report = report;
          payloads = (elements, count);
          fits = answer_fits parts (record { created = tt; stream = c.streams; ack = ack; report = report; payloads = size });
        };
        form = record { requests = tt; polling = tt; maxpause = tt; ack = ack_rid c.ack c.acks };
        payloads_are = are;
        lie = lie;
        no_refusal = no_refusal;
      }
    where
      ack_word : (ack : Option ℕ) → IfSome ack (λ rid. (first ≤ rid) × (rid ≤ last)) → IfSome ack IsWord
      ack_word None is = tt
      ack_word (Some rid) is = omega (arith, is.1, few)

      ack_rid : (ack : Option ℕ) → IfSome ack (λ rid. (first ≤ rid) × (rid ≤ last)) → IfSome ack IsRid
      ack_rid None is = tt
      ack_rid (Some rid) is = (omega (arith, is.0, some), omega (arith, is.1, few))

      report_words : (report : Option (ℕ × ℕ)) → IfSome report (λ r. (r.0 ≤ answered) × (r.1 ≤ moment)) → IfSome report (λ r. IsWord r.0 × IsWord r.1)
      report_words None is = tt
      report_words (Some r) is = (omega (arith, is.0, given), omega (arith, is.1, early))

  pub shaped_read : (first last answered : ℕ) (answer : Answered) → 1 ≤ first → last ≤ greatest_rid → answered ≤ greatest_rid → answer.moment < 2 ^ 64 → All IsProper (items_in answer.front)
      → IsShaped first last answered answer → IsRead answer.bytes (items_in answer.front)
  shaped_read first last answered answer some few given early proper shaped = by answer.front proper shaped
    where
      by : (front : Front) → All IsProper (items_in front) → ShapedBy first last answered answer.moment answer.bytes front → IsRead answer.bytes (items_in front)
      by (OfStanzas items) proper shaped =
          let size = short_items items shaped.fits in
          let stream = shaped.carries.stream in
          carried_read first last answered answer.moment Usual None (stanzas_in items) items answer.bytes some few given early (stanza_elements below items proper) (omega (arith, stanzas_few items, shaped.few))
          (omega (arith, stanzas_long items, size)) refl tt shaped.carries (all_follow (IsSaid stream) (LiesOn (unwrap_or stream 0)) items (λ item is. said_lies (unwrap_or stream 0) item is) shaped.said)
      by (OfClosing stream closing) proper shaped =
          carried_read first last answered answer.moment Terminate (closing_condition closing) [] (Close stream closing ∷ []) answer.bytes some few given early (All-nil (IsElementWithin 32 64)) (omega arith)
          (omega arith) refl (closing_tells closing) shaped (All-cons (LiesOn (unwrap_or shaped.stream 0)) (Close stream closing) [] tt (All-nil (LiesOn (unwrap_or shaped.stream 0))))

  greeting_stanzas : (greeting : List (List ℕ)) → greeting ≡ stanzas_in (map (Stanza unnamed) greeting)
  greeting_stanzas [] = refl
  greeting_stanzas (bytes ∷ greeting) = ap (λ (l : List (List ℕ)). bytes ∷ l) (greeting_stanzas greeting)

  -- the creation's too
  pub created_read : (setup : ClientSetup) → is_setup setup ≡ true → IsRid setup.first → (o : Opening) → IsOpening o → IsOpenedBy setup o
      → IsRead (first_answer o).bytes (items_in (first_answer o).front)
  created_read setup valid first o is by_client = record {
    parts = created_parts o;
    bytes_are = refl;
    is = created_is below setup valid first o is by_client;
    form = created_form below setup valid first o is by_client;
    payloads_are = greeting_stanzas o.greeting;
    lie = greeting_lies o.greeting;
    no_refusal = tt;
  }

  -- what the client reads there
  pub read_payloads : (bytes : List ℕ) (items : List Outward) → IsRead bytes items → (tells : Told) → answer_of bytes ≡ Ok tells → TellsItems tells items
  read_payloads bytes items r tells reads =
      let told = tells_same bytes r.parts tells reads r.bytes_are (below.answer_read r.parts r.is r.form) in
      let stream : stream_named tells.stream ≡ unwrap_or r.parts.stream 0 = ap (λ (t : Told). stream_named t.stream) told ∙ said_stream r.parts.stream in
      record {
        payloads_are = ap (λ (t : Told). t.payloads) told ∙ r.payloads_are;
        lie = subst (λ (n : ℕ). All (LiesOn n) items) (sym stream) r.lie;
      }

  -- Last words carry nothing.

  abbrev IsWordOnly : AnswerParts → Type 0
  IsWordOnly parts = (parts ≡ nothing) ⊎ ((condition : Option Condition) × (parts ≡ terminal condition) × IsNoRefusal condition)

  closing_word : (closing : Closing) → IsWordOnly (word_at_closing closing)
  closing_word closings.Plain = inl refl
  closing_word closings.RemoteConnectionFailed = inr (_, refl, refl)
  closing_word closings.RemoteStreamError = inr (_, refl, refl)
  closing_word closings.SystemShutdown = inr (_, refl, refl)

  breaker_word : (breaker id : ℕ) (condition : Condition) → is_refusal condition ≡ false → IsWordOnly (word_if_breaker breaker id condition)
  breaker_word breaker id condition none = split IsWordOnly (id == breaker) (terminal (Some condition)) other_request (λ _. inr (Some condition, refl, none)) (λ _. inr (_, refl, refl))

  word_only : (answered : ℕ) (ending : Ending) (id : ℕ) → IsWordOnly (word_for answered ending id)
  word_only answered (endings.Terminated rid) id = split IsWordOnly (id == answered + 1) (terminal None) nothing (λ _. inr (None, refl, tt)) (λ _. inl refl)
  word_only answered (endings.Stale rid lowest) id = inr (_, refl, refl)
  word_only answered (endings.Above rid last requests) id = inr (_, refl, refl)
  word_only answered (endings.WrongKey rid) id = breaker_word rid id _ refl
  word_only answered (endings.UnknownStream rid) id = breaker_word rid id _ refl
  word_only answered (endings.PauseTooLong rid pause maxpause) id = breaker_word rid id _ refl
  word_only answered (endings.Overactive rid apart) id = breaker_word rid id _ refl
  word_only answered (endings.Silent since now) id = inr (_, refl, refl)
  word_only answered (endings.Closed closing rid) id = closing_word closing
  word_only answered (endings.JournalFull counted cost) id = inr (_, refl, refl)

  nothing_is : IsAnswer nothing
  nothing_is = record {
    created = tt;
    stream = tt;
    ack = tt;
    report = tt;
    payloads = (All-nil (IsElementWithin 32 64), omega arith);
    fits = answer_fits nothing (record { created = tt; stream = tt; ack = tt; report = tt; payloads = omega arith });
  }

  nothing_form : IsInForm nothing
  nothing_form = record { requests = tt; polling = tt; maxpause = tt; ack = tt }

  pub word_payloads : (answered : ℕ) (ending : Ending) (id : ℕ) (tells : Told) → answer_of (last_word answered ending id) ≡ Ok tells → tells.payloads ≡ []
  word_payloads answered ending id tells reads = elim (word_only answered ending id) [
    | inl is ↦ ap (λ (t : Told). t.payloads) (tells_same (last_word answered ending id) nothing tells reads (ap answer_text is) (below.answer_read nothing nothing_is nothing_form))
    | inr is ↦ ap (λ (t : Told). t.payloads)
        (tells_same (last_word answered ending id) (terminal is.0) tells reads (ap answer_text is.1) (below.answer_read (terminal is.0) (terminal_is is.0) (terminal_form is.0)))
  ]

  -- nothing that a session writes refuses a request
  pub read_refuses_not : (bytes : List ℕ) (items : List Outward) → IsRead bytes items → (tells : Told) → answer_of bytes ≡ Ok tells → TellsNoRefusal tells
  read_refuses_not bytes items r tells reads =
      subst TellsNoRefusal (sym (tells_same bytes r.parts tells reads r.bytes_are (below.answer_read r.parts r.is r.form))) (end_tells r.parts.kind r.parts.stream r.parts.condition r.no_refusal)

  pub terminal_refuses_not : (condition : Option Condition) → IsNoRefusal condition → (body : List ℕ) → body ≡ answer_text (terminal condition) → (tells : Told) → answer_of body ≡ Ok tells → TellsNoRefusal tells
  terminal_refuses_not condition none body is tells reads =
      subst TellsNoRefusal (sym (tells_same body (terminal condition) tells reads is (below.answer_read (terminal condition) (terminal_is condition) (terminal_form condition)))) none

  pub word_refuses_not : (answered : ℕ) (ending : Ending) (id : ℕ) (tells : Told) → answer_of (last_word answered ending id) ≡ Ok tells → TellsNoRefusal tells
  word_refuses_not answered ending id tells reads = elim (word_only answered ending id) [
    | inl is ↦ subst TellsNoRefusal (sym (tells_same (last_word answered ending id) nothing tells reads (ap answer_text is) (below.answer_read nothing nothing_is nothing_form))) tt
    | inr is ↦ terminal_refuses_not is.0 is.2 (last_word answered ending id) (ap answer_text is.1) tells reads
  ]

  -- a terminal answer ends the client
  pub terminal_ends : (condition : Option Condition) (tells : Told) → answer_of (answer_text (terminal condition)) ≡ Ok tells → tells.end ≡ None → ⊥
  terminal_ends condition tells reads on =
      let told = tells_same (answer_text (terminal condition)) (terminal condition) tells reads refl (below.answer_read (terminal condition) (terminal_is condition) (terminal_form condition)) in
      let end : end_in Terminate None condition ≡ None = sym (ap (λ (t : Told). t.end) told) ∙ on in
      cc

  -- whatever a session writes tells the client something, and names none but a stream that a session may have
  pub read_tells : (bytes : List ℕ) (items : List Outward) → IsRead bytes items → TellsNaming bytes
  read_tells bytes items r = (told_of r.parts, ap answer_of r.bytes_are ∙ below.answer_read r.parts r.is r.form, known r.parts.stream)

  pub word_tells : (answered : ℕ) (ending : Ending) (id : ℕ) → TellsNaming (last_word answered ending id)
  word_tells answered ending id = elim (word_only answered ending id) [
    | inl is ↦ (told_of nothing, ap (λ (p : AnswerParts). answer_of (answer_text p)) is ∙ below.answer_read nothing nothing_is nothing_form, refl)
    | inr is ↦ (told_of (terminal is.0), ap (λ (p : AnswerParts). answer_of (answer_text p)) is.1 ∙ below.answer_read (terminal is.0) (terminal_is is.0) (terminal_form is.0), refl)
  ]
