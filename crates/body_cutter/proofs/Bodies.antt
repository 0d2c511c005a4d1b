-- What a text gives, in the words of the grammar.
use Rattle.std.proofs.Common.{◌≡◌, ◌∙◌, ◌≤◌, ℕ, Bool, true, false, ◌&&◌, List, [], length, refl, sym, ap, subst, arith}
use Rattle.std.specs.Prelude.{Option, None, Some, Result, Ok, Err, nat_lt, MatchResult, IfOk, IfErr, OnOk, if◌then◌else◌}
use Rattle.std.specs.Str.{is_utf8, IsUtf8}
use Rattle.std.proofs.lemmas.Bool.{ltb-true}
use Rattle.std.proofs.lemmas.Bool.Decides.{nat_tests}
use Rattle.std.proofs.lemmas.Str.{IsUtf8-from_is_utf8, is_utf8-from_IsUtf8}
use Rattle.body_cutter.specs.declared.place.Place.TheVariants.{Start, StanzaStart}
use Rattle.body_cutter.specs.declared.place.Wide.TheVariants.{Whole}
use Rattle.body_cutter.specs.declared.place.Kind.TheVariants as kinds
use Rattle.body_cutter.specs.declared.parts.Cut.{Cut}
use Rattle.body_cutter.specs.declared.parts.CutError.{CutError}
use Rattle.body_cutter.specs.declared.parts.CutError.TheVariants.{Memory, Refused}
use Rattle.body_cutter.specs.declared.parts.CutRefusal.{CutRefusal}
use Rattle.body_cutter.specs.declared.parts.CutRefusal.TheVariants.{TooLong, NotUtf8, NotBody, Forbidden, Malformed, TooManyAttributes, TooManyChildren, TooDeep}
use Rattle.body_cutter.specs.Chars.{ends_whole}
use Rattle.body_cutter.specs.Reader.{State, first_state}
use Rattle.body_cutter.specs.Refusal.{Reading, Ended, Stopped, reading, is_accepted, is_complete, is_before_body, read_answer, refusal_or, ended_refusal, stopped_refusal, text_answer, unit_answer, unit_result}
use Rattle.body_cutter.specs.Cutting.{Answers}
use Rattle.body_cutter.specs.Parts.{Parts, document_parts, single_parts}
use Rattle.body_cutter.specs.BodyText.{IsBodyText, IsElementText, HasBodyParts, HasElementParts, IsWithinLimits, IsBody, IsStanza, IsReadable, IsWrongAt, RefusalTells, Tells, limit_passed, cut_with, answer_of}
use Rattle.body_cutter.proofs.Stops.{never_on}
use Rattle.body_cutter.proofs.Control.{accepts}
use Rattle.body_cutter.proofs.Leads.{ctl, both}
use Rattle.body_cutter.proofs.Product.{splits}
use Rattle.body_cutter.proofs.Sound.{completes}
use Rattle.body_cutter.proofs.Readings.{body_is_read, stanza_is_read, body_reading, stanza_reading}

-- a reading from the start takes the text exactly where its bytes end whole characters and its control takes it
pub body_split : (text : List ℕ) → is_accepted (reading 0 (first_state kinds.Body Start) text) ≡ (ends_whole Whole text && accepts kinds.Body (ctl Start [] [] []) text)
unfolding first_state
body_split text = splits text 0 (first_state kinds.Body Start)

pub stanza_split : (text : List ℕ) → is_accepted (reading 0 (first_state kinds.Stanza StanzaStart) text) ≡ (ends_whole Whole text && accepts kinds.Stanza (ctl StanzaStart [] [] []) text)
unfolding first_state
stanza_split text = splits text 0 (first_state kinds.Stanza StanzaStart)

-- what it takes is in the grammar
pub body_read : (text : List ℕ) → IsUtf8 text → is_accepted (reading 0 (first_state kinds.Body Start) text) ≡ true → IsBodyText text
body_read text u h =
    let x = both (ends_whole Whole text) _ (sym (body_split text) ∙ h) in
    ((u, x.0), completes kinds.Body text (ctl Start [] [] []) x.1 refl refl)

pub stanza_read : (text : List ℕ) → IsUtf8 text → is_accepted (reading 0 (first_state kinds.Stanza StanzaStart) text) ≡ true → IsElementText text
stanza_read text u h =
    let x = both (ends_whole Whole text) _ (sym (stanza_split text) ∙ h) in
    ((u, x.0), completes kinds.Stanza text (ctl StanzaStart [] [] []) x.1 refl)

not_over : (limit n : ℕ) → nat_lt limit n ≡ false → n ≤ limit
not_over limit n e = grind (arith, nat_tests, e)

true_false : (b : Bool) → b ≡ true → b ≡ false → ⊥
true_false true e f = cc
true_false false e f = cc

module _ (P : List ℕ → Type 0) (Has : List ℕ → Parts → Type 0) (longest : ℕ) (text : List ℕ) (Cuts : Cut → Type 0) where
  -- what an answer tells
  abbrev pub AnswerTells : Result Cut CutRefusal → Type 0
  AnswerTells answer = MatchResult answer Cuts (λ refusal. RefusalTells P Has longest refusal text)

  limits_tell : (parts : Parts) (attributes children deep : Bool) → nat_lt 32 parts.most_attributes ≡ attributes → nat_lt 1024 (length parts.children) ≡ children → nat_lt 64 parts.depth ≡ deep →
      length text ≤ longest → Has text parts → (IsWithinLimits parts → Cuts (cut_with parts)) →
      AnswerTells (refusal_or (if attributes then Some TooManyAttributes else if children then Some TooManyChildren else if deep then Some TooDeep else None) (cut_with parts))
  limits_tell parts true children deep a c d within has cuts = (within, (parts, has, ltb-true 32 parts.most_attributes a))
  limits_tell parts false true deep a c d within has cuts = (within, (parts, has, (not_over 32 _ a, ltb-true 1024 (length parts.children) c)))
  limits_tell parts false false true a c d within has cuts = (within, (parts, has, (not_over 32 _ a, not_over 1024 _ c, ltb-true 64 parts.depth d)))
  limits_tell parts false false false a c d within has cuts = cuts (record { attributes = not_over 32 _ a; children = not_over 1024 _ c; depth = not_over 64 _ d })

  pub parts_tell : (parts : Parts) → length text ≤ longest → Has text parts → (IsWithinLimits parts → Cuts (cut_with parts)) → AnswerTells (answer_of parts)
  unfolding limit_passed
  parts_tell parts within has cuts = limits_tell parts (nat_lt 32 parts.most_attributes) (nat_lt 1024 (length parts.children)) (nat_lt 64 parts.depth) refl refl refl within has cuts

  stopped_tells : (at : ℕ) (before forbidden : Bool) → IsReadable longest text → (P text → ⊥) → IsWrongAt P at text → AnswerTells (Err (if before then NotBody else if forbidden then Forbidden at else Malformed at))
  stopped_tells at true forbidden readable never wrong = (readable, never)
  stopped_tells at false true readable never wrong = (readable, never, wrong)
  stopped_tells at false false readable never wrong = (readable, never, wrong)

  ended_tells : (before complete : Bool) (limits : Option CutRefusal) (cut : Cut) → complete ≡ false → IsReadable longest text → (P text → ⊥) →
      AnswerTells (refusal_or (if before then Some NotBody else if complete then limits else Some (Malformed (length text))) cut)
  ended_tells true complete limits cut e readable never = (readable, never)
  ended_tells false true limits cut e readable never = absurd (true_false true refl e)
  ended_tells false false limits cut e readable never = (readable, never, λ below. absurd (omega (arith, below)))

  pub read_tells : (start : State) (r : Reading) (t : Bool) → is_accepted r ≡ t → reading 0 start text ≡ r → IsReadable longest text → (is_accepted r ≡ true → AnswerTells (read_answer text r)) → ((t : List ℕ) → P t → is_accepted (reading 0 start t) ≡ true) → AnswerTells (read_answer text r)
  unfolding read_answer ended_refusal stopped_refusal
  read_tells start r true a e readable f g = f a
  read_tells start (Stopped at b s) false a e readable f g =
      stopped_tells at (is_before_body s.place) _ readable (λ p. true_false _ (g text p) (ap is_accepted e)) (λ _ more p. never_on text start at b s e more (g _ p))
  read_tells start (Ended s) false a e readable f g =
      ended_tells (is_before_body s.place) (is_complete s) _ _ a readable (λ p. true_false _ (g text p) (ap is_accepted e ∙ a))

  pub answer_tells : (long utf8 : Bool) (answer : Result Cut CutRefusal) → nat_lt longest (length text) ≡ long → is_utf8 text ≡ utf8 → (length text ≤ longest → utf8 ≡ true → AnswerTells answer) → AnswerTells (if long then Err TooLong else if utf8 then answer else Err NotUtf8)
  answer_tells true utf8 answer l u f = ltb-true longest (length text) l
  answer_tells false true answer l u f = f (not_over longest _ l) refl
  answer_tells false false answer l u f = (not_over longest _ l, λ is. true_false _ (is_utf8-from_IsUtf8 text is) u)

-- what the reading of a text of the grammar tells
body_accepted : (text : List ℕ) → length text ≤ 1048576 → IsBodyText text → AnswerTells IsBodyText HasBodyParts 1048576 text (IsBody text) (read_answer text (reading 0 (first_state kinds.Body Start) text))
body_accepted text within is =
    let parts = document_parts (length text) is.1 in
    let has : HasBodyParts text parts = (is.0, is.1, refl) in
    subst (λ (answer : Result Cut CutRefusal). AnswerTells IsBodyText HasBodyParts 1048576 text (IsBody text) answer) (sym (body_reading text parts has))
    (parts_tell IsBodyText HasBodyParts 1048576 text (IsBody text) parts within has (λ limits. (within, parts, has, limits, refl)))

stanza_accepted : (text : List ℕ) → length text ≤ 1000000 → IsElementText text → AnswerTells IsElementText HasElementParts 1000000 text (λ _. IsStanza text) (read_answer text (reading 0 (first_state kinds.Stanza StanzaStart) text))
stanza_accepted text within is =
    let parts = single_parts is.1 in
    let has : HasElementParts text parts = (is.0, is.1, refl) in
    subst (λ (answer : Result Cut CutRefusal). AnswerTells IsElementText HasElementParts 1000000 text (λ _. IsStanza text) answer) (sym (stanza_reading text parts has))
    (parts_tell IsElementText HasElementParts 1000000 text (λ _. IsStanza text) parts within has (λ limits. (within, parts, has, limits)))

-- what the answer for a body tells
pub body_tells : (text : List ℕ) → AnswerTells IsBodyText HasBodyParts 1048576 text (IsBody text) (text_answer kinds.Body Start 1048576 (is_utf8 text) text)
unfolding text_answer
body_tells text =
    answer_tells IsBodyText HasBodyParts 1048576 text (IsBody text) (nat_lt 1048576 (length text)) (is_utf8 text) _ refl refl
    (λ within u. let is = IsUtf8-from_is_utf8 text u in
    read_tells IsBodyText HasBodyParts 1048576 text (IsBody text) (first_state kinds.Body Start) _ _ refl refl (within, is)
    (λ accepted. body_accepted text within (body_read text is accepted)) body_is_read)

-- and for a stanza
pub stanza_tells : (text : List ℕ) → AnswerTells IsElementText HasElementParts 1000000 text (λ _. IsStanza text) (text_answer kinds.Stanza StanzaStart 1000000 (is_utf8 text) text)
unfolding text_answer
stanza_tells text =
    answer_tells IsElementText HasElementParts 1000000 text (λ _. IsStanza text) (nat_lt 1000000 (length text)) (is_utf8 text) _ refl refl
    (λ within u. let is = IsUtf8-from_is_utf8 text u in
    read_tells IsElementText HasElementParts 1000000 text (λ _. IsStanza text) (first_state kinds.Stanza StanzaStart) _ _ refl refl (within, is)
    (λ accepted. stanza_accepted text within (stanza_read text is accepted)) stanza_is_read)

module _ (P : List ℕ → Type 0) (Has : List ℕ → Parts → Type 0) (longest : ℕ) (text : List ℕ) (Cuts : Cut → Type 0) where
  -- what a call tells that gives this answer
  ok_tells : (cut : Cut) (answer : Result Cut CutRefusal) → answer ≡ Ok cut → AnswerTells P Has longest text Cuts answer → Cuts cut
  ok_tells cut answer e t = let Q : Result Cut CutRefusal → Type 0 = AnswerTells P Has longest text Cuts in subst Q e t

  err_tells : (e : CutError) (answer : Result Cut CutRefusal) → Answers {A = Cut} (Err e) answer → AnswerTells P Has longest text Cuts answer → Tells P Has longest e text
  err_tells Memory answer h t = tt
  err_tells (Refused refusal) answer h t = let Q : Result Cut CutRefusal → Type 0 = AnswerTells P Has longest text Cuts in subst Q h t

  pub result_cut : (r : Result Cut CutError) (answer : Result Cut CutRefusal) → Answers r answer → AnswerTells P Has longest text Cuts answer → IfOk r Cuts
  result_cut (Ok cut) answer h t = ok_tells cut answer h t
  result_cut (Err e) answer h t = tt

  pub result_refused : (r : Result Cut CutError) (answer : Result Cut CutRefusal) → Answers r answer → AnswerTells P Has longest text Cuts answer → IfErr r (λ e. Tells P Has longest e text)
  result_refused (Ok cut) answer h t = tt
  result_refused (Err e) answer h t = err_tells e answer h t

  pub unit_refused : (r : Result Cut CutError) → IfErr r (λ e. Tells P Has longest e text) → IfErr (unit_result r) (λ e. Tells P Has longest e text)
  unit_refused (Ok cut) h = tt
  unit_refused (Err e) h = h

-- the same answer without the parts
pub unit_answers : (r : Result Cut CutError) (answer : Result Cut CutRefusal) → Answers r answer → Answers (unit_result r) (unit_answer answer)
unit_answers (Ok cut) answer h = ap unit_answer h
unit_answers (Err Memory) answer h = tt
unit_answers (Err (Refused refusal)) answer h = ap unit_answer h

pub unit_stanza : (Q : Type 0) (r : Result Cut CutError) → IfOk r (λ _. Q) → OnOk (unit_result r) Q
unit_stanza Q (Ok cut) h = h
unit_stanza Q (Err e) h = tt
