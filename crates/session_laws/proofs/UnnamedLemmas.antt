-- Of a session to which no stream was added no answer but the creation's names one.
use Rattle.std.proofs.Common.{◌≡◌, ℕ, ◌<◌, ◌≤◌, All, true, false, List, [], ◌∷◌, ◌++◌, Option, Some, None, length, slice_get, refl, sym, ◌∙◌, ap, arith, subst, inl, inr}
use Rattle.std.proofs.lemmas.Bool.{ltb-true}
use Rattle.std.proofs.lemmas.Option.{get_or_from_slice_get}
use Rattle.bosh_types.specs.declared.ending.Closing.{Closing}
use Rattle.session_core.specs.declared.outward.Front.{Front}
use Rattle.session_core.specs.declared.outward.Front.TheVariants.{OfStanzas, OfClosing}
use Rattle.session_core.specs.declared.outward.Outward.{Outward}
use Rattle.session_core.specs.declared.outward.Outward.TheVariants.{Stanza, Close}
use Rattle.session_core.specs.Answers.{answer_parts, front_for, front_of}
use Rattle.session_core.specs.Copy.{is_prompt}
use Rattle.session_core.specs.Journal.{Journal, IsJournal, state_of}
use Rattle.session_core.specs.Outward.{stream_in}
use Rattle.session_core.specs.Processed.{Processed}
use Rattle.session_core.specs.State.{PlainSession, Answered, answers, opened_in, taken_by_answers, waiting}
use Rattle.session_laws.specs.Answering.{WasGiven}
use Rattle.session_laws.specs.Streams.{AddNone, NamesStream}
use Rattle.session_laws.proofs.AloneLemmas.{opened_alone, opens_none}
use Rattle.session_laws.proofs.GivenStreams.{IsOn, every_given_on, opened_grows}
use Rattle.session_laws.proofs.Lists.{get_append, get_drop, get_within}
use Rattle.session_laws.proofs.NamedLemmas.{names_both}
use Rattle.session_laws.proofs.OpenStreams.{open_is, open_parts}
use Rattle.session_laws.proofs.RunAtEnd.{every_ruled}
use Rattle.session_laws.proofs.ServedLemmas.{answered_copy}
use Rattle.session_laws.proofs.Tests.{none_some, split, which}

-- a closing that is taken was the first that waited
closing_waits : (items : List Outward) (stream : ℕ) (closing : Closing) → front_of items ≡ OfClosing stream closing → (later : List Outward) × (items ≡ Close stream closing ∷ later)
closing_waits [] stream closing is = absurd (other [] stream closing is)
  where
    other : (taken : List Outward) (stream : ℕ) (closing : Closing) → OfStanzas taken ≡ OfClosing stream closing → ⊥
    other taken stream closing is = cc
closing_waits (Close first told ∷ items) stream closing is = (items, same first stream told closing is)
  where
    same : (a b : ℕ) (c d : Closing) → OfClosing a c ≡ OfClosing b d → Close a c ∷ items ≡ Close b d ∷ items
    same a b c d is = cc
closing_waits (Stanza first bytes ∷ items) stream closing is = absurd (other _ stream closing is)
  where
    other : (taken : List Outward) (stream : ℕ) (closing : Closing) → OfStanzas taken ≡ OfClosing stream closing → ⊥
    other taken stream closing is = cc

pub front_closing : (s : PlainSession) (one : Processed) (stream : ℕ) (closing : Closing) → front_for s one ≡ OfClosing stream closing → (later : List Outward) × (waiting s ≡ Close stream closing ∷ later)
front_closing s one stream closing = split (λ (front : Front). front ≡ OfClosing stream closing → (later : List Outward) × (waiting s ≡ Close stream closing ∷ later)) (is_prompt one.copy) (OfStanzas []) (front_of (waiting s))
    (λ prompt is. absurd (other stream closing is))
    (λ usual is. closing_waits (waiting s) stream closing is)
  where
    other : (stream : ℕ) (closing : Closing) → OfStanzas [] ≡ OfClosing stream closing → ⊥
    other stream closing is = cc

module _ (journal : Journal) (made : IsJournal journal) (none : AddNone (state_of journal).processed) (k : ℕ) (answer : Answered) (at : slice_get (state_of journal).answered k ≡ Some answer) (given : WasGiven (state_of journal) k answer) where
  abbrev s : PlainSession
  s = state_of journal

  one_opened : opened_in s.processed ≡ 1
  one_opened = opened_alone s.processed (λ j one there. opens_none journal (every_ruled journal made).0 none j one there)

  opened_then : opened_in (given.earlier).processed ≤ 1
  opened_then = omega (arith, one_opened, opened_grows (given.earlier).processed s.processed given.processed)

  oldest_none : (given.oldest).opened ≡ None
  oldest_none =
      let there = answered_copy s k answer given (omega (arith, get_within s.answered k answer at)) in
      opens_none journal (every_ruled journal made).0 none k given.oldest there

  -- a stream that was given something is the first
  given_first : (n : ℕ) (item : Outward) → slice_get (given.earlier).given n ≡ Some item → stream_in item ≡ 0
  given_first n item there =
      let here : slice_get s.given n ≡ Some item = ap (λ (l : List Outward). slice_get l n) (given.given).1 ∙ get_append (given.earlier).given (given.given).0 n item there in
      let on : IsOn (opened_in s.processed) item =
      subst (IsOn (opened_in s.processed)) (get_or_from_slice_get s.given n item item here) (every_given_on journal made n item (get_within s.given n item here)) in
      omega (arith, on.below, one_opened)

  names_none_of : (front : Front) → front_for given.earlier given.oldest ≡ front → (stream : ℕ) → NamesStream given.earlier given.oldest front stream → ⊥
  names_none_of (OfStanzas items) taken stream names = elim names [
    | inl opened ↦ none_some (given.oldest).opened stream oldest_none opened
    | inr more ↦ absurd (omega (arith, more.1, opened_then))
  ]
  names_none_of (OfClosing closed closing) taken stream names =
      let e : PlainSession = given.earlier in
      let open_now = open_is e.processed e.answered names.1 names.2 in
      let other : names.1 ≡ 0 = omega (arith, ltb-true names.1 (opened_in e.processed) (open_parts e.processed e.answered names.1 open_now.1).0, opened_then) in
      let waits = front_closing e given.oldest closed closing taken in
      let there : slice_get e.given (taken_by_answers (answers e)) ≡ Some (Close closed closing) = get_drop (taken_by_answers (answers e)) e.given (Close closed closing) waits.0 waits.1 in
      let first : closed ≡ 0 = given_first (taken_by_answers (answers e)) (Close closed closing) there in
      names.3 (other ∙ sym first)

  pub answer_unnamed : (answer_parts given.earlier given.oldest answer.front).stream ≡ None
  answer_unnamed =
      let front : front_for given.earlier given.oldest ≡ answer.front = sym (ap (λ (a : Answered). a.front) given.answer_is) in
      elim (which (answer_parts given.earlier given.oldest answer.front).stream) [
        | inl nothing ↦ nothing
        | inr named ↦ absurd (names_none_of answer.front front named.0 ((names_both given.earlier given.oldest answer.front named.0).0 named.1))
      ]
