-- What a copy breaks, and the facts of it, both ways.
use Rattle.std.proofs.Common.{◌≡◌, ℕ, ◌<◌, ◌≤◌, true, false, ◌&&◌, List, [], ◌∷◌, Option, Some, None, nat_lt, is_some, refl, sym, ◌∙◌, ap, arith, if◌then◌else◌}
use Rattle.std.proofs.lemmas.Bool.{ltb-true, ltb-false}
use Rattle.std.proofs.lemmas.Bool.Decides.{nat_tests}
use Rattle.bosh_types.specs.declared.ending.Ending.{Ending}
use Rattle.bosh_types.specs.declared.ending.Ending.TheVariants as endings
use Rattle.key_sequence.specs.Current.{fits}
use Rattle.pause_rules.specs.Overactive.{is_overactive, apart}
use Rattle.session_core.specs.declared.copy.RequestCopy.{RequestCopy}
use Rattle.session_core.specs.Copy.{id_of, is_pause}
use Rattle.session_core.specs.Rules.{Asks, Rule, Streams, Pauses, Activity, mark_of, names_none, breaks, pause_breaks, first_broken, broken_rule}
use Rattle.session_laws.proofs.Tests.{split, both_true}

-- the copy asks for a pause of this many seconds
abbrev pub IsPauseOf : RequestCopy → ℕ → Type 0
IsPauseOf copy seconds = (is_pause copy ≡ true) × (copy.request.pause ≡ Some seconds)

-- its pause, if it is one, is short enough
abbrev pub IsShort : Asks → RequestCopy → Type 0
IsShort asks copy = (seconds : ℕ) → IsPauseOf copy seconds → seconds ≤ asks.terms.maxpause

-- what the rules make of a copy
pub record RuleBy (asks : Asks) (copy : RequestCopy) (Q : Option Ending → Type 0) : Type 0 where
  pub wrong_key : fits asks.key copy.request.key ≡ false → Q (Some (endings.WrongKey (id_of copy)))
  pub no_stream : fits asks.key copy.request.key ≡ true → names_none asks.running copy.request.stream ≡ true → Q (Some (endings.UnknownStream (id_of copy)))
  pub too_long : fits asks.key copy.request.key ≡ true → names_none asks.running copy.request.stream ≡ false → (seconds : ℕ) → IsPauseOf copy seconds → asks.terms.maxpause < seconds
      → Q (Some (endings.PauseTooLong (id_of copy) seconds asks.terms.maxpause))
  pub too_active : fits asks.key copy.request.key ≡ true → names_none asks.running copy.request.stream ≡ false → IsShort asks copy → is_overactive asks.terms asks.held (mark_of copy) asks.prior ≡ true
      → Q (Some (endings.Overactive (id_of copy) (apart (mark_of copy) asks.prior)))
  pub allowed : fits asks.key copy.request.key ≡ true → names_none asks.running copy.request.stream ≡ false → IsShort asks copy → is_overactive asks.terms asks.held (mark_of copy) asks.prior ≡ false → Q None

-- the first that is broken, and then the others
abbrev first_or : Asks → RequestCopy → List Rule → Option Ending → Option Ending
first_or asks copy others o = elim o as (λ x. Option Ending) [ Some ending ↦ Some ending | None ↦ first_broken asks copy others ]

module _ (asks : Asks) (copy : RequestCopy) (Q : Option Ending → Type 0) (by_cases : RuleBy asks copy Q) where
  active-by : fits asks.key copy.request.key ≡ true → names_none asks.running copy.request.stream ≡ false → IsShort asks copy → Q (first_or asks copy [] (breaks asks copy Activity))
  active-by key stream short = split (λ o. Q (first_or asks copy [] o)) (is_overactive asks.terms asks.held (mark_of copy) asks.prior) (Some (endings.Overactive (id_of copy) (apart (mark_of copy) asks.prior))) None
      (λ active. by_cases.too_active key stream short active) (λ calm. by_cases.allowed key stream short calm)

  pause-by : fits asks.key copy.request.key ≡ true → names_none asks.running copy.request.stream ≡ false → (o : Option ℕ) → copy.request.pause ≡ o → Q (first_or asks copy (Activity ∷ []) (pause_breaks asks copy o))
  pause-by key stream None is = active-by key stream (λ seconds asked. absurd (no_pause seconds (sym is ∙ asked.1)))
    where
      no_pause : (seconds : ℕ) → None ≡ Some seconds → ⊥
      no_pause seconds is = cc
  pause-by key stream (Some seconds) is = split (λ o. Q (first_or asks copy (Activity ∷ []) o)) (is_pause copy && nat_lt asks.terms.maxpause seconds) (Some (endings.PauseTooLong (id_of copy) seconds asks.terms.maxpause)) None
      (λ breaks_it.
      let both = both_true (is_pause copy) (nat_lt asks.terms.maxpause seconds) breaks_it in
      by_cases.too_long key stream seconds (both.0, is) (ltb-true asks.terms.maxpause seconds both.1))
      (λ fine. active-by key stream (λ other asked. short seconds other fine asked.0 (sym is ∙ asked.1)))
    where
      short : (seconds other : ℕ) → is_pause copy && nat_lt asks.terms.maxpause seconds ≡ false → is_pause copy ≡ true → Some seconds ≡ Some other → other ≤ asks.terms.maxpause
      short seconds other fine pauses same =
          let is : seconds ≡ other = cc in
          let less : nat_lt asks.terms.maxpause seconds ≡ false = ap (λ b. b && nat_lt asks.terms.maxpause seconds) (sym pauses) ∙ fine in
          omega (arith, ltb-false asks.terms.maxpause seconds less)

  pub rule-by : Q (broken_rule asks copy)
  rule-by = split (λ o. Q (first_or asks copy (Streams ∷ Pauses ∷ Activity ∷ []) o)) (fits asks.key copy.request.key) None (Some (endings.WrongKey (id_of copy)))
      (λ key. split (λ o. Q (first_or asks copy (Pauses ∷ Activity ∷ []) o)) (names_none asks.running copy.request.stream) (Some (endings.UnknownStream (id_of copy))) None
      (λ stream. by_cases.no_stream key stream)
      (λ stream. pause-by key stream copy.request.pause refl))
      (λ wrong. by_cases.wrong_key wrong)

-- each rule that is broken, from its facts
pub key_broken : (asks : Asks) (copy : RequestCopy) → fits asks.key copy.request.key ≡ false → broken_rule asks copy ≡ Some (endings.WrongKey (id_of copy))
key_broken asks copy wrong = ap (λ b. first_or asks copy (Streams ∷ Pauses ∷ Activity ∷ []) (if b then None else Some (endings.WrongKey (id_of copy)))) wrong

key_fits : (asks : Asks) (copy : RequestCopy) → fits asks.key copy.request.key ≡ true → broken_rule asks copy ≡ first_broken asks copy (Streams ∷ Pauses ∷ Activity ∷ [])
key_fits asks copy fit = ap (λ b. first_or asks copy (Streams ∷ Pauses ∷ Activity ∷ []) (if b then None else Some (endings.WrongKey (id_of copy)))) fit

pub stream_broken : (asks : Asks) (copy : RequestCopy) → fits asks.key copy.request.key ≡ true → names_none asks.running copy.request.stream ≡ true → broken_rule asks copy ≡ Some (endings.UnknownStream (id_of copy))
stream_broken asks copy fit stream = key_fits asks copy fit ∙ ap (λ b. first_or asks copy (Pauses ∷ Activity ∷ []) (if b then Some (endings.UnknownStream (id_of copy)) else None)) stream

stream_open : (asks : Asks) (copy : RequestCopy) → fits asks.key copy.request.key ≡ true → names_none asks.running copy.request.stream ≡ false → broken_rule asks copy ≡ first_broken asks copy (Pauses ∷ Activity ∷ [])
stream_open asks copy fit stream = key_fits asks copy fit ∙ ap (λ b. first_or asks copy (Pauses ∷ Activity ∷ []) (if b then Some (endings.UnknownStream (id_of copy)) else None)) stream

pub pause_broken : (asks : Asks) (copy : RequestCopy) (seconds : ℕ) → fits asks.key copy.request.key ≡ true → names_none asks.running copy.request.stream ≡ false → IsPauseOf copy seconds → asks.terms.maxpause < seconds
    → broken_rule asks copy ≡ Some (endings.PauseTooLong (id_of copy) seconds asks.terms.maxpause)
pause_broken asks copy seconds fit stream asked longer =
    let less : nat_lt asks.terms.maxpause seconds ≡ true = grind (arith, nat_tests) in
    stream_open asks copy fit stream ∙ ap (λ o. first_or asks copy (Activity ∷ []) (pause_breaks asks copy o)) asked.1
    ∙ ap (λ b. first_or asks copy (Activity ∷ []) (if b && nat_lt asks.terms.maxpause seconds then Some (endings.PauseTooLong (id_of copy) seconds asks.terms.maxpause) else None)) asked.0
    ∙ ap (λ b. first_or asks copy (Activity ∷ []) (if b then Some (endings.PauseTooLong (id_of copy) seconds asks.terms.maxpause) else None)) less

none_broken : (asks : Asks) (copy : RequestCopy) → IsShort asks copy → (o : Option ℕ) → copy.request.pause ≡ o → pause_breaks asks copy o ≡ None
none_broken asks copy short None is = refl
none_broken asks copy short (Some seconds) is = split (λ o. o ≡ None) (is_pause copy && nat_lt asks.terms.maxpause seconds) (Some (endings.PauseTooLong (id_of copy) seconds asks.terms.maxpause)) None
    (λ breaks_it.
    let both = both_true (is_pause copy) (nat_lt asks.terms.maxpause seconds) breaks_it in
    let fine : seconds ≤ asks.terms.maxpause = short seconds (both.0, is) in
    absurd (omega (arith, fine, ltb-true asks.terms.maxpause seconds both.1)))
    (λ fine. refl)

pub active_broken : (asks : Asks) (copy : RequestCopy) → fits asks.key copy.request.key ≡ true → names_none asks.running copy.request.stream ≡ false → IsShort asks copy → is_overactive asks.terms asks.held (mark_of copy) asks.prior ≡ true
    → broken_rule asks copy ≡ Some (endings.Overactive (id_of copy) (apart (mark_of copy) asks.prior))
active_broken asks copy fit stream short active =
    stream_open asks copy fit stream ∙ ap (first_or asks copy (Activity ∷ [])) (none_broken asks copy short copy.request.pause refl)
    ∙ ap (λ b. first_or asks copy [] (if b then Some (endings.Overactive (id_of copy) (apart (mark_of copy) asks.prior)) else None)) active
