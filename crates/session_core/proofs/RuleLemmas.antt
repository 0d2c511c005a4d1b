-- The rules on a copy, by what the code counts.
use Rattle.std.proofs.Common.{◌≡◌, ℕ, ◌*◌, ◌≤◌, inl, inr, Bool, true, false, ◌&&◌, nat_lt, nat_le, min, Option, Some, None, refl, ap, arith}
use Rattle.std.specs.Prelude.{IfSome, if◌then◌else◌}
use Rattle.std.proofs.lemmas.Bool.{cases_lt}
use Rattle.std.proofs.lemmas.Bool.Decides.{nat_tests}
use Rattle.bosh_types.specs.declared.terms.Terms.{Terms}
use Rattle.bosh_types.specs.declared.ending.Ending.{Ending}
use Rattle.bosh_types.specs.declared.ending.Ending.TheVariants.{WrongKey, PauseTooLong}
use Rattle.key_sequence.specs.Current.{fits}
use Rattle.pause_rules.specs.declared.mark.Mark.{Mark}
use Rattle.pause_rules.specs.Overactive.{apart, is_bare_poll, is_overactive}
use Rattle.session_core.specs.declared.copy.RequestCopy.{RequestCopy}
use Rattle.session_core.specs.Copy.{id_of, is_pause}
use Rattle.session_core.specs.Rules.{Asks, Keys, Streams, Pauses, breaks, broken_rule, pause_breaks}

same_order : (hold held : ℕ) → hold ≤ 4294967295 → nat_le hold (min held 4294967295) ≡ nat_le hold held
same_order hold held fits = grind (arith, nat_tests)

-- the session's hold has 32 bits, so it compares with the count as with the count up to 32 bits
pub overactive-held : (terms : Terms) (held : ℕ) (this prior : Mark) → terms.hold ≤ 4294967295
    → is_overactive terms (min held 4294967295) this prior ≡ is_overactive terms held this prior
overactive-held terms held this prior fits =
    ap (λ (crowded : Bool). (this.empty && nat_lt (apart this prior) (terms.polling * 1000)) && (if terms.polled then is_bare_poll prior else crowded))
    (same_order terms.hold held fits)

both_none : {T : Type 0} (o rest : Option T) → (elim o as (λ x. Option T) [ Some ending ↦ Some ending | None ↦ rest ]) ≡ None → (o ≡ None) × (rest ≡ None)
both_none None rest none = (refl, none)
both_none (Some ending) rest none = absurd (cc)

by_key : (b : Bool) (ending : Ending) → (if b then None else Some ending) ≡ None → b ≡ true
by_key true ending none = refl
by_key false ending none = absurd (cc)

-- a copy that breaks no rule has a key that leads to the current one
pub unbroken_key : (asks : Asks) (copy : RequestCopy) → broken_rule asks copy ≡ None → fits asks.key copy.request.key ≡ true
unbroken_key asks copy none = by_key (fits asks.key copy.request.key) (WrongKey (id_of copy)) (both_none (breaks asks copy Keys) _ none).0

some_pause : (b : Bool) (ending : Ending) → b ≡ true → (if b then Some ending else None) ≡ None → ⊥
some_pause true ending is none = absurd (cc)
some_pause false ending is none = absurd (cc)

short_by : (asks : Asks) (copy : RequestCopy) (pause : Option ℕ) → pause_breaks asks copy pause ≡ None → is_pause copy ≡ true → IfSome pause (λ seconds. seconds ≤ asks.terms.maxpause)
short_by asks copy None none pauses = tt
short_by asks copy (Some seconds) none pauses = elim (cases_lt asks.terms.maxpause seconds) [
  | inl long ↦ (
      let longer : nat_lt asks.terms.maxpause seconds ≡ true = grind (arith, nat_tests) in
      absurd (some_pause (is_pause copy && nat_lt asks.terms.maxpause seconds) (PauseTooLong (id_of copy) seconds asks.terms.maxpause) (λ i. pauses i && longer i) none))
  | inr short ↦ short
]

-- and asks for no pause that is too long
pub unbroken_pause : (asks : Asks) (copy : RequestCopy) → broken_rule asks copy ≡ None → is_pause copy ≡ true → IfSome copy.request.pause (λ seconds. seconds ≤ asks.terms.maxpause)
unbroken_pause asks copy none =
    let streams = both_none (breaks asks copy Keys) _ none in
    let pauses = both_none (breaks asks copy Streams) _ streams.1 in
    short_by asks copy copy.request.pause (both_none (breaks asks copy Pauses) _ pauses.1).0
