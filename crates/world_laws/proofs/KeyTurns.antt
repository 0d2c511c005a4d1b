-- The keys of a client are those that a manager asks for.
use Rattle.std.proofs.Common.{◌≡◌, ℕ, suc, ◌+◌, ◌-◌, ◌*◌, ◌/◌, ◌%◌, ◌<◌, ◌≤◌, ◌==◌, inl, inr, Bool, true, false, List, [], ◌∷◌, length, slice_get, refl, sym, ◌∙◌, ap, ap₂, arith, if◌then◌else◌}
use Rattle.std.specs.Prelude.{Option, None, Some}
use Rattle.std.specs.Option.{unwrap_or}
use Rattle.std.proofs.Math.Nat.{mod-lt}
use Rattle.std.proofs.lemmas.Bool.{cases_lt}
use Rattle.std.proofs.lemmas.Bool.Decides.{nat_tests}
use Rattle.std.proofs.lemmas.Nat.{div-add-mod', div-mul-add, mod-mul-add}
use Rattle.std.proofs.lemmas.Slice.Eq.{bytes_eq-Decides}
use Rattle.key_sequence.specs.Chain.{hex_digest, key_of}
use Rattle.key_sequence.specs.Current.{current_after, fits}
use Rattle.session_core.specs.declared.copy.RequestCopy.{RequestCopy}
use Rattle.session_core.specs.Run.{key_after}
use Rattle.bosh_client.specs.declared.setup.ClientSetup.{ClientSetup}
use Rattle.bosh_client.specs.Keys.{announcement, key_at, newkey_at, number_at, seed_of, sequence_at}
use Rattle.bosh_client.specs.Requests.{with_keys}
use Rattle.bosh_client.specs.Setup.{is_setup}
use Rattle.bosh_client.proofs.SetupLemmas.{keys_range}

-- the key to which that of the request leads that so many requests after the creation go before
abbrev pub due_at : List ℕ → ℕ → ℕ → List ℕ
due_at seed keys later = key_of (seed_of seed (sequence_at keys later)) (suc (number_at keys later))

module _ (seed : List ℕ) (keys : ℕ) (some : 2 ≤ keys) where
  abbrev m : ℕ
  m = keys - 1

  first_due : announcement seed keys 0 ≡ due_at seed keys 0
  first_due =
      let zero_is : 0 ≡ 0 * m + 0 = omega arith in
      let none : 0 / m ≡ 0 = ap (λ n. n / m) zero_is ∙ div-mul-add 0 m 0 (omega (arith, some)) in
      let rest : 0 % m ≡ 0 = ap (λ n. n % m) zero_is ∙ mod-mul-add 0 m 0 (omega (arith, some)) in
      let whole : keys ≡ suc (m - 0 % m) = omega (arith, some, rest) in
      ap₂ (λ (q n : ℕ). key_of (seed_of seed q) n) (sym none) whole

  module _ (later : ℕ) where
    abbrev q : ℕ
    q = later / m

    abbrev r : ℕ
    r = later % m

    below : r < m
    below = mod-lt later (omega (arith, some))

    split_at : later ≡ q * m + r
    split_at = sym (div-add-mod' later m)

    -- after a key that isn't the first of its sequence the next lower one leads on
    goes_on : r + 1 < m → unwrap_or (newkey_at seed keys later) (key_at seed keys later) ≡ due_at seed keys (later + 1)
    goes_on within =
        let test : (m - r == 1) ≡ false = grind (arith, nat_tests, within) in
        let whole : later + 1 ≡ q * m + (r + 1) = omega (arith, split_at) in
        let sequence : (later + 1) / m ≡ q = ap (λ n. n / m) whole ∙ div-mul-add q m (r + 1) within in
        let number : (later + 1) % m ≡ r + 1 = ap (λ n. n % m) whole ∙ mod-mul-add q m (r + 1) within in
        let left : m - r ≡ suc (m - (later + 1) % m) = omega (arith, number, within) in
        ap (λ b. unwrap_or (if b then Some (announcement seed keys (q + 1)) else None) (key_at seed keys later)) test
        ∙ ap₂ (λ (s n : ℕ). key_of (seed_of seed s) n) (sym sequence) left

    -- the first key of a sequence announces the next one
    turns : r + 1 ≡ m → unwrap_or (newkey_at seed keys later) (key_at seed keys later) ≡ due_at seed keys (later + 1)
    turns last =
        let test : (m - r == 1) ≡ true = grind (arith, nat_tests, last) in
        let whole : later + 1 ≡ (q + 1) * m + 0 = omega (arith, split_at, last) in
        let sequence : (later + 1) / m ≡ q + 1 = ap (λ n. n / m) whole ∙ div-mul-add (q + 1) m 0 (omega (arith, some)) in
        let number : (later + 1) % m ≡ 0 = ap (λ n. n % m) whole ∙ mod-mul-add (q + 1) m 0 (omega (arith, some)) in
        let left : keys ≡ suc (m - (later + 1) % m) = omega (arith, number, some) in
        ap (λ b. unwrap_or (if b then Some (announcement seed keys (q + 1)) else None) (key_at seed keys later)) test
        ∙ ap₂ (λ (s n : ℕ). key_of (seed_of seed s) n) (sym sequence) left

    next_due : unwrap_or (newkey_at seed keys later) (key_at seed keys later) ≡ due_at seed keys (later + 1)
    next_due = elim (cases_lt (r + 1) m) [
      | inl within ↦ goes_on within
      | inr past ↦ turns (omega (arith, past, below))
    ]

-- the current key once a key was given, with the one that it announced
current_is : (current key : List ℕ) (newkey : Option (List ℕ)) → current_after (Some current) (Some key) newkey ≡ Some (unwrap_or newkey key)
current_is current key None = refl
current_is current key (Some newkey) = refl

none_after : (copies : List RequestCopy) → key_after None copies ≡ None
none_after [] = refl
none_after (copy ∷ copies) = none_after copies

-- these copies have the keys from that of this place on
abbrev pub HaveKeys : ClientSetup → ℕ → List RequestCopy → Type 0
HaveKeys setup later copies =
    (k : ℕ) (copy : RequestCopy) → slice_get copies k ≡ Some copy
    → (copy.request.key ≡ with_keys setup (Some (key_at setup.seed setup.keys (later + k)))) × (copy.request.newkey ≡ with_keys setup (newkey_at setup.seed setup.keys (later + k)))

without : (setup : ClientSetup) (key : Option (List ℕ)) → (setup.keys == 0) ≡ true → with_keys setup key ≡ None
without setup key none = ap (λ b. if b then None else key) none

with_some : (setup : ClientSetup) (key : Option (List ℕ)) → (setup.keys == 0) ≡ false → with_keys setup key ≡ key
with_some setup key some = ap (λ b. if b then None else key) some

keyed : (setup : ClientSetup) (later : ℕ) (copies : List RequestCopy) → (setup.keys == 0) ≡ false → 2 ≤ setup.keys → HaveKeys setup later copies
    → key_after (Some (due_at setup.seed setup.keys later)) copies ≡ Some (due_at setup.seed setup.keys (later + length copies))
keyed setup later [] is some have =
    let same : later ≡ later + 0 = omega arith in
    ap (λ n. Some (due_at setup.seed setup.keys n)) same
keyed setup later (copy ∷ copies) is some have =
    let here : later + 0 ≡ later = omega arith in
    let last : later + 1 + length copies ≡ later + suc (length copies) = omega arith in
    let first = have 0 copy refl in
    let key : copy.request.key ≡ Some (key_at setup.seed setup.keys later) = first.0 ∙ with_some setup _ is ∙ ap (λ n. Some (key_at setup.seed setup.keys n)) here in
    let newkey : copy.request.newkey ≡ newkey_at setup.seed setup.keys later = first.1 ∙ with_some setup _ is ∙ ap (λ n. newkey_at setup.seed setup.keys n) here in
    let current : current_after (Some (due_at setup.seed setup.keys later)) copy.request.key copy.request.newkey ≡ Some (due_at setup.seed setup.keys (later + 1)) =
    ap₂ (λ k n. current_after (Some (due_at setup.seed setup.keys later)) k n) key newkey
    ∙ current_is (due_at setup.seed setup.keys later) (key_at setup.seed setup.keys later) (newkey_at setup.seed setup.keys later)
    ∙ ap Some (next_due setup.seed setup.keys some later) in
    ap (λ k. key_after k copies) current
    ∙ keyed setup (later + 1) copies is some (λ k other at.
    let place : later + suc k ≡ later + 1 + k = omega arith in
    let was = have (suc k) other at in (
      was.0 ∙ ap (λ n. with_keys setup (Some (key_at setup.seed setup.keys n))) place,
      was.1 ∙ ap (λ n. with_keys setup (newkey_at setup.seed setup.keys n)) place,
    ))
    ∙ ap (λ n. Some (due_at setup.seed setup.keys n)) last

-- the key of the copy that follows them leads to the current one
pub key_fits : (setup : ClientSetup) (copies : List RequestCopy) (copy : RequestCopy) → is_setup setup ≡ true → HaveKeys setup 0 copies
    → copy.request.key ≡ with_keys setup (Some (key_at setup.seed setup.keys (length copies)))
    → fits (key_after (with_keys setup (Some (announcement setup.seed setup.keys 0))) copies) copy.request.key ≡ true
key_fits setup copies copy valid have key = by (setup.keys == 0) refl
  where
    announced : Option (List ℕ)
    announced = Some (announcement setup.seed setup.keys 0)

    by : (b : Bool) → (setup.keys == 0) ≡ b → fits (key_after (with_keys setup (Some (announcement setup.seed setup.keys 0))) copies) copy.request.key ≡ true
    by true is = ap (λ k. fits (key_after k copies) copy.request.key) (without setup (Some (announcement setup.seed setup.keys 0)) is) ∙ ap (λ k. fits k copy.request.key) (none_after copies)
    by false is =
        let some = (keys_range setup valid is).0 in
        let seed = setup.seed in
        let keys = setup.keys in
        let place : 0 + length copies ≡ length copies = omega arith in
        let current : key_after (with_keys setup (Some (announcement seed keys 0))) copies ≡ Some (due_at seed keys (length copies)) =
        ap (λ k. key_after k copies) (with_some setup (Some (announcement seed keys 0)) is ∙ ap Some (first_due seed keys some)) ∙ keyed setup 0 copies is some have ∙ ap (λ n. Some (due_at seed keys n)) place in
        ap₂ fits current (key ∙ with_some setup (Some (key_at seed keys (length copies))) is)
        ∙ (bytes_eq-Decides (hex_digest (key_at seed keys (length copies))) (due_at seed keys (length copies))).1 refl
