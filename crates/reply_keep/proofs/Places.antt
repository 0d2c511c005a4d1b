-- The places of a keep against the list of all that was put.
use Rattle.std.proofs.Common.{◌≡◌, ◌≢◌, ℕ, suc, zero, ◌+◌, ◌-◌, ◌<◌, ◌≤◌, ◌⊎◌, inl, inr, ◌&&◌, cond, nat_lt, min, max, List, [], ◌∷◌, ◌++◌, Option, Some, None, IsSome, length, get_or, refl, sym, ◌∙◌, ap, subst, arith}
use Rattle.std.proofs.lemmas.Bool.{cases_lt}
use Rattle.std.specs.Option.{SomeIff}
use Rattle.bosh_types.specs.ById.{at_id}
use Rattle.bosh_types.specs.Rid.{IsRid, greatest_rid}
use Rattle.bosh_types.specs.declared.kept.KeptAnswer.{KeptAnswer}
use Rattle.bosh_types.proofs.ById.{at_id-push_same, at_id-push_other}
use Rattle.reply_keep.specs.Filled.{IsLastFilled}
use Rattle.reply_keep.specs.PlainKeep.{PlainKeep, IsLowestKept, after_ack, after_put, falls_out, kept_at, last_id, new_keep}
use Rattle.reply_keep.specs.StandsFor.{Holds}
use Rattle.reply_keep.proofs.Kept.{kept_above, kept_absent, kept_in, kept_low, kept_old, last_after-push, none_either_way}
use Rattle.reply_keep.proofs.Ring.{last_place, length-pushed, pushed, pushed_first, pushed_later, pushed_past}

-- empty places keep nothing
pub Holds-new : (places : List (Option KeptAnswer)) (size : ℕ) → length places ≡ size → ((k : ℕ) → get_or places k None ≡ None) → Holds None places (new_keep size)
Holds-new places size room empty = record {
  last_is = refl;
  room = room;
  within = omega arith;
  none_later = λ rid later. refl;
  each = λ below. empty below ∙ sym (none_either_way _);
}

is_none : {T : Type 0} {o : Option T} → o ≡ None → IsSome o → ⊥
is_none none some = absurd (cc)

-- an id whose answer is kept is at least 1
kept_id : (plain : PlainKeep) (rid : ℕ) → IsSome (kept_at plain rid) → 1 ≤ rid
kept_id plain zero kept = absurd (is_none (kept_low plain.acknowledged (last_id plain.put) plain.size 0 (at_id plain.put 0) (omega arith)) kept)
kept_id plain (suc rid) kept = omega arith

later_id : (last rid : ℕ) → 1 ≤ rid → (last ≡ 0) ⊎ (rid ≡ last + 1) → last < rid
later_id last rid some (inl zero_is) = omega arith
later_id last rid some (inr next) = omega arith

module _ {last : Option ℕ} {places : List (Option KeptAnswer)} {plain : PlainKeep} where
  -- nothing is kept of a later id
  pub none_kept : (rid : ℕ) → Holds last places plain → last_id plain.put < rid → kept_at plain rid ≡ None
  none_kept rid s later = kept_absent _ _ (s.none_later rid later)

  -- nothing is kept where nothing was put
  pub none_put : (rid : ℕ) → Holds last places plain → last_id plain.put ≡ 0 → kept_at plain rid ≡ None
  none_put rid s none = elim (cases_lt 0 rid) [
    | inl some ↦ none_kept rid s (omega arith)
    | inr low ↦ kept_low plain.acknowledged (last_id plain.put) plain.size rid (at_id plain.put rid) (omega arith)
  ]

  -- the place of an id
  pub kept_place : (rid : ℕ) → Holds last places plain → rid ≤ last_id plain.put → get_or places (last_id plain.put - rid) None ≡ kept_at plain rid
  kept_place rid s within =
      let here : last_id plain.put - (last_id plain.put - rid) ≡ rid = omega arith in
      s.each (last_id plain.put - rid) ∙ ap (kept_at plain) here

  -- nothing is kept where all places are empty
  none_kept_at : (rid : ℕ) → Holds last places plain → ((k : ℕ) → get_or places k None ≡ None) → kept_at plain rid ≡ None
  none_kept_at rid s empty = elim (cases_lt (last_id plain.put) rid) [
    | inl later ↦ none_kept rid s later
    | inr within ↦ sym (kept_place rid s within) ∙ empty (last_id plain.put - rid)
  ]

  -- the least id whose answer is kept has the last place that isn't empty
  pub lowest_none : Holds last places plain → last_id plain.put ≡ 0 → IsLowestKept plain None
  lowest_none s none = λ rid. none_put rid s none

  pub lowest_empty : Holds last places plain → ((k : ℕ) → get_or places k None ≡ None) → IsLowestKept plain None
  lowest_empty s empty = λ rid. none_kept_at rid s empty

  lowest_at : (at : ℕ) → Holds last places plain → IsLastFilled places (Some at) → IsSome (kept_at plain (last_id plain.put - at))
  lowest_at at s filled = subst (λ o. IsSome o) (s.each at) filled.0

  pub lowest_within : (at : ℕ) → Holds last places plain → IsLastFilled places (Some at) → at < last_id plain.put
  lowest_within at s filled = omega (arith, kept_id plain (last_id plain.put - at) (lowest_at at s filled))

  pub lowest_is : (at : ℕ) → Holds last places plain → IsLastFilled places (Some at) → IsLowestKept plain (Some (last_id plain.put - at))
  lowest_is at s filled = (
    lowest_at at s filled,
    λ lower below.
        let within : lower ≤ last_id plain.put = omega arith in
        sym (kept_place lower s within) ∙ filled.1 (last_id plain.put - lower) (omega (arith, lowest_within at s filled)),
  )

  pub lowest_made : (at : ℕ) (made : Option ℕ) → Holds last places plain → IsLastFilled places (Some at) → last_id plain.put ≤ greatest_rid → SomeIff made (IsRid (last_id plain.put - at)) (last_id plain.put - at) → IsLowestKept plain made
  lowest_made at None s filled small none =
      let within : at < last_id plain.put = lowest_within at s filled in
      absurd (none (omega arith, omega arith))
  lowest_made at (Some rid) s filled small some = subst (λ n. IsLowestKept plain (Some n)) (sym some.1) (lowest_is at s filled)

  -- the answer that has no room any more
  pub oldest : (rid : ℕ) (answer : KeptAnswer) → Holds last places plain → 0 < length places → (last_id plain.put ≡ 0) ⊎ (rid ≡ last_id plain.put + 1) → get_or (Some answer ∷ places) (length places) None ≡ falls_out plain rid
  oldest rid answer s some next =
      last_place answer places some ∙ s.each (length places - 1) ∙ elim next [
        | inl none ↦ none_put _ s none ∙ sym (none_put _ s none)
        | inr after ↦
            let here : last_id plain.put - (length places - 1) ≡ rid - plain.size = omega (arith, s.room) in
            ap (kept_at plain) here
      ]

  -- what stays kept as one more answer is put
  moved : (rid k : ℕ) (answer : KeptAnswer) → Holds last places plain → 1 ≤ rid → (last_id plain.put ≡ 0) ⊎ (rid ≡ last_id plain.put + 1) → suc k < length places → kept_at plain (last_id plain.put - k) ≡ cond (nat_lt plain.acknowledged (rid - suc k) && nat_lt rid (rid - suc k + plain.size)) (at_id (plain.put ++ (rid, answer) ∷ []) (rid - suc k)) None
  moved rid k answer s some next within = elim next [
    | inl none ↦ none_put _ s none ∙ sym (elim (cases_lt 0 (rid - suc k)) [
      | inl above ↦
          kept_absent _ _ (at_id-push_other plain.put rid (rid - suc k) answer (λ e. absurd (omega arith)) ∙ s.none_later (rid - suc k) (omega arith))
      | inr low ↦ kept_low plain.acknowledged rid plain.size (rid - suc k) _ (omega arith)
    ])
    | inr after ↦ elim (cases_lt plain.acknowledged (rid - suc k)) [
      | inl above ↦
          let same : last_id plain.put - k ≡ rid - suc k = omega arith in
          kept_in plain.acknowledged (last_id plain.put) plain.size (last_id plain.put - k) _ (omega arith) (omega (arith, s.room))
          ∙ ap (at_id plain.put) same
          ∙ sym (at_id-push_other plain.put rid (rid - suc k) answer (λ e. absurd (omega arith)))
          ∙ sym (kept_in plain.acknowledged rid plain.size (rid - suc k) _ above (omega (arith, s.room)))
      | inr low ↦
          kept_low plain.acknowledged (last_id plain.put) plain.size (last_id plain.put - k) _ (omega arith)
          ∙ sym (kept_low plain.acknowledged rid plain.size (rid - suc k) _ low)
    ]
  ]

  -- what falls out as one more answer is put
  fallen : (rid k : ℕ) (found : Option KeptAnswer) → Holds last places plain → length places ≤ suc k → cond (nat_lt plain.acknowledged (rid - suc k) && nat_lt rid (rid - suc k + plain.size)) found None ≡ None
  fallen rid k found s past = elim (cases_lt k rid) [
    | inl within ↦ kept_old plain.acknowledged rid plain.size (rid - suc k) found (omega (arith, s.room))
    | inr beyond ↦ kept_low plain.acknowledged rid plain.size (rid - suc k) found (omega arith)
  ]

  placed : (rid k : ℕ) (answer : KeptAnswer) → Holds last places plain → 0 < length places → 1 ≤ rid → (last_id plain.put ≡ 0) ⊎ (rid ≡ last_id plain.put + 1) → get_or (pushed answer places) k None ≡ cond (nat_lt plain.acknowledged (rid - k) && nat_lt rid (rid - k + plain.size)) (at_id (plain.put ++ (rid, answer) ∷ []) (rid - k)) None
  placed rid zero answer s room some next =
      let later : last_id plain.put < rid = later_id (last_id plain.put) rid some next in
      let same : rid - 0 ≡ rid = omega arith in
      pushed_first answer places room
      ∙ sym (at_id-push_same plain.put rid answer (s.none_later rid later))
      ∙ ap (at_id (plain.put ++ (rid, answer) ∷ [])) (sym same)
      ∙ sym (kept_in plain.acknowledged rid plain.size (rid - 0) _ (omega (arith, s.within)) (omega (arith, s.room)))
  placed rid (suc k) answer s room some next =
      elim (cases_lt (suc k) (length places)) [
        | inl within ↦ pushed_later answer places k within ∙ s.each k ∙ moved rid k answer s some next within
        | inr past ↦ pushed_past answer places k past ∙ sym (fallen rid k _ s past)
      ]

  -- after an answer was put
  pub Holds-put : (rid : ℕ) (answer : KeptAnswer) → Holds last places plain → 0 < length places → 1 ≤ rid → (last_id plain.put ≡ 0) ⊎ (rid ≡ last_id plain.put + 1) → Holds (Some rid) (pushed answer places) (after_put plain rid answer)
  Holds-put rid answer s room some next =
      let later : last_id plain.put < rid = later_id (last_id plain.put) rid some next in
      let last_is : last_id (plain.put ++ (rid, answer) ∷ []) ≡ rid = last_after-push rid 0 plain.put answer in
      record {
        last_is = sym last_is;
        room = length-pushed answer places ∙ s.room;
        within = rw last_is (omega (arith, s.within));
        none_later = λ id above.
            let beyond : rid < id = rw last_is at above in
            at_id-push_other plain.put rid id answer (λ e. absurd (omega arith)) ∙ s.none_later id (omega arith);
        each = λ k.
            subst (λ n. get_or (pushed answer places) k None ≡ cond (nat_lt plain.acknowledged (n - k) && nat_lt n (n - k + plain.size)) (at_id (plain.put ++ (rid, answer) ∷ []) (n - k)) None)
            (sym last_is) (placed rid k answer s room some next);
      }

  -- an acknowledgement where nothing was put
  pub Holds-ack_none : (ack : ℕ) → Holds last places plain → last_id plain.put ≡ 0 → Holds last places (after_ack plain ack)
  Holds-ack_none ack s none =
      let same : plain.acknowledged ≡ max plain.acknowledged (min ack (last_id plain.put)) = omega (arith, s.within) in
      subst (λ n. Holds last places (record plain { acknowledged = n })) same s

  -- after an acknowledgement
  pub Holds-ack : (ack : ℕ) (left : List (Option KeptAnswer)) → Holds last places plain → length left ≡ length places → ((k : ℕ) → last_id plain.put - ack ≤ k → get_or left k None ≡ None) → ((k : ℕ) → k < last_id plain.put - ack → get_or left k None ≡ get_or places k None) → Holds last left (after_ack plain ack)
  Holds-ack ack left s room emptied rest = record {
    last_is = s.last_is;
    room = room ∙ s.room;
    within = omega (arith, s.within);
    none_later = s.none_later;
    each = λ below. elim (cases_lt below (last_id plain.put - ack)) [
      | inl above ↦
          rest below above ∙ s.each below
          ∙ sym (kept_above plain.acknowledged (last_id plain.put) plain.size (last_id plain.put - below) ack _ (omega arith))
      | inr low ↦
          emptied below low
          ∙ sym (kept_low (max plain.acknowledged (min ack (last_id plain.put))) (last_id plain.put) plain.size (last_id plain.put - below) _ (omega arith))
    ];
  }
