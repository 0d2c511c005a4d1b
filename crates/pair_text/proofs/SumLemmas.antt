-- The sums that a world tells are those that are shown.
use Rattle.std.proofs.Common.{◌≡◌, ℕ, ◌∙◌, ap}
use Rattle.two_ends.specs.declared.sums.Sums.{Sums}
use Rattle.two_ends.specs.Summed.{IsSums, counted}
use Rattle.world_laws.specs.Sums.{PlainSums}
use Rattle.pair_text.specs.Script.{shown_sums}

pub sums_shown : (sums : Sums) (plain : PlainSums) → IsSums sums plain → sums ≡ shown_sums plain
sums_shown sums plain is =
    let parts = is.counted_are in
    let sums_with : ℕ → ℕ → ℕ → ℕ → ℕ → Sums = λ put queued inward given got. record { put = put; queued = queued; inward = inward; given = given; got = got } in
    ap (λ put. sums_with put sums.queued sums.inward sums.given sums.got) parts.put_is
    ∙ ap (λ queued. sums_with (counted plain.put) queued sums.inward sums.given sums.got) is.queued_is
    ∙ ap (λ inward. sums_with (counted plain.put) plain.queued inward sums.given sums.got) parts.inward_is
    ∙ ap (λ given. sums_with (counted plain.put) plain.queued (counted plain.inward) given sums.got) parts.given_is
    ∙ ap (λ got. sums_with (counted plain.put) plain.queued (counted plain.inward) (counted plain.given) got) parts.got_is
