-- An answer is kept exactly by the rule.
use Rattle.std.proofs.Common.{◌≡◌, ◌↔◌, ℕ, ◌+◌, ◌<◌, ◌≤◌, ◌&&◌, Bool, true, Option, Some, None, nat_lt, is_some, map, refl, ◌∙◌, ap, arith, inl, inr, IsSome}
use Rattle.std.proofs.lemmas.Bool.{ltb-true, cases_lt}
use Rattle.std.proofs.lemmas.Bool.Decides.{nat_tests}
use Rattle.bosh_types.specs.declared.kept.KeptAnswer.{KeptAnswer}
use Rattle.reply_keep.specs.PlainKeep.{last_id}
use Rattle.session_core.specs.Copy.{id_of}
use Rattle.session_core.specs.Journal.{Journal, IsJournal, state_of}
use Rattle.session_core.specs.Kept.{kept_answer, kept_of, answer_at}
use Rattle.session_core.specs.State.{PlainSession, answers, first_of, answered_of}
use Rattle.session_laws.specs.Acknowledging.{IsKept}
use Rattle.session_laws.proofs.Tests.{some_or, both_true, if_true, is_or_not}
use Rattle.session_laws.proofs.AckLemmas.{last_answered}
use Rattle.session_laws.proofs.Bytes.{IsFirstAnswer, answer_within}
use Rattle.session_laws.proofs.Clear.{every_clear}
use Rattle.session_laws.proofs.Followed.{every_creation}
use Rattle.session_laws.proofs.LawsOf.{every_first_answer}
use Rattle.session_laws.proofs.Read.{read-rid}
use Rattle.session_laws.proofs.ReplyLemmas.{answered_has}
use Rattle.session_laws.proofs.RunAtEnd.{every_ruled}
use Rattle.session_laws.proofs.SoundLemmas.{IsSound}

is_there : {X : Type 0} (o : Option X) → IsSome o → (x : X) × (o ≡ Some x)
is_there None some = absurd (cc)
is_there (Some x) some = (x, refl)

less : (a b : ℕ) → a < b → nat_lt a b ≡ true
less a b is = grind (arith, nat_tests)

both : (a b : Bool) → a ≡ true → b ≡ true → a && b ≡ true
both a b is also = cc

-- not acknowledged, and among the last
kept_parts : (s : PlainSession) (rid : ℕ) (a : KeptAnswer) → IsSound s → IsFirstAnswer s → kept_of s rid ≡ Some a → (s.acknowledged < rid) × (answered_of s ≤ rid + s.terms.requests) × (answer_at s rid ≡ Some a)
kept_parts s rid a sound first is =
    let parts = some_or (nat_lt s.acknowledged rid && nat_lt (last_id (map kept_answer (answers s))) (rid + (s.terms.requests + 1))) (answer_at s rid) a is in
    let tests = both_true (nat_lt s.acknowledged rid) (nat_lt (last_id (map kept_answer (answers s))) (rid + (s.terms.requests + 1))) parts.0 in (
      ltb-true s.acknowledged rid tests.0,
      omega (arith, ltb-true (last_id (map kept_answer (answers s))) (rid + (s.terms.requests + 1)) tests.1, last_answered s sound first),
      parts.1,
    )

kept_from : (s : PlainSession) (rid : ℕ) (a : KeptAnswer) → IsSound s → IsFirstAnswer s → s.acknowledged < rid → answered_of s ≤ rid + s.terms.requests → answer_at s rid ≡ Some a → kept_of s rid ≡ Some a
kept_from s rid a sound first unacknowledged late is =
    if_true (nat_lt s.acknowledged rid && nat_lt (last_id (map kept_answer (answers s))) (rid + (s.terms.requests + 1))) (answer_at s rid) None
    (both (nat_lt s.acknowledged rid) (nat_lt (last_id (map kept_answer (answers s))) (rid + (s.terms.requests + 1))) (less s.acknowledged rid unacknowledged)
    (less (last_id (map kept_answer (answers s))) (rid + (s.terms.requests + 1)) (omega (arith, last_answered s sound first, late))))
    ∙ is

pub every_kept : (journal : Journal) → IsJournal journal → (rid : ℕ) → IsSome (kept_of (state_of journal) rid) ↔ IsKept journal rid
every_kept journal made rid =
    let s : PlainSession = state_of journal in
    let sound = (every_clear journal made).0 in
    let first = every_first_answer journal made in
    let acks = (every_ruled journal made).2 in
    let positive : 1 ≤ first_of s = omega (arith, ap id_of (every_creation journal made), (read-rid journal.opening.body journal.opening.request (made.0).read).0) in (
      λ some.
          let a = is_there (kept_of s rid) some in
          let parts = kept_parts s rid a.0 sound first a.1 in
          let within = answer_within s rid a.0 sound first parts.2 in
          record {
            first = within.0;
            answered = within.1;
            late = parts.1;
            unacknowledged = λ on acked. absurd (omega (arith, acks.back on rid acked, parts.0));
          },
      λ kept.
          let a = answered_has s rid sound first kept.first kept.answered in
          let unacknowledged : s.acknowledged < rid = elim (cases_lt s.acknowledged rid) [
            | inl later ↦ later
            | inr within ↦ elim (is_or_not s.reporting.on) [
              | inl on ↦ absurd (kept.unacknowledged on (acks.forth on rid (omega (arith, positive, kept.first)) within))
              | inr off ↦ (
                  let none : s.acknowledged ≡ 0 = acks.off off in
                  omega (arith, none, positive, kept.first))
            ]
          ] in
          ap is_some (kept_from s rid a.0 sound first unacknowledged kept.late a.1),
    )
