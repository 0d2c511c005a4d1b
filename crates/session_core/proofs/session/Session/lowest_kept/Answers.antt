use Rattle.std.proofs.Common.{ℕ, ◌+◌, ◌<◌, inl, inr, Option, subst}
use Rattle.std.proofs.lemmas.Bool.{cases_lt}
use Rattle.std.specs.Option.{SomeIff}
use Rattle.bosh_types.specs.Rid.{greatest_rid}
use Rattle.reply_keep.specs.PlainKeep.{IsLowestKept}
use Rattle.session_core.specs.Kept.{keep_of}
use Rattle.session_core.specs.StandsFor.{StandsFor}
use Rattle.session_core.proofs.LowestLemmas.{lowest_end, lowest_next, lowest_some}
use Rattle.session_core.proofs.session.Session.lowest_kept.Goals as goal

pub returns-in-Some : goal.returns-in-Some
unfolding StandsFor
returns-in-Some c = λ plain stands.
    lowest_some stands c.in-Some.lowest (subst (IsLowestKept (keep_of plain)) c.in-Some.is (c.lowest.ensures (keep_of plain) stands.kept.keeps))

pub returns-in-Some-next : goal.returns-in-Some-next
unfolding StandsFor
returns-in-Some-next c = λ plain stands.
    let none = subst (IsLowestKept (keep_of plain)) c.in_default.is (c.lowest.ensures (keep_of plain) stands.kept.keeps) in
    let next = subst (λ (o : Option ℕ). SomeIff o (c.args.self.now.answered < greatest_rid) (c.args.self.now.answered + 1)) c.in-Some-next.is c.next.ensures in
    lowest_next stands c.in-Some-next.next none next.1

pub returns-in-None : goal.returns-in-None
unfolding StandsFor
returns-in-None c = λ plain stands.
    let none = subst (IsLowestKept (keep_of plain)) c.in_default.is (c.lowest.ensures (keep_of plain) stands.kept.keeps) in
    let end = subst (λ (o : Option ℕ). SomeIff o (c.args.self.now.answered < greatest_rid) (c.args.self.now.answered + 1)) c.in-None.is c.next.ensures in
    elim (cases_lt c.args.self.now.answered greatest_rid) [
      | inl more ↦ absurd (end more)
      | inr most ↦ absurd (lowest_end stands none most)
    ]
