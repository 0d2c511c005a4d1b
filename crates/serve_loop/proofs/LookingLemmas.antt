-- What a look at a session tells of its ending.
use Rattle.std.proofs.Common.{◌≡◌, ℕ, ◌-◌, Bool, true, false, List, length, Option, Some, None, Ok, refl, sym, ◌∙◌, ap, subst, inl, inr, true≢false}
use Rattle.std.specs.Prelude.{is_some, if◌then◌else◌}
use Rattle.bosh_types.specs.declared.ending.Ending.{Ending}
use Rattle.parked_gate.specs.Passes.{Known, Looks, known}
use Rattle.session_core.specs.declared.replies.Waiting.{Waiting}
use Rattle.session_core.specs.State.{PlainSession, is_over, waiting_counts}
use Rattle.session_journal.specs.declared.asking.Answer.{Answer}
use Rattle.session_journal.specs.declared.asking.Answer.TheVariants as answers
use Rattle.session_journal.specs.declared.asking.Question.TheVariants as questions
use Rattle.session_journal.specs.declared.entry.Entry as journal
use Rattle.session_journal.specs.Seen.{Answers}
use Rattle.session_journal.specs.Stored.{After}
use Rattle.session_table.specs.declared.handle.SessionHandle.{SessionHandle}
use Rattle.session_table.specs.Purses.{Sessions, Turned, held}
use Rattle.serve_loop.specs.declared.trail.Traced.{Traced}
use Rattle.serve_loop.specs.declared.trail.TrailLine.TheVariants as lines
use Rattle.serve_loop.specs.Answering.{Adds, ShowsSession, TellsLast}
use Rattle.serve_loop.specs.Effects.{IsLast}
use Rattle.serve_loop.proofs.ArrivingLemmas.{turned_as}

some_same : {X : Type 0} (x y : X) → Some x ≡ Some y → x ≡ y
some_same x y is = cc

-- it has ended, after these entries
abbrev pub HasEnded : List journal.Entry → Type 0
HasEnded log = After log (λ s. is_over s ≡ true)

looks_as : (P Q : List journal.Entry → Type 0) → ((log : List journal.Entry) → P log → Q log) → (a b : Known journal.Entry) → Looks P a b → Looks Q a b
looks_as P Q by a b looked = record { begins = looked.begins; says = by b.seen looked.says; mine = looked.mine; earlier = looked.earlier; learnt = looked.learnt }

pub looked_as : (number : ℕ) (old new : Sessions) (P Q : List journal.Entry → Type 0) → ((log : List journal.Entry) → P log → Q log) → Turned number old new (Looks P) → Turned number old new (Looks Q)
looked_as number old new P Q by turned = turned_as number old new (Looks P) (Looks Q) (looks_as P Q by) turned

-- the answer has an ending
pub has_ended : (log : List journal.Entry) (answer : Answer) (waiting : Waiting) (ending : Option Ending) (e : Ending) → answer ≡ answers.Load waiting ending → ending ≡ Some e
    → Answers log questions.Load (Ok answer) → HasEnded log
has_ended log answer waiting ending e is there said =
    let after : After log (λ plain. (waiting ≡ waiting_counts plain) × (ending ≡ plain.ending)) = subst (λ a. Answers log questions.Load (Ok a)) is said in
    record { journal = after.journal; is = after.is; holds = ap is_some (sym after.holds.1) ∙ ap is_some there }

pub saw_ending : (number : ℕ) (old new : Sessions) (answer : Answer) (waiting : Waiting) (ending : Option Ending) (e : Ending) → answer ≡ answers.Load waiting ending → ending ≡ Some e
    → Turned number old new (Looks (λ seen. Answers seen questions.Load (Ok answer))) → Turned number old new (Looks (λ seen. true ≡ true → HasEnded seen))
saw_ending number old new answer waiting ending e is there turned = looked_as number old new _ _ (λ log said same. has_ended log answer waiting ending e is there said) turned

pub saw_none : (number : ℕ) (old new : Sessions) (P : List journal.Entry → Type 0) → Turned number old new (Looks P) → Turned number old new (Looks (λ seen. false ≡ true → HasEnded seen))
saw_none number old new P turned = looked_as number old new P (λ seen. false ≡ true → HasEnded seen) (λ log said no. elim (true≢false (sym no)) [ ]) turned

-- what is held when a session that has ended was let go
last_by : (ended : Bool) (mid new : Sessions) (number : ℕ) (y : SessionHandle) → held mid number ≡ Some y → held new number ≡ (if ended then None else held mid number)
    → (ended ≡ true → HasEnded (known y.pass).seen) → IsLast new number y
last_by true mid new number y is held_is over = inr (held_is, over refl)
last_by false mid new number y is held_is over = inl (held_is ∙ is)

-- an entry was told by the handle that its session has since
module _ (before after : List Traced) (old mid new : Sessions) (number caller place : ℕ) (sid : List ℕ) (ended : Bool) where
  pub tells_since : (x asked y : SessionHandle) → held old number ≡ Some x → held old number ≡ Some asked → caller ≡ (known asked.pass).number → place ≡ length (known asked.pass).seen - 1
      → (turned : Turned number old mid (Looks (λ seen. ended ≡ true → HasEnded seen))) → held mid number ≡ Some y
      → Adds before after (lines.Entry sid caller place) (ShowsSession y) → held new number ≡ (if ended then None else held mid number)
      → TellsLast before after new number sid x
  tells_since x asked y was asked_was caller_is place_is turned is adds held_is =
      let first = some_same turned.before x (sym turned.was ∙ was) in
      let same = some_same asked turned.before (sym asked_was ∙ turned.was) in
      let last = some_same turned.after y (sym turned.is ∙ is) in
      let by_y : Adds before after (lines.Entry sid caller place) (ShowsSession turned.after) =
      subst (λ (h : SessionHandle). Adds before after (lines.Entry sid caller place) (ShowsSession h)) (sym last) adds in
      let by_number : caller ≡ (known turned.before.pass).number = caller_is ∙ ap (λ (h : SessionHandle). (known h.pass).number) same in
      let by_place : place ≡ length (known turned.before.pass).seen - 1 = place_is ∙ ap (λ (h : SessionHandle). length (known h.pass).seen - 1) same in
      let of_number = subst (λ n. Adds before after (lines.Entry sid n place) (ShowsSession turned.after)) by_number by_y in
      let line = subst (λ n. Adds before after (lines.Entry sid (known turned.before.pass).number n) (ShowsSession turned.after)) by_place of_number in
      let told : TellsLast before after new number sid turned.before = record {
        since = turned.after;
        line = line;
        of_same = turned.of_same;
        pass_number = turned.pass_number;
        looked = looks_as _ _ (λ log said. tt) (known turned.before.pass) (known turned.after.pass) turned.says;
        last = last_by ended mid new number turned.after turned.is held_is turned.says.says;
      } in
      subst (λ (h : SessionHandle). TellsLast before after new number sid h) first told
