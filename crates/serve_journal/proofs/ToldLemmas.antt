-- What is told where nothing is held back, and where nothing is told.
use Rattle.std.proofs.Common.{◌≡◌, ℕ, List, Option, Some, None, refl}
use Rattle.bosh_types.specs.declared.inward.Inward.{Inward}
use Rattle.xmpp_backend.specs.declared.backend.Passed.{Passed}
use Rattle.xmpp_backend.specs.declared.backend.Passed.TheVariants as passed
use Rattle.xmpp_backend.specs.declared.backend.Polled.{Polled}
use Rattle.xmpp_backend.specs.declared.backend.Polled.TheVariants as polled
use Rattle.xmpp_backend.specs.Told.{BecomesIfDone, Closes, Holds, Opens, Passes, Polls, Resumes, Told}
use Rattle.serve_journal.specs.Holding.{told_unheld}

none_becomes : (result : Passed) (change : Told → Told) → BecomesIfDone None None result change
none_becomes passed.Done change = refl
none_becomes passed.Failed change = refl
none_becomes passed.NoMemory change = refl

none_polls : (result : Polled) → Polls None None result
none_polls (polled.Out wire text) = (tt, tt, refl)
none_polls (polled.Closed wire closing) = (tt, tt, refl)
none_polls polled.Nothing = refl
none_polls polled.Failed = refl
none_polls polled.NoMemory = refl

module _ {K : Type 0} (keeper : Option K) where
  by_keeper : (k : Option K) (P : Option Told → Option Told → Type 0) (old new : Option Told) → P None None → P old new → P (told_unheld k old) (told_unheld k new)
  by_keeper None P old new none some = some
  by_keeper (Some x) P old new none some = none

  pub opens_unheld : (old new : Option Told) (wire : ℕ) (to : List ℕ) (result : Passed) → Opens old new wire to result → Opens (told_unheld keeper old) (told_unheld keeper new) wire to result
  opens_unheld old new wire to result opens = by_keeper keeper (λ a b. Opens a b wire to result) old new (none_becomes result _) opens

  pub passes_unheld : (old new : Option Told) (wire : ℕ) (item : Inward) (result : Passed) → Passes old new wire item result → Passes (told_unheld keeper old) (told_unheld keeper new) wire item result
  passes_unheld old new wire item result passes = by_keeper keeper (λ a b. Passes a b wire item result) old new (none_becomes result _) passes

  pub closes_unheld : (old new : Option Told) (wire : ℕ) (result : Passed) → Closes old new wire result → Closes (told_unheld keeper old) (told_unheld keeper new) wire result
  closes_unheld old new wire result closes = by_keeper keeper (λ a b. Closes a b wire result) old new (none_becomes result _) closes

  pub polls_unheld : (old new : Option Told) (result : Polled) → Polls old new result → Polls (told_unheld keeper old) (told_unheld keeper new) result
  polls_unheld old new result polls = by_keeper keeper (λ a b. Polls a b result) old new (none_polls result) polls

  pub holds_unheld : (old new : Option Told) (wire : ℕ) → Holds old new wire → Holds (told_unheld keeper old) (told_unheld keeper new) wire
  holds_unheld old new wire holds = by_keeper keeper (λ a b. Holds a b wire) old new refl holds

  pub resumes_unheld : (old new : Option Told) (wire : ℕ) → Resumes old new wire → Resumes (told_unheld keeper old) (told_unheld keeper new) wire
  resumes_unheld old new wire resumes = by_keeper keeper (λ a b. Resumes a b wire) old new refl resumes

module _ {K : Type 0} (keeper : K) where
  -- where something is held back nothing is told, whatever is done
  pub passes_held : (k : Option K) (old new : Option Told) (wire : ℕ) (item : Inward) (result : Passed) → k ≡ Some keeper → Passes (told_unheld k old) (told_unheld k new) wire item result
  passes_held None old new wire item result is = absurd (none_some is)
    where
      none_some : None ≡ Some keeper → ⊥
      none_some same = cc
  passes_held (Some x) old new wire item result is = none_becomes result _

  pub closes_held : (k : Option K) (old new : Option Told) (wire : ℕ) (result : Passed) → k ≡ Some keeper → Closes (told_unheld k old) (told_unheld k new) wire result
  closes_held None old new wire result is = absurd (none_some is)
    where
      none_some : None ≡ Some keeper → ⊥
      none_some same = cc
  closes_held (Some x) old new wire result is = none_becomes result _

  pub polls_held : (k : Option K) (old new : Option Told) (result : Polled) → k ≡ Some keeper → Polls (told_unheld k old) (told_unheld k new) result
  polls_held None old new result is = absurd (none_some is)
    where
      none_some : None ≡ Some keeper → ⊥
      none_some same = cc
  polls_held (Some x) old new result is = none_polls result
