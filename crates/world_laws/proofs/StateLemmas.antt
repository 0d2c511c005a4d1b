-- What every state of a journal tells: what stands was processed in order, and its moment is the greatest of its entries.
use Rattle.std.proofs.Common.{◌≡◌, ℕ, List, [], ◌∷◌, ◌++◌, refl, sym, ◌∙◌, ap}
use Rattle.session_core.specs.declared.opening.Opening.{Opening}
use Rattle.session_core.specs.Journal.{Entry, IsJournal, Journal, MayEnter, after_entry, state_of}
use Rattle.session_core.specs.Machine.{opened}
use Rattle.session_core.specs.Run.{moment_after}
use Rattle.session_core.specs.State.{PlainSession}
use Rattle.session_laws.proofs.Arrivals.{moment-push, moment_of}
use Rattle.session_laws.proofs.Clear.{every_clear}
use Rattle.session_laws.proofs.Followed.{IsFollowed, followed_steady, opened_followed}
use Rattle.session_laws.proofs.PlacedLemmas.{IsPlain, entry_places, entry_within, opened_within}
use Rattle.session_laws.proofs.SoundLemmas.{IsSound, opened_sound, sound_steady}
use Rattle.session_laws.proofs.Steadily.{steady-entry}
use Rattle.session_laws.proofs.Steps.{along}

pub every_sound : (j : Journal) → IsJournal j → IsSound (state_of j)
every_sound j made = (every_clear j made).0

abbrev IsAt : Opening → List Entry → PlainSession → Type 0
IsAt o past s = IsPlain s × (s.now ≡ moment_of o.at past)

entry_at : (o : Opening) (past : List Entry) (s : PlainSession) (entry : Entry) → MayEnter s entry.entered → IsAt o past s → IsAt o (past ++ entry ∷ []) (after_entry s entry.entered)
entry_at o past s entry may (plain, now) = (
  (
    steady-entry IsSound sound_steady s entry.entered may plain.0,
    steady-entry IsFollowed followed_steady s entry.entered may plain.1,
    entry_within s entry.entered may plain.2,
  ),
  (entry_places s entry.entered may plain).now ∙ ap (λ (m : ℕ). moment_after m entry.entered) now ∙ sym (moment-push o.at past entry),
)

pub every_moment : (j : Journal) → IsJournal j → (state_of j).now ≡ moment_of j.opening.at j.entries
every_moment j made =
    (along (opened j.opening) (IsAt j.opening) (λ past s entry may same at. entry_at j.opening past s entry may at) j.entries made.1
    ((opened_sound j.opening, opened_followed j.opening, opened_within j.opening), refl)).1
