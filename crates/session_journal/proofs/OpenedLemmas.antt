-- A session as it is opened, beside its first entry.
use Rattle.std.proofs.Common.{◌≡◌, ℕ, List, [], ◌∷◌, Some, refl, sym, ◌∙◌, ap, subst}
use Rattle.std.specs.Prelude.{option_and_then}
use Rattle.std.specs.Option.{option_map}
use Rattle.session_core.specs.declared.session.Session.{Session}
use Rattle.session_core.specs.Journal.{Journal, IsOpening, none}
use Rattle.session_core.specs.Machine.{opened}
use Rattle.session_core.specs.declared.opening.Opening.{Opening}
use Rattle.session_core.specs.StandsFor.{StandsFor}
use Rattle.session_journal.specs.declared.entry.Entered.TheVariants as stored
use Rattle.session_journal.specs.declared.entry.Entry.{Entry}
use Rattle.session_journal.specs.Entries.{opening_in, opening_with, opening_by, terms_in, all_of}
use Rattle.session_journal.specs.Stored.{IsJournalOf}
use Rattle.session_journal.specs.Storing.{Stands}
use Rattle.session_journal.proofs.JournalLemmas.{read_gives, opened_with}

-- the first entry tells the opening
opening_told : (o : Opening) → IsOpening o → opening_in (stored.Open o.sid o.host o.greeting o.body o.at o.limit o.gap_waits) ≡ Some o
opening_told o is =
    ap (option_and_then (opening_with o.sid o.host o.greeting o.body o.at o.limit o.gap_waits)) (read_gives o.body o.request is.read)
    ∙ ap (option_map (opening_by o.sid o.host o.greeting o.body o.at o.limit o.gap_waits o.request)) (ap terms_in (is.creation).1 ∙ ap Some (sym (is.creation).2))

abbrev pub first_entry : ℕ → Opening → Entry
first_entry caller o = record { caller = caller; call = stored.Open o.sid o.host o.greeting o.body o.at o.limit o.gap_waits }

abbrev pub first_journal : Opening → Journal
first_journal o = record { opening = o; entries = [] }

pub first_told : (caller : ℕ) (o : Opening) → IsOpening o → (log : List Entry) → log ≡ first_entry caller o ∷ [] → IsJournalOf log (first_journal o)
first_told caller o is log log_is = subst (λ l. IsJournalOf l (first_journal o)) (sym log_is) (record {
  told = ap (λ x. all_of opened_with x (Some [])) (opening_told o is);
  made = (is, none);
})

pub first_stands : (caller : ℕ) (o : Opening) → IsOpening o → (log : List Entry) → log ≡ first_entry caller o ∷ [] → (session : Session) → StandsFor session (opened o) → Stands session log 0
first_stands caller o is log log_is session stands =
    record { journal = first_journal o; is = first_told caller o is log log_is; stands = stands; out_is = refl }
