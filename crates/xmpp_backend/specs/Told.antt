-- What a back end tells: what it was passed and what its polls gave.
use Rattle.std.specs.Prelude.{◌≡◌, ℕ, Bool, true, false, not, List, [], ◌∷◌, ◌++◌, ◌==◌, Option, Some, None, Contains, IsTrue, map, filter, if◌then◌else◌}
use Rattle.std.specs.List.{list_any}
use Rattle.bosh_types.specs.declared.inward.Inward.{Inward}
use Rattle.body_cutter.specs.Cutting.{is_stanza}
use Rattle.xmpp_backend.specs.declared.backend.Given.{Given}
use Rattle.xmpp_backend.specs.declared.backend.Given.TheVariants as given
use Rattle.xmpp_backend.specs.declared.backend.Passed.{Passed}
use Rattle.xmpp_backend.specs.declared.backend.Passed.TheVariants as passed
use Rattle.xmpp_backend.specs.declared.backend.Polled.{Polled}
use Rattle.xmpp_backend.specs.declared.backend.Polled.TheVariants as polled

-- the wires for which `open` answered Done, each with the name of the host that it was opened to, the items for which `pass` did, what
-- polls gave, closings among it, and the wires for which `close` answered Done, each in the order of the calls; and the wires that are
-- held now
pub record Told : Type 0 where
  pub opened : List (ℕ × List ℕ)
  pub passed : List (ℕ × Inward)
  pub given : List (ℕ × Given)
  pub closed : List ℕ
  pub held : List ℕ

-- what was done, by the calls that did it
pub record Done : Type 0 where
  pub opened : List (ℕ × List ℕ)
  pub passed : List (ℕ × Inward)
  pub given : List (ℕ × Given)
  pub closed : List ℕ

abbrev pub told_with : List ℕ → Done → Told
told_with held done = record { opened = done.opened; passed = done.passed; given = done.given; closed = done.closed; held = held }

-- the wires that were opened
abbrev pub wires_of : List (ℕ × List ℕ) → List ℕ
wires_of opened = map (λ opening. opening.0) opened

abbrev pub has_wire : ℕ → List ℕ → Bool
has_wire wire wires = list_any (λ other. other == wire) wires

-- the wires, and this one too
abbrev pub with_wire : ℕ → List ℕ → List ℕ
with_wire wire wires = if has_wire wire wires then wires else wires ++ wire ∷ []

-- the wires, but not this one
abbrev pub without_wire : ℕ → List ℕ → List ℕ
without_wire wire wires = filter (λ other. not (other == wire)) wires

-- what is given as a stanza is one
abbrev pub is_proper : Given → Bool
is_proper (given.Stanza text) = is_stanza text
is_proper (given.Closed closing) = true

-- what was passed or given on one wire
abbrev pub on_wire : {A : Type 0} → ℕ → List (ℕ × A) → List A
on_wire wire entries = map (λ entry. entry.1) (filter (λ entry. entry.0 == wire) entries)

-- a wire that is opened isn't held
abbrev pub opened_too : ℕ → List ℕ → Told → Told
opened_too wire to told = record told { opened = told.opened ++ (wire, to) ∷ []; held = without_wire wire told.held }

abbrev pub passed_too : ℕ → Inward → Told → Told
passed_too wire item told = record told { passed = told.passed ++ (wire, item) ∷ [] }

abbrev pub given_too : ℕ → Given → Told → Told
given_too wire what told = record told { given = told.given ++ (wire, what) ∷ [] }

-- nor is one that is closed
abbrev pub closed_too : ℕ → Told → Told
closed_too wire told = record told { closed = told.closed ++ wire ∷ []; held = without_wire wire told.held }

abbrev pub held_too : ℕ → Told → Told
held_too wire told = record told { held = with_wire wire told.held }

abbrev pub resumed_too : ℕ → Told → Told
resumed_too wire told = record told { held = without_wire wire told.held }

-- the lists are changed so, where they are told; one that tells nothing goes on telling nothing
abbrev pub Becomes : Option Told → Option Told → (Told → Told) → Type 0
Becomes None new change = new ≡ None
Becomes (Some old) new change = new ≡ Some (change old)

-- the lists are changed so by Done, and by no other answer
abbrev pub BecomesIfDone : Option Told → Option Told → Passed → (Told → Told) → Type 0
BecomesIfDone old new passed.Done change = Becomes old new change
BecomesIfDone old new passed.Failed change = Becomes old new (λ told. told)
BecomesIfDone old new passed.NoMemory change = Becomes old new (λ told. told)

abbrev pub Opens : Option Told → Option Told → ℕ → List ℕ → Passed → Type 0
Opens old new wire to result = BecomesIfDone old new result (opened_too wire to)

abbrev pub Passes : Option Told → Option Told → ℕ → Inward → Passed → Type 0
Passes old new wire item result = BecomesIfDone old new result (passed_too wire item)

abbrev pub Closes : Option Told → Option Told → ℕ → Passed → Type 0
Closes old new wire result = BecomesIfDone old new result (closed_too wire)

-- `open` answered Done for the wire, where that is told
abbrev pub WasOpened : Option Told → ℕ → Type 0
WasOpened None wire = Unit {0}
WasOpened (Some told) wire = Contains (wires_of told.opened) wire

-- the wire isn't held, where that is told
abbrev pub IsUnheld : Option Told → ℕ → Type 0
IsUnheld None wire = Unit {0}
IsUnheld (Some told) wire = has_wire wire told.held ≡ false

-- a poll gives on a wire that was opened and isn't held, and what it gave is in the lists
abbrev pub Polls : Option Told → Option Told → Polled → Type 0
Polls old new (polled.Out wire text) = WasOpened old wire × IsUnheld old wire × Becomes old new (given_too wire (given.Stanza text))
Polls old new (polled.Closed wire closing) = WasOpened old wire × IsUnheld old wire × Becomes old new (given_too wire (given.Closed closing))
Polls old new polled.Nothing = Becomes old new (λ told. told)
Polls old new polled.Failed = Becomes old new (λ told. told)
Polls old new polled.NoMemory = Becomes old new (λ told. told)

abbrev pub Holds : Option Told → Option Told → ℕ → Type 0
Holds old new wire = Becomes old new (held_too wire)

abbrev pub Resumes : Option Told → Option Told → ℕ → Type 0
Resumes old new wire = Becomes old new (resumed_too wire)

-- the text that a poll gave is a stanza
abbrev pub GivesStanza : Polled → Type 0
GivesStanza (polled.Out wire text) = IsTrue (is_stanza text)
GivesStanza (polled.Closed wire closing) = Unit {0}
GivesStanza polled.Nothing = Unit {0}
GivesStanza polled.Failed = Unit {0}
GivesStanza polled.NoMemory = Unit {0}
