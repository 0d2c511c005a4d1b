-- What a kind in memory owes on its open wires, and what its calls do.
use Rattle.std.specs.Prelude.{◌≡◌, ℕ, Bool, false, List, [], ◌∷◌, ◌++◌, Contains, All}
use Rattle.bosh_types.specs.declared.inward.Inward.{Inward}
use Rattle.xmpp_backend.specs.Counts.{Counts, counted_on}
use Rattle.xmpp_backend.specs.Dues.{Due, Dues, OwedText, closed_from, held_from, opened_from, owes_all, resumed_from}
use Rattle.xmpp_backend.specs.Told.{Done, Told, has_wire, told_with, wires_of}
use Rattle.xmpp_backend.specs.declared.backend.Given.{Given}
use Rattle.xmpp_backend.specs.declared.backend.Given.TheVariants as given
use Rattle.xmpp_backend.specs.declared.backend.Passed.{Passed}
use Rattle.xmpp_backend.specs.declared.backend.Passed.TheVariants as passed
use Rattle.xmpp_backend.specs.declared.backend.Polled.{Polled}
use Rattle.xmpp_backend.specs.declared.backend.Polled.TheVariants as polled

-- what was done, what it counts, and what is owed on wires
pub record Owing : Type 0 where
  pub done : Done
  pub counts : Counts
  pub dues : Dues

-- what it tells
abbrev pub told_of : Owing → Told
told_of owing = told_with owing.dues.held owing.done

-- before any call
abbrev pub nothing_owed : Owing
nothing_owed = record {
  done = record { opened = []; passed = []; given = []; closed = [] };
  counts = record { faults = 0; idle = 0; answers = 0 };
  dues = record { wires = []; held = []; owed = []; kept = [] };
}

abbrev pub is_open : Owing → ℕ → Bool
is_open owing wire = has_wire wire owing.dues.wires

-- the wire is open from now on
abbrev pub opened : ℕ → List ℕ → Owing → Owing
opened wire to owing = record owing { done = record owing.done { opened = owing.done.opened ++ (wire, to) ∷ [] }; dues = opened_from wire owing.dues }

-- the item was passed, and these stanzas are owed after the others for it
abbrev pub passed_for : ℕ → Inward → List OwedText → Owing → Owing
passed_for wire item stanzas owing =
    record owing { done = record owing.done { passed = owing.done.passed ++ (wire, item) ∷ [] }; dues = owes_all stanzas owing.dues }

-- the wire is no longer open, and nothing is owed on it
abbrev pub closed : ℕ → Owing → Owing
closed wire owing = record owing { done = record owing.done { closed = owing.done.closed ++ wire ∷ [] }; dues = closed_from wire owing.dues }

-- the wire is held, and then no longer
abbrev pub held : ℕ → Owing → Owing
held wire owing = record owing { dues = held_from wire owing.dues }

abbrev pub resumed : ℕ → Owing → Owing
resumed wire owing = record owing { dues = resumed_from wire owing.dues }

-- the call failed, and did nothing else
abbrev pub failed : Owing → Owing
failed owing = record owing { counts = record owing.counts { faults = counted_on owing.counts.faults } }

-- this was given on this wire, and the rest is owed
abbrev pub paid : ℕ → Given → List Due → Owing → Owing
paid wire what rest owing = record {
  done = record owing.done { given = owing.done.given ++ (wire, what) ∷ [] };
  counts = record owing.counts { answers = counted_on owing.counts.answers };
  dues = record owing.dues { owed = rest };
}

-- a poll that had nothing to give
abbrev pub idled : Owing → Owing
idled owing = record owing { counts = record owing.counts { idle = counted_on owing.counts.idle } }

-- a call that never fails: it is done, or there was no memory and all is as before
abbrev pub IsDoneOrSame : Owing → Owing → Owing → Passed → Type 0
IsDoneOrSame old new after passed.Done = new ≡ after
IsDoneOrSame old new after passed.Failed = ⊥
IsDoneOrSame old new after passed.NoMemory = new ≡ old

-- this is the first that is owed, on a wire that isn't held, and it was given
abbrev pub Pays : ℕ → Given → Owing → Owing → Type 0
Pays wire what old new = (old.dues.owed ≡ (wire, what) ∷ new.dues.owed) × (new ≡ paid wire what new.dues.owed old) × (has_wire wire old.dues.held ≡ false)

-- a poll gives the first that is owed, on its wire, and Nothing where nothing is owed but on wires that are held; it never fails and
-- takes no memory
abbrev pub PaysFirst : Owing → Owing → Polled → Type 0
PaysFirst old new (polled.Out wire text) = Pays wire (given.Stanza text) old new
PaysFirst old new (polled.Closed wire closing) = Pays wire (given.Closed closing) old new
PaysFirst old new polled.Nothing = (old.dues.owed ≡ []) × (new ≡ idled old)
PaysFirst old new polled.Failed = ⊥
PaysFirst old new polled.NoMemory = ⊥

-- what a poll gives, it gives on a wire that was opened
abbrev pub GivesOnOpened : Owing → Polled → Type 0
GivesOnOpened owing (polled.Out wire text) = Contains (wires_of owing.done.opened) wire
GivesOnOpened owing (polled.Closed wire closing) = Contains (wires_of owing.done.opened) wire
GivesOnOpened owing polled.Nothing = Unit {0}
GivesOnOpened owing polled.Failed = Unit {0}
GivesOnOpened owing polled.NoMemory = Unit {0}

-- the open wires were opened, and so were those on which something is owed or kept
pub record AllWereOpened (opened : List ℕ) (dues : Dues) : Type 0 where
  pub wires : All (Contains opened) dues.wires
  pub owed : All (λ due. Contains opened due.0) dues.owed
  pub kept : All (λ due. Contains opened due.0) dues.kept
