-- The places that lines of one session name.
use Rattle.std.specs.Prelude.{◌≡◌, ◌⊎◌, ◌<◌, ℕ, true, Contains, List, ◌∷◌, ◌++◌, Some}
use Rattle.parked_gate.specs.Passes.{known}
use Rattle.session_core.specs.State.{is_over}
use Rattle.session_journal.specs.Stored.{After}
use Rattle.session_table.specs.declared.handle.SessionHandle.{SessionHandle}
use Rattle.session_table.specs.declared.purse.Purse.{Purse}
use Rattle.session_table.specs.History.{openings_of}
use Rattle.session_table.specs.Keeping.{session_of}
use Rattle.session_table.specs.Purses.{held}
use Rattle.serve_loop.specs.declared.trail.Evidence.{Evidence}
use Rattle.serve_loop.specs.declared.trail.Evidence.TheVariants as evidence
use Rattle.serve_loop.specs.declared.trail.Traced.{Traced}
use Rattle.serve_loop.specs.declared.trail.TrailLine.TheVariants as lines
use Rattle.trail_laws.specs.Told.{Has}

-- what a worker holds are sessions that were opened in what it has seen of the directory, each under its opening number; so it is where it holds none
abbrev pub HoldsOpened : Purse → Type 0
HoldsOpened purse =
    (number : ℕ) (handle : SessionHandle) → held purse.sessions number ≡ Some handle → (handle.number ≡ number) × Contains (openings_of (known purse.directory).seen) (session_of handle)

-- the session of this name tells a line, and was seen to have ended
abbrev pub HasEnded : List ℕ → Evidence → Type 0
HasEnded sid evidence.Request = ⊥
HasEnded sid (evidence.Session session) = (session.value.sid ≡ sid) × After (known session.value.pass).seen (λ s. is_over s ≡ true)
HasEnded sid (evidence.Directory pass) = ⊥

-- one of these lines is told by the session of this name, which was seen to have ended
abbrev pub SeesEnd : List ℕ → List Traced → Type 0
SeesEnd sid among = (t : Traced) × Has among t × HasEnded sid t.evidence

-- of two lines that name entries of one session the later names the same caller and a greater place, unless the session was seen to have ended by the
-- earlier one or by one between the two
abbrev pub PlacesRise : List Traced → Type 0
PlacesRise added =
    (before between later : List Traced) (t u : Traced) (sid : List ℕ) (caller caller' place place' : ℕ) → added ≡ before ++ t ∷ (between ++ u ∷ later)
    → t.line ≡ lines.Entry sid caller place → u.line ≡ lines.Entry sid caller' place' → ((caller' ≡ caller) × (place < place')) ⊎ SeesEnd sid (t ∷ between)
