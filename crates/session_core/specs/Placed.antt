-- When a copy stands for its id, and when it is struck, XEP-0124 sections 14 and 17.3: what each entry brings to the places of ids. Both
-- are told by the moment and by what was received until then, and neither by how a session goes about it.
use Rattle.std.specs.Prelude.{◌≡◌, ◌↔◌, ℕ, suc, ◌+◌, ◌*◌, ◌<◌, ◌≤◌, false, List, [], ◌∷◌, ◌++◌, map, Some, slice_get}
use Rattle.session_core.specs.declared.copy.RequestCopy.{RequestCopy}
use Rattle.session_core.specs.Answers.{settled}
use Rattle.session_core.specs.Copy.{id_of}
use Rattle.session_core.specs.Gap.{strike_ticket}
use Rattle.session_core.specs.Journal.{Arrive, Collect, Back, BackClosed, Tick, TakeInward, Entered, Made, Limit}
use Rattle.session_core.specs.Machine.{copy_now}
use Rattle.session_core.specs.Points.{tested_at}
use Rattle.session_core.specs.Run.{IsReceived, Lacks}
use Rattle.session_core.specs.State.{PlainSession, Stands, Strikes, Issued, last_of, is_over}
use Rattle.session_core.specs.Time.{at_moment}
use Rattle.session_core.specs.Window.{is_above}

-- a copy that was received with this id, beyond the gap, is struck at this state: the session goes on and doesn't poll, and the copy
-- arrived as many times `wait` seconds ago or earlier as the session allows
pub record IsStruckAt (s : PlainSession) (rid : ℕ) (copy : RequestCopy) : Type 0 where
  pub goes_on : is_over s ≡ false
  pub holds : s.terms.polled ≡ false
  pub beyond : last_of s < rid
  pub received : IsReceived s.placings rid copy
  pub waited : copy.arrived + s.gap_waits * (s.terms.wait * 1000) ≤ s.now

-- these ids go up
abbrev pub AreRising : List ℕ → Type 0
AreRising rids = (k low high : ℕ) → slice_get rids k ≡ Some low → slice_get rids (suc k) ≡ Some high → low < high

-- these are the ids of the copies that are struck at this state: all of them, and no other, the lowest first
pub record AreStruckAt (s : PlainSession) (rids : List ℕ) : Type 0 where
  pub rising : AreRising rids
  pub each : (rid : ℕ) → ((k : ℕ) × (slice_get rids k ≡ Some rid)) ↔ ((copy : RequestCopy) × IsStruckAt s rid copy)

-- what time strikes at a moment: it first answers the held requests that have a reason
abbrev pub AreStruckBy : PlainSession → ℕ → List ℕ → Type 0
AreStruckBy s now rids = AreStruckAt (settled (at_moment s now)) rids

-- what is struck with an entry: nothing where it carries no moment, and nothing at the limit of the journal
abbrev pub AreStruckIn : PlainSession → Entered → List ℕ → Type 0
AreStruckIn s (Made (Arrive request body now)) rids = AreStruckBy s now rids
AreStruckIn s (Made (Collect ticket)) rids = rids ≡ []
AreStruckIn s (Made (Back stream stanza now)) rids = AreStruckBy s now rids
AreStruckIn s (Made (BackClosed stream closing now)) rids = AreStruckBy s now rids
AreStruckIn s (Made (Tick now)) rids = AreStruckBy s now rids
AreStruckIn s (Made TakeInward) rids = rids ≡ []
AreStruckIn s (Limit kind cost now) rids = rids ≡ []

-- an arriving copy stands for its id: the session goes on, the id wasn't processed, none was received with it, and the window reaches it
pub record MayStand (s : PlainSession) (copy : RequestCopy) : Type 0 where
  pub goes_on : is_over s ≡ false
  pub later : last_of s < id_of copy
  pub lacks : Lacks s.placings (id_of copy)
  pub within : is_above s copy ≡ false

-- what comes to stand of an arriving copy: itself where it may, and else nothing
pub record ComesToStand (s : PlainSession) (copy : RequestCopy) (stood : List RequestCopy) : Type 0 where
  pub may : MayStand s copy → stood ≡ copy ∷ []
  pub may_not : (MayStand s copy → ⊥) → stood ≡ []

-- what comes to stand with an entry, once time was applied
abbrev pub StandIn : PlainSession → Entered → List RequestCopy → Type 0
StandIn tested (Made (Arrive request body now)) stood = ComesToStand tested (copy_now tested request body) stood
StandIn tested (Made (Collect ticket)) stood = stood ≡ []
StandIn tested (Made (Back stream stanza now)) stood = stood ≡ []
StandIn tested (Made (BackClosed stream closing now)) stood = stood ≡ []
StandIn tested (Made (Tick now)) stood = stood ≡ []
StandIn tested (Made TakeInward) stood = stood ≡ []
StandIn tested (Limit kind cost now) stood = stood ≡ []

-- with an entry, from the state before it to the one after it: these are struck, each at the moment of the entry, and then the copy
-- comes to stand that may; nothing else comes to the places of ids
pub record ArePlaced (s : PlainSession) (entered : Entered) (after : PlainSession) : Type 0 where
  pub struck : List ℕ
  pub are_struck : AreStruckIn s entered struck
  pub stood : List RequestCopy
  pub stand : StandIn (tested_at s entered) entered stood
  pub placings_are : after.placings ≡ s.placings ++ map (λ rid. Strikes rid (tested_at s entered).now) struck ++ map Stands stood

-- the tickets once these ids were struck: a request that waited for one of them has the error
abbrev pub struck_tickets : List ℕ → List Issued → List Issued
struck_tickets [] tickets = tickets
struck_tickets (rid ∷ rids) tickets = struck_tickets rids (map (strike_ticket rid) tickets)
