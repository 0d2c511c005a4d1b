-- What the code of an arrival needs to know of the request and its body.
use Rattle.std.specs.Prelude.{◌≡◌, ℕ, ◌<◌, ◌≤◌, false, List, [], ◌∷◌, ◌++◌, None, IfSome, length}
use Rattle.bosh_types.specs.Limits.{longest_body, most_children}
use Rattle.session_attrs.specs.declared.request.Request.{Request}
use Rattle.bosh_types.specs.Rid.{greatest_rid}
use Rattle.rid_window.specs.declared.window.Window.{Window}
use Rattle.rid_window.specs.PlainWindow.{PlainWindow}
use Rattle.rid_window.specs.StandsFor as windows
use Rattle.session_core.specs.declared.copy.RequestCopy.{RequestCopy}
use Rattle.session_core.specs.declared.session.Session.{Session}
use Rattle.session_core.specs.Copy.{id_of, with_id}
use Rattle.session_core.specs.StandsFor.{StandsFor}
use Rattle.session_core.specs.State.{PlainSession, Waits, is_over, last_of, standing_at}

-- a body within its limits, and a request that acknowledges a lower id, if any
pub record IsModest (request : Request) (body : List ℕ) : Type 0 where
  pub bytes : length body ≤ longest_body
  pub stanzas : length request.stanzas ≤ most_children
  pub ack : IfSome request.ack (λ ack. ack < request.rid)

-- one more ticket is out, for a request that has nothing yet
abbrev pub with_ticket : PlainSession → ℕ → PlainSession
with_ticket s rid = record s { tickets = s.tickets ++ record { rid = rid; state = Waits } ∷ [] }

-- the session stands for the plain one, in which nothing stands for the copy's id; but the copy is in its window
pub record IsPlacedIn (s : Session) (plain : PlainSession) (copy : RequestCopy) : Type 0 where
  pub window : Window RequestCopy
  pub before : StandsFor (record s { window = window }) plain
  pub goes_on : is_over plain ≡ false
  pub later : last_of plain < id_of copy
  pub ack : IfSome copy.request.ack (λ ack. ack < id_of copy)
  pub arrived : copy.arrived ≡ s.moment
  pub within : id_of copy ≤ greatest_rid
  pub free : standing_at plain (id_of copy) ≡ None
  pub places : (w : PlainWindow RequestCopy) → windows.StandsFor window w → windows.StandsFor s.window (record w { placed = w.placed ++ with_id copy ∷ [] })
