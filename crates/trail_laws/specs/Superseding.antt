-- Who took the place of a request that waited.
use Rattle.std.specs.Prelude.{◌≡◌, ◌≢◌, ◌⊎◌, ℕ, List, ◌∷◌, ◌++◌, Option, Some}
use Rattle.std.specs.Option.{option_to_list}
use Rattle.parked_gate.specs.Passes.{known}
use Rattle.session_attrs.specs.declared.request.Request.{Request}
use Rattle.session_core.specs.declared.replies.Arrived.TheVariants as arrivals
use Rattle.session_core.specs.declared.replies.Collected.{Collected}
use Rattle.session_core.specs.declared.replies.Collected.TheVariants.{Superseded, UnknownTicket}
use Rattle.session_core.specs.Journal as plain
use Rattle.session_journal.specs.declared.entry.Entry.{Entry}
use Rattle.session_journal.specs.Stored.{Replies}
use Rattle.session_table.specs.declared.handle.SessionHandle.{SessionHandle}
use Rattle.session_table.specs.declared.purse.Purse.{Purse}
use Rattle.session_table.specs.Purses.{held}
use Rattle.serve_loop.specs.Trail.{Arrives, Names, Setting}
use Rattle.trail_laws.specs.Asking.{Every}

-- A request waited in a session that is held: its arrival was given a ticket. When the ticket was asked for, another copy had taken the request's place, or its
-- answer had been collected; and each entry between the two is another caller's
pub record IsTakenByOthers (site : Setting) (purse : Purse) : Type 0 where
  pub number : ℕ
  pub handle : SessionHandle
  pub is : held purse.sessions number ≡ Some handle
  pub body : List ℕ
  pub request : Request
  pub names : Names body handle.sid request
  pub ticket : ℕ
  pub before : List Entry
  pub arrival : Entry
  pub later : List Entry
  pub made : Option Entry
  pub seen : (known handle.pass).seen ≡ (before ++ arrival ∷ later) ++ option_to_list made
  pub arrived : Arrives site before arrival request body (arrivals.Parked ticket)
  pub own : arrival.caller ≡ (known handle.pass).number
  pub others : Every (λ (e : Entry). e.caller ≢ (known handle.pass).number) later
  pub found : Collected
  pub gets_none : (found ≡ Superseded) ⊎ (found ≡ UnknownTicket)
  pub told : Replies (before ++ arrival ∷ later) (plain.Collect ticket) (plain.ToCollect found) made
