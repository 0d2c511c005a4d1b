-- Creations that there was no memory to answer.
use Rattle.std.proofs.Common.{◌≡◌, ℕ, List, Option, Some, None, ◌⊎◌, inl, inr, slice_get}
use Rattle.std.specs.BTreeMap.{IsUnchanged}
use Rattle.bosh_types.specs.declared.hosts.HostName.{HostName}
use Rattle.parked_gate.specs.Passes.{Calls, known}
use Rattle.session_attrs.specs.declared.request.Request.{Request}
use Rattle.session_table.specs.declared.calls.NewSession.TheVariants as news
use Rattle.session_table.specs.declared.opening.Opening.{Opening}
use Rattle.session_table.specs.declared.purse.Purse.{Purse}
use Rattle.session_table.specs.Purses.{OpensInto, OpensOrNot, OthersStay}
use Rattle.session_table.specs.Replies.{IsFull, IsSpent}
use Rattle.serve_loop.specs.declared.asked.Asked.TheVariants.{Creation}
use Rattle.serve_loop.specs.Answering.{IsLost}
use Rattle.serve_loop.specs.Asked.{asked_of}
use Rattle.serve_loop.specs.Trail.{IsOpeningAt, IsOpeningFor, Setting}
use Rattle.serve_loop.proofs.TellingLemmas.{calls_as}

module _ (site : Setting) (body : List ℕ) (request : Request) (place : ℕ) (host : HostName) (opening : Opening) (asks : asked_of site.hosts body ≡ Creation request place)
    (there : slice_get site.hosts place ≡ Some host) (opens : IsOpeningAt site host request body opening) (before after : Purse) where
  opening_for : IsOpeningFor site body opening
  opening_for = record { request = request; place = place; host = host; asks = asks; there = there; opens = opens }

  -- the reply of the directory was lost
  pub open_lost : IsUnchanged before.sessions after.sessions → Calls (λ e. e.caller) (λ log made. OpensOrNot log opening made) (known before.directory) (known after.directory)
      → IsLost site body before after
  open_lost same call = inr (opening, opening_for, record { entered = call; held = inl same })

  -- the session was opened, and there is no memory for its line
  pub opened_lost : (number : ℕ) (text : List ℕ) → OthersStay number before.sessions after.sessions
      → Calls (λ e. e.caller) (λ log made. OpensInto log opening (news.Opened number text) after.sessions made) (known before.directory) (known after.directory) → IsLost site body before after
  opened_lost number text others call = inr (
    opening,
    opening_for,
    record {
      entered = calls_as (λ e. e.caller) _ _ (known before.directory) (known after.directory) (λ log made says. inr (record { session = says.0; answer = text }, says.2)) call;
      held = inr (number, call.says.0, call.says.1, call.says.2.mine, others);
    },
  )

  -- there is no room, and no memory to say so
  pub full_lost : IsUnchanged before.sessions after.sessions
      → Calls (λ e. e.caller) (λ log made. (made ≡ None) × (IsFull site.limits log ⊎ IsSpent site.limits log)) (known before.directory) (known after.directory) → IsLost site body before after
  full_lost same call = inr (
    opening,
    opening_for,
    record { entered = calls_as (λ e. e.caller) _ _ (known before.directory) (known after.directory) (λ log made says. inl says.0) call; held = inl same },
  )
