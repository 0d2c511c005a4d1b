-- What is told of a ticket, both ways.
use Rattle.std.proofs.Common.{◌≡◌, ℕ, zero, suc, List, Option, Some, None, slice_get, refl, sym, ◌∙◌, ap, inl, inr}
use Rattle.session_core.specs.declared.replies.Collected.{Collected}
use Rattle.session_core.specs.declared.replies.Collected.TheVariants as collections
use Rattle.session_core.specs.Machine.{bytes_for, collected_bytes, collected_by, collected_from, collect}
use Rattle.session_core.specs.State.{PlainSession, Issued, TicketState, Waits, Replaced, Struck, UsedUp}
use Rattle.session_core.specs.TicketsOut.{issued_at}
use Rattle.session_laws.specs.Tickets.{Tells}

module _ (s : PlainSession) (index : ℕ) where
  tells_bytes : (ticket : Issued) → slice_get s.tickets index ≡ Some ticket → ticket.state ≡ Waits → (o : Option (List ℕ)) → bytes_for s ticket.rid ≡ o → Tells s (suc index) (collected_bytes s index ticket o).1
  tells_bytes ticket at waits None is = (ticket, at, waits, is)
  tells_bytes ticket at waits (Some bytes) is = (ticket, at, inl (waits, is))

  tells_by : (ticket : Issued) → slice_get s.tickets index ≡ Some ticket → (state : TicketState) → ticket.state ≡ state → Tells s (suc index) (collected_by s index ticket state).1
  tells_by ticket at Waits is = tells_bytes ticket at is (bytes_for s ticket.rid) refl
  tells_by ticket at Replaced is = (ticket, at, is)
  tells_by ticket at Struck is = (ticket, at, inr (is, refl))
  tells_by ticket at UsedUp is = inr (ticket, at, is)

  tells_from : (o : Option Issued) → slice_get s.tickets index ≡ o → Tells s (suc index) (collected_from s index o).1
  tells_from None at = inl at
  tells_from (Some ticket) at = tells_by ticket at ticket.state refl

-- the reply is told rightly
pub collect_tells : (s : PlainSession) (number : ℕ) → Tells s number (collect s number).1
collect_tells s zero = inl refl
collect_tells s (suc index) = tells_from s index (slice_get s.tickets index) refl

module _ (s : PlainSession) where
  state_gives : (number : ℕ) (ticket : Issued) (state : TicketState) → issued_at s.tickets number ≡ Some ticket → ticket.state ≡ state → (index : ℕ) → number ≡ suc index
      → (collect s number).1 ≡ (collected_by s index ticket state).1
  state_gives number ticket state at is index number_is =
      let here : slice_get s.tickets index ≡ Some ticket = ap (issued_at s.tickets) (sym number_is) ∙ at in
      ap (λ n. (collect s n).1) number_is ∙ ap (λ (o : Option Issued). (collected_from s index o).1) here ∙ ap (λ st. (collected_by s index ticket st).1) is

  -- what is told rightly is the reply
  pub tells_reply : (number : ℕ) (r : Collected) → Tells s number r → (collect s number).1 ≡ r
  tells_reply zero (collections.Answer bytes) t = absurd (cc (t.1))
  tells_reply zero collections.NotYet t = absurd (cc (t.1))
  tells_reply zero collections.Superseded t = absurd (cc (t.1))
  tells_reply zero collections.UnknownTicket t = refl
  tells_reply (suc index) (collections.Answer bytes) t = elim t.2 [
    | inl waits ↦ state_gives (suc index) t.0 Waits t.1 waits.0 index refl ∙ ap (λ (o : Option (List ℕ)). (collected_bytes s index t.0 o).1) waits.1
    | inr struck ↦ state_gives (suc index) t.0 Struck t.1 struck.0 index refl ∙ ap collections.Answer (sym struck.1)
  ]
  tells_reply (suc index) collections.NotYet t = state_gives (suc index) t.0 Waits t.1 t.2 index refl ∙ ap (λ (o : Option (List ℕ)). (collected_bytes s index t.0 o).1) t.3
  tells_reply (suc index) collections.Superseded t = state_gives (suc index) t.0 Replaced t.1 t.2 index refl
  tells_reply (suc index) collections.UnknownTicket t = elim t [
    | inl none ↦ ap (λ (o : Option Issued). (collected_from s index o).1) none
    | inr used ↦ state_gives (suc index) used.0 UsedUp used.1 used.2 index refl
  ]
