-- What talking came to, once what was handed out after it is written.
use Rattle.std.proofs.Common.{◌≡◌, ◌≤◌, ℕ, Bool, true, false, List, refl, ◌∙◌, ap}
use Rattle.std.specs.Prelude.{Option, Result, Ok, Err}
use Rattle.std.specs.declared.alloc.AllocError.{AllocError}
use Rattle.bosh_client.specs.declared.replies.Queued.{Queued}
use Rattle.bosh_ports.specs.Faults.{HasRisen}
use Rattle.bosh_ports.proofs.FaultLemmas.{HasRisen-before}
use Rattle.parked_gate.specs.Histories.{StartsWith}
use Rattle.parked_gate.specs.Passes.{Known}
use Rattle.client_run.specs.declared.attending.Attended.{Attended}
use Rattle.client_run.specs.declared.attending.Attended.TheVariants as attended
use Rattle.client_run.specs.declared.call.Call.TheVariants as calls
use Rattle.client_run.specs.declared.entry.Entry.{Entry}
use Rattle.client_run.specs.Adding.{AddsOnly, is_hand_out}
use Rattle.client_run.specs.Attending.{is_attend_whole}
use Rattle.client_run.specs.Lingering.{LingersBy, Spoke, is_linger_whole}
use Rattle.client_run.specs.Queueing.{GoesFurther, QueuesBy}
use Rattle.client_run.specs.Ran.{ConversesBy}
use Rattle.client_run.specs.Running.{is_done}
use Rattle.client_run.proofs.OrderLemmas.{asks_last, asks_later, further_both}

pub whole_well : (t : Attended) → is_done t ≡ true → is_attend_whole (Ok t) ≡ true
whole_well attended.Done well = refl
whole_well (attended.Bad n) well = refl
whole_well attended.ReadFault well = refl
whole_well attended.WriteFault well = absurd (cc)
whole_well attended.Stuck well = refl

pub whole_then : (t : Attended) → is_done t ≡ true → is_linger_whole (Ok t) ≡ true
whole_then attended.Done well = refl
whole_then (attended.Bad n) well = absurd (cc)
whole_then attended.ReadFault well = absurd (cc)
whole_then attended.WriteFault well = absurd (cc)
whole_then attended.Stuck well = refl

module _ (input : Option (List ℕ)) (start mid new : Known Entry) (reads later writes between last : ℕ) where
  -- nothing failed
  pub lingers_well : (t : Attended) → is_done t ≡ true → ConversesBy input start mid reads later writes between (Ok t) → StartsWith new.seen mid.seen → AddsOnly is_hand_out mid new → last ≡ between → LingersBy input start new reads later writes last (Ok t)
  unfolding ConversesBy LingersBy
  lingers_well attended.Done well so begins handed same = (record { mid = mid; adds = so.0; holds = so.1; begins = begins; handed = handed }, so.2, same ∙ so.3)
  lingers_well (attended.Bad n) well so begins handed same = absurd (cc)
  lingers_well attended.ReadFault well so begins handed same = absurd (cc)
  lingers_well attended.WriteFault well so begins handed same = absurd (cc)
  lingers_well attended.Stuck well so begins handed same = (record { mid = mid; adds = so.0; holds = so.1; begins = begins; handed = handed }, so.2, same ∙ so.3)

  reads_same : (t : Attended) → is_done t ≡ true → ConversesBy input start mid reads later writes between (Ok t) → later ≡ reads
  unfolding ConversesBy
  reads_same attended.Done well so = so.2
  reads_same (attended.Bad n) well so = absurd (cc)
  reads_same attended.ReadFault well so = absurd (cc)
  reads_same attended.WriteFault well so = absurd (cc)
  reads_same attended.Stuck well so = so.2

  -- the sink failed after talking had ended well
  pub lingers_failed : (t : Attended) (said : Known Entry) (result : Result Queued AllocError) → is_done t ≡ true → ConversesBy input start mid reads later writes between (Ok t) → GoesFurther start mid → GoesFurther mid said
      → writes ≤ between → between ≤ last → HasRisen between last → QueuesBy calls.Terminate said new result → LingersBy input start new reads later writes last (Ok attended.WriteFault)
  unfolding LingersBy
  lingers_failed t said result well so goes on falls last_falls risen queues =
      (HasRisen-before writes between last falls last_falls risen, asks_last start said new result (further_both start mid said goes on) queues, reads_same t well so)

  -- talking did not end well
  pub lingers_bad : (n : ℕ) → ConversesBy input start mid reads later writes between (Ok (attended.Bad n)) → GoesFurther mid new → LingersBy input start new reads later writes last (Ok (attended.Bad n))
  unfolding ConversesBy LingersBy
  lingers_bad n so on = (so.0, asks_later start mid new so.1.asks on, so.2)

  pub lingers_read : ConversesBy input start mid reads later writes between (Ok attended.ReadFault) → GoesFurther mid new → LingersBy input start new reads later writes last (Ok attended.ReadFault)
  unfolding ConversesBy LingersBy
  lingers_read so on = (so.0, asks_later start mid new so.1.asks on)

pub lingers_unwritten : (input : Option (List ℕ)) (start mid : Known Entry) (reads later writes between : ℕ) → ConversesBy input start mid reads later writes between (Ok attended.WriteFault) → LingersBy input start mid reads later writes between (Ok attended.WriteFault)
unfolding ConversesBy LingersBy
lingers_unwritten input start mid reads later writes between so = so

pub lingers_wanting : (input : Option (List ℕ)) (start new : Known Entry) (reads later writes last : ℕ) (error : AllocError) → LingersBy input start new reads later writes last (Err error)
unfolding LingersBy
lingers_wanting input start new reads later writes last error = tt
