-- That a worker that failed queued a terminate.
use Rattle.std.proofs.Common.{◌≡◌, ℕ, Bool, true, false, ◌&&◌, ◌||◌, List, [], ◌∷◌, ◌++◌, Some, None, refl, sym, ◌∙◌, ap}
use Rattle.std.specs.Prelude.{Option, Result, Ok, Err, nat_lt}
use Rattle.std.specs.List.{list_any}
use Rattle.std.proofs.lemmas.List.Folds.{list_any-append}
use Rattle.std.specs.declared.alloc.AllocError.{AllocError}
use Rattle.bosh_client.specs.declared.replies.Queued.{Queued}
use Rattle.bosh_client.specs.declared.replies.Queued.TheVariants as queueings
use Rattle.bosh_client.specs.Machine.{is_over, terminate}
use Rattle.bosh_client.specs.PlainClient.{PlainClient}
use Rattle.bosh_client.specs.Runs as plain
use Rattle.bosh_client.specs.Runs.{called}
use Rattle.bosh_client.proofs.RunLemmas.{by_if}
use Rattle.parked_gate.specs.Histories.{Appends}
use Rattle.parked_gate.specs.Passes.{Known}
use Rattle.server_ports.specs.Counts.{Counts}
use Rattle.client_run.specs.declared.call.Call.TheVariants as calls
use Rattle.client_run.specs.declared.call.Reply.TheVariants as replies
use Rattle.client_run.specs.declared.entry.Entry.{Entry}
use Rattle.client_run.specs.declared.worked.Worked.{Worked}
use Rattle.client_run.specs.declared.worked.Worked.TheVariants as worked
use Rattle.client_run.specs.Adding.{by_call, is_entry, is_terminate}
use Rattle.client_run.specs.Alarms.{is_raised}
use Rattle.client_run.specs.History.{Enters, client_in}
use Rattle.client_run.specs.Queueing.{QueuesBy}
use Rattle.client_run.specs.Running.{IsEndOf, IsToilOf, has_closed, is_end_of, is_failed, is_refusal, is_toil_of, takes_no_more}
use Rattle.client_run.specs.Working.{Called}
use Rattle.client_run.proofs.AddingLemmas.{Makes, called_makes}

or_true : (a : Bool) → (a || true) ≡ true
or_true true = refl
or_true false = refl

-- a terminate is taken while the client takes anything
by_terminate : (P : Queued → Type 0) (c : PlainClient) → (is_over c ≡ true → P queueings.Over) → P queueings.Done → P (terminate c).1
by_terminate P c over done = by_if {X = PlainClient × Queued} (λ p. P p.1) (is_over c) _ _ over (λ open_yet. done)

terminate_over : (c : PlainClient) → queueings.Over ≡ (terminate c).1 → is_over c ≡ true
terminate_over c = by_terminate (λ q. queueings.Over ≡ q → is_over c ≡ true) c (λ over is. over) (λ is. absurd (cc))

never_full : (c : PlainClient) → queueings.Full ≡ (terminate c).1 → ⊥
never_full c = by_terminate (λ q. queueings.Full ≡ q → ⊥) c (λ over is. absurd (cc)) (λ is. absurd (cc))

never_lacks : (c : PlainClient) → queueings.NoStream ≡ (terminate c).1 → ⊥
never_lacks c = by_terminate (λ q. queueings.NoStream ≡ q → ⊥) c (λ over is. absurd (cc)) (λ is. absurd (cc))

never_long : (c : PlainClient) → queueings.TooLong ≡ (terminate c).1 → ⊥
never_long c = by_terminate (λ q. queueings.TooLong ≡ q → ⊥) c (λ over is. absurd (cc)) (λ is. absurd (cc))

queue_name : (done : PlainClient × Queued) (queued : Queued) → plain.ToQueue queued ≡ (called plain.ToQueue done).1 → queued ≡ done.1
queue_name (c, x) queued is = ap (λ reply. elim reply [ plain.ToQueue q ↦ q | plain.ToNext n ↦ queued | plain.ToAnswer a ↦ queued | plain.ToHandOut p ↦ queued ]) is

entered_none : (number : ℕ) (before after : List Entry) (made : Option Entry) → Enters calls.Terminate false made → Appends (λ e. e.caller) number before made after → after ≡ before
entered_none number before after None enters is = is
entered_none number before after (Some e) enters is = absurd (cc)

closed_made : (old new : Known Entry) → Makes calls.Terminate true old.mine new.mine → has_closed new ≡ true
closed_made old new made =
    ap (λ b. b || takes_no_more (client_in new.seen))
    (ap (λ es. list_any (is_entry is_terminate) es) made.2 ∙ list_any-append (is_entry is_terminate) old.mine (made.0 ∷ [])
    ∙ ap (λ b. list_any (is_entry is_terminate) old.mine || b) (ap (λ x. by_call false is_terminate x || false) made.1) ∙ or_true (list_any (is_entry is_terminate) old.mine))

closed_over : (old new : Known Entry) → Called calls.Terminate (Ok (replies.Queued queueings.Over)) old new → has_closed new ≡ true
closed_over old new c =
    let replied = c.says in
    ap (λ b. list_any (is_entry is_terminate) new.mine || b)
    (ap (λ log. takes_no_more (client_in log)) (entered_none old.number c.before new.seen c.made replied.enters c.seen) ∙ ap takes_no_more replied.is
    ∙ terminate_over replied.plain (queue_name (terminate replied.plain) queueings.Over replied.reply_is))
    ∙ or_true (list_any (is_entry is_terminate) new.mine)

closed_by : (old new : Known Entry) (queued : Queued) → Called calls.Terminate (Ok (replies.Queued queued)) old new → has_closed new ≡ true
closed_by old new queueings.Done c = closed_made old new (called_makes calls.Terminate (replies.Queued queueings.Done) old new c)
closed_by old new queueings.Over c = closed_over old new c
closed_by old new queueings.Full c = absurd (never_full c.says.plain (queue_name (terminate c.says.plain) queueings.Full c.says.reply_is))
closed_by old new queueings.NoStream c = absurd (never_lacks c.says.plain (queue_name (terminate c.says.plain) queueings.NoStream c.says.reply_is))
closed_by old new queueings.TooLong c = absurd (never_long c.says.plain (queue_name (terminate c.says.plain) queueings.TooLong c.says.reply_is))

and_both : (a b : Bool) → a ≡ true → b ≡ true → (a && b) ≡ true
and_both a b one two = ap (λ x. x && b) one ∙ two

pub end_closed : (worked : Result Worked AllocError) (old new : Known Entry) (counts : Counts) (heard alarm : Known ℕ) (queued : Queued) → QueuesBy calls.Terminate old new (Ok queued) → is_raised alarm.seen ≡ true → is_failed worked ≡ true
    → IsToilOf worked old counts heard → IsEndOf worked new counts alarm
unfolding is_end_of is_toil_of
end_closed (Ok worked.Done) old new counts heard alarm queued queues raised failed toil = absurd (cc)
end_closed (Ok (worked.Ended condition)) old new counts heard alarm queued queues raised failed toil = absurd (cc)
end_closed (Ok worked.DialFault) old new counts heard alarm queued queues raised failed toil = and_both (nat_lt 0 counts.faults) _ toil (and_both (has_closed new) _ (closed_by old new queued queues) raised)
end_closed (Ok worked.ReadFault) old new counts heard alarm queued queues raised failed toil = and_both (nat_lt 0 counts.faults) _ toil (and_both (has_closed new) _ (closed_by old new queued queues) raised)
end_closed (Ok worked.WriteFault) old new counts heard alarm queued queues raised failed toil = and_both (nat_lt 0 counts.faults) _ toil (and_both (has_closed new) _ (closed_by old new queued queues) raised)
end_closed (Ok (worked.Refused status)) old new counts heard alarm queued queues raised failed toil = and_both (is_refusal status counts) _ toil (and_both (has_closed new) _ (closed_by old new queued queues) raised)
end_closed (Ok worked.Silent) old new counts heard alarm queued queues raised failed toil = absurd (cc)
end_closed (Err error) old new counts heard alarm queued queues raised failed toil = raised

pub end_over : (worked : Result Worked AllocError) (known : Known Entry) (counts : Counts) (alarm : Known ℕ) → is_failed worked ≡ false → IsToilOf worked known counts alarm → IsEndOf worked known counts alarm
unfolding is_end_of is_toil_of
end_over (Ok worked.Done) known counts alarm over toil = toil
end_over (Ok (worked.Ended condition)) known counts alarm over toil = toil
end_over (Ok worked.DialFault) known counts alarm over toil = absurd (cc)
end_over (Ok worked.ReadFault) known counts alarm over toil = absurd (cc)
end_over (Ok worked.WriteFault) known counts alarm over toil = absurd (cc)
end_over (Ok (worked.Refused status)) known counts alarm over toil = absurd (cc)
end_over (Ok worked.Silent) known counts alarm over toil = toil
end_over (Err error) known counts alarm over toil = absurd (cc)

pub end_wanted : (error : AllocError) (known : Known Entry) (counts : Counts) (alarm : Known ℕ) → is_raised alarm.seen ≡ true → IsEndOf (Err error) known counts alarm
unfolding is_end_of
end_wanted error known counts alarm raised = raised
