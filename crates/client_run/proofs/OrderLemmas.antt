-- That a pass queued a terminate, and that the causes of an answer came in their order.
use Rattle.std.proofs.Common.{◌≡◌, ◌≤◌, ◌⊎◌, ℕ, Bool, true, false, List, [], ◌++◌, Some, None, inl, inr, refl, sym, ◌∙◌, ap, subst, append_assoc, append-nil}
use Rattle.std.specs.Prelude.{Option, Result, Ok, Err, IsErr}
use Rattle.std.specs.Option.{option_to_list}
use Rattle.std.specs.declared.alloc.AllocError.{AllocError}
use Rattle.bosh_client.specs.declared.replies.Queued.{Queued}
use Rattle.bosh_ports.specs.Faults.{HasRisen}
use Rattle.parked_gate.specs.Histories.{StartsWith}
use Rattle.parked_gate.specs.Passes.{Known}
use Rattle.server_ports.specs.Counts.{Counts}
use Rattle.client_run.specs.declared.call.Call.TheVariants as calls
use Rattle.client_run.specs.declared.attending.Attended.{Attended}
use Rattle.client_run.specs.declared.attending.Attended.TheVariants as attended
use Rattle.client_run.specs.declared.entry.Entry.{Entry}
use Rattle.client_run.specs.declared.gathering.Gathered.{Gathered}
use Rattle.client_run.specs.declared.gathering.Gathered.TheVariants as gathered
use Rattle.client_run.specs.declared.running.ClientRan.{ClientRan}
use Rattle.client_run.specs.declared.running.ClientRan.TheVariants as ran
use Rattle.client_run.specs.declared.talking.Talked.{Talked}
use Rattle.client_run.specs.declared.talking.Talked.TheVariants as talked
use Rattle.client_run.specs.Adding.{AddsOnly, is_hand_out}
use Rattle.client_run.specs.Handed.{Handed, Hands, goes_on, hands_out, none}
use Rattle.client_run.specs.Handing.{Out}
use Rattle.client_run.specs.Input.{PutsAll, TakesNoMore, WasFull}
use Rattle.client_run.specs.Lingering.{LingersBy, Spoke}
use Rattle.client_run.specs.Queueing.{AsksLast, AsksToEnd, GoesFurther, QueuesBy}
use Rattle.client_run.specs.Ran.{FinishesBy, HasTalked, InOrder, IsUnhired, Scene, scene_of, well}
use Rattle.client_run.specs.Running.{Gathers, TakesBoth}
use Rattle.client_run.specs.Talking.{Talk, Talks}
use Rattle.client_run.proofs.HandedLemmas.{talks_handed}
use Rattle.client_run.proofs.RiseLemmas.{calls_begin, starts_later, starts_same}
use Rattle.client_run.proofs.RunningLemmas.{both_finished, finished_later, takes_later}

-- A pass goes further.

pub further_same : (known : Known Entry) → GoesFurther known known
further_same known = record { begins = starts_same known.seen; adds = record { added = []; mine = sym (append-nil known.mine); holds = tt } }

pub further_seen : (old new : Known Entry) → StartsWith new.seen old.seen → new.mine ≡ old.mine → GoesFurther old new
further_seen old new begins same = record { begins = begins; adds = record { added = []; mine = same ∙ sym (append-nil old.mine); holds = tt } }

pub further_both : (a b c : Known Entry) → GoesFurther a b → GoesFurther b c → GoesFurther a c
further_both a b c one two = record {
  begins = starts_later a.seen b.seen c.seen one.begins two.begins;
  adds = record {
    added = one.adds.added ++ two.adds.added;
    mine = two.adds.mine ∙ ap (λ front. front ++ two.adds.added) one.adds.mine ∙ append_assoc a.mine one.adds.added two.adds.added;
    holds = tt;
  };
}

pub further_is : (old new : Known Entry) → new ≡ old → GoesFurther old new
further_is old new same = subst (GoesFurther old) (sym same) (further_same old)

pub further_hands : (old new : Known Entry) (stanzas : List (List ℕ)) → Hands old new stanzas → GoesFurther old new
further_hands old new stanzas none = further_same old
further_hands old new stanzas (goes_on {t = mid} {stanzas = before} later hands goes) =
    further_both old mid later (further_hands old mid before hands) (record { begins = goes.begins; adds = record { added = goes.adds.added; mine = goes.adds.mine; holds = tt } })
further_hands old new stanzas (hands_out {t = mid} {stanzas = before} later stanza hands handed) =
    further_both old mid later (further_hands old mid before hands) (record { begins = calls_begin mid later handed.called; adds = record { added = option_to_list handed.called.made; mine = handed.called.mine; holds = tt } })

pub further_handed : (whole : Bool) (s t : Out) (faults later : ℕ) → Handed whole s t faults later → GoesFurther s.known t.known
further_handed whole s t faults later handed = further_hands s.known t.known handed.stanzas handed.hands

pub talks_further : (s : Talk) (out : Out) (left : Option (List ℕ)) (faults later : ℕ) (result : Result Talked AllocError) → faults ≤ later → Talks s out left result → (result ≡ Ok talked.WriteFault → HasRisen faults later) → GoesFurther s.out.known out.known
talks_further s out left faults later result falls talks risen = further_handed _ s.out out faults later (talks_handed s out left faults later result falls talks risen)

-- A terminate is queued.

pub asks_now : (old new : Known Entry) (result : Result Queued AllocError) → QueuesBy calls.Terminate old new result → AsksToEnd old new
asks_now old new result queues = record { before = old; after = new; result = result; earlier = further_same old; queues = queues; later = further_same new }

pub asks_since : (old mid new : Known Entry) → GoesFurther old mid → AsksToEnd mid new → AsksToEnd old new
asks_since old mid new earlier asks = record {
  before = asks.before;
  after = asks.after;
  result = asks.result;
  earlier = further_both old mid asks.before earlier asks.earlier;
  queues = asks.queues;
  later = asks.later;
}

pub asks_later : (old mid new : Known Entry) → AsksToEnd old mid → GoesFurther mid new → AsksToEnd old new
asks_later old mid new asks later = record {
  before = asks.before;
  after = asks.after;
  result = asks.result;
  earlier = asks.earlier;
  queues = asks.queues;
  later = further_both asks.after mid new asks.later later;
}

pub asks_last : (old mid new : Known Entry) (result : Result Queued AllocError) → GoesFurther old mid → QueuesBy calls.Terminate mid new result → AsksLast old new
asks_last old mid new result earlier queues = record { asks = record { before = mid; after = new; result = result; earlier = earlier; queues = queues; later = further_same new }; last = refl }

-- The start.

pub ordered_err : (input : Option (List ℕ)) (s t : Scene) (result : Result ClientRan AllocError) → IsErr result → InOrder input s t result
unfolding InOrder
ordered_err input s t (Ok r) is = absurd (cc)
ordered_err input s t (Err error) is = tt

pub ordered_wanting : (input : Option (List ℕ)) (s t : Scene) (error : AllocError) → InOrder input s t (Err error)
unfolding InOrder
ordered_wanting input s t error = tt

pub ordered_unhired : (input : Option (List ℕ)) (s t : Scene) (result : Result Queued AllocError) → t.refusals ≡ s.refusals → t.reads ≡ s.reads → t.writes ≡ s.writes → QueuesBy calls.Terminate s.known t.known result → InOrder input s t (Ok ran.NetFault)
unfolding InOrder
ordered_unhired input s t result refusals reads writes queues = (refusals, inl (record { reads = reads; writes = writes; result = result; queues = queues }))

pub ordered_spawn : (input : Option (List ℕ)) (s t : Scene) → t.reads ≡ s.reads → t.writes ≡ s.writes → AsksToEnd s.known t.known → InOrder input s t (Ok ran.SpawnFault)
unfolding InOrder
ordered_spawn input s t reads writes asks = (reads, writes, asks)

-- The whole.

module _ (input : Option (List ℕ)) (s : Scene) (mid all new : Known Entry) (reads writes last_writes : ℕ) (refusals : ℕ) (counts : Counts) (t : Result Attended AllocError) (g : Gathered)
    (converses : LingersBy input s.known mid s.reads reads s.writes writes t) (gathers : Gathers mid all s.counts counts g) (takes : TakesBoth all.seen s.counts counts g) (goes : GoesFurther all new) (refused : refusals ≡ s.refusals) where
  abbrev later : Scene
  later = scene_of new counts refusals reads last_writes

  on : GoesFurther mid new
  on = further_both mid all new (further_seen mid all gathers.begins gathers.mine) goes

  talked_by : (said : Known Entry) → PutsAll input s.known said ⊎ TakesNoMore said → PutsAll input s.known said ⊎ TakesNoMore said ⊎ WasFull s.known.seen said.seen
  talked_by said (inl puts) = inl puts
  talked_by said (inr takes) = inr (inl takes)

  since : (said : Known Entry) → StartsWith mid.seen said.seen → AddsOnly is_hand_out said mid → GoesFurther said new
  since said begins handed = further_both said mid new (record { begins = begins; adds = record { added = handed.added; mine = handed.mine; holds = tt } }) on

  well_talked : (stuck : Bool) → LingersBy input s.known mid s.reads reads s.writes writes (Ok (well stuck)) → HasTalked input s.known new × (reads ≡ s.reads) × (writes ≡ s.writes)
  unfolding LingersBy
  well_talked true so = (record { mid = so.0.mid; adds = so.0.adds; done = inr (inr so.0.holds); later = since so.0.mid so.0.begins so.0.handed }, so.1, so.2)
  well_talked false so = (record { mid = so.0.mid; adds = so.0.adds; done = talked_by so.0.mid so.0.holds; later = since so.0.mid so.0.begins so.0.handed }, so.1, so.2)

  done_tells : (stuck : Bool) → t ≡ Ok (well stuck) → HasTalked input s.known new × (reads ≡ s.reads) × (writes ≡ s.writes)
  done_tells stuck is = well_talked stuck (subst (LingersBy input s.known mid s.reads reads s.writes writes) is converses)

  bad_tells : (n : ℕ) → t ≡ Ok (attended.Bad n) → AsksToEnd s.known new × (reads ≡ s.reads)
  unfolding LingersBy
  bad_tells n is =
      let bad = subst (LingersBy input s.known mid s.reads reads s.writes writes) is converses in
      (asks_later s.known mid new bad.1 on, bad.2)

  read_tells : t ≡ Ok attended.ReadFault → AsksToEnd s.known new
  unfolding LingersBy
  read_tells is = asks_later s.known mid new (subst (LingersBy input s.known mid s.reads reads s.writes writes) is converses).1 on

  write_tells : t ≡ Ok attended.WriteFault → new ≡ all → AsksLast s.known new × (reads ≡ s.reads)
  unfolding LingersBy asks_later
  write_tells is same =
      let failed = subst (LingersBy input s.known mid s.reads reads s.writes writes) is converses in
      (record { asks = asks_later s.known mid new failed.1.asks on; last = ap (λ known. known.mine) same ∙ gathers.mine ∙ failed.1.last }, failed.2)

  pub ordered_finished : (result : Result ClientRan AllocError) → FinishesBy t g all new writes last_writes result → InOrder input s later result
  unfolding InOrder FinishesBy
  ordered_finished (Ok ran.SpawnFault) f = absurd f
  ordered_finished (Ok ran.NetFault) f =
      let done = done_tells f.0 f.1 in
      (refused, inr (done.1, done.0, subst (TakesBoth new.seen s.counts counts) f.2 (takes_later all.seen new.seen s.counts counts g goes.begins takes)))
  ordered_finished (Ok (ran.Refused status)) f =
      let done = done_tells f.0 f.1 in
      (refused, done.1, done.0, subst (TakesBoth new.seen s.counts counts) f.2 (takes_later all.seen new.seen s.counts counts g goes.begins takes))
  ordered_finished (Ok (ran.Bad n)) f =
      let bad = bad_tells n f in
      (refused, bad.1, bad.0)
  ordered_finished (Ok ran.ReadFault) f = (refused, read_tells f)
  ordered_finished (Ok ran.WriteFault) (inl f) =
      let failed = write_tells f.0 f.1 in
      (refused, failed.1, inl failed.0)
  ordered_finished (Ok ran.WriteFault) (inr f) =
      let done = done_tells f.0 f.1 in
      (refused, done.1, inr (done.0, finished_later all.seen new.seen s.counts counts f.4 (both_finished all.seen s.counts counts g f.2 takes)))
  ordered_finished (Ok ran.Stuck) f =
      let done = done_tells f.0 f.1 in
      (refused, done.1, f.4 ∙ done.2, done.0)
  ordered_finished (Ok (ran.Ended condition)) f =
      let done = done_tells f.0 f.1 in
      (refused, done.1, f.4 ∙ done.2, done.0)
  ordered_finished (Ok ran.Done) f =
      let done = done_tells f.0 f.1 in
      (refused, done.1, f.4 ∙ done.2, done.0)
  ordered_finished (Err error) f = tt
