-- What attending to an input and an output comes to.
use Rattle.std.proofs.Common.{◌≡◌, ◌≤◌, ◌<◌, ◌⊎◌, ℕ, ◌+◌, Bool, true, false, List, [], ◌∷◌, ◌++◌, ◌&&◌, Some, None, inl, inr, length, refl, sym, ◌∙◌, ap, subst, arith, append-nil, append_assoc, length-append}
use Rattle.std.specs.Prelude.{Option, Result, Ok, Err, IfSome}
use Rattle.std.specs.List.{list_all}
use Rattle.std.specs.Option.{option_to_list}
use Rattle.std.specs.Io.KnownBytes.{prepend_known}
use Rattle.std.proofs.lemmas.List.Folds.{list_all-append}
use Rattle.std.specs.declared.alloc.AllocError.{AllocError}
use Rattle.bosh_client.specs.declared.replies.Queued.{Queued}
use Rattle.bosh_client.specs.declared.replies.Queued.TheVariants as queueings
use Rattle.bosh_client.specs.Machine.{is_full, is_over, put}
use Rattle.bosh_client.specs.PlainClient.{PlainClient}
use Rattle.bosh_client.proofs.RunLemmas.{by_if}
use Rattle.bosh_types.specs.Limits.{most_lines}
use Rattle.body_cutter.specs.Cutting.{is_stanza}
use Rattle.line_reader.specs.Lines.{Reads, lines_of}
use Rattle.line_reader.specs.declared.lines.NextLine.TheVariants as lines
use Rattle.parked_gate.specs.Histories.{StartsWith}
use Rattle.parked_gate.specs.Passes.{Known}
use Rattle.client_run.specs.declared.attending.Attended.{Attended}
use Rattle.client_run.specs.declared.attending.Attended.TheVariants as attended
use Rattle.client_run.specs.declared.attending.Held.{Held}
use Rattle.client_run.specs.declared.attending.Held.TheVariants as held
use Rattle.client_run.specs.declared.call.Call.TheVariants as calls
use Rattle.client_run.specs.declared.call.Reply.TheVariants as replies
use Rattle.client_run.specs.declared.draining.Written.{Written}
use Rattle.client_run.specs.declared.draining.Written.TheVariants as written
use Rattle.client_run.specs.declared.entry.Entry.{Entry}
use Rattle.client_run.specs.declared.talking.Input.TheVariants as inputs
use Rattle.client_run.specs.Adding.{Adds, IsTalk}
use Rattle.client_run.specs.Attending.{AttendsBy, HoldsBy, Speaking, TurnedBy, ended_by, is_held_whole, is_turn_whole}
use Rattle.client_run.specs.Handed.{GoesOn, Handed}
use Rattle.client_run.specs.Handing.{Drains, Out, out_of}
use Rattle.client_run.specs.History.{After}
use Rattle.client_run.specs.Input.{IsFirstBad, PutsAll, TakesNoMore, WasFull}
use Rattle.client_run.specs.Queueing.{GoesFurther, OffersBy, QueuesBy}
use Rattle.client_run.specs.Talking.{IsOneMore, Takes, Talk, talk_of}
use Rattle.client_run.specs.Working.{Called}
use Rattle.client_run.proofs.AddingLemmas.{Makes, called_makes, called_wants}
use Rattle.client_run.proofs.HandedLemmas.{drained, goes_called, goes_same, no_fault}
use Rattle.client_run.proofs.InputLemmas.{bad_in, close_puts, entered_none, put_over, queue_name}
use Rattle.client_run.proofs.RiseLemmas.{calls_begin, starts_by, starts_later, starts_same}
use Rattle.client_run.proofs.TalkLemmas.{HasLines, Spoken, close_adds, drains_said, has_line, no_lines, nothing_said, open_adds, put_spoken, said_both, same_said}

-- What an offer came to.

-- the stanza was put
pub offered_done : (stanza : List ℕ) (old new : Known Entry) → OffersBy stanza old new (Ok queueings.Done) → Speaking old new (stanza ∷ [])
offered_done stanza old new called =
    let made = called_makes (calls.Put stanza) (replies.Queued queueings.Done) old new called in
    record { added = made.0 ∷ []; mine = made.2; holds = put_spoken stanza made.0 made.1 }

pub offered_not : (stanza : List ℕ) (old new : Known Entry) → (new.mine ≡ old.mine) → Speaking old new []
offered_not stanza old new same = same_said old new same

pub offered_over : (stanza : List ℕ) (old new : Known Entry) → OffersBy stanza old new (Ok queueings.Over) → Speaking old new [] × TakesNoMore new
offered_over stanza old new called =
    let replied = called.says in (
      same_said old new (called_makes (calls.Put stanza) (replies.Queued queueings.Over) old new called),
      subst (λ log. After log (λ c. is_over c ≡ true)) (sym (entered_none old.number called.before new.seen called.made stanza replied.enters called.seen))
          (record { plain = replied.plain; is = replied.is; holds = put_over replied.plain stanza (queue_name (put replied.plain stanza) queueings.Over replied.reply_is) }),
    )

-- it found no room
put_full : (c : PlainClient) (stanza : List ℕ) → queueings.Full ≡ (put c stanza).1 → is_full c ≡ true
put_full c stanza =
    by_if {X = PlainClient × Queued} (λ p. queueings.Full ≡ p.1 → is_full c ≡ true) (is_over c) _ _ (λ over is. absurd (cc))
    (λ open_yet. by_if {X = PlainClient × Queued} (λ p. queueings.Full ≡ p.1 → is_full c ≡ true) (is_full c) _ _ (λ full is. full) (λ room is. absurd (cc)))

pub offered_full : (stanza : List ℕ) (old new : Known Entry) → OffersBy stanza old new (Ok queueings.Full) → Speaking old new [] × WasFull old.seen new.seen
offered_full stanza old new called =
    let replied = called.says in (
      same_said old new (called_makes (calls.Put stanza) (replies.Queued queueings.Full) old new called),
      record {
        log = called.before;
        since = called.begins;
        until = starts_by old.number called.before new.seen called.made called.seen;
        full = record { plain = replied.plain; is = replied.is; holds = put_full replied.plain stanza (queue_name (put replied.plain stanza) queueings.Full replied.reply_is) };
      },
    )

-- nothing is handed out by an offer
pub goes_offered : (stanza : List ℕ) (old new : Known Entry) (result : Result Queued AllocError) → OffersBy stanza old new result → GoesOn old new
goes_offered stanza old new (Ok queued) called = goes_called (calls.Put stanza) (Ok (replies.Queued queued)) old new refl called
goes_offered stanza old new (Err error) (inl same) = goes_same old new same
goes_offered stanza old new (Err error) (inr called) = goes_called (calls.Put stanza) (Err error) old new refl called

-- What came of a line, after what was said before it.

pub said_nothing : (known : Known Entry) → Speaking known known []
said_nothing known = nothing_said known

pub said_then : (a b c : Known Entry) (stanzas : List (List ℕ)) → Speaking a b [] → Speaking b c stanzas → Speaking a c stanzas
said_then a b c stanzas one two = said_both a b c [] stanzas one two

pub said_drained : (a : Known Entry) (s t : Out) (result : Result Written AllocError) → Speaking a s.known [] → Drains s t result → Speaking a t.known []
said_drained a s t result one d = said_then a s.known t.known [] one (drains_said s t result d)

-- all that was handed out is written, before the next line too
pub drained_on : (start s t : Out) (faults between later : ℕ) (w : Written) → faults ≤ between → between ≤ later → Handed true start s faults between → w ≡ written.Done → Drains s t (Ok w) → Handed true start t faults later
drained_on start s t faults between later w one_falls two_falls before is d =
    drained start s t faults between later (Ok written.Done) one_falls two_falls before (subst (λ w. Drains s t (Ok w)) is d) (no_fault between later)

full_since : (first mid last : List Entry) → StartsWith mid first → WasFull mid last → WasFull first last
full_since first mid last begins full = record { log = full.log; since = starts_later first mid full.log begins full.since; until = full.until; full = full.full }

module _ (stanza : List ℕ) (old mid new : Known Entry) (before : Speaking old mid []) where
  pub held_done : OffersBy stanza mid new (Ok queueings.Done) → HoldsBy stanza old new (Ok held.Done)
  unfolding HoldsBy
  held_done offers = said_then old mid new (stanza ∷ []) before (offered_done stanza mid new offers)

  pub held_over : OffersBy stanza mid new (Ok queueings.Over) → HoldsBy stanza old new (Ok held.Over)
  unfolding HoldsBy
  held_over offers =
      let over = offered_over stanza mid new offers in
      (said_then old mid new [] before over.0, over.1)

  pub held_full : StartsWith mid.seen old.seen → OffersBy stanza mid new (Ok queueings.Full) → HoldsBy stanza old new (Ok held.Stuck)
  unfolding HoldsBy
  held_full begins offers =
      let full = offered_full stanza mid new offers in
      (said_then old mid new [] before full.0, full_since old.seen mid.seen new.seen begins full.1)

pub held_failed : (stanza : List ℕ) (old new : Known Entry) → HoldsBy stanza old new (Ok held.WriteFault)
unfolding HoldsBy
held_failed stanza old new = tt

pub held_wanting : (stanza : List ℕ) (old new : Known Entry) (error : AllocError) → HoldsBy stanza old new (Err error)
unfolding HoldsBy
held_wanting stanza old new error = tt

-- One line after the other.

module _ (line : ℕ) (old mid new : Known Entry) (left later : Option (List ℕ)) (before : Speaking old mid []) where
  pub turned_failed : TurnedBy line old new left later (Ok (Some attended.ReadFault))
  unfolding TurnedBy
  turned_failed = tt

  pub turned_unwritten : TurnedBy line old new left later (Ok (Some attended.WriteFault))
  unfolding TurnedBy
  turned_unwritten = tt

  pub turned_wanting : (error : AllocError) → TurnedBy line old new left later (Err error)
  unfolding TurnedBy
  turned_wanting error = tt

  pub turned_bad : Takes left later inputs.Other → TurnedBy line old new left later (Ok (Some (attended.Bad line)))
  unfolding TurnedBy
  turned_bad takes = (refl, inl takes)

  pub turned_more : (stanza : List ℕ) → Takes left later (inputs.Stanza stanza) → most_lines < line → TurnedBy line old new left later (Ok (Some (attended.Bad line)))
  unfolding TurnedBy
  turned_more stanza takes more = (refl, inr (stanza, takes, more))

  pub turned_closed : (queued : Queued) → Takes left later inputs.End → QueuesBy calls.Terminate mid new (Ok queued) → TurnedBy line old new left later (Ok (Some attended.Done))
  unfolding TurnedBy
  turned_closed queued takes queues = inl (mid, queued, takes, before, queues)

  pub turned_held : (stanza : List ℕ) → Takes left later (inputs.Stanza stanza) → (most_lines < line → ⊥) → StartsWith mid.seen old.seen → (h : Held) → HoldsBy stanza mid new (Ok h) → TurnedBy line old new left later (Ok (ended_by h))
  unfolding HoldsBy TurnedBy
  turned_held stanza takes few begins held.Done holds = (stanza, takes, said_then old mid new (stanza ∷ []) before holds, few)
  turned_held stanza takes few begins held.Over holds = inr (stanza, takes, said_then old mid new [] before holds.0, holds.1)
  turned_held stanza takes few begins held.WriteFault holds = tt
  turned_held stanza takes few begins held.Stuck holds = (stanza, takes, said_then old mid new [] before holds.0, full_since old.seen mid.seen new.seen begins holds.1)

-- what was handed out is written as what came of the line says
pub turned_handed : (s t : Out) (faults later : ℕ) (h : Held) (e : Option Attended) → e ≡ ended_by h → Handed (is_held_whole (Ok h)) s t faults later → Handed (is_turn_whole (Ok e)) s t faults later
turned_handed s t faults later h e is handed = subst (λ e. Handed (is_turn_whole (Ok e)) s t faults later) (sym is) (by h handed)
  where
    by : (h : Held) → Handed (is_held_whole (Ok h)) s t faults later → Handed (is_turn_whole (Ok (ended_by h))) s t faults later
    by held.Done handed = handed
    by held.Over handed = handed
    by held.WriteFault handed = handed
    by held.Stuck handed = handed

-- so many lines were put
pub record HasAttended (old : Known Entry) (input : Option (List ℕ)) (known : Known Entry) (left : Option (List ℕ)) (count : ℕ) : Type 0 where
  pub more : List (List ℕ)
  pub counted : count ≡ length more
  pub said : Speaking old known more
  pub stanzas : list_all is_stanza more ≡ true
  pub read : HasLines input more left

same_left : (left : Option (List ℕ)) → prepend_known [] left ≡ left
same_left None = refl
same_left (Some bytes) = refl

pub attended_none : (known : Known Entry) (input : Option (List ℕ)) (reader : List ℕ) → reader ≡ [] → HasAttended known input known (prepend_known reader input) 0
attended_none known input reader is = record {
  more = [];
  counted = refl;
  said = nothing_said known;
  stanzas = refl;
  read = subst (λ l. HasLines input [] l) (sym (ap (λ r. prepend_known r input) is ∙ same_left input)) (no_lines input);
}

module _ (old : Known Entry) (input : Option (List ℕ)) (known new : Known Entry) (left later : Option (List ℕ)) (n : ℕ) (a : HasAttended old input known left n) (few : n ≤ most_lines) where
  pub attended_more : TurnedBy (n + 1) known new left later (Ok None) → HasAttended old input new later (n + 1)
  unfolding TurnedBy Takes
  attended_more (stanza, takes, said, low) = record {
    more = a.more ++ stanza ∷ [];
    counted = ap (λ k. k + 1) a.counted ∙ sym (length-append a.more (stanza ∷ []));
    said = said_both old known new a.more (stanza ∷ []) a.said said;
    stanzas = list_all-append is_stanza a.more (stanza ∷ []) ∙ ap (λ b. b && list_all is_stanza (stanza ∷ [])) a.stanzas ∙ ap (λ b. b && true) takes.1;
    read = has_line input left later a.more stanza a.read takes.0;
  }

  pub attended_few : TurnedBy (n + 1) known new left later (Ok None) → n + 1 ≤ most_lines
  unfolding TurnedBy
  attended_few (stanza, takes, said, low) = omega (arith, low)

  so_far : (at : Known Entry) → Speaking known at [] → Spoken (talk_of (out_of old None) input []) (talk_of (out_of at None) left a.more)
  so_far at said = record {
    more = a.more;
    put = refl;
    said = subst (Speaking old at) (append-nil a.more) (said_both old known at a.more [] a.said said);
    stanzas = a.stanzas;
    read = a.read;
  }

  few_more : length a.more ≤ most_lines
  few_more = subst (λ k. k ≤ most_lines) a.counted few

  open_to : Speaking known new [] → Adds old new (IsTalk input)
  unfolding so_far
  open_to said =
      open_adds (talk_of (out_of old None) input []) (talk_of (out_of known None) left a.more) new left [] (so_far known (nothing_said known)) said
      (ap (λ xs. list_all is_stanza xs) (append-nil a.more) ∙ a.stanzas) (subst (λ xs. HasLines input xs left) (sym (append-nil a.more)) a.read)

  closed_to : (mid : Known Entry) (queued : Queued) → Takes left later inputs.End → Speaking known mid [] → QueuesBy calls.Terminate mid new (Ok queued) → Adds old new (IsTalk input) × PutsAll input old new
  unfolding so_far
  closed_to mid queued takes said queues =
      let made = called_makes calls.Terminate (replies.Queued queued) mid new queues in (
        close_adds (talk_of (out_of old None) input []) (talk_of (out_of mid None) left a.more) (talk_of (out_of new None) later a.more) _ (so_far mid said) takes made,
        close_puts (talk_of (out_of old None) input []) (talk_of (out_of mid None) left a.more) (talk_of (out_of new None) later a.more) _ (so_far mid said) few_more takes made,
      )

  one_more : (stanza : List ℕ) → Takes left later (inputs.Stanza stanza) → most_lines < n + 1 → IsOneMore (talk_of (out_of known None) left a.more) later
  unfolding Takes
  one_more stanza takes more = (sym a.counted ∙ omega (arith, more, few), inr (stanza, takes.0))

  bad_to : (line : ℕ) → line ≡ n + 1 → Takes left later inputs.Other ⊎ ((stanza : List ℕ) × Takes left later (inputs.Stanza stanza) × (most_lines < n + 1)) → IfSome input (λ bytes. IsFirstBad (lines_of bytes) line)
  bad_to line at (inl takes) = bad_in input left later (talk_of (out_of known None) left a.more) line a.more refl refl a.read (at ∙ ap (λ k. k + 1) a.counted) a.stanzas few_more (inl takes)
  bad_to line at (inr (stanza, takes, more)) =
      bad_in input left later (talk_of (out_of known None) left a.more) line a.more refl refl a.read (at ∙ ap (λ k. k + 1) a.counted) a.stanzas few_more (inr (one_more stanza takes more))

  pub attends_ended : StartsWith known.seen old.seen → (t : Attended) → TurnedBy (n + 1) known new left later (Ok (Some t)) → AttendsBy input old new (Ok t)
  unfolding TurnedBy AttendsBy
  attends_ended begins attended.Done (inl (mid, queued, takes, said, queues)) =
      let closed = closed_to mid queued takes said queues in
      (closed.0, inl closed.1)
  attends_ended begins attended.Done (inr (stanza, takes, said, over)) = (open_to said, inr over)
  attends_ended begins (attended.Bad line) (at, why) = bad_to line at why
  attends_ended begins attended.ReadFault turned = tt
  attends_ended begins attended.WriteFault turned = tt
  attends_ended begins attended.Stuck (stanza, takes, said, full) = (open_to said, full_since old.seen known.seen new.seen begins full)

pub attends_wanting : (input : Option (List ℕ)) (old new : Known Entry) (error : AllocError) → AttendsBy input old new (Err error)
unfolding AttendsBy
attends_wanting input old new error = tt
