-- What was handed out is written, call by call.
use Rattle.std.proofs.Common.{◌≡◌, ◌≤◌, ℕ, Bool, true, false, ◌||◌, List, [], ◌∷◌, ◌++◌, Some, None, inl, inr, refl, sym, ◌∙◌, ap, subst, arith, append_assoc, append-nil}
use Rattle.std.specs.Prelude.{Option, Result, Ok, Err}
use Rattle.std.specs.List.{list_any}
use Rattle.std.specs.Io.KnownBytes.{Appends, prepend_known}
use Rattle.std.proofs.lemmas.Grind.{flat_map-append}
use Rattle.std.proofs.lemmas.List.Folds.{list_any-append}
use Rattle.std.specs.declared.alloc.AllocError.{AllocError}
use Rattle.bosh_client.specs.declared.replies.ClientEnd.{ClientEnd}
use Rattle.bosh_client.specs.declared.replies.Queued.{Queued}
use Rattle.bosh_client.specs.declared.replies.Queued.TheVariants as queueings
use Rattle.bosh_ports.specs.Faults.{HasRisen}
use Rattle.bosh_ports.proofs.FaultLemmas.{HasRisen-after, HasRisen-before}
use Rattle.bosh_ports.proofs.PartsLemmas.{front_of_parts}
use Rattle.parked_gate.specs.Histories.{StartsWith}
use Rattle.parked_gate.specs.Passes.{Known}
use Rattle.client_run.specs.declared.call.Call.{Call}
use Rattle.client_run.specs.declared.call.Call.TheVariants as calls
use Rattle.client_run.specs.declared.call.Reply.{Reply}
use Rattle.client_run.specs.declared.call.Reply.TheVariants as replies
use Rattle.client_run.specs.declared.draining.Written.{Written}
use Rattle.client_run.specs.declared.draining.Written.TheVariants as written
use Rattle.client_run.specs.declared.entry.Entry.{Entry}
use Rattle.client_run.specs.declared.talking.Said.TheVariants as said
use Rattle.client_run.specs.declared.talking.Talked.{Talked}
use Rattle.client_run.specs.declared.talking.Talked.TheVariants as talked
use Rattle.client_run.specs.Adding.{by_call, is_entry, is_hand_out}
use Rattle.client_run.specs.Calls.{changes, reply_in}
use Rattle.client_run.specs.Asking.{LooksBy}
use Rattle.client_run.specs.Handed.{GivesUpTo, GoesOn, Handed, Hands, goes_on, hands_out, is_talk_whole, is_write_whole, as_lines, none}
use Rattle.client_run.specs.Handing.{Drains, HandsOut, Out, Writes, WritesLast, line, line_of, nothing, out_of}
use Rattle.client_run.specs.Queueing.{Offers, Puts, QueuesBy, full, wanting}
use Rattle.client_run.specs.Queueing.{none as offers_none}
use Rattle.client_run.specs.Talking.{EndsTalk, Says, SaysBy, Speaks, Stops, Takes, Talk, Talks, spoke, talk_of}
use Rattle.client_run.specs.Talking.{none as speaks_none}
use Rattle.client_run.specs.Working.{Called}
use Rattle.client_run.proofs.AddingLemmas.{Makes, called_makes, called_wants, none_handed}
use Rattle.client_run.proofs.HandingLemmas.{appends_both}
use Rattle.client_run.proofs.RiseLemmas.{calls_begin, starts_later, starts_same}

-- Nothing is handed out.

pub still : (known : Known Entry) → GoesOn known known
still known = record { begins = starts_same known.seen; adds = record { added = []; mine = sym (append-nil known.mine); holds = refl } }

later_same : (old new : Known Entry) → StartsWith new.seen old.seen → new.mine ≡ old.mine → GoesOn old new
later_same old new begins same = record { begins = begins; adds = record { added = []; mine = same ∙ sym (append-nil old.mine); holds = refl } }

goes_then : (a b c : Known Entry) → GoesOn a b → GoesOn b c → GoesOn a c
goes_then a b c one two = record {
  begins = starts_later a.seen b.seen c.seen one.begins two.begins;
  adds = record {
    added = one.adds.added ++ two.adds.added;
    mine = two.adds.mine ∙ ap (λ front. front ++ two.adds.added) one.adds.mine ∙ append_assoc a.mine one.adds.added two.adds.added;
    holds = list_any-append (is_entry is_hand_out) one.adds.added two.adds.added ∙ ap (λ b. b || list_any (is_entry is_hand_out) two.adds.added) one.adds.holds ∙ two.adds.holds;
  };
}

goes_made : (call : Call) (changed : Bool) (old new : Known Entry) → is_hand_out call ≡ false → StartsWith new.seen old.seen → Makes call changed old.mine new.mine → GoesOn old new
goes_made call true old new other begins made = record {
  begins = begins;
  adds = record { added = made.0 ∷ []; mine = made.2; holds = ap (λ x. by_call false is_hand_out x || false) made.1 ∙ ap (λ b. b || false) other };
}
goes_made call false old new other begins same = later_same old new begins same

pub goes_called : (call : Call) (result : Result Reply AllocError) (old new : Known Entry) → is_hand_out call ≡ false → Called call result old new → GoesOn old new
goes_called call (Ok reply) old new other c = goes_made call (changes (reply_in reply)) old new other (calls_begin old new c) (called_makes call reply old new c)
goes_called call (Err error) old new other c = later_same old new (calls_begin old new c) (called_wants call error old new c)

-- where nothing was left
goes_none : (old new : Known Entry) → HandsOut old new (Ok None) → GoesOn old new
goes_none old new h =
    let c = none_handed old new h in
    later_same old new (calls_begin old new c) (called_makes calls.HandOut (replies.HandOut None) old new c)

goes_wanting : (old new : Known Entry) (error : AllocError) → Called calls.HandOut (Err error) old new → GoesOn old new
goes_wanting old new error c = later_same old new (calls_begin old new c) (called_wants calls.HandOut error old new c)

goes_offers : (stanza : List ℕ) (old new : Known Entry) → Offers stanza old new → GoesOn old new
goes_offers stanza old new offers_none = still old
goes_offers stanza old new (full {t = mid} later offers called) =
    goes_then old mid new (goes_offers stanza old mid offers) (goes_called (calls.Put stanza) (Ok (replies.Queued queueings.Full)) mid new refl called)
goes_offers stanza old new (wanting {t = mid} later error offers called) =
    goes_then old mid new (goes_offers stanza old mid offers) (goes_called (calls.Put stanza) (Err error) mid new refl called)

goes_puts : (stanza : List ℕ) (queued : Queued) (old new : Known Entry) → Puts stanza queued old new → GoesOn old new
goes_puts stanza queued old new p = goes_then old p.last new (goes_offers stanza old p.last p.offers) (goes_called (calls.Put stanza) (Ok (replies.Queued queued)) p.last new refl p.replied)

pub goes_queued : (old new : Known Entry) (result : Result Queued AllocError) → QueuesBy calls.Terminate old new result → GoesOn old new
goes_queued old new (Ok queued) c = goes_called calls.Terminate (Ok (replies.Queued queued)) old new refl c
goes_queued old new (Err error) c = goes_called calls.Terminate (Err error) old new refl c

pub goes_looked : (old new : Known Entry) (end : Option ClientEnd) → LooksBy old new end → GoesOn old new
goes_looked old new end looks = later_same old new looks.begins looks.mine

pub goes_gathered : (old new : Known Entry) → StartsWith new.seen old.seen → new.mine ≡ old.mine → GoesOn old new
goes_gathered old new begins same = later_same old new begins same

pub goes_both : (a b c : Known Entry) → GoesOn a b → GoesOn b c → GoesOn a c
goes_both a b c one two = goes_then a b c one two

pub goes_same : (old new : Known Entry) → new ≡ old → GoesOn old new
goes_same old new same = subst (GoesOn old) (sym same) (still old)

-- Stanzas, one after the other.

hands_both : (a b c : Known Entry) (xs ys : List (List ℕ)) → Hands a b xs → Hands b c ys → Hands a c (xs ++ ys)
hands_both a b c xs ys one none = subst (Hands a b) (sym (append-nil xs)) one
hands_both a b c xs ys one (goes_on {t = mid} {stanzas = stanzas} new two goes) = goes_on new (hands_both a b mid xs stanzas one two) goes
hands_both a b c xs ys one (hands_out {t = mid} {stanzas = stanzas} new stanza two hands) =
    subst (Hands a new) (append_assoc xs stanzas (stanza ∷ [])) (hands_out new stanza (hands_both a b mid xs stanzas one two) hands)

given_none : (old new : Option (List ℕ)) → new ≡ old → Appends old new []
given_none old new same = subst (λ o. Appends old o []) (sym same) (by old)
  where
    by : (o : Option (List ℕ)) → Appends o o []
    by None = tt
    by (Some bytes) = sym (append-nil bytes)

lines_both : (xs ys : List (List ℕ)) → as_lines xs ++ as_lines ys ≡ as_lines (xs ++ ys)
lines_both xs ys = sym (flat_map-append line_of xs ys)

-- nothing was handed out, and nothing written
pub handed_none : (whole : Bool) (s t : Out) (faults later : ℕ) → GoesOn s.known t.known → t.given ≡ s.given → Handed whole s t faults later
handed_none true s t faults later goes same = record { stanzas = []; hands = goes_on t.known none goes; gives = given_none s.given t.given same }
handed_none false s t faults later goes same = record { stanzas = []; hands = goes_on t.known none goes; gives = inl (given_none s.given t.given same) }

pub handed_less : (whole : Bool) (s t : Out) (faults later : ℕ) → Handed whole s t faults later → Handed false s t faults later
handed_less true s t faults later h = record { stanzas = h.stanzas; hands = h.hands; gives = inl h.gives }
handed_less false s t faults later h = h

pub handed_at : (whole : Bool) (s t : Out) (faults later : ℕ) → Handed true s t faults later → Handed whole s t faults later
handed_at true s t faults later h = h
handed_at false s t faults later h = handed_less true s t faults later h

gives_both : (whole : Bool) (old mid new : Option (List ℕ)) (faults between later : ℕ) (xs ys : List ℕ) → faults ≤ between → between ≤ later → Appends old mid xs → GivesUpTo whole mid new between later ys → GivesUpTo whole old new faults later (xs ++ ys)
gives_both true old mid new faults between later xs ys one_falls two_falls one two = appends_both old mid new xs ys one two
gives_both false old mid new faults between later xs ys one_falls two_falls one (inl two) = inl (appends_both old mid new xs ys one two)
gives_both false old mid new faults between later xs ys one_falls two_falls one (inr (two, risen)) =
    inr (front_of_parts old mid new (xs ++ ys) xs ys [] one two (sym (append-nil (xs ++ ys))), HasRisen-before faults between later one_falls two_falls risen)

pub handed_both : (whole : Bool) (s t u : Out) (faults between later : ℕ) → faults ≤ between → between ≤ later → Handed true s t faults between → Handed whole t u between later → Handed whole s u faults later
handed_both whole s t u faults between later one_falls two_falls one two = record {
  stanzas = one.stanzas ++ two.stanzas;
  hands = hands_both s.known t.known u.known one.stanzas two.stanzas one.hands two.hands;
  gives = subst (GivesUpTo whole s.given u.given faults later) (lines_both one.stanzas two.stanzas)
      (gives_both whole s.given t.given u.given faults between later (as_lines one.stanzas) (as_lines two.stanzas) one_falls two_falls one.gives two.gives);
}

gives_later : (whole : Bool) (old new : Option (List ℕ)) (faults between later : ℕ) (bytes : List ℕ) → between ≤ later → GivesUpTo whole old new faults between bytes → GivesUpTo whole old new faults later bytes
gives_later true old new faults between later bytes falls gives = gives
gives_later false old new faults between later bytes falls (inl gives) = inl gives
gives_later false old new faults between later bytes falls (inr (gives, risen)) = inr (gives, HasRisen-after faults between later risen falls)

-- nothing is handed out any more
pub handed_then : (whole : Bool) (s t : Out) (new : Known Entry) (faults between later : ℕ) → between ≤ later → Handed whole s t faults between → GoesOn t.known new → Handed whole s (out_of new t.given) faults later
handed_then whole s t new faults between later falls h goes = record {
  stanzas = h.stanzas;
  hands = goes_on new h.hands goes;
  gives = gives_later whole s.given t.given faults between later (as_lines h.stanzas) falls h.gives;
}

pub falls_same : (n : ℕ) → n ≤ n
falls_same n = omega arith

-- Writing.

record WroteAll (s t : Out) : Type 0 where
  stanzas : List (List ℕ)
  hands : Hands s.known t.known stanzas
  gives : Appends s.given t.given (as_lines stanzas)

writes_handed : (s t : Out) → Writes s t → WroteAll s t
writes_handed s t nothing = record { stanzas = []; hands = none; gives = given_none s.given s.given refl }
writes_handed s t (line {t = mid} new given stanza writes hands appends) =
    let before = writes_handed s mid writes in
    record {
      stanzas = before.stanzas ++ stanza ∷ [];
      hands = hands_out new stanza before.hands hands;
      gives = subst (Appends s.given given) (ap (λ l. as_lines before.stanzas ++ l) (sym (append-nil (line_of stanza))) ∙ lines_both before.stanzas (stanza ∷ []))
          (appends_both s.given mid.given given (as_lines before.stanzas) (line_of stanza) before.gives appends);
    }

last_handed : (s t u : Out) (faults later : ℕ) (result : Result Written AllocError) → WroteAll s t → (result ≡ Ok written.WriteFault → HasRisen faults later) → WritesLast t u result → Handed (is_write_whole result) s u faults later
last_handed s t u faults later (Ok written.Done) all risen (none_left, same) = record {
  stanzas = all.stanzas;
  hands = goes_on u.known all.hands (goes_none t.known u.known none_left);
  gives = subst (λ o. Appends s.given o (as_lines all.stanzas)) (sym same) all.gives;
}
last_handed s t u faults later (Ok written.WriteFault) all risen (stanza, hands, front) = record {
  stanzas = all.stanzas ++ stanza ∷ [];
  hands = hands_out u.known stanza all.hands hands;
  gives = inr (
    front_of_parts s.given t.given u.given (as_lines (all.stanzas ++ stanza ∷ [])) (as_lines all.stanzas) (line_of stanza) [] all.gives front
        (sym (lines_both all.stanzas (stanza ∷ [])) ∙ ap (λ l. as_lines all.stanzas ++ l) (append-nil (line_of stanza)) ∙ sym (append-nil (as_lines all.stanzas ++ line_of stanza))),
    risen refl,
  );
}
last_handed s t u faults later (Err error) all risen (wants, same) = record {
  stanzas = all.stanzas;
  hands = goes_on u.known all.hands (goes_wanting t.known u.known error wants);
  gives = subst (λ o. Appends s.given o (as_lines all.stanzas)) (sym same) all.gives;
}

pub drains_handed : (s t : Out) (faults later : ℕ) (result : Result Written AllocError) → Drains s t result → (result ≡ Ok written.WriteFault → HasRisen faults later) → Handed (is_write_whole result) s t faults later
drains_handed s t faults later result d risen = last_handed s d.last t faults later result (writes_handed s d.last d.writes) risen d.ends

-- Talking.

says_handed : (stanza : List ℕ) (s t : Out) (faults later : ℕ) (result : Result Written AllocError) → faults ≤ later → Says stanza s t result → (result ≡ Ok written.WriteFault → HasRisen faults later) → Handed (is_write_whole result) s t faults later
says_handed stanza s t faults later result falls says risen =
    handed_both (is_write_whole result) s (out_of says.put s.given) t faults faults later (falls_same faults) falls
    (handed_none true s (out_of says.put s.given) faults faults (goes_puts stanza queueings.Done s.known says.put says.puts) refl)
    (drains_handed (out_of says.put s.given) t faults later result says.drains risen)

pub no_fault : (faults later : ℕ) → ◌≡◌ {A = Result Written AllocError} (Ok written.Done) (Ok written.WriteFault) → HasRisen faults later
no_fault faults later is = absurd (cc)

no_fault_wanting : (faults later : ℕ) (error : AllocError) → ◌≡◌ {A = Result Written AllocError} (Err error) (Ok written.WriteFault) → HasRisen faults later
no_fault_wanting faults later error is = absurd (cc)

speaks_handed : (s t : Talk) (faults : ℕ) → Speaks s t → Handed true s.out t.out faults faults
unfolding Takes
speaks_handed s t faults speaks_none = handed_none true s.out s.out faults faults (still s.out.known) refl
speaks_handed s t faults (spoke {t = mid} out left stanza speaks takes says) =
    handed_both true s.out mid.out out faults faults faults (falls_same faults) (falls_same faults) (speaks_handed s mid faults speaks) (says_handed stanza mid.out out faults faults (Ok written.Done) (falls_same faults) says (no_fault faults faults))

-- what ended the talking, after lines that were put and followed by what was handed out
module _ (s t u : Talk) (faults later : ℕ) (falls : faults ≤ later) (before : Handed true s.out t.out faults faults) where
  after_said : (stanza : List ℕ) (result : Result Written AllocError) → Says stanza t.out u.out result → (result ≡ Ok written.WriteFault → HasRisen faults later) → Handed (is_write_whole result) s.out u.out faults later
  after_said stanza result says risen =
      handed_both (is_write_whole result) s.out t.out u.out faults faults later (falls_same faults) falls before (says_handed stanza t.out u.out faults later result falls says risen)

  after_none : GoesOn t.out.known u.out.known → u.out.given ≡ t.out.given → Handed true s.out u.out faults later
  after_none goes same = handed_both true s.out t.out u.out faults faults later (falls_same faults) falls before (handed_none true t.out u.out faults later goes same)

  after_same : u.out ≡ t.out → Handed true s.out u.out faults later
  after_same same = after_none (subst (GoesOn t.out.known) (sym (ap (λ out. out.known) same)) (still t.out.known)) (ap (λ out. out.given) same)

  over_handed : Stops t u (Ok said.Over) → Handed true s.out u.out faults later
  unfolding SaysBy
  over_handed (stanza, takes, (puts, same)) = after_none (goes_puts stanza queueings.Over t.out.known u.out.known puts) same

  failed_handed : HasRisen faults later → Stops t u (Ok said.WriteFault) → Handed false s.out u.out faults later
  unfolding SaysBy
  failed_handed risen (stanza, takes, says) = after_said stanza (Ok written.WriteFault) says (λ is. risen)

  wanting_handed : (error : AllocError) → Stops t u (Err error) → Handed true s.out u.out faults later
  unfolding SaysBy
  wanting_handed error (stanza, takes, inl says) = after_said stanza (Err error) says (no_fault_wanting faults later error)
  wanting_handed error (stanza, takes, inr (offers, same)) = after_none (goes_offers stanza t.out.known u.out.known offers) same

  ends_handed : (result : Result Talked AllocError) → EndsTalk t u result → (result ≡ Ok talked.WriteFault → HasRisen faults later) → Handed (is_talk_whole result) s.out u.out faults later
  unfolding EndsTalk
  ends_handed (Ok talked.Done) (inl (queued, (takes, closes, same))) risen = after_none (goes_queued t.out.known u.out.known (Ok queued) closes) same
  ends_handed (Ok talked.Done) (inr stops) risen = over_handed stops
  ends_handed (Ok (talked.Bad n)) (at, same, bad) risen = after_same same
  ends_handed (Ok talked.ReadFault) same risen = after_same same
  ends_handed (Ok talked.WriteFault) stops risen = failed_handed (risen refl) stops
  ends_handed (Err error) (inl same) risen = after_same same
  ends_handed (Err error) (inr (inl stops)) risen = wanting_handed error stops
  ends_handed (Err error) (inr (inr (takes, closes, same))) risen = after_none (goes_queued t.out.known u.out.known (Err error) closes) same

pub talks_handed : (s : Talk) (out : Out) (left : Option (List ℕ)) (faults later : ℕ) (result : Result Talked AllocError) → faults ≤ later → Talks s out left result → (result ≡ Ok talked.WriteFault → HasRisen faults later) → Handed (is_talk_whole result) s.out out faults later
talks_handed s out left faults later result falls talks risen =
    ends_handed s talks.last (talk_of out (prepend_known talks.kept left) talks.last.put) faults later falls (speaks_handed s talks.last faults talks.speaks) result talks.ends risen

-- after what was written before, all that was left was written, or was tried to be
pub drained : (start s t : Out) (faults between later : ℕ) (result : Result Written AllocError) → faults ≤ between → between ≤ later → Handed true start s faults between → Drains s t result
    → (result ≡ Ok written.WriteFault → HasRisen between later) → Handed (is_write_whole result) start t faults later
drained start s t faults between later result one_falls two_falls before d risen =
    handed_both (is_write_whole result) start s t faults between later one_falls two_falls before (drains_handed s t between later result d risen)
