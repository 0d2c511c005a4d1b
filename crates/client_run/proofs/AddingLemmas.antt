-- What calls add to a caller's own entries.
use Rattle.std.proofs.Common.{◌≡◌, ℕ, Bool, true, false, List, [], ◌∷◌, ◌++◌, ◌&&◌, Some, None, inl, inr, refl, sym, ◌∙◌, ap, subst, append_assoc, append-nil}
use Rattle.std.specs.Prelude.{Option, Result, Ok, Err}
use Rattle.std.specs.List.{list_all}
use Rattle.std.specs.Option.{option_to_list}
use Rattle.std.proofs.lemmas.List.Folds.{list_all-append}
use Rattle.std.specs.declared.alloc.AllocError.{AllocError}
use Rattle.bosh_client.specs.declared.replies.Queued.TheVariants as queueings
use Rattle.parked_gate.specs.Passes.{Known}
use Rattle.client_run.specs.declared.call.Call.{Call}
use Rattle.client_run.specs.declared.call.Call.TheVariants as calls
use Rattle.client_run.specs.declared.call.Reply.{Reply}
use Rattle.client_run.specs.declared.call.Reply.TheVariants as replies
use Rattle.client_run.specs.declared.draining.Written.{Written}
use Rattle.client_run.specs.declared.draining.Written.TheVariants as written
use Rattle.client_run.specs.declared.entry.Entered.TheVariants.{Called as IsCalled}
use Rattle.client_run.specs.declared.entry.Entry.{Entry}
use Rattle.client_run.specs.Adding.{AddsOnly, by_call, is_entry, is_hand_out}
use Rattle.client_run.specs.Calls.{changes, reply_in}
use Rattle.client_run.specs.Handing.{Drains, HandsOut, Out, Writes, WritesLast, line, nothing}
use Rattle.client_run.specs.History.{Enters}
use Rattle.client_run.specs.Queueing.{Offers, OffersBy, Puts, full, none, wanting}
use Rattle.client_run.specs.Working.{Called}

-- a call that changed the client is one entry more, and another is none
abbrev pub Makes : Call → Bool → List Entry → List Entry → Type 0
Makes call true old new = (e : Entry) × (e.entered ≡ IsCalled call) × (new ≡ old ++ e ∷ [])
Makes call false old new = new ≡ old

makes_by : (call : Call) (changed : Bool) (made : Option Entry) (old new : List Entry) → Enters call changed made → new ≡ old ++ option_to_list made → Makes call changed old new
makes_by call true None old new enters is = absurd (cc)
makes_by call true (Some e) old new enters is = (e, enters.1, is)
makes_by call false None old new enters is = is ∙ append-nil old
makes_by call false (Some e) old new enters is = absurd (cc)

pub called_makes : (call : Call) (reply : Reply) (old new : Known Entry) → Called call (Ok reply) old new → Makes call (changes (reply_in reply)) old.mine new.mine
called_makes call reply old new c = makes_by call (changes (reply_in reply)) c.made old.mine new.mine c.says.enters c.mine

pub called_wants : (call : Call) (error : AllocError) (old new : Known Entry) → Called call (Err error) old new → new.mine ≡ old.mine
called_wants call error old new c = c.mine ∙ ap (λ made. old.mine ++ option_to_list made) c.says ∙ append-nil old.mine

-- entries of one kind
module _ (p : Call → Bool) where
  pub adds_none : (old new : Known Entry) → new.mine ≡ old.mine → AddsOnly p old new
  adds_none old new same = record { added = []; mine = same ∙ sym (append-nil old.mine); holds = refl }

  pub adds_one : (old new : Known Entry) (call : Call) → p call ≡ true → Makes call true old.mine new.mine → AddsOnly p old new
  adds_one old new call is made = record { added = made.0 ∷ []; mine = made.2; holds = ap (λ x. by_call false p x && true) made.1 ∙ ap (λ b. b && true) is }

  pub adds_both : (a b c : Known Entry) → AddsOnly p a b → AddsOnly p b c → AddsOnly p a c
  adds_both a b c one two = record {
    added = one.added ++ two.added;
    mine = two.mine ∙ ap (λ front. front ++ two.added) one.mine ∙ append_assoc a.mine one.added two.added;
    holds = list_all-append (is_entry p) one.added two.added ∙ ap (λ b. b && list_all (is_entry p) two.added) one.holds ∙ two.holds;
  }

  -- a call that changed the client or didn't
  pub adds_called : (old new : Known Entry) (call : Call) (changed : Bool) → p call ≡ true → Makes call changed old.mine new.mine → AddsOnly p old new
  adds_called old new call true is made = adds_one old new call is made
  adds_called old new call false is made = adds_none old new made

-- what is handed out
pub none_handed : (old new : Known Entry) → HandsOut old new (Ok None) → Called calls.HandOut (Ok (replies.HandOut None)) old new
none_handed old new h = subst (λ payload. Called calls.HandOut (Ok (replies.HandOut payload)) old new) h.stanza_is h.called

hands_adds : (old new : Known Entry) (stanza : Option (List ℕ)) → HandsOut old new (Ok stanza) → AddsOnly is_hand_out old new
hands_adds old new stanza h =
    adds_called is_hand_out old new calls.HandOut (changes (reply_in (replies.HandOut h.payload))) refl (called_makes calls.HandOut (replies.HandOut h.payload) old new h.called)

writes_adds : (s t : Out) → Writes s t → AddsOnly is_hand_out s.known t.known
writes_adds s t nothing = adds_none is_hand_out s.known s.known refl
writes_adds s t (line {t = mid} new given stanza writes hands appends) =
    adds_both is_hand_out s.known mid.known new (writes_adds s mid writes) (hands_adds mid.known new (Some stanza) hands)

last_adds : (s t : Out) (result : Result Written AllocError) → WritesLast s t result → AddsOnly is_hand_out s.known t.known
last_adds s t (Ok written.Done) last = hands_adds s.known t.known None last.0
last_adds s t (Ok written.WriteFault) last = hands_adds s.known t.known (Some last.0) last.1
last_adds s t (Err error) last = adds_none is_hand_out s.known t.known (called_wants calls.HandOut error s.known t.known last.0)

pub drains_adds : (s t : Out) (result : Result Written AllocError) → Drains s t result → AddsOnly is_hand_out s.known t.known
drains_adds s t result d = adds_both is_hand_out s.known d.last.known t.known (writes_adds s d.last d.writes) (last_adds d.last t result d.ends)

-- what is put
pub offers_same : (stanza : List ℕ) (old new : Known Entry) → Offers stanza old new → new.mine ≡ old.mine
offers_same stanza old new none = refl
offers_same stanza old new (full {t = mid} later offers called) = called_makes (calls.Put stanza) (replies.Queued queueings.Full) mid new called ∙ offers_same stanza old mid offers
offers_same stanza old new (wanting {t = mid} later error offers called) = called_wants (calls.Put stanza) error mid new called ∙ offers_same stanza old mid offers

pub put_one : (stanza : List ℕ) (old new : Known Entry) → Puts stanza queueings.Done old new → Makes (calls.Put stanza) true old.mine new.mine
put_one stanza old new p =
    let made = called_makes (calls.Put stanza) (replies.Queued queueings.Done) p.last new p.replied in
    (made.0, made.1, made.2 ∙ ap (λ front. front ++ made.0 ∷ []) (offers_same stanza old p.last p.offers))

pub put_none : (stanza : List ℕ) (old new : Known Entry) → Puts stanza queueings.Over old new → new.mine ≡ old.mine
put_none stanza old new p = called_makes (calls.Put stanza) (replies.Queued queueings.Over) p.last new p.replied ∙ offers_same stanza old p.last p.offers

-- there was no memory for another try
pub offered : (stanza : List ℕ) (old mid new : Known Entry) (error : AllocError) → Offers stanza old mid → OffersBy stanza mid new (Err error) → Offers stanza old new
offered stanza old mid new error offers (inl same) = subst (Offers stanza old) (sym same) offers
offered stanza old mid new error offers (inr called) = wanting new error offers called
