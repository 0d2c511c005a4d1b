-- Calls of a session that take nothing of it.
use Rattle.std.proofs.Common.{◌≡◌, ◌≢◌, ◌⊎◌, ℕ, Bool, true, false, cond, List, [], ◌∷◌, ◌++◌, map, filter, Option, Some, None, Result, Ok, Err, refl, sym, ◌∙◌, ap, subst, inl, inr, append_assoc, append-nil, ne_eqb}
use Rattle.std.specs.Prelude.{⊤, ◌==◌, option_to_list}
use Rattle.std.specs.List.{cons_option, filter_map}
use Rattle.std.proofs.lemmas.Bool.Decides.{eqb_tells}
use Rattle.std.proofs.lemmas.List.{map-append}
use Rattle.std.proofs.lemmas.List.Elements.{filter-append, filter_map-append}
use Rattle.std.specs.declared.alloc.AllocError.{AllocError}
use Rattle.bosh_types.specs.declared.ending.Closing.{Closing}
use Rattle.bosh_types.specs.declared.inward.Inward.{Inward}
use Rattle.parked_gate.specs.Passes.{Known, Looks}
use Rattle.session_core.specs.declared.replies.Taken.TheVariants as takings
use Rattle.session_journal.specs.declared.call.Call.{Call}
use Rattle.session_journal.specs.declared.call.Call.TheVariants as calls
use Rattle.session_journal.specs.declared.call.Reply.{Reply}
use Rattle.session_journal.specs.declared.call.Reply.TheVariants as replies
use Rattle.session_journal.specs.declared.entry.Entry.{Entry}
use Rattle.xmpp_backend.specs.declared.backend.Given.{Given}
use Rattle.xmpp_backend.specs.declared.backend.Given.TheVariants as given
use Rattle.session_pump.specs.Calling.{Called, ClosesEach, ClosesStream, Ticks, closed_none, closed_one}
use Rattle.session_pump.specs.Taking.{FindsNoRoom, IsAsked, IsReady, OnceReady, Refuses, Takes, Tried, called, finds_room, is_full, is_new, lacks_room, looked, unasked, untried}
use Rattle.session_pump.specs.declared.line.Owing.{Owing}
use Rattle.xmpp_backend.specs.Told.{on_wire}
use Rattle.pump_laws.specs.Handing.{stanza_in}
use Rattle.pump_laws.specs.CallsMade.{given_by, handed, CallMade, Handed, MadeBy, made_more, taken, taken_by}

-- ---- what lies on one stream, or one wire

pub is_itself : (n : ℕ) → (n == n) ≡ true
is_itself n = by (eqb_tells n n)
  where
    by : (((n == n) ≡ true) × (n ≡ n)) ⊎ (((n == n) ≡ false) × (n ≢ n)) → (n == n) ≡ true
    by (inl same) = same.0
    by (inr apart) = absurd (apart.1 refl)

pub on_more : {A : Type 0} (wire : ℕ) (xs ys : List (ℕ × A)) → on_wire wire (xs ++ ys) ≡ on_wire wire xs ++ on_wire wire ys
on_more {A} wire xs ys =
    ap (map (λ (entry : ℕ × A). entry.1)) (filter-append (λ (entry : ℕ × A). entry.0 == wire) xs ys)
    ∙ map-append (λ (entry : ℕ × A). entry.1) (filter (λ (entry : ℕ × A). entry.0 == wire) xs) (filter (λ (entry : ℕ × A). entry.0 == wire) ys)

pub one_on_this : {A : Type 0} (wire other : ℕ) (x : A) → other ≡ wire → on_wire wire ((other, x) ∷ []) ≡ x ∷ []
one_on_this {A} wire other x same =
    ap (λ b. map (λ (entry : ℕ × A). entry.1) (cond b ((other, x) ∷ []) [])) (ap (λ k. k == wire) same ∙ is_itself wire)

pub one_on_other : {A : Type 0} (wire other : ℕ) (x : A) → other ≢ wire → on_wire wire ((other, x) ∷ []) ≡ []
one_on_other {A} wire other x apart =
    ap (λ b. map (λ (entry : ℕ × A). entry.1) (cond b ((other, x) ∷ []) [])) (ne_eqb other wire apart)

-- a stanza that is given on a stream
abbrev pub on_stream : ℕ → Given → List Handed
on_stream stream (given.Stanza text) = (stream, text) ∷ []
on_stream stream (given.Closed closing) = []

pub given_on_this : (number stream : ℕ) (what : Given) → stream ≡ number → on_wire number (on_stream stream what) ≡ option_to_list (stanza_in what)
given_on_this number stream (given.Stanza text) same = one_on_this number stream text same
given_on_this number stream (given.Closed closing) same = refl

pub given_on_other : (number stream : ℕ) (what : Given) → stream ≢ number → on_wire number (on_stream stream what) ≡ []
given_on_other number stream (given.Stanza text) apart = one_on_other number stream text apart
given_on_other number stream (given.Closed closing) apart = refl

-- the stanzas that calls gave, each with its stream
abbrev pub handed_all : List CallMade → List Handed
handed_all made = filter_map (λ (call : CallMade). given_by call.0 call.1) made

-- ---- one call

one_call : (made : List CallMade) (call : Call) (result : Result Reply AllocError) (o : Option Inward) → taken_by call result ≡ o
    → taken (made ++ (call, result) ∷ []) ≡ taken made ++ cons_option o []
one_call made call result o is =
    filter_map-append (λ (c : CallMade). taken_by c.0 c.1) made ((call, result) ∷ []) ∙ ap (λ p. taken made ++ cons_option p []) is

pub takes_one : (made : List CallMade) (call : Call) (result : Result Reply AllocError) (item : Inward) → taken_by call result ≡ Some item
    → taken (made ++ (call, result) ∷ []) ≡ taken made ++ item ∷ []
takes_one made call result item is = one_call made call result (Some item) is

pub takes_none : (made : List CallMade) (call : Call) (result : Result Reply AllocError) → taken_by call result ≡ None
    → taken (made ++ (call, result) ∷ []) ≡ taken made
takes_none made call result is = one_call made call result None is ∙ append-nil (taken made)

pub err_takes_none : (call : Call) (error : AllocError) → taken_by call (Err error) ≡ None
err_takes_none (calls.Arrive request body now) error = refl
err_takes_none (calls.Back stream stanza now) error = refl
err_takes_none (calls.BackClosed stream closing now) error = refl
err_takes_none (calls.Tick now) error = refl
err_takes_none calls.TakeInward error = refl

pub one_more_made : (made : List CallMade) (call : Call) (result : Result Reply AllocError) (old new : Known Entry) → MadeBy made old.mine → Called call result old new
    → MadeBy (made ++ (call, result) ∷ []) new.mine
one_more_made made call result old new by_these c =
    subst (MadeBy (made ++ (call, result) ∷ [])) (sym c.mine) (made_more c.before call result c.made by_these c.says)

gives_so : (made : List CallMade) (call : Call) (result : Result Reply AllocError) (o : Option Handed) → given_by call result ≡ o
    → handed_all (made ++ (call, result) ∷ []) ≡ handed_all made ++ cons_option o []
gives_so made call result o is =
    filter_map-append (λ (c : CallMade). given_by c.0 c.1) made ((call, result) ∷ []) ∙ ap (λ p. handed_all made ++ cons_option p []) is

pub gives_none : (made : List CallMade) (call : Call) (result : Result Reply AllocError) → given_by call result ≡ None
    → handed_all (made ++ (call, result) ∷ []) ≡ handed_all made
gives_none made call result is = gives_so made call result None is ∙ append-nil (handed_all made)

pub err_gives_none : (call : Call) (error : AllocError) → given_by call (Err error) ≡ None
err_gives_none (calls.Arrive request body now) error = refl
err_gives_none (calls.Back stream stanza now) error = refl
err_gives_none (calls.BackClosed stream closing now) error = refl
err_gives_none (calls.Tick now) error = refl
err_gives_none calls.TakeInward error = refl

-- further calls were made: they took nothing more, and gave these stanzas
pub record Hands (gave : List Handed) (made : List CallMade) (mine : List Entry) : Type 0 where
  pub calls : List CallMade
  pub by_these : MadeBy calls mine
  pub same : taken calls ≡ taken made
  pub gives : handed_all calls ≡ handed_all made ++ gave

-- on one stream they gave what of these is on it
pub hands_on : (stream : ℕ) (gave : List Handed) (made : List CallMade) (mine : List Entry) (h : Hands gave made mine) → handed stream h.calls ≡ handed stream made ++ on_wire stream gave
hands_on stream gave made mine h = ap (on_wire stream) h.gives ∙ on_more stream (handed_all made) gave

-- and nothing on another
pub hands_other : (stream : ℕ) (gave : List Handed) (made : List CallMade) (mine : List Entry) (h : Hands gave made mine) → on_wire stream gave ≡ [] → handed stream h.calls ≡ handed stream made
hands_other stream gave made mine h none = hands_on stream gave made mine h ∙ (ap (λ xs. handed stream made ++ xs) none ∙ append-nil (handed stream made))

abbrev pub Goes : List CallMade → List Entry → Type 0
Goes = Hands []

-- what the pass makes of its session takes nothing, and gives these
abbrev pub Brings : List Handed → Known Entry → Known Entry → Type 0
Brings gave old new = (made : List CallMade) → MadeBy made old.mine → Hands gave made new.mine

-- or gives nothing either
abbrev pub Carries : Known Entry → Known Entry → Type 0
Carries = Brings []

pub carries_same : (old new : Known Entry) → new.mine ≡ old.mine → Carries old new
carries_same old new is made by_these = record { calls = made; by_these = subst (MadeBy made) (sym is) by_these; same = refl; gives = sym (append-nil (handed_all made)) }

pub brings_then : (gave more : List Handed) (k l m : Known Entry) → Brings gave k l → Brings more l m → Brings (gave ++ more) k m
brings_then gave more k l m first second made by_these =
    let g : Hands gave made l.mine = first made by_these in
    let h : Hands more g.calls m.mine = second g.calls g.by_these in
    record { calls = h.calls; by_these = h.by_these; same = h.same ∙ g.same; gives = h.gives ∙ (ap (λ xs. xs ++ more) g.gives ∙ append_assoc (handed_all made) gave more) }

pub carries_then : (k l m : Known Entry) → Carries k l → Carries l m → Carries k m
carries_then k l m first second = brings_then [] [] k l m first second

pub carries_call : (call : Call) (result : Result Reply AllocError) (old new : Known Entry) → taken_by call result ≡ None → given_by call result ≡ None → Called call result old new → Carries old new
carries_call call result old new none nothing c made by_these = record {
  calls = made ++ (call, result) ∷ [];
  by_these = one_more_made made call result old new by_these c;
  same = takes_none made call result none;
  gives = gives_none made call result nothing ∙ sym (append-nil (handed_all made));
}

brings_one : (call : Call) (result : Result Reply AllocError) (stanza : Handed) (old new : Known Entry) → taken_by call result ≡ None → given_by call result ≡ Some stanza
    → Called call result old new → Brings (stanza ∷ []) old new
brings_one call result stanza old new none is c made by_these = record {
  calls = made ++ (call, result) ∷ [];
  by_these = one_more_made made call result old new by_these c;
  same = takes_none made call result none;
  gives = gives_so made call result (Some stanza) is;
}

pub carries_look : {Says : List Entry → Type 0} (old new : Known Entry) → Looks Says old new → Carries old new
carries_look old new l = carries_same old new l.mine

pub carries_asked : (old new : Known Entry) → IsAsked old new → Carries old new
carries_asked old new unasked = carries_same old old refl
carries_asked old new (looked l) = carries_same old new l.mine

carries_ready : (owing : Owing) (old new : Known Entry) → IsReady owing old new → Carries old new
carries_ready owing old new (is_new fresh) = carries_same old old refl
carries_ready owing old new (finds_room l) = carries_same old new l.mine

pub carries_closing : (moment : Option ℕ) (stream : ℕ) (closing : Closing) (result : Result ⊤ AllocError) (old new : Known Entry) → ClosesStream moment stream closing result old new → Carries old new
carries_closing moment stream closing (Ok done) old new (now, reply, at, c) = carries_call (calls.BackClosed stream closing now) (Ok reply) old new refl refl c
carries_closing moment stream closing (Err error) old new (now, c) = carries_call (calls.BackClosed stream closing now) (Err error) old new refl refl c

pub carries_closings : (moment : Option ℕ) (closing : Closing) (old : Known Entry) (streams : List ℕ) (result : Result ⊤ AllocError) (new : Known Entry) → ClosesEach moment closing old streams result new → Carries old new
carries_closings moment closing old streams result new closed_none = carries_same old old refl
carries_closings moment closing old streams result new (closed_one {streams = before} {first = first} {mid = mid} stream next rest last) =
    carries_then old mid new (carries_closings moment closing old before first mid rest) (carries_closing moment stream closing next mid new last)

pub brings_taken : (moment : Option ℕ) (stream : ℕ) (what : Given) (old new : Known Entry) → Takes moment stream what old new → Brings (on_stream stream what) old new
brings_taken moment stream (given.Stanza text) old new (now, takings.Done, at, apart, c) =
    brings_one (calls.Back stream text now) (Ok (replies.Back takings.Done)) (stream, text) old new refl refl c
brings_taken moment stream (given.Stanza text) old new (now, takings.Over, at, apart, c) =
    brings_one (calls.Back stream text now) (Ok (replies.Back takings.Over)) (stream, text) old new refl refl c
brings_taken moment stream (given.Stanza text) old new (now, takings.Full, at, apart, c) = absurd (apart refl)
brings_taken moment stream (given.Closed closing) old new closes = carries_closing moment stream closing (Ok tt) old new closes

pub carries_refuses : (moment : Option ℕ) (stream : ℕ) (what : Given) (old new : Known Entry) → Refuses moment stream what old new → Carries old new
carries_refuses moment stream (given.Stanza text) old new (now, at, c) = carries_call (calls.Back stream text now) (Ok (replies.Back takings.Full)) old new refl refl c
carries_refuses moment stream (given.Closed closing) old new never = absurd never

pub brings_once : (gave : List Handed) (owing : Owing) (Says : Known Entry → Known Entry → Type 0) → ((k m : Known Entry) → Says k m → Brings gave k m)
    → (old new : Known Entry) → OnceReady owing Says old new → Brings gave old new
brings_once gave owing Says brings old new (mid, ready, says) = brings_then [] gave old mid new (carries_ready owing old mid ready) (brings mid new says)

pub carries_once : (owing : Owing) (Says : Known Entry → Known Entry → Type 0) → ((k m : Known Entry) → Says k m → Carries k m)
    → (old new : Known Entry) → OnceReady owing Says old new → Carries old new
carries_once owing Says carries old new once = brings_once [] owing Says carries old new once

pub carries_tried : (old new : Known Entry) → Tried old new → Carries old new
carries_tried old new untried = carries_same old old refl
carries_tried old new (called call error c) = carries_call call (Err error) old new (err_takes_none call error) (err_gives_none call error) c

pub carries_no_room : (moment : Option ℕ) (owing : Owing) (old new : Known Entry) → FindsNoRoom moment owing old new → Carries old new
carries_no_room moment owing old new (is_full once) = carries_once owing (Refuses moment owing.stream owing.given) (λ k m r. carries_refuses moment owing.stream owing.given k m r) old new once
carries_no_room moment owing old new (lacks_room l) = carries_same old new l.mine

pub carries_ticks : (moment : Option ℕ) (result : Result ⊤ AllocError) (old new : Known Entry) → Ticks moment result old new → Carries old new
carries_ticks moment (Ok done) old new (now, reply, at, c) = carries_call (calls.Tick now) (Ok reply) old new refl refl c
carries_ticks moment (Err error) old new (now, c) = carries_call (calls.Tick now) (Err error) old new refl refl c
