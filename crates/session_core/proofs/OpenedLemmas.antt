-- A session that was opened stands for the plain one.
use Rattle.std.proofs.Common.{◌≡◌, ℕ, zero, suc, ◌+◌, ◌≤◌, ◌==◌, Bool, true, false, cond, List, [], ◌∷◌, ◌++◌, map, length, drop, min, Option, Some, None, refl, sym, ◌∙◌, ap, subst, arith}
use Rattle.std.specs.Prelude.{if◌then◌else◌}
use Rattle.std.specs.List.{list_any}
use Rattle.std.proofs.lemmas.Bool.Decides.{nat_tests}
use Rattle.std.proofs.lemmas.List.Elements.{All-nil}
use Rattle.bosh_types.specs.declared.terms.Terms.{Terms}
use Rattle.body_cutter.specs.declared.parts.Cut.{Cut}
use Rattle.body_cutter.proofs.Cuts.{body_cut}
use Rattle.reply_keep.specs.StandsFor as keeps
use Rattle.rid_window.specs.declared.window.Placed.{Placed}
use Rattle.rid_window.specs.declared.window.Placed.TheVariants.{Done, Below, Repeat, Above}
use Rattle.rid_window.specs.declared.window.Window.{Window}
use Rattle.rid_window.specs.PlainWindow.{PlainWindow, PlaceSays, new_window, after_place, after_ready, id_after, next_after, with_item}
use Rattle.rid_window.specs.StandsFor as windows
use Rattle.session_attrs.specs.declared.request.Creation.{Creation}
use Rattle.session_attrs.specs.declared.request.Kind.{Kind}
use Rattle.session_attrs.specs.declared.request.Kind.TheVariants as kinds
use Rattle.session_attrs.specs.declared.request.Request.{Request}
use Rattle.session_attrs.specs.Meaning.{MeansKind}
use Rattle.session_attrs.specs.Terms.{asked_hold, hold_of, is_polling, terms_of}
use Rattle.session_attrs.specs.Values.{Values, values_of}
use Rattle.session_attrs.proofs.MeaningLemmas.{reads_means}
use Rattle.stream_names.specs.PlainStreams.{PlainStreams, begun}
use Rattle.stream_names.specs.Streams.{those}
use Rattle.stream_names.proofs.Numbers.{those_same}
use Rattle.session_core.specs.declared.copy.RequestCopy.{RequestCopy}
use Rattle.session_core.specs.declared.outward.Outward.TheVariants.{Stanza}
use Rattle.session_core.specs.declared.session.Session.{Session}
use Rattle.session_core.specs.Arriving.{IsModest}
use Rattle.session_core.specs.Copy.{id_of, is_poll, unnamed, with_id}
use Rattle.session_core.specs.Processed.{as_creation, items_of}
use Rattle.session_core.specs.Journal.{IsOpening}
use Rattle.session_core.specs.Kept.{kept_answer}
use Rattle.session_core.specs.Machine.{bytes_for, creation_of, first_answer, greeting_of, opened}
use Rattle.session_core.specs.declared.opening.Opening.{Opening}
use Rattle.session_core.specs.Outward.{is_close_of, stanzas_in}
use Rattle.session_core.specs.Queue.{Queue}
use Rattle.session_core.specs.StandsFor.{Holds, IsLater, alike_of, alike_in}
use Rattle.session_core.specs.State.{running_in}
use Rattle.session_core.proofs.AreOut.{none_out}

-- The terms of a creation.

few_held : (polls : Bool) (asked : ℕ) → (if polls then 0 else min asked 4) ≤ 4
few_held true asked = omega arith
few_held false asked = omega arith

-- at least one request may be open, and at most five
pub open_requests : (o : Opening) → IsOpening o → (1 ≤ o.terms.requests) × (o.terms.requests ≤ 5)
unfolding terms_of
open_requests o is =
    let creation : Creation = is.creation.0 in
    let requests : o.terms.requests ≡ hold_of creation + 1 = ap (λ (t : Terms). t.requests) is.creation.2 in
    (omega (arith, requests), omega (arith, requests, few_held (is_polling creation) (asked_hold creation)))

-- The creation is within the limits of its body.

creation_ack : (v : Values) (request : Request) (creation : Creation) (kind : Kind) → kind ≡ kinds.Creation creation → MeansKind v request kind → request.ack ≡ None
creation_ack v request creation (kinds.Creation other) is means = means.2.ack
creation_ack v request creation (kinds.Later sid) is means = absurd (cc)

pub creation_modest : (o : Opening) → IsOpening o → IsModest o.request o.body
creation_modest o opening =
    let cut = opening.read.0 in
    let is = (body_cut o.body cut).0 opening.read.1 in
    let means = reads_means (values_of o.body cut.attrs) cut.children o.request opening.read.2 in
    let children : cut.children ≡ is.1.children = ap (λ (c : Cut). c.children) is.4 in
    let none : o.request.ack ≡ None = creation_ack (values_of o.body cut.attrs) o.request opening.creation.0 o.request.kind opening.creation.1 means.kind in
    record { bytes = is.0; stanzas = omega (arith, ap length means.stanzas, ap length children, is.3.children); ack = rw none tt }

-- The greeting.

stanzas_given : (greeting : List (List ℕ)) → stanzas_in (map (Stanza unnamed) greeting) ≡ greeting
stanzas_given [] = refl
stanzas_given (stanza ∷ greeting) = ap (λ rest. stanza ∷ rest) (stanzas_given greeting)

none_closes : (stream : ℕ) (greeting : List (List ℕ)) → list_any (is_close_of stream) (map (Stanza unnamed) greeting) ≡ false
none_closes stream [] = refl
none_closes stream (stanza ∷ greeting) = none_closes stream greeting

none_pass : those (λ stream. false) ≡ []
unfolding those
none_pass = refl

first_runs : 0 ∷ [] ≡ running_in [] []
unfolding those
first_runs = refl

pub payloads_are : (o : Opening) → length o.greeting ≡ length (stanzas_in (greeting_of o))
payloads_are o = sym (ap length (stanzas_given o.greeting))

all_taken : {X : Type 0} (n : ℕ) (xs : List X) → n ≡ length xs → [] ≡ drop n xs
all_taken zero [] is = refl
all_taken zero (x ∷ xs) is = absurd (omega arith)
all_taken (suc n) [] is = absurd (omega arith)
all_taken (suc n) (x ∷ xs) is = all_taken n xs (omega arith)

append_none : {X : Type 0} (xs : List X) → xs ≡ xs ++ []
append_none [] = refl
append_none (x ∷ xs) = ap (λ rest. x ∷ rest) (append_none xs)

-- The window, once the creation was placed and taken.

module _ (rid width : ℕ) (copy : RequestCopy) where
  same_id : (cond (rid == rid) (Some copy) None) ≡ Some copy
  same_id = grind (arith, nat_tests)

  abbrev taken : PlainWindow RequestCopy
  taken = record { placed = (rid, copy) ∷ []; next = id_after rid; width = width }

  pub creation_taken : (placed : Placed RequestCopy) (before after : Window RequestCopy) → 1 ≤ width → PlaceSays (new_window rid width) rid false copy placed
      → windows.StandsFor before (after_place (new_window rid width) rid copy placed)
      → ((w : PlainWindow RequestCopy) → windows.StandsFor before w → windows.StandsFor after (after_ready w)) → windows.StandsFor after taken
  creation_taken Done before after some says stands takes =
      subst (λ (o : Option RequestCopy). windows.StandsFor after (record { placed = (rid, copy) ∷ []; next = next_after (new_window rid width) (with_item rid o); width = width })) same_id
      (takes _ stands)
  creation_taken (Below back) before after some says stands takes = absurd (omega (arith, says.1))
  creation_taken (Repeat back) before after some says stands takes =
      let filled : false ≡ true = says.2 in
      absurd (cc)
  creation_taken (Above back) before after some says stands takes = absurd (omega (arith, says.1))

-- The session.

pub opened_holds : (o : Opening) (s : Session) → alike_of s ≡ alike_in (opened o)
    → s.last ≡ o.request.rid → s.answered ≡ o.request.rid → s.held ≡ []
    → s.latest ≡ record { arrived = o.at; empty = is_poll (creation_of o); creation = true; bare = false }
    → s.last_given ≡ o.at → s.last_bare ≡ (length (stanzas_in (greeting_of o)) == 0)
    → keeps.StandsFor s.keep (record { put = kept_answer (first_answer o) ∷ []; acknowledged = 0; size = o.terms.requests + 1 })
    → windows.StandsFor s.window (record { placed = with_id (creation_of o) ∷ []; next = id_after o.request.rid; width = o.terms.requests })
    → s.inward ≡ items_of (as_creation (creation_of o)) → s.outbox ≡ record { items = []; closed = [] } → s.streams ≡ begun → s.tickets ≡ record { handed_out = 0; out = [] }
    → Holds s (opened o)
opened_holds o s alike last answered held latest given bare keep window inward outbox streams tickets = record {
  alike = alike;
  run = record { last_is = omega (arith, last); answered_is = omega (arith, answered); within = omega arith; held_is = held; ids = tt };
  latest = record { latest_is = latest; given_is = given; bare_is = bare };
  kept = record { keeps = keep; ids = (refl, tt); acked = omega arith };
  inward = record { queue_is = inward ∙ append_none (items_of (as_creation (creation_of o))); within = omega arith };
  items = record {
    outbox_is = ap (λ (q : Queue). q.items) outbox ∙ all_taken _ (greeting_of o) (omega arith);
    within = omega arith;
    closed_is = ap (λ (q : Queue). q.closed) outbox ∙ sym (those_same _ _ (λ m small. none_closes m o.greeting) ∙ none_pass);
  };
  streams = record {
    opened_is = ap (λ (p : PlainStreams). p.opened) streams;
    running_is = ap (λ (p : PlainStreams). p.running) streams ∙ first_runs;
    later = λ m above. (refl, refl, none_closes m o.greeting);
  };
  tickets = rw tickets (none_out (bytes_for (opened o)));
  window = record { stands = rw last window; ids = All-nil (IsLater (id_of (creation_of o))) };
}
