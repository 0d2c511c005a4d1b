-- What the words of a report's laws mean, on cases: true ones, and wrong reports that they refuse.
use Rattle.std.proofs.Common.{◌≡◌, ℕ, true, false, List, [], ◌∷◌, Option, Some, None, length, refl, sym, ◌∙◌, ap, arith}
use Rattle.std.specs.Prelude.{codes}
use Rattle.std.proofs.lemmas.List.Elements.{All-nil}
use Rattle.bosh_types.specs.declared.condition.Condition.TheVariants.{BadRequest, HostUnknown, ItemNotFound}
use Rattle.bosh_types.specs.declared.ending.Ending.TheVariants.{Stale, PauseTooLong}
use Rattle.session_attrs.specs.declared.request.Creation.{Creation}
use Rattle.session_attrs.specs.declared.request.Kind.{Kind}
use Rattle.session_attrs.specs.declared.request.Kind.TheVariants as kinds
use Rattle.session_attrs.specs.declared.request.Request.{Request}
use Rattle.session_core.specs.Journal.{Call, Arrive, Back, BackClosed, Collect, Tick, TakeInward, Entered, Made, Limit, Entry, Journal}
use Rattle.session_core.specs.declared.outward.Outward.TheVariants.{Stanza}
use Rattle.session_core.proofs.RowTools.{opening}
use Rattle.session_laws.proofs.Tests.{none_some}
use Rattle.script_text.specs.declared.live.Parked.{Parked}
use Rattle.script_text.specs.declared.line.LineRead.TheVariants.{Line}
use Rattle.script_text.specs.declared.report.Refusal.TheVariants.{BackFull}
use Rattle.script_text.specs.declared.line.ScriptLine.TheVariants.{At, Back as GivesBack, Post}
use Rattle.script_text.specs.declared.report.ReportLine.{ReportLine}
use Rattle.script_text.specs.declared.report.ReportLine.TheVariants.{In, Out, Lost, Gone, Refused, Over, Done, Bad}
use Rattle.script_text.specs.Answered.{IsRefused, Stage}
use Rattle.script_text.specs.Entered.{IsOneOf, IsOwn, StandsWith, entry_at}
use Rattle.script_text.specs.Fates.{HaveOneFate}
use Rattle.script_text.specs.Handed.{Handing, Hands}
use Rattle.script_text.specs.Headline.{is_numbered}
use Rattle.script_text.specs.Live.{PlainLive}
use Rattle.script_text.specs.Manager.{PlainManager, new_manager, request_in}
use Rattle.script_text.specs.Refusing.{AsksFor, Cause, FindsNoPlace, refusal_text}
use Rattle.script_text.specs.Script.{Bodies}
use Rattle.script_text.proofs.Rows.{scripts_compute}

-- Refusals.

-- a body that can't be cut; a request for the session `s7`; creations with no host, an empty one, and one of this name
abbrev cut_off : List ℕ
cut_off = codes "<body"

abbrev later : List ℕ
later = codes "<body rid='5' sid='s7' xmlns='http://jabber.org/protocol/httpbind'/>"

abbrev for_nobody : List ℕ
for_nobody = codes "<body rid='5' xmlns='http://jabber.org/protocol/httpbind'/>"

abbrev for_other : List ℕ
for_other = codes "<body rid='5' to='other.org' xmlns='http://jabber.org/protocol/httpbind'/>"

abbrev sid_in : Kind → Option (List ℕ)
sid_in (kinds.Later sid) = Some sid
sid_in (kinds.Creation creation) = None

abbrev named_in : Option Request → Option (List ℕ)
named_in None = None
named_in (Some request) = sid_in request.kind

sid_is : (kind : Kind) (sid : List ℕ) → sid_in kind ≡ Some sid → kind ≡ kinds.Later sid
sid_is (kinds.Later other) sid is = cc
sid_is (kinds.Creation creation) sid is = absurd (cc)

asks_for : (body sid : List ℕ) (o : Option Request) → request_in body ≡ o → named_in o ≡ Some sid → AsksFor body sid
asks_for body sid None read is = absurd (cc)
asks_for body sid (Some request) read is = (request, read, sid_is request.kind sid is)

-- each cause, and its condition
unreadable : Cause new_manager cut_off BadRequest
unfolding scripts_compute
unreadable = refl

not_opened : Cause new_manager later ItemNotFound
unfolding scripts_compute
not_opened = (codes "s7", asks_for later (codes "s7") (request_in later) refl refl, λ number is. All-nil (λ (s : PlainLive). is_numbered number s ≡ false))

-- and no other
named_none : (o : Option Request) (sid : List ℕ) → named_in o ≡ Some sid → o ≡ None → ⊥
named_none None sid is none = cc
named_none (Some request) sid is none = cc

not_unreadable : Cause new_manager later BadRequest → ⊥
unfolding scripts_compute
not_unreadable cause = named_none (request_in later) (codes "s7") refl cause

never_for_a_host : Cause new_manager cut_off HostUnknown → ⊥
unfolding scripts_compute
never_for_a_host cause = none_some (request_in cut_off) (cause.1).0 refl (cause.1).1

-- how long a text of a line is
abbrev text_length : List ReportLine → ℕ
text_length [] = 0
text_length (In session item ∷ lines) = 0
text_length (Out conn body ∷ lines) = length body
text_length (Lost conn ∷ lines) = 0
text_length (Gone conn ∷ lines) = 0
text_length (Refused session refusal ∷ lines) = 0
text_length (Over session ending ∷ lines) = 0
text_length (Done line ∷ lines) = 0
text_length (Bad line kind ∷ lines) = 0

-- a report that refuses a body that can't be cut with another condition
abbrev misjudged : Stage
misjudged = record {
  said = Line (Post 1 cut_off);
  before = Bodies new_manager;
  posted = record { conn = 1; body = cut_off } ∷ [];
  lines = Out 1 (refusal_text ItemNotFound) ∷ [];
  after = [];
}

-- isn't one, by its cause
another_condition : IsRefused misjudged → ⊥
unfolding scripts_compute
another_condition refused =
    let told = refused new_manager 1 cut_off BadRequest refl refl refl refl in
    let same : 95 ≡ 92 = ap text_length told.0 in
    absurd (omega (arith, same))

-- a copy is told that it found no place where its session ended for it, or before it was looked at, and by no broken rule
stale_is_told : FindsNoPlace 1001 (Stale 1001 1005) ItemNotFound
stale_is_told = (refl, refl)

of_another_id : FindsNoPlace 1001 (Stale 1002 1005) ItemNotFound → ⊥
of_another_id told = absurd (omega (arith, told.0))

other_word : BadRequest ≡ ItemNotFound → ⊥
other_word is = cc

by_another_word : FindsNoPlace 1001 (Stale 1001 1005) BadRequest → ⊥
by_another_word told = other_word told.1

by_a_broken_rule : FindsNoPlace 1001 (PauseTooLong 1001 121 120) ItemNotFound → ⊥
by_a_broken_rule told = told

-- Entries.

-- a session, and it after an entry
abbrev begun : PlainLive
begun = record { number = 1; journal = record { opening = opening; entries = [] }; parked = [] }

abbrev after_this : ℕ → Entered → PlainLive
after_this number entered = record { number = number; journal = record { opening = opening; entries = record { caller = 0; entered = entered } ∷ [] }; parked = [] }

abbrev at_five : PlainManager
at_five = record { hosts = []; moment = 5; begun = true; opened = 2; live = begun ∷ [] }

-- the stanza of a line `back s1 <iq/>` at the moment 5 is this entry
gives_it : StandsWith (after_this 1 (Made (Back 0 (codes "<iq/>") 5)) ∷ []) begun (entry_at at_five (GivesBack (codes "s1") 0 (codes "<iq/>")) begun)
unfolding scripts_compute
gives_it = (after_this 1 (Made (Back 0 (codes "<iq/>") 5)), ([], [], refl), refl, ([], refl, All-nil IsOwn))

-- what it says of a stanza: how long it is, and when it came
abbrev stanza_at : List Entry → ℕ × ℕ
stanza_at [] = (0, 0)
stanza_at (entry ∷ entries) = elim entry.entered [
  | Made (Arrive request body now) ↦ (0, 0)
  | Made (Collect ticket) ↦ (0, 0)
  | Made (Back stream stanza now) ↦ (length stanza, now)
  | Made (BackClosed stream closing now) ↦ (0, 0)
  | Made (Tick now) ↦ (0, 0)
  | Made TakeInward ↦ (0, 0)
  | Limit kind cost now ↦ (0, 0)
]

only_one : {X : Type 0} (x y : X) → IsOneOf x (y ∷ []) → x ≡ y
only_one x y ([], after, is) = cc
only_one x y (first ∷ [], after, is) = absurd (cc)
only_one x y (first ∷ second ∷ before, after, is) = absurd (cc)

-- a session that stands after the line is the only one there
stands_so : (t : PlainLive) (stanza : List ℕ) → StandsWith (t ∷ []) begun (Some (Made (Back 0 stanza 5))) → (t.number ≡ 1) × (stanza_at t.journal.entries ≡ (length stanza, 5))
stands_so t stanza (u, one, number, (rest, is, own)) =
    let same : u ≡ t = only_one u t one in (
      ap (λ (s : PlainLive). s.number) (sym same) ∙ number,
      ap (λ (s : PlainLive). stanza_at s.journal.entries) (sym same) ∙ ap (λ (j : Journal). stanza_at j.entries) is,
    )

-- another stanza, another moment, and another session aren't what the line says
another_stanza : StandsWith (after_this 1 (Made (Back 0 (codes "<message/>") 5)) ∷ []) begun (entry_at at_five (GivesBack (codes "s1") 0 (codes "<iq/>")) begun) → ⊥
unfolding scripts_compute
another_stanza stands =
    let is = (stands_so (after_this 1 (Made (Back 0 (codes "<message/>") 5))) (codes "<iq/>") stands).1 in
    let same : 10 ≡ 5 = ap (λ (p : ℕ × ℕ). p.0) is in
    absurd (omega (arith, same))

another_moment : StandsWith (after_this 1 (Made (Back 0 (codes "<iq/>") 6)) ∷ []) begun (entry_at at_five (GivesBack (codes "s1") 0 (codes "<iq/>")) begun) → ⊥
unfolding scripts_compute
another_moment stands =
    let is = (stands_so (after_this 1 (Made (Back 0 (codes "<iq/>") 6))) (codes "<iq/>") stands).1 in
    let same : 6 ≡ 5 = ap (λ (p : ℕ × ℕ). p.1) is in
    absurd (omega (arith, same))

another_session : StandsWith (after_this 2 (Made (Back 0 (codes "<iq/>") 5)) ∷ []) begun (entry_at at_five (GivesBack (codes "s1") 0 (codes "<iq/>")) begun) → ⊥
unfolding scripts_compute
another_session stands =
    let is = (stands_so (after_this 2 (Made (Back 0 (codes "<iq/>") 5))) (codes "<iq/>") stands).0 in
    let same : 2 ≡ 1 = is in
    absurd (omega (arith, same))

-- a line `backon` is the entry on its stream
gives_it_on : entry_at at_five (GivesBack (codes "s1") 3 (codes "<iq/>")) begun ≡ Some (Made (Back 3 (codes "<iq/>") 5))
unfolding scripts_compute
gives_it_on = refl

-- a line for another session enters nothing here
for_another : entry_at at_five (GivesBack (codes "s2") 0 (codes "<iq/>")) begun ≡ None
unfolding scripts_compute
for_another = refl

-- and a line of time nothing, where nothing is due; a moment later than the silence that is allowed it enters itself
in_time : entry_at at_five (At 30000) begun ≡ None
unfolding scripts_compute
in_time = refl

too_late : entry_at at_five (At 30001) begun ≡ Some (Made (Tick 30001))
unfolding scripts_compute
too_late = refl

-- What is handed to a session.

abbrev a_stanza : Handing
a_stanza = record { sid = codes "s1"; item = Stanza 0 (codes "<iq/>"); cost = 69 }

-- what a line says was refused was given all the same
refused_and_given : Hands a_stanza 5 (Refused 1 BackFull ∷ []) begun (after_this 1 (Made (Back 0 (codes "<iq/>") 5))) → ⊥
unfolding scripts_compute
refused_and_given hands =
    let same : 2 ≡ 1 = ap length hands.given in
    absurd (omega (arith, same))

-- no line says that it was refused, and it is gone
neither_given_nor_refused : Hands a_stanza 5 [] begun begun → ⊥
unfolding scripts_compute
neither_given_nor_refused hands =
    let same : 1 ≡ 2 = ap length hands.given in
    absurd (omega (arith, same))

-- Fates of a request that waits on connection 2.

abbrev waiting : PlainLive
waiting = record begun { parked = record { ticket = 1; conn = 2; is_open = true } ∷ [] }

abbrev with_one : PlainManager
with_one = record at_five { live = waiting ∷ [] }

-- it is answered
one_answer : HaveOneFate with_one (At 6) (Out 2 (codes "<body/>") ∷ []) (begun ∷ []) 2
unfolding scripts_compute
one_answer = record { on_open = refl; gone = refl; closed = refl }

-- it has no line, and waits no more
no_line : HaveOneFate with_one (At 6) [] (begun ∷ []) 2 → ⊥
unfolding scripts_compute
no_line fate =
    let same : 1 ≡ 0 = fate.on_open in
    absurd (omega (arith, same))

-- it has two
out_and_lost : HaveOneFate with_one (At 6) (Out 2 (codes "<body/>") ∷ Lost 2 ∷ []) (begun ∷ []) 2 → ⊥
unfolding scripts_compute
out_and_lost fate =
    let same : 0 ≡ 1 = fate.closed in
    absurd (omega (arith, same))

-- it has one, and waits on
answered_and_waiting : HaveOneFate with_one (At 6) (Out 2 (codes "<body/>") ∷ []) (waiting ∷ []) 2 → ⊥
unfolding scripts_compute
answered_and_waiting fate =
    let same : 1 ≡ 2 = fate.on_open in
    absurd (omega (arith, same))
