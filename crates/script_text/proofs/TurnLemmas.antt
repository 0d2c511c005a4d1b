-- What comes to a session makes a turn that tells all of it.
use Rattle.std.proofs.Common.{◌≡◌, ℕ, ◌≤◌, true, false, List, [], ◌∷◌, ◌++◌, All, Option, Some, None, length, take, map, refl, sym, ◌∙◌, ap, arith, length-append}
use Rattle.std.specs.Prelude.{filter, is_some}
use Rattle.std.proofs.lemmas.List.{take-append-le, take_all}
use Rattle.std.proofs.lemmas.List.Elements.{filter-append, All-nil, All-cons, All-append}
use Rattle.bosh_types.specs.declared.ending.Ending.{Ending}
use Rattle.session_core.specs.declared.replies.Arrived.{Arrived}
use Rattle.session_core.specs.declared.replies.Arrived.TheVariants as arrivals
use Rattle.session_core.specs.declared.replies.Taken.{Taken}
use Rattle.session_core.specs.declared.replies.Taken.TheVariants as takings
use Rattle.session_core.specs.declared.replies.Ticked.{Ticked}
use Rattle.session_core.specs.declared.replies.Ticked.TheVariants.{Changed, Quiet}
use Rattle.session_core.specs.Copy.{unnamed}
use Rattle.session_core.specs.Journal.{Call, Arrive, Back, BackClosed, Tick, Journal, IsJournal, IsAllowed, state_of}
use Rattle.session_core.specs.Machine.{arrive, back, back_closed, tick}
use Rattle.session_core.specs.State.{inward, is_over}
use Rattle.session_laws.specs.Growing.{Begins}
use Rattle.script_text.specs.declared.event.Event.{Event}
use Rattle.script_text.specs.declared.event.Event.TheVariants.{Arrives, Gives, Shuts, Passes}
use Rattle.script_text.specs.declared.live.Parked.{Parked}
use Rattle.script_text.specs.declared.report.Refusal.{Refusal}
use Rattle.script_text.specs.declared.report.ReportLine.{ReportLine}
use Rattle.script_text.specs.declared.report.ReportLine.TheVariants.{In, Refused}
use Rattle.script_text.specs.Headline.{is_opened, NamesOpened, tells_of}
use Rattle.session_calls.specs.After.{after_call}
use Rattle.script_text.specs.Live.{PlainLive, state, Turn, over_lines, told, refused_first, with_journal, with_parked, arrived, refusal_of_back, refusal_of_shut, ticked, turn_at}
use Rattle.script_text.specs.Stands.{IsEvent}
use Rattle.script_text.proofs.JournalSteps.{Comes, after_made, after_grows, after_passed}
use Rattle.script_text.proofs.ToldLemmas.{TellNone, none_of_none, none_out, taken, IsTurnOf, told_turn}

-- a live session of which all was told
pub record IsUp (s : PlainLive) : Type 0 where
  pub made : IsJournal s.journal
  pub goes_on : is_over (state s) ≡ false
  pub all : (state s).passed ≡ length (inward (state s))

pub none_over : (n : ℕ) (ending : Option Ending) → is_some ending ≡ false → over_lines n ending ≡ []
none_over n None is = refl
none_over n (Some ending) is = absurd (cc)

pub all_taken_of : (s : PlainLive) → (state s).passed ≡ length (inward (state s)) → taken s ≡ inward (state s)
all_taken_of s all = ap (λ n. take n (inward (state s))) all ∙ take_all (length (inward (state s))) (inward (state s)) (omega arith)

-- the turn of the session with this journal and these requests is one of the session before
moved_turn : (s : PlainLive) (journal : Journal) (parked : List Parked) (turn : Turn)
    → taken (record s { journal = journal; parked = parked }) ≡ taken s
    → IsTurnOf (record s { journal = journal; parked = parked }) turn → IsTurnOf s turn
moved_turn s journal parked turn same t = record {
  number = t.number;
  made = t.made;
  all = t.all;
  own = ap (λ l. map (In s.number) l ++ filter (tells_of s.number) turn.lines) (sym same) ∙ t.own;
  others = t.others;
  named = t.named;
}

-- these lines only say that the server was refused
record TellRefused (n : ℕ) (lines : List ReportLine) : Type 0 where
  pub silent : (number : ℕ) → filter (tells_of number) lines ≡ []
  pub named : (opened : ℕ) → is_opened opened n ≡ true → All (NamesOpened opened) lines

refused_none : (n : ℕ) → TellRefused n []
refused_none n = record { silent = λ number. refl; named = λ opened is. All-nil (NamesOpened opened) }

refused_one : (n : ℕ) (refusal : Refusal) → TellRefused n (Refused n refusal ∷ [])
refused_one n refusal = record { silent = λ number. refl; named = λ opened is. All-cons (NamesOpened opened) (Refused n refusal) [] is (All-nil (NamesOpened opened)) }

back_refused : (n : ℕ) (reply : Taken) → TellRefused n (refusal_of_back n reply)
back_refused n takings.Done = refused_none n
back_refused n takings.Full = refused_one n _
back_refused n takings.Over = refused_one n _

shut_refused : (n : ℕ) (reply : Taken) → TellRefused n (refusal_of_shut n reply)
shut_refused n takings.Done = refused_none n
shut_refused n takings.Full = refused_none n
shut_refused n takings.Over = refused_one n _

refused_turn : (s : PlainLive) (lines : List ReportLine) (turn : Turn) → TellRefused s.number lines → IsTurnOf s turn → IsTurnOf s (refused_first lines turn)
refused_turn s lines turn refused t = record {
  number = t.number;
  made = t.made;
  all = t.all;
  own = ap (λ l. map (In s.number) (taken s) ++ l) (first s.number) ∙ t.own;
  others = λ number other. first number ∙ t.others number other;
  named = λ opened is. All-append (NamesOpened opened) lines turn.lines (refused.named opened is) (t.named opened is);
}
  where
    first : (number : ℕ) → filter (tells_of number) (lines ++ turn.lines) ≡ filter (tells_of number) turn.lines
    first number = filter-append (tells_of number) lines turn.lines ∙ ap (λ l. l ++ filter (tells_of number) turn.lines) (refused.silent number)

module _ (s : PlainLive) (up : IsUp s) (call : Call) (allowed : IsAllowed call) (comes : Comes call) where
  abbrev pub later : Journal
  later = after_call s.journal call

  pub later_made : IsJournal later
  later_made = after_made s.journal call up.made allowed

  passed_same : (state_of later).passed ≡ (state s).passed
  passed_same = after_passed s.journal call up.made allowed comes

  begins : Begins (inward (state s)) (inward (state_of later))
  begins = after_grows s.journal call up.made allowed

  pub few : (state_of later).passed ≤ length (inward (state_of later))
  few =
      let long = ap length begins.1 in
      let sum = length-append (inward (state s)) begins.0 in
      omega (arith, long, sum, passed_same, up.all)

  taken_same : taken (with_journal s later) ≡ taken s
  taken_same =
      let within : (state s).passed ≤ length (inward (state s)) = omega (arith, up.all) in
      ap (λ n. take n (inward (state_of later))) passed_same
      ∙ ap (take (state s).passed) begins.1
      ∙ take-append-le (state s).passed (inward (state s)) begins.0 within

  -- after the call it is told of
  called_turn : (parked : List Parked) (answer : List ReportLine) → TellNone answer → IsTurnOf s (told (record s { journal = later; parked = parked }) answer)
  called_turn parked answer none = moved_turn s later parked _ taken_same (told_turn (record s { journal = later; parked = parked }) answer later_made few none)

  called_arrived : (conn : ℕ) (reply : Arrived) → IsTurnOf s (arrived (with_journal s later) conn reply)
  called_arrived conn (arrivals.Answer body) = called_turn s.parked _ (none_out conn body)
  called_arrived conn (arrivals.Parked ticket) = called_turn (with_parked s ticket conn).parked [] none_of_none
  called_arrived conn arrivals.Over = called_turn s.parked _ (none_out conn _)

  quiet_turn : IsTurnOf s (record { lines = []; after = s })
  quiet_turn = record {
    number = refl;
    made = up.made;
    all = up.all;
    own = ap (λ l. map (In s.number) l ++ []) (all_taken_of s up.all) ∙ ap (λ l. map (In s.number) (inward (state s)) ++ l) (sym (none_over s.number (state s).ending up.goes_on));
    others = λ number other. refl;
    named = λ opened is. All-nil (NamesOpened opened);
  }

  called_ticked : (reply : Ticked) → IsTurnOf s (ticked s (with_journal s later) reply)
  called_ticked Quiet = quiet_turn
  called_ticked Changed = called_turn s.parked [] none_of_none

-- whatever comes to a session
pub comes_turn : (s : PlainLive) (now : ℕ) (event : Event) → IsUp s → IsEvent event → IsTurnOf s (turn_at now event s)
comes_turn s now (Arrives conn request body) up allowed = called_arrived s up (Arrive request body now) allowed tt conn (arrive (state s) request body now).1
comes_turn s now (Gives stream stanza) up allowed =
    refused_turn s _ _ (back_refused s.number (back (state s) stream stanza now).1) (called_turn s up (Back stream stanza now) allowed tt s.parked [] none_of_none)
comes_turn s now (Shuts stream closing) up allowed =
    refused_turn s _ _ (shut_refused s.number (back_closed (state s) stream closing now).1) (called_turn s up (BackClosed stream closing now) tt tt s.parked [] none_of_none)
comes_turn s now Passes up allowed = called_ticked s up (Tick now) tt tt (tick (state s) now).1
