-- The report of a script of two ends tells of one world.
use Rattle.std.proofs.Common.{◌≡◌, ℕ, ◌+◌, List, [], ◌∷◌, ◌++◌, All, Bool, true, false, nat_lt, length, map, Option, Some, None, refl, sym, subst, ◌∙◌, ap, ap₂, if◌then◌else◌}
use Rattle.std.specs.Prelude.{IfSome, IsTrue}
use Rattle.std.proofs.lemmas.List.Elements.{All-cons, All-nil}
use Rattle.bosh_types.specs.Limits.{longest_line, most_lines}
use Rattle.bosh_types.specs.Rid.{IsRid}
use Rattle.session_attrs.specs.Serving.{can_serve}
use Rattle.session_laws.proofs.Tests.{split}
use Rattle.bosh_client.specs.declared.setup.ClientSetup.{ClientSetup}
use Rattle.bosh_client.specs.Setup.{is_setup}
use Rattle.script_text.specs.declared.driven.Driven.{Driven}
use Rattle.line_reader.specs.Lines.{lines_of}
use Rattle.world_laws.specs.declared.event.WorldEvent.{WorldEvent}
use Rattle.world_laws.specs.declared.seen.SeenItem.{SeenItem}
use Rattle.world_laws.specs.Promises.{KeepsBothPrefixes, ShowsAll, all_seen, seen_handed, seen_inward}
use Rattle.world_laws.specs.Setup.{IsAllowed, IsWorldSetup}
use Rattle.world_laws.specs.Steps as steps
use Rattle.world_laws.specs.World.{PlainWorld, new_world}
use Rattle.pair_text.specs.declared.line.ClientTerms.{ClientTerms}
use Rattle.pair_text.specs.declared.line.PairLine.{PairLine}
use Rattle.pair_text.specs.declared.line.PairLine.TheVariants as lines
use Rattle.pair_text.specs.declared.report.PairReport.{PairReport}
use Rattle.pair_text.specs.declared.report.PairReport.TheVariants.{Saw, Summed, Done, Bad}
use Rattle.pair_text.specs.Line.{pair_line_of}
use Rattle.pair_text.specs.Said.{IsSaid, IsWellSaid}
use Rattle.pair_text.specs.Script.{Pair, PairStep, PlainPairNext, PlainPairRun, Beginning, Hosted, Meeting, Goes, Ends, ReportsPair, after_step, bad_at, ended_with, event_step, first_step, is_no_copy, is_past, later_step, line_step, pair_of, pair_on, second_step, seen_step, setup_of, step_by}
use Rattle.pair_text.specs.Told.{GivesItsPair, Tells, TellsOfEvents, TellsOfWorld, seen_in}
use Rattle.pair_text.proofs.SaidLemmas.{pair_lines_well}
use Rattle.pair_text.proofs.SetupLemmas.{may_begin}

-- what holds of every world
pub record WorldLaws : Type 0 where
  pub prefixes : (host : List ℕ) (greeting : List (List ℕ)) (setup : ClientSetup) (events : List WorldEvent)
      → IsWorldSetup host greeting setup → All IsAllowed events → KeepsBothPrefixes (steps.after (new_world host greeting setup) events)
  pub shown : (host : List ℕ) (greeting : List (List ℕ)) (setup : ClientSetup) (events : List WorldEvent)
      → IsWorldSetup host greeting setup → All IsAllowed events
      → ShowsAll (steps.after (new_world host greeting setup) events) (all_seen (steps.report (new_world host greeting setup) events))

seen_append : (report others : List PairReport) → seen_in (report ++ others) ≡ seen_in report ++ seen_in others
seen_append [] others = refl
seen_append (Saw item ∷ report) others = ap (λ items. item ∷ items) (seen_append report others)
seen_append (Summed sums ∷ report) others = seen_append report others
seen_append (Done line ∷ report) others = seen_append report others
seen_append (Bad line kind ∷ report) others = seen_append report others

seen_saw : (items : List SeenItem) → seen_in (map Saw items) ≡ items
seen_saw [] = refl
seen_saw (item ∷ items) = ap (λ others. item ∷ others) (seen_saw items)

-- what is said of a report is said of another that shows the same
tells_same : (run : PlainPairRun) (report other : List PairReport) → seen_in other ≡ seen_in report → Tells run report → Tells run other
tells_same Beginning report other same tells = same ∙ tells
tells_same (Hosted host greeting) report other same tells = same ∙ tells
tells_same (Meeting w) report other same tells = record {
  events = record {
    host = tells.events.host;
    greeting = tells.events.greeting;
    setup = tells.events.setup;
    events = tells.events.events;
    begun = tells.events.begun;
    allowed = tells.events.allowed;
    world_is = tells.events.world_is;
    seen_is = same ∙ tells.events.seen_is;
  };
  inward_is = ap seen_inward same ∙ tells.inward_is;
  handed_is = ap seen_handed same ∙ tells.handed_is;
  prefixes = tells.prefixes;
}

-- A world goes on.

-- the rest of a script brings these events to the world
record Went (w : PlainWorld) (pair : Pair) : Type 0 where
  events : List WorldEvent
  allowed : All IsAllowed events
  last_is : pair.last ≡ Meeting (steps.after w events)
  seen_is : seen_in pair.report ≡ all_seen (steps.report w events)

-- a line is an event, or the script ends there
abbrev Follows : PlainWorld → List PairReport → PlainPairNext → Type 0
Follows w report (Goes after) =
    (event : WorldEvent) × IsAllowed event × (after ≡ Meeting (steps.step w event).after) × (seen_in report ≡ (steps.step w event).seen)
Follows w report (Ends outcome) = seen_in report ≡ []

abbrev StepFollows : PlainWorld → PairStep → Type 0
StepFollows w step = Follows w step.lines step.next

event_follows : (w : PlainWorld) (n : ℕ) (event : WorldEvent) → IsAllowed event → StepFollows w (event_step w n event)
event_follows w n event allowed = split (StepFollows w) (is_past w event) _ _ (λ past. refl)
    (λ now. split (StepFollows w) (is_no_copy (steps.step w event).seen) _ _ (λ none. refl)
    (λ some. (event, allowed, refl, seen_saw (steps.step w event).seen)))

later_follows : (w : PlainWorld) (n : ℕ) (said : PairLine) → IsSaid said → StepFollows w (later_step w n said)
later_follows w n (lines.Host name greeting) well = refl
later_follows w n (lines.Client terms) well = refl
later_follows w n (lines.Event event) well = event_follows w n event well
later_follows w n lines.End well = refl

by_follows : (w : PlainWorld) (n : ℕ) (said : _) → IsWellSaid said → StepFollows w (step_by (Meeting w) n said)
by_follows w n None well = refl
by_follows w n (Some said) well = later_follows w n said well

line_follows : (w : PlainWorld) (n : ℕ) (line : List ℕ) → StepFollows w (line_step (Meeting w) n line)
line_follows w n line = split (StepFollows w) (nat_lt longest_line (length line)) _ _ (λ long. refl)
    (λ short. by_follows w n (pair_line_of line) (pair_lines_well line))

none_went : (w : PlainWorld) (pair : Pair) → pair.last ≡ Meeting w → seen_in pair.report ≡ [] → Went w pair
none_went w pair last seen = record { events = []; allowed = All-nil IsAllowed; last_is = last; seen_is = seen }

one_went : (w : PlainWorld) (step : PairStep) (next : PlainPairNext) (rest : PlainPairRun → Pair) → Follows w step.lines next
    → ((w : PlainWorld) → Went w (rest (Meeting w)))
    → Went w (elim next [
      | Goes after ↦ after_step step (rest after)
      | Ends outcome ↦ ended_with (Meeting w) step outcome
    ])
one_went w step (Goes after) rest follows others =
    let event = follows.0 in
    let went = subst (λ run. Went (steps.step w event).after (rest run)) (sym follows.2) (others (steps.step w event).after) in
    record {
      events = event ∷ went.events;
      allowed = All-cons IsAllowed event went.events follows.1 went.allowed;
      last_is = went.last_is;
      seen_is = seen_append step.lines (rest after).report ∙ ap₂ (λ one more. one ++ more) follows.3 went.seen_is;
    }
one_went w step (Ends outcome) rest follows others = none_went w _ refl follows

world_went : (script : List (List ℕ)) (w : PlainWorld) (n : ℕ) → Went w (pair_on (Meeting w) n script)
world_went [] w n = none_went w _ refl refl
world_went (line ∷ others) w n = split (Went w) (nat_lt most_lines n) _ _ (λ many. none_went w _ refl refl)
    (λ few. one_went w (line_step (Meeting w) n line) (line_step (Meeting w) n line).next (λ run. pair_on run (n + 1) others) (line_follows w n line)
    (λ w. world_went others w (n + 1)))

-- A world begins.

module _ (laws : WorldLaws) where
  world_tells : (host : List ℕ) (greeting : List (List ℕ)) (setup : ClientSetup) → IsWorldSetup host greeting setup → (pair : Pair) → Went (new_world host greeting setup) pair
      → Tells pair.last pair.report
  world_tells host greeting setup begun pair went =
      let w = steps.after (new_world host greeting setup) went.events in
      let shown = laws.shown host greeting setup went.events begun went.allowed in
      let told : TellsOfWorld w pair.report = record {
        events = record {
          host = host;
          greeting = greeting;
          setup = setup;
          events = went.events;
          begun = begun;
          allowed = went.allowed;
          world_is = refl;
          seen_is = went.seen_is;
        };
        inward_is = ap seen_inward went.seen_is ∙ shown.inward_is;
        handed_is = ap seen_handed went.seen_is ∙ shown.handed_is;
        prefixes = laws.prefixes host greeting setup went.events begun went.allowed;
      } in
      subst (λ run. Tells run pair.report) (sym went.last_is) told

  -- what tells of the rest of a script tells of it all, where the line before shows nothing
  rest_tells : (step : PairStep) (pair : Pair) → seen_in step.lines ≡ [] → Tells pair.last pair.report → Tells pair.last (after_step step pair).report
  rest_tells step pair silent tells =
      tells_same pair.last pair.report (step.lines ++ pair.report) (seen_append step.lines pair.report ∙ ap (λ items. items ++ seen_in pair.report) silent) tells

  -- after the host's line comes the client's, or the script is bad
  abbrev Begins : List ℕ → List (List ℕ) → List PairReport → PlainPairNext → Type 0
  Begins host greeting report (Goes after) =
      (setup : ClientSetup) × IsWorldSetup host greeting setup × (after ≡ Meeting (new_world host greeting setup)) × (seen_in report ≡ [])
  Begins host greeting report (Ends outcome) = seen_in report ≡ []

  abbrev StepBegins : List ℕ → List (List ℕ) → PairStep → Type 0
  StepBegins host greeting step = Begins host greeting step.lines step.next

  module _ (host : List ℕ) (greeting : List (List ℕ)) (serves : IsTrue (can_serve (record { name = host; greeting = greeting }))) where
    second_begins : (n : ℕ) (said : PairLine) → IsSaid said → StepBegins host greeting (second_step host greeting n said)
    second_begins n (lines.Host name others) well = refl
    second_begins n (lines.Client terms) well = split (StepBegins host greeting) (is_setup (setup_of host terms)) _ _
        (λ valid. (setup_of host terms, may_begin host greeting (setup_of host terms) serves valid well refl, refl, refl)) (λ not. refl)
    second_begins n (lines.Event event) well = refl
    second_begins n lines.End well = refl

    by_begins : (n : ℕ) (said : _) → IsWellSaid said → StepBegins host greeting (step_by (Hosted host greeting) n said)
    by_begins n None well = refl
    by_begins n (Some said) well = second_begins n said well

    line_begins : (n : ℕ) (line : List ℕ) → StepBegins host greeting (line_step (Hosted host greeting) n line)
    line_begins n line = split (StepBegins host greeting) (nat_lt longest_line (length line)) _ _ (λ long. refl)
        (λ short. by_begins n (pair_line_of line) (pair_lines_well line))

    abbrev PairTells : Pair → Type 0
    PairTells pair = Tells pair.last pair.report

    one_begins : (step : PairStep) (next : PlainPairNext) (n : ℕ) (others : List (List ℕ)) → Begins host greeting step.lines next
        → PairTells (elim next [
          | Goes after ↦ after_step step (pair_on after (n + 1) others)
          | Ends outcome ↦ ended_with (Hosted host greeting) step outcome
        ])
    one_begins step (Goes after) n others begins =
        let pair = pair_on after (n + 1) others in
        let went = subst (λ run. Went (new_world host greeting begins.0) (pair_on run (n + 1) others)) (sym begins.2)
        (world_went others (new_world host greeting begins.0) (n + 1)) in
        rest_tells step pair begins.3 (world_tells host greeting begins.0 begins.1 pair went)
    one_begins step (Ends outcome) n others begins = begins

    hosted_tells : (script : List (List ℕ)) (n : ℕ) → PairTells (pair_on (Hosted host greeting) n script)
    hosted_tells [] n = refl
    hosted_tells (line ∷ others) n = split PairTells (nat_lt most_lines n) _ _ (λ many. refl)
        (λ few. one_begins (line_step (Hosted host greeting) n line) (line_step (Hosted host greeting) n line).next n others (line_begins n line))

  -- A script begins with its host's line, or is bad.

  abbrev IsHosted : List PairReport → PlainPairNext → Type 0
  IsHosted report (Goes after) =
      (host : List ℕ) × (greeting : List (List ℕ)) × IsTrue (can_serve (record { name = host; greeting = greeting })) × (after ≡ Hosted host greeting) × (seen_in report ≡ [])
  IsHosted report (Ends outcome) = seen_in report ≡ []

  abbrev StepHosts : PairStep → Type 0
  StepHosts step = IsHosted step.lines step.next

  first_hosts : (n : ℕ) (said : PairLine) → IsSaid said → StepHosts (first_step n said)
  first_hosts n (lines.Host name greeting) well = (name, greeting, well, refl, refl)
  first_hosts n (lines.Client terms) well = refl
  first_hosts n (lines.Event event) well = refl
  first_hosts n lines.End well = refl

  by_hosts : (n : ℕ) (said : _) → IsWellSaid said → StepHosts (step_by Beginning n said)
  by_hosts n None well = refl
  by_hosts n (Some said) well = first_hosts n said well

  line_hosts : (n : ℕ) (line : List ℕ) → StepHosts (line_step Beginning n line)
  line_hosts n line = split StepHosts (nat_lt longest_line (length line)) _ _ (λ long. refl)
      (λ short. by_hosts n (pair_line_of line) (pair_lines_well line))

  abbrev Told : Pair → Type 0
  Told pair = Tells pair.last pair.report

  one_hosts : (step : PairStep) (next : PlainPairNext) (n : ℕ) (others : List (List ℕ)) → IsHosted step.lines next
      → Told (elim next [
        | Goes after ↦ after_step step (pair_on after (n + 1) others)
        | Ends outcome ↦ ended_with Beginning step outcome
      ])
  one_hosts step (Goes after) n others hosts =
      let pair = pair_on after (n + 1) others in
      let told = subst (λ run. Told (pair_on run (n + 1) others)) (sym hosts.3) (hosted_tells hosts.0 hosts.1 hosts.2 others (n + 1)) in
      rest_tells step pair hosts.4 told
  one_hosts step (Ends outcome) n others hosts = hosts

  beginning_tells : (script : List (List ℕ)) (n : ℕ) → Told (pair_on Beginning n script)
  beginning_tells [] n = refl
  beginning_tells (line ∷ others) n = split Told (nat_lt most_lines n) _ _ (λ many. refl)
      (λ few. one_hosts (line_step Beginning n line) (line_step Beginning n line).next n others (line_hosts n line))

  pub script_tells : (script : List ℕ) → Tells (pair_of script).last (pair_of script).report
  script_tells script = beginning_tells (lines_of script) 1

-- a report that was given tells of one world
pub gives_pair : ((script : List ℕ) → Tells (pair_of script).last (pair_of script).report) → (left : Option (List ℕ)) (outcome : Driven) (old new : Option (List ℕ))
    → IfSome left (λ script. ReportsPair (pair_of script) outcome old new) → IfSome left (λ script. GivesItsPair script old new)
gives_pair told None outcome old new reports = tt
gives_pair told (Some script) outcome old new reports = record { given = reports.1; told = told script }
