-- What the report of a script of two ends tells of its world.
use Rattle.std.specs.Prelude.{◌≡◌, ℕ, List, [], ◌∷◌, All, Option, Some, None}
use Rattle.std.specs.Io.KnownBytes.{Appends}
use Rattle.bosh_types.specs.declared.inward.Inward.{Inward}
use Rattle.bosh_client.specs.declared.setup.ClientSetup.{ClientSetup}
use Rattle.bosh_client.specs.PlainClient.{was_handed}
use Rattle.world_laws.specs.declared.event.WorldEvent.{WorldEvent}
use Rattle.world_laws.specs.declared.seen.SeenItem.{SeenItem}
use Rattle.world_laws.specs.Promises.{KeepsBothPrefixes, all_seen, seen_handed, seen_inward, went_inward}
use Rattle.world_laws.specs.Setup.{IsAllowed, IsWorldSetup}
use Rattle.world_laws.specs.Steps.{after, report}
use Rattle.world_laws.specs.World.{PlainWorld, new_world}
use Rattle.pair_text.specs.declared.report.PairReport.{PairReport}
use Rattle.pair_text.specs.declared.report.PairReport.TheVariants.{Saw, Summed, Done, Bad}
use Rattle.pair_text.specs.Report.{pair_report_text}
use Rattle.pair_text.specs.Script.{Pair, PlainPairRun, Beginning, Hosted, Meeting, pair_of}

-- what a report says that was seen
abbrev pub seen_in : List PairReport → List SeenItem
seen_in [] = []
seen_in (Saw item ∷ lines) = item ∷ seen_in lines
seen_in (Summed sums ∷ lines) = seen_in lines
seen_in (Done line ∷ lines) = seen_in lines
seen_in (Bad line kind ∷ lines) = seen_in lines

-- it is all that was seen of events, one after the other, in a world that had begun with nothing
pub record TellsOfEvents (w : PlainWorld) (lines : List PairReport) : Type 0 where
  pub host : List ℕ
  pub greeting : List (List ℕ)
  pub setup : ClientSetup
  pub events : List WorldEvent
  pub begun : IsWorldSetup host greeting setup
  pub allowed : All IsAllowed events
  pub world_is : w ≡ after (new_world host greeting setup) events
  pub seen_is : seen_in lines ≡ all_seen (report (new_world host greeting setup) events)

-- so its `in` lines are what went inward at the manager, on each stream a beginning of what the client made for it, and its `got` lines
-- what the client handed out, on each stream a beginning of what the server gave on it
pub record TellsOfWorld (w : PlainWorld) (lines : List PairReport) : Type 0 where
  pub events : TellsOfEvents w lines
  pub inward_is : seen_inward (seen_in lines) ≡ went_inward w
  pub handed_is : seen_handed (seen_in lines) ≡ was_handed w.client
  pub prefixes : KeepsBothPrefixes w

-- a script that is bad before its client began shows nothing
abbrev pub Tells : PlainPairRun → List PairReport → Type 0
Tells Beginning lines = seen_in lines ≡ []
Tells (Hosted host greeting) lines = seen_in lines ≡ []
Tells (Meeting w) lines = TellsOfWorld w lines

-- the sink was given the report and nothing else, which tells of one world
pub record GivesItsPair (script : List ℕ) (old new : Option (List ℕ)) : Type 0 where
  pub given : Appends old new (pair_report_text (pair_of script).report)
  pub told : Tells (pair_of script).last (pair_of script).report
