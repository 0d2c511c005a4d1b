-- The run that a number makes, and the line that tells of it.
use Rattle.std.specs.Prelude.{ℕ, zero, suc, ◌+◌, ◌/◌, ◌%◌, ◌≡◌, ◌==◌, nat_lt, true, replicate, List, [], ◌∷◌, ◌++◌, All, Option, None, Some, IfSome, is_some, length, codes, if◌then◌else◌}
use Rattle.std.specs.Fmt.{decimal}
use Rattle.std.specs.Int.{w64, to_le_bytes}
use Rattle.std.specs.Io.KnownBytes.{Appends}
use Rattle.rand_chacha.specs.ChaCha.{key_of, word_at}
use Rattle.bosh_types.specs.declared.ending.Ending.{Ending}
use Rattle.bosh_client.specs.declared.setup.ClientSetup.{ClientSetup}
use Rattle.script_text.specs.Report.{ending_text}
use Rattle.two_ends.specs.Asked.{ending_in, greatest_open, last_answer, lowest_open}
use Rattle.two_ends.specs.Summed.{counted}
use Rattle.world_laws.specs.declared.event.WorldEvent.{WorldEvent}
use Rattle.world_laws.specs.declared.event.WorldEvent.TheVariants.{At, Put, Send, Carry, Give, Return}
use Rattle.world_laws.specs.Complete.{IsComplete, IsFaultless}
use Rattle.world_laws.specs.Promises.{KeepsBothPrefixes}
use Rattle.world_laws.specs.Steps.{step}
use Rattle.world_laws.specs.Sums.{sums_of}
use Rattle.world_laws.specs.World.{PlainWorld, new_world}
use Rattle.pair_text.specs.declared.load_line.LoadLine.{LoadLine}
use Rattle.pair_text.specs.Script.{shown_sums}

-- the words of the generator `ChaCha8Rng`, from place 0 on: its seed is the 8 bytes of the number, the least first, and zeros
abbrev pub seed_of : ℕ → List ℕ
seed_of number = to_le_bytes w64 number ++ replicate 24 0

abbrev pub word : ℕ → ℕ → ℕ
word number place = word_at 4 (key_of (seed_of number)) 0 place

-- a world, how many copies were carried, and how many stanzas were put and given, or were to be; these counts stand still at the
-- end of 64 bits
pub record PlainLoad : Type 0 where
  pub world : PlainWorld
  pub copies : ℕ
  pub puts : ℕ
  pub gives : ℕ

abbrev pub happens : WorldEvent → PlainLoad → PlainLoad
happens event load = record load { world = (step load.world event).after }

abbrev pub carries : ℕ → PlainLoad → PlainLoad
carries rid load = happens (Carry rid) (record load { copies = counted (load.copies + 1) })

-- `<message id='c1'/>`, with this letter and number
abbrev pub message_text : ℕ → ℕ → List ℕ
message_text letter number = codes "<message id='" ++ ((letter ∷ decimal number) ++ codes "'/>")

abbrev pub puts_one : PlainLoad → PlainLoad
puts_one load = happens (Put (message_text 99 (counted (load.puts + 1)))) (record load { puts = counted (load.puts + 1) })

abbrev pub gives_one : PlainLoad → PlainLoad
gives_one load = happens (Give (message_text 115 (counted (load.gives + 1)))) (record load { gives = counted (load.gives + 1) })

-- a copy of this request comes, if there is one
abbrev pub carries_some : Option ℕ → PlainLoad → PlainLoad
carries_some None load = load
carries_some (Some rid) load = carries rid load

abbrev pub carries_lowest : PlainLoad → PlainLoad
carries_lowest load = carries_some (lowest_open load.world.client) load

abbrev pub carries_greatest : PlainLoad → PlainLoad
carries_greatest load = carries_some (greatest_open load.world.client) load

-- this answer comes back, if there is one
abbrev pub returns_some : Option ℕ → PlainLoad → PlainLoad
returns_some None load = load
returns_some (Some number) load = happens (Return number) load

-- the last answer that was written for the request with this id comes back
abbrev pub returns_for : Option ℕ → PlainLoad → PlainLoad
returns_for None load = load
returns_for (Some rid) load = returns_some (last_answer rid load.world.written) load

abbrev pub returns_lowest : PlainLoad → PlainLoad
returns_lowest load = returns_for (lowest_open load.world.client) load

-- time passes
abbrev pub waits : ℕ → PlainLoad → PlainLoad
waits millis load = happens (At (counted (load.world.moment + millis))) load

-- what a word brings, by what is left when it is divided by 8
abbrev pub brings : ℕ → ℕ → PlainLoad → PlainLoad
brings word rest load =
    if nat_lt rest 2 then puts_one load else if rest == 2 then gives_one load
    else if rest == 3 then happens Send load else if rest == 4 then carries_lowest load else if rest == 5 then carries_greatest load
    else if rest == 6 then returns_lowest load else waits (word / 8 % 10) load

abbrev pub turn : ℕ → PlainLoad → PlainLoad
turn word load = brings word (word % 8) load

-- so many turns, by the words from place 1 on
unfoldable pub turns : ℕ → ℕ → PlainLoad → PlainLoad
turns number zero load = load
turns number (suc count) load = turn (word number (count + 1)) (turns number count load)

-- what can be brought to an end is
abbrev pub round : PlainLoad → PlainLoad
round load = returns_lowest (carries_greatest (carries_lowest (happens Send load)))

unfoldable pub rounds : ℕ → PlainLoad → PlainLoad
rounds zero load = load
rounds (suc count) load = round (rounds count load)

-- the client, whose first request id the first word gives, and its host with a greeting
abbrev pub host : List ℕ
host = codes "load.example"

abbrev pub greeting : List (List ℕ)
greeting = codes "<stream:features/>" ∷ []

abbrev pub setup_of : ℕ → ClientSetup
setup_of first = record { first = first; to = host; wait = 60; hold = 1; ack = true; seed = codes "seed"; keys = 16 }

abbrev pub first_id : ℕ → ℕ
first_id word = 1000 + word % 1000000

abbrev pub beginning : ℕ → PlainLoad
beginning first = record { world = new_world host greeting (setup_of first); copies = 0; puts = 0; gives = 0 }

-- its creation is answered
abbrev pub begun : ℕ → PlainLoad
begun first = happens (Return 1) (carries first (happens Send (beginning first)))

unfoldable pub load_of : ℕ → PlainLoad
load_of number = rounds 100 (turns number 2000 (begun (first_id (word number 0))))

-- The line.

abbrev pub over_text : Option Ending → List ℕ
over_text None = codes "none"
over_text (Some ending) = ending_text ending

unfoldable pub line_of : LoadLine → List ℕ
line_of line =
    codes "load " ++ decimal line.number ++ codes " requests " ++ decimal line.requests ++ codes " copies " ++ decimal line.copies
    ++ codes " put " ++ decimal line.sums.put ++ codes " in " ++ decimal line.sums.inward ++ codes " given " ++ decimal line.sums.given
    ++ codes " got " ++ decimal line.sums.got ++ codes " over " ++ over_text line.ending ++ 10 ∷ []

-- what the line of a load tells
abbrev pub told_of : ℕ → PlainLoad → LoadLine
told_of number load = record {
  number = number;
  requests = length load.world.sent;
  copies = load.copies;
  sums = shown_sums (sums_of load.world);
  ending = ending_in load.world.manager;
}

abbrev pub load_text : ℕ → List ℕ
load_text number = line_of (told_of number (load_of number))

-- the session of a load goes on, or its client was silent for too long, or its journal is full, or one of the two ends ended it: its client
-- names no stream
abbrev pub IsOverWell : Option Ending → Type 0
IsOverWell ending = IfSome ending IsFaultless

-- the sink was given the line of this number's run and nothing else, in whose world each end has a beginning of what was sent at
-- the other, and nothing went wrong by itself between them: so the line says `over none`, or one of the endings that are left
pub record GivesItsLoad (number : ℕ) (old new : Option (List ℕ)) : Type 0 where
  pub given : Appends old new (load_text number)
  pub prefixes : KeepsBothPrefixes (load_of number).world
  pub complete : IsComplete (load_of number).world
  pub over : IsOverWell (told_of number (load_of number)).ending
