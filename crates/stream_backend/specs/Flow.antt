-- One stream over its link: what was passed and what came, and how far both went.
use Rattle.std.specs.Prelude.{◌≡◌, ◌⊎◌, ℕ, ◌≤◌, Bool, true, false, List, [], ◌∷◌, ◌++◌, Option, IfSome, IsTrue, map}
use Rattle.std.specs.List.{list_any}
use Rattle.std.specs.Io.KnownBytes.{Keeps}
use Rattle.body_cutter.specs.Cutting.{is_stanza}
use Rattle.bosh_ports.specs.Faults.{HasRisen}
use Rattle.bosh_types.specs.declared.ending.Closing.{Closing}
use Rattle.bosh_types.specs.declared.ending.Closing.TheVariants.{Plain, RemoteStreamError}
use Rattle.bosh_types.specs.declared.inward.Inward.{Inward}
use Rattle.xmpp_stream.specs.declared.incoming.Came.{Came}
use Rattle.xmpp_stream.specs.declared.incoming.Came.TheVariants as came
use Rattle.xmpp_stream.specs.Cut.{GoesWrong, HasEnded}
use Rattle.xmpp_stream.specs.Qualified.{qualified}
use Rattle.xmpp_stream.specs.Stream.{error_mark, is_named}
use Rattle.xmpp_stream.specs.Wire.{Incoming, IsRead, IsWritten, Outgoing, TakesAtLeast, WasTaken}

-- what its link tells now and told as the stream began, what the link counts, what is owed and what was taken, the items that were
-- passed, and the texts that came
pub record Flow : Type 0 where
  pub start_given : Option (List ℕ)
  pub start_left : Option (List ℕ)
  pub given : Option (List ℕ)
  pub left : Option (List ℕ)
  pub faults : ℕ
  pub idle : ℕ
  pub outgoing : Outgoing
  pub incoming : Incoming
  pub passed : List Inward
  pub came : List (List ℕ)

-- what the link was given, followed by what is owed, is the text of what was passed; and the texts that came are the elements of what
-- was taken, each as it stands alone
pub record IsFlow (flow : Flow) : Type 0 where
  pub elements : List (List ℕ)
  pub written : IsWritten flow.start_given flow.given flow.outgoing flow.passed
  pub read : IsRead flow.start_left flow.left flow.incoming elements
  pub came_is : flow.came ≡ map qualified elements

-- nothing was passed yet, and nothing came
abbrev pub begun : Option (List ℕ) → Option (List ℕ) → ℕ → ℕ → Outgoing → Incoming → Flow
begun given left faults idle outgoing incoming = record {
  start_given = given;
  start_left = left;
  given = given;
  left = left;
  faults = faults;
  idle = idle;
  outgoing = outgoing;
  incoming = incoming;
  passed = [];
  came = [];
}

-- so much is owed now, and the item was passed too
abbrev pub passed_on : List ℕ → Inward → Flow → Flow
passed_on owed item flow = record flow { outgoing = record flow.outgoing { owed = owed }; passed = flow.passed ++ item ∷ [] }

-- so much is owed now, and nothing can be passed any more
abbrev pub closed_with : List ℕ → Flow → Flow
closed_with owed flow = record flow { outgoing = record { to = flow.outgoing.to; owed = owed; closed = true } }

-- the stream is the same, to the same host, and the same was passed
pub record IsSame (old new : Flow) : Type 0 where
  pub start_given : new.start_given ≡ old.start_given
  pub start_left : new.start_left ≡ old.start_left
  pub to : new.outgoing.to ≡ old.outgoing.to
  pub passed : new.passed ≡ old.passed

-- bytes may have gone over the link, and whether the stream was closed from this end stays
pub record GoesOn (old new : Flow) : Type 0 where
  pub same : IsSame old new
  pub closed : new.outgoing.closed ≡ old.outgoing.closed
  pub faults : old.faults ≤ new.faults
  pub idle : old.idle ≤ new.idle

-- and nothing came
pub record Stays (old new : Flow) : Type 0 where
  pub on : GoesOn old new
  pub came : new.came ≡ old.came

-- what is owed was given, or some of it, and nothing was taken
pub record Gives (old new : Flow) : Type 0 where
  pub stays : Stays old new
  pub left : Keeps old.left new.left

-- the stream came to its end, and its elements are those that came; among them one that tells of an error, or none
pub record HasClosed (error : Bool) (flow : Flow) : Type 0 where
  pub elements : List (List ℕ)
  pub came_is : flow.came ≡ map qualified elements
  pub taken : WasTaken flow.start_left flow.left (λ taken. HasEnded taken elements)
  pub error_is : error ≡ list_any (is_named error_mark) elements

-- after the elements that came no stream goes on so
pub record HasGoneWrong (flow : Flow) : Type 0 where
  pub place : ℕ
  pub elements : List (List ℕ)
  pub came_is : flow.came ≡ map qualified elements
  pub taken : WasTaken flow.start_left flow.left (λ taken. GoesWrong place taken elements)

-- all that the link had was taken
pub record HasRunOut (flow : Flow) : Type 0 where
  pub taken : WasTaken flow.start_left flow.left (λ taken. IfSome flow.start_left (λ bytes. bytes ≡ taken))

-- a stanza came
pub record GivesOne (text : List ℕ) (old new : Flow) : Type 0 where
  pub on : GoesOn old new
  pub came : new.came ≡ old.came ++ text ∷ []
  pub stanza : IsTrue (is_stanza text)

-- why a stream that is open comes to its end: its end tag came, or it goes wrong
abbrev pub Ended : Closing → Flow → Type 0
Ended closing flow = ((closing ≡ Plain) × HasClosed false flow) ⊎ ((closing ≡ RemoteStreamError) × (HasClosed true flow ⊎ HasGoneWrong flow))

-- it came to its end, and is closed from this end too
pub record Ends (closing : Closing) (old new : Flow) : Type 0 where
  pub same : IsSame old new
  pub came : new.came ≡ old.came
  pub closed : new.outgoing.closed ≡ true
  pub why : Ended closing new

-- it failed: its link counts a fault, or came to its end before the stream's
pub record Fails (old new : Flow) : Type 0 where
  pub stays : Stays old new
  pub why : HasRisen old.faults new.faults ⊎ HasRunOut new

-- the text that came, if one did
abbrev pub texts_of : Came → List (List ℕ)
texts_of (came.Item text) = text ∷ []
texts_of (came.Closed error) = []
texts_of (came.Broken place) = []
texts_of came.NotYet = []
texts_of came.Busy = []
texts_of came.End = []
texts_of came.Failed = []

-- what came next
abbrev pub Hears : Came → Flow → Flow → Type 0
Hears (came.Item text) old new = GivesOne text old new
Hears (came.Closed error) old new = Stays old new × HasClosed error new
Hears (came.Broken place) old new = Stays old new × HasGoneWrong new
Hears came.NotYet old new = Stays old new × HasRisen old.idle new.idle
Hears came.Busy old new = Stays old new × TakesAtLeast 128 old.left new.left
Hears came.End old new = Stays old new × HasRunOut new
Hears came.Failed old new = Stays old new × HasRisen old.faults new.faults
