-- A back end that gives by a list, and fails at listed calls.
use Rattle.std.specs.Prelude.{◌≡◌, ℕ, Bool, List, [], ◌∷◌, Contains, map, if◌then◌else◌}
use Rattle.std.specs.List.{list_all}
use Rattle.body_cutter.specs.Cutting.{is_stanza}
use Rattle.xmpp_backend.specs.Counts.{counted_on}
use Rattle.xmpp_backend.specs.Dues.{OwedText}
use Rattle.xmpp_backend.specs.Owing.{Owing, is_open, failed, PaysFirst}
use Rattle.xmpp_backend.specs.declared.calls.BackendCall.{BackendCall}
use Rattle.xmpp_backend.specs.declared.calls.BackendCall.TheVariants as kind
use Rattle.xmpp_backend.specs.declared.calls.Failing.{Failing}
use Rattle.xmpp_backend.specs.declared.calls.Calls.{Calls}
use Rattle.xmpp_backend.specs.declared.backend.Passed.{Passed}
use Rattle.xmpp_backend.specs.declared.backend.Passed.TheVariants as passed
use Rattle.xmpp_backend.specs.declared.backend.Polled.{Polled}
use Rattle.xmpp_backend.specs.declared.backend.Polled.TheVariants as polled

abbrev pub no_calls : Calls
no_calls = record { opens = 0; passes = 0; polls = 0; closes = 0 }

-- how many calls of a kind were made
abbrev pub number_of : BackendCall → Calls → ℕ
number_of kind.Open calls = calls.opens
number_of kind.Pass calls = calls.passes
number_of kind.Poll calls = calls.polls
number_of kind.Close calls = calls.closes

-- one more of a kind
abbrev pub with_call : BackendCall → Calls → Calls
with_call kind.Open calls = record calls { opens = counted_on calls.opens }
with_call kind.Pass calls = record calls { passes = counted_on calls.passes }
with_call kind.Poll calls = record calls { polls = counted_on calls.polls }
with_call kind.Close calls = record calls { closes = counted_on calls.closes }

-- what it owes, the lists for the next items, the calls that are to fail, and how many were made
pub record Script : Type 0 where
  pub owing : Owing
  pub answers : List (List (List ℕ))
  pub failing : List Failing
  pub calls : Calls

-- a call was made
abbrev pub called : BackendCall → Script → Script
called call script = record script { calls = with_call call script.calls }

-- the next call of a kind is one of those that are to fail
abbrev pub IsNextToFail : BackendCall → Script → Type 0
IsNextToFail call script = Contains script.failing (record { call = call; number = number_of call (with_call call script.calls) })

-- each text of each list is a stanza
abbrev pub are_stanzas : List (List ℕ) → Bool
are_stanzas stanzas = list_all is_stanza stanzas

abbrev pub are_answers : List (List (List ℕ)) → Bool
are_answers answers = list_all are_stanzas answers

-- the stanzas for the next item
abbrev pub next_answer : List (List (List ℕ)) → List (List ℕ)
next_answer [] = []
next_answer (stanzas ∷ answers) = stanzas

-- what is owed for an item that is passed on a wire: the stanzas for it on that wire, if it is open
abbrev pub answer_on : Script → ℕ → List OwedText
answer_on script wire = if is_open script.owing wire then map (λ stanza. (wire, stanza)) (next_answer script.answers) else []

-- a call that is done, that fails and does nothing else, or for which there was no memory
abbrev pub IsDoneOrFails : Script → Script → Script → Passed → Type 0
IsDoneOrFails old new after passed.Done = new ≡ after
IsDoneOrFails old new after passed.Failed = new ≡ record old { owing = failed old.owing }
IsDoneOrFails old new after passed.NoMemory = new ≡ old

-- a poll that gives the first stanza that is owed, or fails and does nothing else
abbrev pub PaysOrFails : Script → Script → Polled → Type 0
PaysOrFails old new (polled.Out wire text) = PaysFirst old.owing new.owing (polled.Out wire text) × (new ≡ record old { owing = new.owing })
PaysOrFails old new (polled.Closed wire closing) = PaysFirst old.owing new.owing (polled.Closed wire closing) × (new ≡ record old { owing = new.owing })
PaysOrFails old new polled.Nothing = PaysFirst old.owing new.owing polled.Nothing × (new ≡ record old { owing = new.owing })
PaysOrFails old new polled.Failed = new ≡ record old { owing = failed old.owing }
PaysOrFails old new polled.NoMemory = ⊥
