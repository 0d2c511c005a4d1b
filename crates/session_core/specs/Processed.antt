-- What a copy does when it is processed, by the streams that are open then, XEP-0124 section 16.
use Rattle.std.specs.Prelude.{ℕ, ◌&&◌, Bool, is_some, List, [], ◌∷◌, ◌++◌, map, Option, Some, None, if◌then◌else◌}
use Rattle.std.specs.List.{list_all}
use Rattle.std.specs.Option.{option_to_list}
use Rattle.bosh_types.specs.declared.inward.Inward.{Inward}
use Rattle.bosh_types.specs.declared.inward.Inward.TheVariants.{Item, Restart, Open, Close}
use Rattle.stream_names.specs.Streams.{is_among, named}
use Rattle.session_core.specs.declared.copy.RequestCopy.{RequestCopy}
use Rattle.session_core.specs.Copy.{stanzas_of, unnamed}

-- a copy as it was processed: with the streams that were open before it, and the one that it opened
pub record Processed : Type 0 where
  pub copy : RequestCopy
  pub running : List ℕ
  pub opened : Option ℕ

-- the creation opens the first stream, and what it carries is for that one
abbrev pub as_creation : RequestCopy → Processed
as_creation copy = record { copy = copy; running = unnamed ∷ []; opened = None }

abbrev pub copies_of : List Processed → List RequestCopy
copies_of processed = map (λ one. one.copy) processed

-- the streams that a request is for: the one that it names, and all that are open where it names none
abbrev pub targets_among : List ℕ → Option (List ℕ) → List ℕ
targets_among running None = running
targets_among running (Some name) = option_to_list (named running name)

abbrev pub targets_of : Processed → List ℕ
targets_of one = targets_among one.running one.copy.request.stream

-- each stanza for each of the streams
abbrev pub stanza_items : List ℕ → List (List ℕ) → List Inward
stanza_items streams [] = []
stanza_items streams (stanza ∷ stanzas) = map (λ stream. Item stream stanza) streams ++ stanza_items streams stanzas

-- a restart of each, XEP-0206 section 5
abbrev pub restart_items : List ℕ → Bool → List Inward
restart_items streams restart = if restart then map Restart streams else []

-- the close of a stream that a terminate names
abbrev pub close_items : List ℕ → RequestCopy → List Inward
close_items streams copy = if copy.request.terminate && is_some copy.request.stream then map Close streams else []

-- the new stream, to the host that an add names
abbrev pub open_items : Option ℕ → Option (List ℕ) → List Inward
open_items (Some stream) (Some to) = Open stream to ∷ []
open_items (Some stream) None = []
open_items None to = []

-- what a copy for these streams passes on towards the server, in this order
abbrev pub items_by : RequestCopy → List ℕ → Option ℕ → List Inward
items_by copy streams opened =
    stanza_items streams (stanzas_of copy)
    ++ restart_items streams copy.request.restart
    ++ close_items streams copy
    ++ open_items opened copy.request.to

abbrev pub items_of : Processed → List Inward
items_of one = items_by one.copy (targets_of one) one.opened

abbrev pub items_of_all : List Processed → List Inward
items_of_all [] = []
items_of_all (one ∷ others) = items_of one ++ items_of_all others

-- a terminate closes each stream that it is for
abbrev pub closes : ℕ → Processed → Bool
closes stream one = one.copy.request.terminate && is_among (targets_of one) stream

-- and ends the session where no other is open, XEP-0124 sections 13 and 16
abbrev pub ends : Processed → Bool
ends one = one.copy.request.terminate && list_all (is_among (targets_of one)) one.running
