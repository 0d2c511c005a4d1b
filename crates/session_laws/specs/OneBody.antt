-- What goes inward of a client that sends one body for each id, however often it sends it.
use Rattle.std.specs.Prelude.{◌≡◌, ℕ, zero, suc, ◌+◌, List, [], ◌∷◌, ◌++◌, All, Option, Some, slice_get}
use Rattle.bosh_types.specs.declared.inward.Inward.{Inward}
use Rattle.session_attrs.specs.declared.request.Request.{Request}
use Rattle.session_core.specs.declared.copy.RequestCopy.{RequestCopy}
use Rattle.session_core.specs.Copy.{id_of}
use Rattle.session_core.specs.Journal.{Journal, IsReadFrom, state_of}
use Rattle.session_core.specs.Processed.{Processed, as_creation, items_by, targets_among}
use Rattle.session_core.specs.Run.{arrivals_of}
use Rattle.session_core.specs.State.{PlainSession}

-- these are the items of the request that is read from this body, where these streams are open and it opens this one
pub record Carries (body : List ℕ) (running : List ℕ) (opened : Option ℕ) (items : List Inward) : Type 0 where
  pub request : Request
  pub read : IsReadFrom body request
  pub are : items ≡ items_by (record { request = request; body = body; arrived = 0 }) (targets_among running request.stream) opened

-- what was processed, the creation first
abbrev pub all_processed : PlainSession → List Processed
all_processed s = as_creation s.creation ∷ s.processed

-- what so many bodies carry, from this id on
abbrev pub carried : (ℕ → List Inward) → ℕ → ℕ → List Inward
carried items rid zero = []
carried items rid (suc count) = items rid ++ carried items (rid + 1) count

-- everything that arrived with an id is its body
abbrev pub SendsOneBody : (ℕ → List ℕ) → Journal → Type 0
SendsOneBody bodies journal = All (λ (copy : RequestCopy). copy.body ≡ bodies (id_of copy)) (arrivals_of journal)

-- and the bodies of the run's ids carry these items, for the streams that were open then
abbrev pub RunCarries : (ℕ → List ℕ) → (ℕ → List Inward) → Journal → Type 0
RunCarries bodies items journal =
    (k : ℕ) (one : Processed) → slice_get (all_processed (state_of journal)) k ≡ Some one
    → Carries (bodies (journal.opening.request.rid + k)) one.running one.opened (items (journal.opening.request.rid + k))
