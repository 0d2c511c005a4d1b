-- Moves of a worker, one after the other.
use Rattle.std.proofs.Common.{◌≡◌, ℕ, ◌+◌, ◌<◌, inl, inr, List, [], ◌∷◌, Some, None, refl, sym, ◌∙◌, ap, subst}
use Rattle.std.specs.Prelude.{Option, Result, Ok, Err}
use Rattle.std.specs.Option.{option_map}
use Rattle.std.specs.declared.alloc.AllocError.{AllocError}
use Rattle.bosh_client.specs.declared.replies.Answered.{Answered}
use Rattle.bosh_client.specs.declared.replies.Answered.TheVariants.{Broken}
use Rattle.bosh_client.specs.declared.replies.Why.{Why}
use Rattle.bosh_client.specs.declared.replies.ClientEnd.{ClientEnd}
use Rattle.bosh_client.specs.declared.replies.Next.{Next}
use Rattle.parked_gate.specs.Passes.{Known}
use Rattle.server_ports.specs.Counts.{Counts, HasFailed, RisesWith, added}
use Rattle.server_ports.specs.Events.{Event, Begins, IsUngiven, Retires}
use Rattle.client_run.specs.declared.call.Call.TheVariants as calls
use Rattle.client_run.specs.declared.call.Answer.{Answer}
use Rattle.client_run.specs.declared.call.Answer.TheVariants as replied
use Rattle.client_run.specs.declared.call.Question.TheVariants as questions
use Rattle.client_run.specs.declared.entry.Entry.{Entry}
use Rattle.client_run.specs.declared.line.Line.{Line}
use Rattle.client_run.specs.Asking.{AnswersBy, AsksBy, CopiesBy, LooksBy}
use Rattle.client_run.specs.Working.{Exchanges, Hand, Moves, Refuses, Row, Setting, Side, Tries, Wire, answers, asks, copies, copy_in, dials, fails_to_dial, hand_after, holding, looks, loses, more, no_hand, no_row, owing, refuses, request_in, retires, row_failed, row_passed, row_refused, side_of, wants_memory}
use Rattle.client_run.proofs.LineLemmas.{exchange_tries}

-- the same link by another name
pub with_line : {L : Type 0} (wire : Line L → Wire) (setting : Setting) (start : Side) (known : Known Entry) (events : Option (List Event)) (counts : Counts) (hand : Hand) (row : Row)
    (line other : Option (Line L)) → other ≡ line
    → Moves setting start (side_of known events counts (option_map wire line) hand row) → Moves setting start (side_of known events counts (option_map wire other) hand row)
with_line wire setting start known events counts hand row line other is moves = subst (λ l. Moves setting start (side_of known events counts (option_map wire l) hand row)) (sym is) moves

-- a link without faults is retired, and one with faults
pub counted_none : (old new : Counts) (faults : ℕ) → RisesWith old.faults new.faults faults → faults ≡ 0 → new ≡ record old { faults = new.faults } → new ≡ old
counted_none old new faults rises none others = others ∙ ap (λ n. record old { faults = n }) (rises.still none)

pub counted_fault : (old new : Counts) (faults : ℕ) → RisesWith old.faults new.faults faults → 0 < faults → new ≡ record old { faults = new.faults } → HasFailed old new
counted_fault old new faults rises some others = record { risen = rises.risen some; never_falls = rises.never_falls; others = others }

module _ (setting : Setting) (start : Side) where
  pub dialled : (known : Known Entry) (events later : Option (List Event)) (counts next : Counts) (wire : Wire) (hand : Hand) (row : Row)
      → Begins events later (Some setting.port) wire.left → IsUngiven later wire.given → wire.kept ≡ [] → next ≡ record counts { dialled = added counts.dialled 1 }
      → Moves setting start (side_of known events counts None hand row) → Moves setting start (side_of known later next (Some wire) hand row)
  dialled known events later counts next wire hand row begins ungiven kept counted moves = more moves (dials later next wire refl begins ungiven kept counted)

  pub missed : (known : Known Entry) (events later : Option (List Event)) (counts next : Counts) (hand : Hand) (row : Row)
      → later ≡ events → HasFailed counts next
      → Moves setting start (side_of known events counts None hand row) → Moves setting start (side_of known later next None hand (row_failed row))
  missed known events later counts next hand row same failed moves =
      subst (λ e. Moves setting start (side_of known e next None hand (row_failed row))) (sym same) (more moves (fails_to_dial next refl failed))

  -- the next request was asked for, or there was no memory
  pub asked_for : (known new : Known Entry) (events : Option (List Event)) (counts : Counts) (wire : Option Wire) (row : Row) (next : Next)
      → AsksBy setting known new (Ok next) → Moves setting start (side_of known events counts wire no_hand row)
      → Moves setting start (side_of new events counts wire (record { request = request_in next; again = [] }) no_row)
  asked_for known new events counts wire row next asked moves = more moves (asks new next asked.0 refl asked.1 asked.2)

  pub asked_none : (known new : Known Entry) (events : Option (List Event)) (counts : Counts) (wire : Option Wire) (row : Row) (error : AllocError)
      → AsksBy setting known new (Err error) → Moves setting start (side_of known events counts wire no_hand row) → Moves setting start (side_of new events counts wire no_hand row)
  asked_none known new events counts wire row error asked moves = more moves (wants_memory new (calls.Next asked.0) error asked.1)

  -- a copy was asked for
  pub copied : (known new : Known Entry) (events : Option (List Event)) (counts : Counts) (wire : Option Wire) (rid : ℕ) (again : List ℕ) (row : Row) (body : Option (List ℕ))
      → CopiesBy rid known new (Ok body) → Moves setting start (side_of known events counts wire (owing (rid ∷ again)) row)
      → Moves setting start (side_of new events counts wire (record { request = copy_in rid body; again = again }) no_row)
  copied known new events counts wire rid again row body asked moves = more moves (copies new rid again body refl asked)

  pub copied_none : (known new : Known Entry) (events : Option (List Event)) (counts : Counts) (wire : Option Wire) (rid : ℕ) (hand : Hand) (row : Row) (error : AllocError)
      → CopiesBy rid known new (Err error) → Moves setting start (side_of known events counts wire hand row) → Moves setting start (side_of new events counts wire hand row)
  copied_none known new events counts wire rid hand row error asked moves = more moves (looks new (questions.Copy rid) asked.0 asked.1)

  -- it was looked how the client ended
  pub looked : (known new : Known Entry) (events : Option (List Event)) (counts : Counts) (wire : Option Wire) (hand : Hand) (row : Row) (end : Option ClientEnd)
      → LooksBy known new end → Moves setting start (side_of known events counts wire hand row) → Moves setting start (side_of new events counts wire hand row)
  looked known new events counts wire hand row end was moves = more moves (looks new questions.Ended (Ok (replied.Ended end)) was)

  -- the link that is out is retired
  pub closed : (known : Known Entry) (events later : Option (List Event)) (counts next : Counts) (wire : Wire) (hand : Hand) (row : Row)
      → Retires events later wire.left wire.given → next ≡ counts
      → Moves setting start (side_of known events counts (Some wire) hand row) → Moves setting start (side_of known later next None hand row)
  closed known events later counts next wire hand row retired same moves =
      subst (λ c. Moves setting start (side_of known later c None hand row)) (sym same) (more moves (retires wire later refl retired))

  -- the answer to the request at hand was given to the client
  module _ (known new : Known Entry) (events : Option (List Event)) (counts : Counts) (old wire : Wire) (rid : ℕ) (body answer again : List ℕ) (row : Row)
      (exchanges : Exchanges old wire body answer) (moves : Moves setting start (side_of known events counts (Some old) (holding rid body again) row)) where
    pub settled : (answered : Answered) → AnswersBy setting rid answer known new (Ok answered)
        → Moves setting start (side_of new events counts (Some wire) (hand_after answered (holding rid body again)) no_row)
    settled answered gives = more moves (answers new rid body answer old wire gives.0 answered refl refl exchanges gives.1 gives.2)

    pub broken : (later : Option (List Event)) (next : Counts) (why : Why) → AnswersBy setting rid answer known new (Ok (Broken why))
        → Retires events later wire.left wire.given → next ≡ counts → Moves setting start (side_of new later next None (holding rid body again) no_row)
    broken later next why gives retired same =
        subst (λ c. Moves setting start (side_of new later c None (holding rid body again) no_row)) (sym same)
        (more (more moves (answers new rid body answer old wire gives.0 (Broken why) refl refl exchanges gives.1 gives.2)) (retires wire later refl retired))

    pub wanted : (later : Option (List Event)) (next : Counts) (error : AllocError) → AnswersBy setting rid answer known new (Err error)
        → Retires events later wire.left wire.given → next ≡ counts → Moves setting start (side_of new later next None (holding rid body again) (row_passed row))
    wanted later next error gives retired same =
        more (more moves (wants_memory new (calls.Answer rid answer gives.0) error gives.1))
        (loses rid body old wire later next (row_passed row) refl refl (exchange_tries old wire body answer exchanges) retired (inr (same, refl)))

  -- no answer to it was read
  module _ (known : Known Entry) (events later : Option (List Event)) (counts next : Counts) (old wire : Wire) (rid : ℕ) (body again : List ℕ) (row : Row)
      (tries : Tries old wire body) (retired : Retires events later wire.left wire.given)
      (moves : Moves setting start (side_of known events counts (Some old) (holding rid body again) row)) where
    pub unanswered : next ≡ counts → Moves setting start (side_of known later next None (holding rid body again) (row_passed row))
    unanswered same = more moves (loses rid body old wire later next (row_passed row) refl refl tries retired (inr (same, refl)))

    pub failed : HasFailed counts next → Moves setting start (side_of known later next None (holding rid body again) (row_failed row))
    failed has = more moves (loses rid body old wire later next (row_failed row) refl refl tries retired (inl (has, refl)))

  -- a response with another status came
  pub refused_with : (known : Known Entry) (events later : Option (List Event)) (counts next : Counts) (old wire : Wire) (rid : ℕ) (body again : List ℕ) (row : Row) (status : ℕ)
      → Refuses old wire body status → Retires events later wire.left wire.given → next ≡ counts
      → Moves setting start (side_of known events counts (Some old) (holding rid body again) row) → Moves setting start (side_of known later next None (holding rid body again) (row_refused row status))
  refused_with known events later counts next old wire rid body again row status was retired same moves =
      subst (λ c. Moves setting start (side_of known later c None (holding rid body again) (row_refused row status))) (sym same) (more moves (refuses rid body old wire later status refl refl was retired))
