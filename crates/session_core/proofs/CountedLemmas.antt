-- Time and answers leave the counted bytes and their limit as they are.
use Rattle.std.proofs.Common.{◌≡◌, ℕ, zero, suc, ◌+◌, ◌==◌, Bool, true, false, nat_lt, List, [], ◌∷◌, length, refl, ◌∙◌, ap}
use Rattle.std.specs.Prelude.{if◌then◌else◌}
use Rattle.session_core.specs.declared.copy.RequestCopy.{RequestCopy}
use Rattle.session_core.specs.declared.session.Session.{Session}
use Rattle.session_core.specs.Answers.{has_reason, closed_by, with_answer, front_for, answer_oldest, settled_in, settled}
use Rattle.session_core.specs.Copy.{id_of}
use Rattle.session_core.specs.Gap.{ids_to_strike, struck}
use Rattle.session_core.specs.Machine.{is_full, with_cost}
use Rattle.bosh_types.specs.declared.ending.Ending.TheVariants.{Closed}
use Rattle.session_core.specs.Endings.{ended}
use Rattle.session_core.specs.Outward.{Front, OfStanzas, OfClosing}
use Rattle.session_core.specs.Processed.{Processed}
use Rattle.session_core.specs.StandsFor.{Alike, Holds}
use Rattle.session_core.specs.State.{PlainSession, held, running}
use Rattle.session_core.specs.Time.{at_moment, silenced, time_applied}
use Rattle.session_core.proofs.StruckLemmas.{strike_each_shape}

-- what of a session says whether its journal is full
record Room : Type 0 where
  counted : ℕ
  limit : ℕ

abbrev room : PlainSession → Room
room s = record { counted = s.counted; limit = s.limit }

either_room : (b : Bool) (x y : PlainSession) (r : Room) → room x ≡ r → room y ≡ r → room (if b then x else y) ≡ r
either_room true x y r one other = one
either_room false x y r one other = other

closed_room : (rid : ℕ) (front : Front) (s : PlainSession) → room (closed_by rid front s) ≡ room s
closed_room rid (OfStanzas items) s = refl
closed_room rid (OfClosing stream closing) s = either_room (length (running s) == 0) (ended (Closed closing rid) s) s (room s) refl refl

answer_room : (s : PlainSession) (copies : List Processed) → room (answer_oldest s copies) ≡ room s
answer_room s [] = refl
answer_room s (oldest ∷ later) = closed_room (id_of oldest.copy) (front_for s oldest) (with_answer s oldest (front_for s oldest))

settled_in_room : (count : ℕ) (s : PlainSession) → room (settled_in count s) ≡ room s
settled_in_room zero s = refl
settled_in_room (suc count) s =
    either_room (has_reason s) (settled_in count (answer_oldest s (held s))) s (room s)
    (settled_in_room count (answer_oldest s (held s)) ∙ answer_room s (held s)) refl

settled_room : (s : PlainSession) → room (settled s) ≡ room s
settled_room s = settled_in_room (length (held s)) s

struck_room : (s : PlainSession) → room (struck s) ≡ room s
struck_room s = ap room (strike_each_shape (ids_to_strike s) s)

silenced_room : (s : PlainSession) → room (silenced s) ≡ room s
silenced_room s = either_room _ _ s (room s) refl refl

time_room : (s : PlainSession) (now : ℕ) → room (time_applied s now) ≡ room s
time_room s now = silenced_room (struck (settled (at_moment s now))) ∙ struck_room (settled (at_moment s now)) ∙ settled_room (at_moment s now)

-- so the cost can be added before
pub with_cost_holds : (s : Session) (plain : PlainSession) (counted cost : ℕ) → Holds s plain → counted ≡ plain.counted + cost → Holds (record s { counted = counted }) (with_cost cost plain)
with_cost_holds s plain counted cost h is = record {
  alike = (λ i. record (h.alike i) { counted = is i });
  run = h.run;
  latest = h.latest;
  kept = h.kept;
  inward = h.inward;
  items = h.items;
  streams = h.streams;
  tickets = h.tickets;
  window = h.window;
}

pub counted_is : {s : Session} {plain : PlainSession} → Holds s plain → s.counted ≡ plain.counted
counted_is h = ap (λ (a : Alike). a.counted) h.alike

pub limit_is : {s : Session} {plain : PlainSession} → Holds s plain → s.limit ≡ plain.limit
limit_is h = ap (λ (a : Alike). a.limit) h.alike

-- there is as much room for an entry once time was applied
pub room_kept : (plain : PlainSession) (now cost : ℕ) → is_full (time_applied plain now) cost ≡ is_full plain cost
room_kept plain now cost = ap (λ (r : Room). nat_lt r.limit (r.counted + cost)) (time_room plain now)
