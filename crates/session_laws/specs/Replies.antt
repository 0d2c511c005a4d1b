-- What a call is told: when a request waits, and what an answer is.
use Rattle.std.specs.Prelude.{◌≡◌, ℕ, ◌<◌, true, false, List, Some, ◌⊎◌}
use Rattle.bosh_types.specs.declared.condition.Condition.TheVariants.{ItemNotFound, UndefinedCondition}
use Rattle.body_writer.specs.Answer.{answer_text}
use Rattle.session_core.specs.Endings.{terminal}
use Rattle.session_core.specs.Machine.{bytes_for, is_full, stanza_cost, takes_items}
use Rattle.session_core.specs.State.{PlainSession, answered_of, is_over}
use Rattle.session_core.specs.Time.{time_applied}
use Rattle.session_core.specs.Window.{is_open}

-- the session goes on, a copy stands for the id or was processed, and the id wasn't answered
abbrev pub IsOpenId : PlainSession → ℕ → Type 0
IsOpenId s rid = (is_over s ≡ false) × (answered_of s < rid) × (is_open s rid ≡ true)

-- a copy is told what its id was given; or that it found no place in a session that has ended so, or had ended before
abbrev pub IsToldTo : PlainSession → ℕ → List ℕ → Type 0
IsToldTo after rid bytes =
    (bytes_for after rid ≡ Some bytes)
    ⊎ ((is_over after ≡ true)
    × ((bytes ≡ answer_text (terminal (Some ItemNotFound))) ⊎ (bytes ≡ answer_text (terminal (Some UndefinedCondition)))))

-- the journal and the session take a stanza at this moment, on this stream
abbrev pub MayTake : PlainSession → ℕ → List ℕ → ℕ → Type 0
MayTake s stream stanza now =
    (is_over s ≡ false) × (is_full s (stanza_cost stanza) ≡ false) × (takes_items (time_applied s now) stream ≡ true)
