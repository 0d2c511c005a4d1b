-- Which answers are kept, to be given again byte for byte, XEP-0124 sections 9.2 and 14.3.
use Rattle.std.specs.Prelude.{ℕ, ◌+◌, map, length, Option, is_some}
use Rattle.std.specs.List.{find}
use Rattle.std.specs.Option.{option_map, unwrap_or}
use Rattle.bosh_types.specs.ById.{at_id}
use Rattle.bosh_types.specs.declared.kept.KeptAnswer.{KeptAnswer}
use Rattle.reply_keep.specs.PlainKeep.{PlainKeep, kept_at}
use Rattle.session_core.specs.Outward.{items_in, stanzas_in}
use Rattle.session_core.specs.State.{PlainSession, Answered, answers, answered_of}

abbrev pub kept_answer : Answered → ℕ × KeptAnswer
kept_answer answer =
    (answer.rid, record { bytes = answer.bytes; given = answer.moment; payloads = length (stanzas_in (items_in answer.front)) })

-- the answers of as many ids as the client may have open and one, without those that it acknowledged
abbrev pub keep_of : PlainSession → PlainKeep
keep_of s = record { put = map kept_answer (answers s); acknowledged = s.acknowledged; size = s.terms.requests + 1 }

-- the answer of an id, where it is kept
abbrev pub kept_of : PlainSession → ℕ → Option KeptAnswer
kept_of s rid = kept_at (keep_of s) rid

-- the answer of an id, kept or not
abbrev pub answer_at : PlainSession → ℕ → Option KeptAnswer
answer_at s rid = at_id (map kept_answer (answers s)) rid

-- the least id whose answer is kept; the next one to be answered where none is
abbrev pub lowest_kept : PlainSession → ℕ
lowest_kept s =
    unwrap_or (option_map (λ pair. pair.0) (find (λ pair. is_some (kept_of s pair.0)) (map kept_answer (answers s)))) (answered_of s + 1)
