-- A session that ends stands for the plain one that has ended.
use Rattle.std.proofs.Common.{◌≡◌, ℕ, ◌==◌, Bool, true, false, cond, map, Option, Some, None, refl, sym, ◌∙◌, ap}
use Rattle.std.specs.Prelude.{is_some, if◌then◌else◌}
use Rattle.std.specs.Option.{option_map, option_or}
use Rattle.bosh_types.specs.declared.ending.Ending.{Ending}
use Rattle.body_writer.specs.declared.answer.AnswerParts.{AnswerParts}
use Rattle.body_writer.specs.Answer.{answer_text}
use Rattle.session_core.specs.declared.session.Session.{Session}
use Rattle.session_core.specs.Endings.{ended, word_for}
use Rattle.session_core.specs.Kept.{answer_at}
use Rattle.session_core.specs.Machine.{bytes_for}
use Rattle.session_core.specs.StandsFor.{Alike, Holds}
use Rattle.session_core.specs.State.{PlainSession, answered_of, is_over}
use Rattle.session_core.specs.Tickets.{Book, give_word}
use Rattle.session_core.proofs.AreOut.{ended_out}

-- a session that goes on has no ending
pub live_none : (plain : PlainSession) → is_over plain ≡ false → plain.ending ≡ None
live_none plain live = by plain.ending live
  where
    by : (o : Option Ending) → is_some o ≡ false → o ≡ None
    by None live = refl
    by (Some ending) live = absurd (cc)

or_none : {T : Type 0} (o : Option T) → option_or o None ≡ o
or_none None = refl
or_none (Some x) = refl

-- what an id is given in a session that goes on is its answer
pub words_live : (plain : PlainSession) (rid : ℕ) → plain.ending ≡ None → bytes_for plain rid ≡ option_map (λ answer. answer.bytes) (answer_at plain rid)
words_live plain rid live =
    ap (λ (o : Option Ending). option_or (option_map (λ answer. answer.bytes) (answer_at plain rid)) (option_map (λ ending. answer_text (word_for (answered_of plain) ending rid)) o)) live
    ∙ or_none (option_map (λ answer. answer.bytes) (answer_at plain rid))

chosen : (b : Bool) (word other : AnswerParts) → answer_text (if b then word else other) ≡ cond b (answer_text word) (answer_text other)
chosen true word other = refl
chosen false word other = refl

pub ended_holds : (s : Session) (plain : PlainSession) (ending : Ending) (breaker : ℕ) (word other : AnswerParts) (book : Book)
    → Holds s plain → is_over plain ≡ false
    → ((id : ℕ) → word_for (answered_of plain) ending id ≡ (if id == breaker then word else other))
    → book ≡ record s.tickets { out = map (give_word breaker (answer_text word) (answer_text other)) s.tickets.out }
    → Holds (record s { tickets = book; ending = Some ending }) (ended ending plain)
ended_holds s plain ending breaker word other book h live words is = record {
  alike = ap (λ (a : Alike). record a { ending = Some ending }) h.alike;
  run = h.run;
  latest = h.latest;
  kept = h.kept;
  inward = h.inward;
  items = h.items;
  streams = h.streams;
  tickets =
      rw is
      (ended_out (bytes_for plain) (bytes_for (ended ending plain)) s.tickets plain.tickets breaker (answer_text word) (answer_text other)
      (λ rid.
      let given : option_map (λ answer. answer.bytes) (answer_at plain rid) ≡ bytes_for plain rid = sym (words_live plain rid (live_none plain live)) in
      let last : answer_text (word_for (answered_of plain) ending rid) ≡ cond (rid == breaker) (answer_text word) (answer_text other) =
      ap answer_text (words rid) ∙ chosen (rid == breaker) word other in
      (λ i. option_or (given i) (Some (last i))))
      h.tickets);
  window = h.window;
}
