use Rattle.std.proofs.Common.{◌≡◌, ◌∙◌, ℕ, sym, ap, map, subst}
use Rattle.body_writer.specs.Answer.{answer_text}
use Rattle.session_core.specs.StandsFor.{StandsFor}
use Rattle.session_core.specs.Endings.{word_for}
use Rattle.session_core.specs.State.{answered_of}
use Rattle.session_core.specs.Tickets.{give_word}
use Rattle.session_core.specs.Words.{IsAnswerable, parts_of}
use Rattle.session_core.proofs.EndedLemmas.{ended_holds}
use Rattle.session_core.proofs.session.Session.end.Goals as goal

pub returns : goal.returns
unfolding StandsFor
returns c = λ plain stands live answerable.
    let at : c.args.self.now.answered ≡ answered_of plain = stands.run.answered_is in
    let told = c.at-words.ensures (subst (λ (n : ℕ). IsAnswerable n c.args.ending) (sym at) answerable) in
    let word : c.in_ok-word.word ≡ answer_text (parts_of c.at-words.result.word) = c.in_ok-word.ensures in
    let other : c.in_ok-other.other ≡ answer_text (parts_of c.at-words.result.other) = c.in_ok-other.ensures in
    ended_holds c.args.self.now plain c.args.ending c.at-words.result.breaker (parts_of c.at-words.result.word) (parts_of c.at-words.result.other)
    c.last_words.new.self stands live
    (λ id. ap (λ (n : ℕ). word_for n c.args.ending id) (sym at) ∙ told id)
    (c.in_ok-last_words.ensures ∙ (λ i. record c.args.self.now.tickets { out = map (give_word c.at-words.result.breaker (word i) (other i)) c.args.self.now.tickets.out }))
