use Rattle.body_cutter.proofs.Cuts.{body_cut, body_refusal, stanza_is, stanza_refusal}
use Rattle.body_cutter.proofs.laws.texts_are_cut_by_the_grammar.Goals as goal

pub returns-clause-body : goal.returns-clause-body
returns-clause-body c = λ text cut. body_cut text cut

pub returns-clause-refusal : goal.returns-clause-refusal
returns-clause-refusal c = λ text refusal. body_refusal text refusal

pub returns-clause-stanza : goal.returns-clause-stanza
returns-clause-stanza c = λ text. stanza_is text

pub returns-clause-no_stanza : goal.returns-clause-no_stanza
returns-clause-no_stanza c = λ text refusal. stanza_refusal text refusal
