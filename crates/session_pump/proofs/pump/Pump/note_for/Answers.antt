use Rattle.std.proofs.Common.{◌∙◌, refl, rules}
use Rattle.session_pump.specs.Dues.{asked_none, asked_one}
use Rattle.session_pump.proofs.DueLemmas.{all_asked, ask_more, asked_before, noted_all_of, noted_first, noted_more, others_more, read_at}
use Rattle.session_pump.proofs.pump.Pump.note_for.Goals as goal

pub loop-number-init : goal.loop-number-init
loop-number-init g c = record { directory = refl; lines = refl; hosts = refl; noted = noted_first c.args.numbers.now c.args.self.now.purse.sessions c.args.self.now.dues; others = λ number outside. refl; asked = asked_none }

pub loop-number-preserved : goal.loop-number-preserved
loop-number-preserved g c = record {
  directory = c.in_ok-note.ensures.directory ∙ c.loop-number.invariant.directory;
  lines = c.in_ok-note.ensures.lines ∙ c.loop-number.invariant.lines;
  hosts = c.in_ok-note.ensures.hosts ∙ c.loop-number.invariant.hosts;
  noted = noted_more _ _ _ _ _ _ _ c.loop-number-test.true (read_at _ _ _ c.loop-number-test.true) c.loop-number.invariant.noted c.in_ok-note.ensures.noted c.in_ok-note.ensures.asked
      c.in_ok-note.ensures.others;
  others = others_more _ _ _ _ _ _ c.loop-number-test.true (read_at _ _ _ c.loop-number-test.true) c.loop-number.invariant.others c.in_ok-note.ensures.others;
  asked = ask_more _ _ _ _ _ _ c.loop-number-test.true (read_at _ _ _ c.loop-number-test.true) c.loop-number.invariant.asked c.in_ok-note.ensures.asked;
}

pub returns-in_err-note-clause-others : goal.returns-in_err-note-clause-others
returns-in_err-note-clause-others g c = others_more _ _ _ _ _ _ c.loop-number-test.true (read_at _ _ _ c.loop-number-test.true) c.loop-number.invariant.others c.in_err-note.ensures.others

pub returns-in_err-note-clause-wanted : goal.returns-in_err-note-clause-wanted
returns-in_err-note-clause-wanted g c = asked_before _ _ _ _ (asked_one _ c.loop-number.invariant.asked c.in_err-note.ensures.asked)

pub returns-clause-noted : goal.returns-clause-noted
returns-clause-noted g c = noted_all_of _ _ c.loop-number.self.purse.sessions c.loop-number.self.dues (search rules) c.loop-number.invariant.noted

pub returns-clause-asked : goal.returns-clause-asked
returns-clause-asked g c = all_asked _ _ _ _ (search rules) c.loop-number.invariant.asked
