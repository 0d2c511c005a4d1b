use Rattle.std.proofs.Common.{◌∙◌, refl, rules}
use Rattle.session_pump.specs.Dues.{asked_none, asked_one}
use Rattle.session_pump.proofs.DueLemmas.{all_asked, ask_more, asked_before, noted_all_of, noted_first, noted_more, others_more, over_all, over_first, over_more, read_at}
use Rattle.session_pump.proofs.pump.Pump.note_given.Goals as goal

pub loop-number-init : goal.loop-number-init
loop-number-init g c = record {
  directory = refl;
  lines = refl;
  hosts = refl;
  noted = noted_first c.args.numbers.now c.args.self.now.purse.sessions c.args.self.now.dues;
  others = λ number outside. refl;
  asked = asked_none;
  over = over_first c.args.numbers.now c.args.self.now.purse.sessions c.args.self.now.dues c.args.over.now.items;
  kept = λ number within. within;
}

pub loop-number-preserved : goal.loop-number-preserved
loop-number-preserved g c = record {
  directory = c.in_ok-note_one_given.ensures.directory ∙ c.loop-number.invariant.directory;
  lines = c.in_ok-note_one_given.ensures.lines ∙ c.loop-number.invariant.lines;
  hosts = c.in_ok-note_one_given.ensures.hosts ∙ c.loop-number.invariant.hosts;
  noted = noted_more _ _ _ _ _ _ _ c.loop-number-test.true (read_at _ _ _ c.loop-number-test.true) c.loop-number.invariant.noted c.in_ok-note_one_given.ensures.noted c.in_ok-note_one_given.ensures.asked
      c.in_ok-note_one_given.ensures.others;
  others = others_more _ _ _ _ _ _ c.loop-number-test.true (read_at _ _ _ c.loop-number-test.true) c.loop-number.invariant.others c.in_ok-note_one_given.ensures.others;
  asked = ask_more _ _ _ _ _ _ c.loop-number-test.true (read_at _ _ _ c.loop-number-test.true) c.loop-number.invariant.asked c.in_ok-note_one_given.ensures.asked;
  over = over_more _ _ _ _ _ _ _ _ _ c.loop-number-test.true (read_at _ _ _ c.loop-number-test.true) c.loop-number.invariant.over c.in_ok-note_one_given.ensures.over
      c.in_ok-note_one_given.ensures.kept c.in_ok-note_one_given.ensures.asked c.in_ok-note_one_given.ensures.others;
  kept = λ number within. c.in_ok-note_one_given.ensures.kept number (c.loop-number.invariant.kept number within);
}

pub returns-in_err-note_one_given-clause-others : goal.returns-in_err-note_one_given-clause-others
returns-in_err-note_one_given-clause-others g c =
    others_more _ _ _ _ _ _ c.loop-number-test.true (read_at _ _ _ c.loop-number-test.true) c.loop-number.invariant.others c.in_err-note_one_given.ensures.others

pub returns-in_err-note_one_given-clause-kept : goal.returns-in_err-note_one_given-clause-kept
returns-in_err-note_one_given-clause-kept g c = λ number within. c.in_err-note_one_given.ensures.kept number (c.loop-number.invariant.kept number within)

pub returns-in_err-note_one_given-clause-wanted : goal.returns-in_err-note_one_given-clause-wanted
returns-in_err-note_one_given-clause-wanted g c = asked_before _ _ _ _ (asked_one _ c.loop-number.invariant.asked c.in_err-note_one_given.ensures.asked)

pub returns-clause-noted : goal.returns-clause-noted
returns-clause-noted g c = noted_all_of _ _ c.loop-number.self.purse.sessions c.loop-number.self.dues (search rules) c.loop-number.invariant.noted

pub returns-clause-asked : goal.returns-clause-asked
returns-clause-asked g c = all_asked _ _ _ _ (search rules) c.loop-number.invariant.asked

pub returns-clause-over : goal.returns-clause-over
returns-clause-over g c = over_all _ _ c.loop-number.self.purse.sessions c.loop-number.self.dues c.loop-number.over.items (search rules) c.loop-number.invariant.over
