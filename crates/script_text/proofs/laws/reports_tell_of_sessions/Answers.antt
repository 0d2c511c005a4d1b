use Rattle.script_text.proofs.AnsweredLemmas.{answers_accounted, report_by_stages}
use Rattle.script_text.proofs.DriveLemmas.{sessions_came}
use Rattle.script_text.proofs.EnteredLemmas.{lines_entered}
use Rattle.script_text.proofs.FatesLaw.{requests_have_fates}
use Rattle.script_text.proofs.HandedLemmas.{lines_handed}
use Rattle.script_text.proofs.HeadlineLemmas.{keeps_its_word}
use Rattle.script_text.proofs.MomentLemmas.{lines_timed}
use Rattle.script_text.proofs.RefusedLemmas.{bodies_refused}
use Rattle.script_text.proofs.RepeatsLemmas.{repeats_given}
use Rattle.script_text.proofs.StillLemmas.{lines_leave}
use Rattle.script_text.proofs.laws.reports_tell_of_sessions.Goals as goal

pub returns : goal.returns
returns c = record {
  told = keeps_its_word c.every_journal_keeps_the_laws.ensures.laws;
  came = sessions_came;
  stages = report_by_stages;
  entered = lines_entered;
  moments = lines_timed;
  still = lines_leave;
  handed = lines_handed;
  fates = requests_have_fates;
  answers = answers_accounted;
  refused = bodies_refused;
  repeats = repeats_given c.every_journal_keeps_the_laws.ensures.laws;
}
