use Rattle.script_text.specs.Report.{ending_text}
use Rattle.script_text.proofs.ending.push_pause.Goals as goal

pub returns : goal.returns
unfolding ending_text
returns c = rw (← c.value.ensures.value, ← c.from.ensures, ← c.from-2.ensures) c.push_words.ensures
