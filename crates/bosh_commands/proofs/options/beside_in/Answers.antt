use Rattle.std.proofs.Common.{◌∙◌, Option, ap}
use Rattle.clap.specs.Words.{Text, first_value, found_of}
use Rattle.bosh_commands.specs.Options.{flag_in}
use Rattle.bosh_commands.proofs.OptionLemmas.{beside_so}
use Rattle.bosh_commands.proofs.options.beside_in.Goals as goal

pub returns : goal.returns
returns c =
    let value : Text → Option Text = λ id. first_value (found_of c.args.matches.now) id in
    beside_so value _ _ _ _ (c.flag-until_eof.ensures ∙ ap flag_in c.get_str.ensures) (c.flag-log.ensures ∙ ap flag_in c.get_str-2.ensures)
    (c.in_ok-trace.ensures ∙ c.get_str-3.ensures) (c.in_ok-journal.ensures ∙ c.get_str-4.ensures)
