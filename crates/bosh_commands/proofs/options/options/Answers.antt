use Rattle.std.proofs.Common.{◌∙◌, Option, List, ap, codes, option_map}
use Rattle.clap.specs.Words.{Text, first_value, found_of, matched_of, raw_values}
use Rattle.bosh_commands.specs.Options.{named_in, number_in}
use Rattle.bosh_commands.proofs.OptionLemmas.{options_so}
use Rattle.bosh_commands.proofs.options.options.Goals as goal

pub returns : goal.returns
returns c =
    let value : Text → Option Text = λ id. first_value (found_of c.args.matches.now) id in
    let names : Option (List Text) = option_map raw_values (matched_of (found_of c.args.matches.now) (codes "xmpp")) in
    c.options_from.ensures
    ∙ options_so value names _ _ _ _ _ c.in_ok-beside.ensures (c.number-port.ensures.number ∙ ap (number_in 1 65535) c.get_str.ensures)
    c.plan-plan.ensures c.in_ok-site.ensures (c.named_in-name.ensures ∙ ap named_in c.get_str-2.ensures)
