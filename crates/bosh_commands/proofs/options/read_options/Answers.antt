use Rattle.std.proofs.Common.{◌≡◌, ◌≢◌, [], List, map, string_bytes, subst, true, ◌∙◌}
use Rattle.clap.specs.Words.{App, FailsBy, HasMatchesOf, Text, app_of, fault_of, found_of, is_simple_and_free, kind_of, matches_of}
use Rattle.clap.specs.declared.error.kind.ErrorKind.TheVariants.{OutOfMemory}
use Rattle.bosh_commands.specs.Options.{is_shown, options_in, serve_app, serve_faults}
use Rattle.bosh_commands.proofs.OptionLemmas.{asked_by_fault, asked_by_none_all, by_fault, by_rows, none_wanted, serve_is_free, serve_is_simple, wanted_so}
use Rattle.bosh_commands.proofs.options.read_options.Goals as goal

pub returns-in-Ok-clause-options : goal.returns-in-Ok-clause-options
unfolding options_in
returns-in-Ok-clause-options c =
    let words : List Text = map (λ word. string_bytes word) c.args.words.now in
    let app_is : app_of c.in_ok-command.command ≡ serve_app = c.in_ok-command.ensures in
    let none = subst (λ (a : App). is_simple_and_free a ≡ true → fault_of a words ≡ []) app_is c.in-Ok.ensures.kinds serve_is_free in
    let rows = subst (λ (a : App). HasMatchesOf a words c.in-Ok.matches) app_is c.in-Ok.ensures.matches serve_is_simple in
    wanted_so c.wanted_by.result _ (options_in words) (by_rows (found_of c.in-Ok.matches) (fault_of serve_app words) (matches_of serve_app words) none rows.0)
    c.wanted_by.ensures.options

pub returns-in-Ok-clause-shows : goal.returns-in-Ok-clause-shows
unfolding serve_faults
returns-in-Ok-clause-shows c =
    let words : List Text = map (λ word. string_bytes word) c.args.words.now in
    let app_is : app_of c.in_ok-command.command ≡ serve_app = c.in_ok-command.ensures in
    let none = subst (λ (a : App). is_simple_and_free a ≡ true → fault_of a words ≡ []) app_is c.in-Ok.ensures.kinds serve_is_free in
    asked_by_none_all is_shown (fault_of serve_app words) none c.wanted_by.result c.wanted_by.ensures.shows

pub returns-in-Err-clause-options : goal.returns-in-Err-clause-options
unfolding options_in
returns-in-Err-clause-options c =
    let words : List Text = map (λ word. string_bytes word) c.args.words.now in
    let app_is : app_of c.in_ok-command.command ≡ serve_app = c.in_ok-command.ensures in
    let fails = subst (λ (a : App). is_simple_and_free a ≡ true → FailsBy (fault_of a words) c.try_get_matches_from.result) app_is c.try_get_matches_from.ensures.kinds serve_is_free in
    let has = subst (FailsBy (fault_of serve_app words)) c.in-Err.is fails in
    none_wanted c.without_matches.result (kind_of c.in-Err.error ≢ OutOfMemory) (options_in words) c.without_matches.ensures.none c.without_matches.ensures.mistake
    (by_fault (fault_of serve_app words) (matches_of serve_app words) c.in-Err.error has)

pub returns-in-Err-clause-shows : goal.returns-in-Err-clause-shows
unfolding serve_faults
returns-in-Err-clause-shows c =
    let words : List Text = map (λ word. string_bytes word) c.args.words.now in
    let app_is : app_of c.in_ok-command.command ≡ serve_app = c.in_ok-command.ensures in
    let fails = subst (λ (a : App). is_simple_and_free a ≡ true → FailsBy (fault_of a words) c.try_get_matches_from.result) app_is c.try_get_matches_from.ensures.kinds serve_is_free in
    let has = subst (FailsBy (fault_of serve_app words)) c.in-Err.is fails in
    asked_by_fault is_shown (fault_of serve_app words) c.in-Err.error has c.without_matches.result c.without_matches.ensures.mistake c.without_matches.ensures.shows c.without_matches.ensures.shown
