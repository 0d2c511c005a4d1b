use Rattle.std.proofs.Common.{◌≡◌, ◌≢◌, [], List, map, string_bytes, subst, true}
use Rattle.clap.specs.Words.{App, FailsBy, HasMatchesOf, Text, app_of, fault_of, first_value, found_of, is_simple_and_free, kind_of, matches_of}
use Rattle.clap.specs.declared.error.kind.ErrorKind.TheVariants.{OutOfMemory}
use Rattle.bosh_commands.specs.ClientOptions.{client_app, client_faults, client_in, client_of, shows_text}
use Rattle.bosh_commands.proofs.ClientOptionLemmas.{asked_same, client_by_fault, client_by_rows, client_is_free, client_is_simple, none_asked}
use Rattle.bosh_commands.proofs.OptionLemmas.{asked_by_fault, asked_by_none_all}
use Rattle.bosh_commands.proofs.client_options.read_client_options.Goals as goal

pub returns-in-Ok-clause-options : goal.returns-in-Ok-clause-options
returns-in-Ok-clause-options c =
    let words : List Text = map (λ word. string_bytes word) c.args.words.now in
    let app_is : app_of c.in_ok-command.command ≡ client_app = c.in_ok-command.ensures in
    let none = subst (λ (a : App). is_simple_and_free a ≡ true → fault_of a words ≡ []) app_is c.in-Ok.ensures.kinds client_is_free in
    let rows = subst (λ (a : App). HasMatchesOf a words c.in-Ok.matches) app_is c.in-Ok.ensures.matches client_is_simple in
    asked_same c.asked_by.result (client_of (λ id. first_value (found_of c.in-Ok.matches) id)) (client_in words) c.asked_by.ensures.options
    (client_by_rows (found_of c.in-Ok.matches) (fault_of client_app words) (matches_of client_app words) none rows.0)

pub returns-in-Err-clause-options : goal.returns-in-Err-clause-options
returns-in-Err-clause-options c =
    let words : List Text = map (λ word. string_bytes word) c.args.words.now in
    let app_is : app_of c.in_ok-command.command ≡ client_app = c.in_ok-command.ensures in
    let fails = subst (λ (a : App). is_simple_and_free a ≡ true → FailsBy (fault_of a words) c.try_get_matches_from.result) app_is c.try_get_matches_from.ensures.kinds client_is_free in
    let has = subst (FailsBy (fault_of client_app words)) c.in-Err.is fails in
    none_asked c.without_matches.result (kind_of c.in-Err.error ≢ OutOfMemory) (client_in words) c.without_matches.ensures.none c.without_matches.ensures.mistake
    (client_by_fault (fault_of client_app words) (matches_of client_app words) c.in-Err.error has)

pub returns-in-Ok-clause-shows : goal.returns-in-Ok-clause-shows
unfolding client_faults
returns-in-Ok-clause-shows c =
    let words : List Text = map (λ word. string_bytes word) c.args.words.now in
    let app_is : app_of c.in_ok-command.command ≡ client_app = c.in_ok-command.ensures in
    let none = subst (λ (a : App). is_simple_and_free a ≡ true → fault_of a words ≡ []) app_is c.in-Ok.ensures.kinds client_is_free in
    asked_by_none_all shows_text (fault_of client_app words) none c.asked_by.result c.asked_by.ensures.shows

pub returns-in-Err-clause-shows : goal.returns-in-Err-clause-shows
unfolding client_faults
returns-in-Err-clause-shows c =
    let words : List Text = map (λ word. string_bytes word) c.args.words.now in
    let app_is : app_of c.in_ok-command.command ≡ client_app = c.in_ok-command.ensures in
    let fails = subst (λ (a : App). is_simple_and_free a ≡ true → FailsBy (fault_of a words) c.try_get_matches_from.result) app_is c.try_get_matches_from.ensures.kinds client_is_free in
    let has = subst (FailsBy (fault_of client_app words)) c.in-Err.is fails in
    asked_by_fault shows_text (fault_of client_app words) c.in-Err.error has c.without_matches.result c.without_matches.ensures.mistake c.without_matches.ensures.shows c.without_matches.ensures.shown
