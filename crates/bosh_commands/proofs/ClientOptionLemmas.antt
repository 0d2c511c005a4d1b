-- What the parser of words says of the options of a client.
use Rattle.std.proofs.Common.{◌≡◌, ◌≢◌, List, [], ◌∷◌, Option, None, Result, Ok, Err, IfOk, true, ap, sym, refl, ◌∙◌, inl, inr, codes}
use Rattle.clap.specs.Words.{HasKind, Kinds, Row, Text, first_of, first_value, is_simple, is_simple_and_free, kind_of, rows_of}
use Rattle.clap.specs.declared.error.Error.{Error}
use Rattle.clap.specs.declared.error.kind.ErrorKind.TheVariants.{OutOfMemory}
use Rattle.clap.specs.declared.parser.matches.Found.{Found}
use Rattle.clap.proofs.OnLiterals.{clap_on_literals}
use Rattle.clap.proofs.WalkLemmas.{first_value-rows}
use Rattle.bosh_commands.specs.declared.client_options.Asked.{Asked}
use Rattle.bosh_commands.specs.declared.client_options.ClientOptions.{ClientOptions}
use Rattle.bosh_commands.specs.Options.{number_in}
use Rattle.bosh_commands.specs.ClientOptions.{client_app, client_by, client_from, client_of, first_in, host_in, options_asked}

pub client_is_simple : is_simple client_app ≡ true
unfolding clap_on_literals
client_is_simple = refl

pub client_is_free : is_simple_and_free client_app ≡ true
unfolding clap_on_literals
client_is_free = refl

-- without a fault, the options are those of the rows
pub client_by_rows : (f : Found) (kinds : Kinds) (rows : List Row) → kinds ≡ [] → rows_of f ≡ rows → client_of (λ id. first_value f id) ≡ client_by kinds rows
client_by_rows f kinds rows none are =
    let reads : (id : Text) → first_value f id ≡ first_of id rows = λ id. first_value-rows f id ∙ ap (first_of id) are in
    let port = codes "port" in
    let to = codes "to" in
    let rid = codes "rid" in
    let wait = codes "wait" in
    let hold = codes "hold" in
    ap (λ p. client_from (number_in 1 65535 p) (host_in (first_value f to)) (first_in (first_value f rid)) (number_in 0 120 (first_value f wait)) (number_in 0 4 (first_value f hold))) (reads port)
    ∙ ap (λ t. client_from (number_in 1 65535 (first_of port rows)) (host_in t) (first_in (first_value f rid)) (number_in 0 120 (first_value f wait)) (number_in 0 4 (first_value f hold))) (reads to)
    ∙ ap (λ r. client_from (number_in 1 65535 (first_of port rows)) (host_in (first_of to rows)) (first_in r) (number_in 0 120 (first_value f wait)) (number_in 0 4 (first_value f hold))) (reads rid)
    ∙ ap (λ w. client_from (number_in 1 65535 (first_of port rows)) (host_in (first_of to rows)) (first_in (first_of rid rows)) (number_in 0 120 w) (number_in 0 4 (first_value f hold))) (reads wait)
    ∙ ap (λ h. client_from (number_in 1 65535 (first_of port rows)) (host_in (first_of to rows)) (first_in (first_of rid rows)) (number_in 0 120 (first_of wait rows)) (number_in 0 4 h)) (reads hold)
    ∙ sym (ap (λ k. client_by k rows) none)

-- where the parser finds a fault, there are no options
pub client_by_fault : (kinds : Kinds) (rows : List Row) (error : Error) → HasKind kinds error → kind_of error ≢ OutOfMemory → client_by kinds rows ≡ None
client_by_fault [] rows error (inl memory) mistake = absurd (mistake memory)
client_by_fault [] rows error (inr none) mistake = absurd none
client_by_fault (kind ∷ kinds) rows error has mistake = refl

pub none_asked : {E : Type 0} (result : Result Asked E) (P : Type 0) (options : Option ClientOptions) → IfOk result (λ asked. options_asked asked ≡ None) → IfOk result (λ _. P) → (P → options ≡ None) → IfOk result (λ asked. options_asked asked ≡ options)
none_asked (Ok asked) P options none mistake by = none ∙ sym (by mistake)
none_asked (Err e) P options none mistake by = tt

-- what was asked says what is asked for
pub asked_same : {E : Type 0} (result : Result Asked E) (o p : Option ClientOptions) → IfOk result (λ asked. options_asked asked ≡ o) → o ≡ p → IfOk result (λ asked. options_asked asked ≡ p)
asked_same (Ok asked) o p is same = is ∙ same
asked_same (Err e) o p is same = tt
