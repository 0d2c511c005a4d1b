-- What the parser of words says of the options.
use Rattle.std.proofs.Common.{◌≡◌, ◌≢◌, ◌⊎◌, ℕ, List, [], ◌∷◌, Bool, Option, None, Result, Ok, Err, IfOk, true, false, ap, option_map, sym, refl, subst, ◌∙◌, inl, inr, codes}
use Rattle.clap.specs.Words.{HasKind, IsAmong, Kinds, Row, Text, all_of, first_of, first_value, is_simple, is_simple_and_free, kind_of, matched_of, raw_values, rows_of}
use Rattle.clap.specs.declared.error.Error.{Error}
use Rattle.clap.specs.declared.error.kind.ErrorKind.{ErrorKind}
use Rattle.clap.specs.declared.error.kind.ErrorKind.TheVariants.{DisplayHelp, DisplayVersion, OutOfMemory}
use Rattle.clap.specs.declared.parser.matches.Found.{Found}
use Rattle.clap.proofs.OnLiterals.{clap_on_literals}
use Rattle.clap.proofs.WalkLemmas.{first_value-rows, raw_values-rows}
use Rattle.bosh_server.specs.declared.plan.ServePlan.{ServePlan}
use Rattle.session_table.specs.declared.opening.Limits.{Limits}
use Rattle.bosh_commands.specs.declared.options.Beside.{Beside}
use Rattle.bosh_commands.specs.declared.options.ServeOptions.{ServeOptions}
use Rattle.bosh_commands.specs.declared.options.Wanted.{Wanted}
use Rattle.bosh_commands.specs.Options.{ShowsWhatIsAsked, beside_of, flag_in, limits_from, limits_of, named_in, number_in, open_in, options_by, options_from, options_of, options_wanted, plan_from, plan_of, serve_app, site_in}
use Rattle.bosh_commands.specs.Site.{site_of}
use Rattle.bosh_commands.specs.declared.site.Site.{Site}

pub serve_is_simple : is_simple serve_app ≡ true
unfolding clap_on_literals
serve_is_simple = refl

pub serve_is_free : is_simple_and_free serve_app ≡ true
unfolding clap_on_literals
serve_is_free = refl

limits_reads : (f : Text → Option Text) (g : Text → Option Text) → ((id : Text) → f id ≡ g id) → limits_of f ≡ limits_of g
limits_reads f g reads =
    let live = codes "sessions" in
    let openings = codes "openings" in
    let journal = codes "journal-limit" in
    let gap = codes "gap-waits" in
    let Limited : Option Text → Option Text → Option Text → Option Text → Option Limits =
    λ l o j w. limits_from (number_in 1 65536 l) (number_in 1 4294967295 o) (number_in 65536 1099511627776 j) (number_in 1 10 w) in
    ap (λ l. Limited l (f openings) (f journal) (f gap)) (reads live)
    ∙ ap (λ o. Limited (g live) o (f journal) (f gap)) (reads openings)
    ∙ ap (λ j. Limited (g live) (g openings) j (f gap)) (reads journal)
    ∙ ap (λ w. Limited (g live) (g openings) (g journal) w) (reads gap)

plan_reads : (f : Text → Option Text) (g : Text → Option Text) → ((id : Text) → f id ≡ g id) → plan_of f ≡ plan_of g
plan_reads f g reads =
    let workers = codes "workers" in
    let connections = codes "connections" in
    let open_ = codes "open" in
    let incoming = codes "incoming" in
    let Plan : Option Text → Option Text → Option Limits → Option Text → Option Text → Option ServePlan =
    λ w c l o i. plan_from (number_in 1 64 w) (number_in 0 1048576 c) l (open_in o) (number_in 1048576 1099511627776 i) in
    ap (λ w. Plan w (f connections) (limits_of f) (f open_) (f incoming)) (reads workers)
    ∙ ap (λ c. Plan (g workers) c (limits_of f) (f open_) (f incoming)) (reads connections)
    ∙ ap (λ l. Plan (g workers) (g connections) l (f open_) (f incoming)) (limits_reads f g reads)
    ∙ ap (λ o. Plan (g workers) (g connections) (limits_of g) o (f incoming)) (reads open_)
    ∙ ap (λ i. Plan (g workers) (g connections) (limits_of g) (g open_) i) (reads incoming)

site_reads : (f : Text → Option Text) (g : Text → Option Text) → ((id : Text) → f id ≡ g id) → (names : Option (List Text)) → site_in f names ≡ site_in g names
site_reads f g reads names =
    let test = codes "test-hosts" in
    let port = codes "xmpp-port" in
    ap (λ t. site_of (flag_in t) (number_in 1 65535 (f port)) names) (reads test)
    ∙ ap (λ p. site_of (flag_in (g test)) (number_in 1 65535 p) names) (reads port)

-- what the words say that can't be wrong, of these parts
abbrev pub beside_with : Bool → Bool → Option Text → Option Text → Beside
beside_with until_eof log trace journal = record { until_eof = until_eof; log = log; trace = trace; journal = journal }

-- what can't be wrong is what these texts say
pub beside_so : (f : Text → Option Text) (until_eof log : Bool) (trace journal : Option Text)
    → until_eof ≡ flag_in (f (codes "until-eof")) → log ≡ flag_in (f (codes "log")) → trace ≡ f (codes "trace") → journal ≡ f (codes "journal")
    → beside_with until_eof log trace journal ≡ beside_of f
beside_so f until_eof log trace journal e g t j =
    ap (λ x. beside_with x log trace journal) e
    ∙ ap (λ x. beside_with (flag_in (f (codes "until-eof"))) x trace journal) g
    ∙ ap (λ x. beside_with (flag_in (f (codes "until-eof"))) (flag_in (f (codes "log"))) x journal) t
    ∙ ap (λ x. beside_with (flag_in (f (codes "until-eof"))) (flag_in (f (codes "log"))) (f (codes "trace")) x) j

beside_reads : (f g : Text → Option Text) → ((id : Text) → f id ≡ g id) → beside_of f ≡ beside_of g
beside_reads f g reads =
    beside_so g (flag_in (f (codes "until-eof"))) (flag_in (f (codes "log"))) (f (codes "trace")) (f (codes "journal"))
    (ap flag_in (reads (codes "until-eof"))) (ap flag_in (reads (codes "log"))) (reads (codes "trace")) (reads (codes "journal"))

-- the options are made of what these texts say
pub options_so : (f : Text → Option Text) (names : Option (List Text)) (beside : Beside) (port : Option ℕ) (plan : Option ServePlan) (site : Option Site) (name : Option (Option Text))
    → beside ≡ beside_of f → port ≡ number_in 1 65535 (f (codes "port")) → plan ≡ plan_of f → site ≡ site_in f names → name ≡ named_in (f (codes "name"))
    → options_from beside port plan site name ≡ options_of f names
options_so f names beside port plan site name b p l s n =
    ap (λ x. options_from x port plan site name) b
    ∙ ap (λ x. options_from (beside_of f) x plan site name) p
    ∙ ap (λ x. options_from (beside_of f) (number_in 1 65535 (f (codes "port"))) x site name) l
    ∙ ap (λ x. options_from (beside_of f) (number_in 1 65535 (f (codes "port"))) (plan_of f) x name) s
    ∙ ap (options_from (beside_of f) (number_in 1 65535 (f (codes "port"))) (plan_of f) (site_in f names)) n

-- without a fault, the options are those of the rows
pub by_rows : (f : Found) (kinds : Kinds) (rows : List Row) → kinds ≡ [] → rows_of f ≡ rows
    → options_of (λ id. first_value f id) (option_map raw_values (matched_of f (codes "xmpp"))) ≡ options_by kinds rows
by_rows f kinds rows none are =
    let value : Text → Option Text = λ id. first_value f id in
    let first : Text → Option Text = λ id. first_of id rows in
    let reads : (id : Text) → value id ≡ first id = λ id. first_value-rows f id ∙ ap (first_of id) are in
    let named : option_map raw_values (matched_of f (codes "xmpp")) ≡ all_of (codes "xmpp") rows = raw_values-rows f (codes "xmpp") ∙ ap (all_of (codes "xmpp")) are in
    let names : Option (List Text) = all_of (codes "xmpp") rows in
    let port = codes "port" in
    let name = codes "name" in
    ap (options_of value) named
    ∙ ap (λ b. options_from b (number_in 1 65535 (value port)) (plan_of value) (site_in value names) (named_in (value name))) (beside_reads value first reads)
    ∙ ap (λ p. options_from (beside_of first) (number_in 1 65535 p) (plan_of value) (site_in value names) (named_in (value name))) (reads port)
    ∙ ap (λ plan. options_from (beside_of first) (number_in 1 65535 (first port)) plan (site_in value names) (named_in (value name))) (plan_reads value first reads)
    ∙ ap (λ site. options_from (beside_of first) (number_in 1 65535 (first port)) (plan_of first) site (named_in (value name))) (site_reads value first reads names)
    ∙ ap (λ n. options_from (beside_of first) (number_in 1 65535 (first port)) (plan_of first) (site_in first names) (named_in n)) (reads name)
    ∙ sym (ap (λ k. options_by k rows) none)

pub wanted_so : {E : Type 0} (result : Result Wanted E) (found options : Option ServeOptions) → found ≡ options → IfOk result (λ wanted. options_wanted wanted ≡ found)
    → IfOk result (λ wanted. options_wanted wanted ≡ options)
wanted_so (Ok wanted) found options same is = is ∙ same
wanted_so (Err e) found options same is = tt

-- where the parser finds a fault, there are no options
pub by_fault : (kinds : Kinds) (rows : List Row) (error : Error) → HasKind kinds error → kind_of error ≢ OutOfMemory → options_by kinds rows ≡ None
by_fault [] rows error (inl memory) mistake = absurd (mistake memory)
by_fault [] rows error (inr none) mistake = absurd none
by_fault (kind ∷ kinds) rows error has mistake = refl

pub none_wanted : {E : Type 0} (result : Result Wanted E) (P : Type 0) (options : Option ServeOptions) → IfOk result (λ wanted. options_wanted wanted ≡ None) → IfOk result (λ _. P) → (P → options ≡ None) → IfOk result (λ wanted. options_wanted wanted ≡ options)
none_wanted (Ok wanted) P options none mistake by = none ∙ sym (by mistake)
none_wanted (Err e) P options none mistake by = tt

true_false : true ≡ false → ⊥
true_false eq = cc eq

no_kinds : (kind : ErrorKind) (kinds : Kinds) → kinds ≡ [] → kinds ≡ kind ∷ [] → ⊥
no_kinds kind kinds none one = let never : kind ∷ [] ≡ [] = sym one ∙ none in cc never

-- without a fault nothing is asked for
pub asked_by_none : (kinds : Kinds) (shown : Bool) → kinds ≡ [] → shown ≡ false → ShowsWhatIsAsked kinds shown
asked_by_none kinds shown none hidden = (
  λ is. let never : true ≡ false = sym is ∙ hidden in absurd (true_false never),
  λ asks. elim asks [
    | inl help ↦ absurd (no_kinds DisplayHelp kinds none help)
    | inr version ↦ absurd (no_kinds DisplayVersion kinds none version)
  ],
)

pub asked_by_none_all : {T E : Type 0} (shown : T → Bool) (kinds : Kinds) → kinds ≡ [] → (result : Result T E) → IfOk result (λ wanted. shown wanted ≡ false)
    → IfOk result (λ wanted. ShowsWhatIsAsked kinds (shown wanted))
asked_by_none_all shown kinds none (Ok wanted) hidden = asked_by_none kinds (shown wanted) none hidden
asked_by_none_all shown kinds none (Err e) hidden = tt

only_kind : (k kind : ErrorKind) → (k ≡ kind) ⊎ ⊥ → k ≡ kind
only_kind k kind (inl is) = is
only_kind k kind (inr none) = absurd none

-- what is asked for is told by the kind of the error
pub asked_by_kind : (kinds : Kinds) (error : Error) → HasKind kinds error → kind_of error ≢ OutOfMemory → (shown : Bool)
    → (shown ≡ true → (kind_of error ≡ DisplayHelp) ⊎ (kind_of error ≡ DisplayVersion))
    → ((kind_of error ≡ DisplayHelp) ⊎ (kind_of error ≡ DisplayVersion) → shown ≡ true) → ShowsWhatIsAsked kinds shown
asked_by_kind kinds error (inl memory) mistake shown shows so = absurd (mistake memory)
asked_by_kind kinds error (inr among) mistake shown shows so = (
  λ is. elim (shows is) [
    | inl help ↦ inl (subst (λ kind. IsAmong kind kinds) help among)
    | inr version ↦ inr (subst (λ kind. IsAmong kind kinds) version among)
  ],
  λ asks. elim asks [
    | inl help ↦ so (inl (only_kind _ _ (subst (λ (kinds : Kinds). IsAmong (kind_of error) kinds) help among)))
    | inr version ↦ so (inr (only_kind _ _ (subst (λ (kinds : Kinds). IsAmong (kind_of error) kinds) version among)))
  ],
)

pub asked_by_fault : {T E : Type 0} (shown : T → Bool) (kinds : Kinds) (error : Error) → HasKind kinds error → (result : Result T E)
    → IfOk result (λ _. kind_of error ≢ OutOfMemory)
    → IfOk result (λ wanted. shown wanted ≡ true → (kind_of error ≡ DisplayHelp) ⊎ (kind_of error ≡ DisplayVersion))
    → IfOk result (λ wanted. (kind_of error ≡ DisplayHelp) ⊎ (kind_of error ≡ DisplayVersion) → shown wanted ≡ true)
    → IfOk result (λ wanted. ShowsWhatIsAsked kinds (shown wanted))
asked_by_fault shown kinds error has (Ok wanted) mistake shows so = asked_by_kind kinds error has mistake (shown wanted) shows so
asked_by_fault shown kinds error has (Err e) mistake shows so = tt
