-- What a step of a connection does over a link that never waits.
use Rattle.std.proofs.Common.{◌≡◌, ◌≢◌, ℕ, ◌+◌, ◌-◌, ◌<◌, ◌≤◌, List, [], ◌∷◌, ◌++◌, Result, Ok, Err, Bool, true, false, ◌⊎◌, Option, Some, None, inl, inr, refl, sym, ◌∙◌, ap, subst, length, take, drop, slice_range, append_assoc, append-nil, arith, take-add, take-append-drop}
use Rattle.std.proofs.KnownBytes.{Appends-trans, Appends-kept, Appends-nil, Keeps-refl, Keeps-trans}
use Rattle.std.specs.Io.KnownBytes.{Appends, Keeps, prepend_known}
use Rattle.bosh_http.specs.Reading.{Reads}
use Rattle.bosh_http.specs.Texts.{response_text}
use Rattle.bosh_http.specs.declared.reading.HttpIn.TheVariants as http
use Rattle.bosh_http.specs.declared.reading.HttpIn.{HttpIn}
use Rattle.bosh_ports.specs.Faults.{HasRisen}
use Rattle.bosh_ports.specs.Sink.{AppendsFront}
use Rattle.polled_http.specs.declared.giving.Given.{Given}
use Rattle.polled_http.specs.declared.giving.Given.TheVariants as given
use Rattle.polled_http.specs.declared.polling.HttpPolled.{HttpPolled}
use Rattle.polled_http.specs.declared.polling.HttpPolled.TheVariants as polled
use Rattle.polled_http.specs.Giving.{GivesFrom}
use Rattle.session_table.specs.declared.purse.Purse.{Purse}
use Rattle.serve_loop.specs.declared.connection.ConnectionEnd.TheVariants as ends
use Rattle.serve_loop.specs.declared.connection.Stage.{Stage}
use Rattle.serve_loop.specs.declared.connection.Stage.TheVariants as stages
use Rattle.serve_loop.specs.declared.owed.Owed.{Owed}
use Rattle.serve_loop.specs.declared.owed.Owed.TheVariants as owed
use Rattle.serve_loop.specs.declared.polled_connection.Standing.{Standing}
use Rattle.serve_loop.specs.declared.trail.Traced.{Traced}
use Rattle.serve_loop.specs.Connections.{Answered, EndsItself, Exchange, IsNext, IsServedBy, Moves, Outside, Owes, ReadsOff, Stands, closes, message, stage_behind, status_owed, text_owed}
use Rattle.serve_loop.specs.Stepping.{CountsRead, GivesOn, IsNextAt, KeepsMore, OwesFrom, StandsAt, Steps}
use Rattle.serve_loop.specs.Trail.{Setting}
use Rattle.serve_loop.proofs.ConnectionLemmas.{after_write, moves_failing, moves_given, owes_on, still}

-- nothing was given yet of what is owed
owes_whole : (site : Setting) (start now : Outside) (what : Owed) → Owes site start now what → OwesFrom site start now what 0
owes_whole site start now what owes = record { given = now.given; owes = owes; gave = Appends-nil now.given }

-- where it stands as a connection does that waits for its link, it stands as one that has given nothing yet
pub stands_whole : (site : Setting) (start now : Outside) (stage : Stage) → Stands site start now stage → StandsAt site start now 0 stage
stands_whole site start now stages.Reading stands = stands
stands_whole site start now (stages.Asked body closing) stands = stands
stands_whole site start now (stages.Waiting w closing looked) stands = stands
stands_whole site start now (stages.Owing what) owes = owes_whole site start now what owes
stands_whole site start now (stages.Over end) stands = stands

-- a move from a stage at which nothing is owed is a step
pub step_whole : (site : Setting) (old new : Outside) (first next : Standing) (from to : Stage) → first.stage ≡ from → ((start : Outside) → StandsAt site start old first.place from → Stands site start old from)
    → next.stage ≡ to → next.place ≡ 0 → Moves site old new from to → Steps site old new first next
step_whole site old new first next from to was whole is none moves start stands =
    subst (λ p. StandsAt site start new p next.stage) (sym none)
    (subst (StandsAt site start new 0) (sym is) (stands_whole site start new to (moves start (whole start (subst (StandsAt site start old first.place) was stands)))))

-- ---- reading

reads_off_kept : (stream rest rest' : Option (List ℕ)) (es : List Exchange) → ReadsOff stream es rest → Keeps rest rest' → ReadsOff stream es rest'
reads_off_kept stream rest rest' [] reads keeps = Keeps-trans stream rest rest' reads keeps
reads_off_kept stream rest rest' (e ∷ es) reads keeps = (reads.0, reads.1, reads_off_kept reads.0 rest rest' es reads.2 keeps)

-- nothing that others see changed, but that more of a request may be kept
pub steps_still : (site : Setting) (old new : Outside) (place : ℕ) (next : Standing) → Keeps old.stream new.stream → Keeps old.given new.given → new.trail ≡ old.trail → new.purse ≡ old.purse
    → new.faults ≡ old.faults → next.stage ≡ stages.Reading → Steps site old new (record { stage = stages.Reading; place = place }) next
steps_still site old new place next stream given trail purse faults is start (es, a) =
    let so = still site start old new es a given trail purse faults in
    subst (StandsAt site start new next.place) (sym is) (
      es,
      record {
        reads = reads_off_kept start.stream old.stream new.stream es a.reads stream;
        gave = so.gave;
        told = so.told;
        true_of = so.true_of;
        follows = so.follows;
        going = so.going;
        faults = so.faults;
      },
    )

-- of what was read only a failed take moves the count of faults
pub counts_read : {E : Type 0} (r : Result HttpPolled E) (answer : HttpIn) (n m : ℕ) → r ≡ Ok (polled.Came answer) → (r ≡ Ok (polled.Came http.ReadFault) → HasRisen n m)
    → (r ≢ Ok (polled.Came http.ReadFault) → m ≡ n) → CountsRead n m answer
counts_read r (http.Request body closing) n m is fault quiet = quiet (λ no. cc)
counts_read r (http.Refused refusal) n m is fault quiet = quiet (λ no. cc)
counts_read r http.End n m is fault quiet = quiet (λ no. cc)
counts_read r http.ReadFault n m is fault quiet = fault is

-- ---- giving

-- all of what is owed has been given
all_given : (given given' given'' : Option (List ℕ)) (text : List ℕ) (place : ℕ) → Appends given given' (take place text) → Appends given' given'' (drop place text) → Appends given given'' text
all_given given given' given'' text place before now =
    subst (Appends given given'') (take-append-drop place text) (Appends-trans given given' given'' (take place text) (drop place text) before now)

-- more of it has been given
given_on : (given given' given'' : Option (List ℕ)) (text : List ℕ) (place next : ℕ) → place < next → Appends given given' (take place text) → Appends given' given'' (slice_range text place next)
    → Appends given given'' (take next text)
given_on given given' given'' text place next more before now =
    let size : place + (next - place) ≡ next = omega (arith, more) in
    subst (Appends given given'') (sym (take-add place (next - place) text) ∙ ap (λ n. take n text) size)
    (Appends-trans given given' given'' (take place text) (slice_range text place next) before now)

pub steps_given : (site : Setting) (s s' given given' : Option (List ℕ)) (trail : List Traced) (purse : Purse) (n m : ℕ) (what : Owed) (place : ℕ) (next : Standing) → Keeps s s'
    → Appends given given' (drop place (message what)) → m ≡ n → next.stage ≡ stage_behind what → next.place ≡ 0
    → Steps site (after_write s given trail purse n) (after_write s' given' trail purse m) (record { stage = stages.Owing what; place = place }) next
steps_given site s s' given given' trail purse n m what place next keeps gave same is none start owes =
    let new = after_write s' given' trail purse m in
    subst (λ p. StandsAt site start new p next.stage) (sym none)
    (subst (StandsAt site start new 0) (sym is)
    (stands_whole site start new (stage_behind what)
    (moves_given site s s' owes.given given' trail purse n m what keeps (all_given owes.given given given' (message what) place owes.gave gave) same start owes.owes)))

pub steps_failing : (site : Setting) (s s' given given' : Option (List ℕ)) (trail : List Traced) (purse : Purse) (n m : ℕ) (what : Owed) (place : ℕ) (next : Standing) → Keeps s s' → Keeps given given'
    → HasRisen n m → next.stage ≡ stages.Over ends.WriteFault
    → Steps site (after_write s given trail purse n) (after_write s' given' trail purse m) (record { stage = stages.Owing what; place = place }) next
steps_failing site s s' given given' trail purse n m what place next keeps gave risen is start owes =
    let text = message what in
    subst (StandsAt site start (after_write s' given' trail purse m) next.place) (sym is)
    (moves_failing site s s' owes.given given' trail purse n m what keeps
    (take place text, drop place text, sym (take-append-drop place text), Appends-kept owes.given given given' (take place text) owes.gave gave) risen start owes.owes)

pub steps_giving : (site : Setting) (s s' given given' : Option (List ℕ)) (trail : List Traced) (purse : Purse) (n m : ℕ) (what : Owed) (place next : ℕ) → Keeps s s' → place < next
    → Appends given given' (slice_range (message what) place next) → m ≡ n
    → Steps site (after_write s given trail purse n) (after_write s' given' trail purse m) (record { stage = stages.Owing what; place = place }) (record { stage = stages.Owing what; place = next })
steps_giving site s s' given given' trail purse n m what place next keeps more gave same start owes = record {
  given = owes.given;
  owes = owes_on site start s s' owes.given trail purse n m what keeps same owes.owes;
  gave = given_on owes.given given given' (message what) place next more owes.gave gave;
}

pub steps_not_yet : (site : Setting) (s s' given given' : Option (List ℕ)) (trail : List Traced) (purse : Purse) (n m : ℕ) (what : Owed) (place : ℕ) → Keeps s s' → Keeps given given' → m ≡ n
    → Steps site (after_write s given trail purse n) (after_write s' given' trail purse m) (record { stage = stages.Owing what; place = place }) (record { stage = stages.Owing what; place = place })
steps_not_yet site s s' given given' trail purse n m what place keeps gave same start owes = record {
  given = owes.given;
  owes = owes_on site start s s' owes.given trail purse n m what keeps same owes.owes;
  gave = Appends-kept owes.given given given' (take place (message what)) owes.gave gave;
}

-- the text of these parts is the message that is owed
pub message_is : (what : Owed) (status : ℕ) (text : List ℕ) (closing : Bool) → status ≡ status_owed what → text ≡ text_owed what → closing ≡ closes what → response_text status text closing ≡ message what
message_is what status text closing is_status is_text is_closing =
    ap (λ k. response_text status text k) is_closing ∙ ap (λ t. response_text status t (closes what)) is_text ∙ ap (λ s. response_text s (text_owed what) (closes what)) is_status

-- the request that is coming is given up
pub moves_up : (site : Setting) (now : Outside) → Moves site now now stages.Reading (stages.Owing owed.NoMemory)
moves_up site now start (es, a) =
    record { exchanges = es; stream = now.stream; purse = now.purse; answered = a; came = inl (Keeps-refl now.stream, refl) }

-- what was given of a text from its beginning on is a front of it
pub front_of : (text : List ℕ) (old mid new : Option (List ℕ)) (given : Given) → GivesFrom text 0 old mid given → Keeps mid new → AppendsFront old new text
front_of text old mid new (given.Upto next) gives keeps =
    let all : next - 0 ≡ next = omega arith in
    (slice_range text 0 next, drop next text, sym (take-append-drop next text) ∙ ap (λ n. take n text ++ drop next text) (sym all), Appends-kept old mid new (slice_range text 0 next) gives.2 keeps)
front_of text old mid new given.All gave keeps = (text, [], sym (append-nil text), Appends-kept old mid new text gave keeps)
front_of text old mid new given.NotYet same keeps = ([], text, refl, Appends-kept old old new [] (Appends-nil old) (Keeps-trans old mid new same keeps))
front_of text old mid new given.Failed same keeps = ([], text, refl, Appends-kept old old new [] (Appends-nil old) (Keeps-trans old mid new same keeps))
