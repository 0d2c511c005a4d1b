-- What is known of a session after moves, and after what comes behind them.
use Rattle.std.proofs.Common.{◌≡◌, ◌≢◌, ◌<◌, ◌≤◌, ◌+◌, ℕ, zero, suc, Bool, true, false, List, ◌∷◌, [], ◌++◌, length, map, set, Option, Some, None, IfSome, IfNone, Result, Ok, Err, refl, sym, ap, subst, ◌∙◌, true≢false, eq-eqb}
use Rattle.std.specs.Prelude.{◌||◌, ◌==◌, ◌*◌, bytes_eq, slice_get}
use Rattle.std.specs.List.{list_any}
use Rattle.std.proofs.lemmas.List.{length-map, map-set, set_at}
use Rattle.std.proofs.lemmas.Option.{none-some, same_Some}
use Rattle.std.specs.Bool.{⊤}
use Rattle.std.specs.Result.{IsErr, OnOk}
use Rattle.std.specs.declared.alloc.AllocError.{AllocError}
use Rattle.bosh_types.specs.Limits.{most_streams}
use Rattle.bosh_types.specs.declared.inward.Inward.{Inward}
use Rattle.bosh_types.specs.declared.inward.Inward.TheVariants as inward
use Rattle.parked_gate.specs.Passes.{Known}
use Rattle.session_journal.specs.declared.call.Call.TheVariants as calls
use Rattle.session_journal.specs.declared.call.Reply.TheVariants as replies
use Rattle.session_journal.specs.declared.entry.Entry.{Entry}
use Rattle.session_table.specs.Purses.{Sessions, Turned}
use Rattle.session_pump.specs.Calling.{Called}
use Rattle.session_pump.specs.Hosts.{HostFacts}
use Rattle.session_pump.specs.Places.{IsFirstPlace}
use Rattle.session_pump.specs.Sides.{AreOpened, HasNoHost, HasNowhere, IsNewSide, LineFacts, Moves, PassesAll, Served, Strand, StrandMoves, drops, has_no_host, is_for, is_met, is_opening, is_unmet, meets, more, none, serving, strand, stream_of, takes, wants_memory, was_met, with_side}
use Rattle.session_pump.specs.declared.line.Side.{Side}
use Rattle.session_pump.specs.declared.line.Stage.TheVariants as stages
use Rattle.session_pump.proofs.ListLemmas.{got_map, set_same}
use Rattle.session_pump.proofs.MovesLemmas.{left_by, lifted, moves_then, one_move, opened_more}
use Rattle.session_pump.proofs.TurnedLemmas.{turned_as, turned_then}

-- the moves from one line and hosts to others
abbrev pub From : Option ℕ → LineFacts → List HostFacts → LineFacts → List HostFacts → Known Entry → Known Entry → Type 0
From moment l h l' h' old new = Moves moment (serving old l h) (serving new l' h')

-- moves, and then more
pub moves_on : {moment : Option ℕ} (number : ℕ) (a b c : Sessions) (l l' l'' : LineFacts) (h h' h'' : List HostFacts) → Turned number a b (From moment l h l' h')
    → Turned number b c (From moment l' h' l'' h'') → Turned number a c (From moment l h l'' h'')
moves_on {moment} number a b c l l' l'' h h' h'' first rest =
    turned_then number a b c (From moment l h l' h') (From moment l' h' l'' h'') (From moment l h l'' h'') (λ k m n x y. moves_then x y) first rest

passes_err : (moment : Option ℕ) (s t : Served) (result : Result ⊤ AllocError) → IsErr result → Moves moment s t → PassesAll moment s t result
passes_err moment s t (Ok done) err moves = absurd (true≢false (sym err))
passes_err moment s t (Err error) err moves = moves

-- there was no memory then
pub ends_early : {moment : Option ℕ} (number : ℕ) (a b : Sessions) (l l' : LineFacts) (h h' : List HostFacts) (result : Result ⊤ AllocError) → IsErr result
    → Turned number a b (From moment l h l' h') → Turned number a b (λ old new. PassesAll moment (serving old l h) (serving new l' h') result)
ends_early {moment} number a b l l' h h' result err turned =
    turned_as number a b (From moment l h l' h') (λ old new. PassesAll moment (serving old l h) (serving new l' h') result)
    (λ k m moves. passes_err moment (serving k l h) (serving m l' h') result err moves) turned

-- there was none for the next item
pub ends_for_want : {moment : Option ℕ} (number : ℕ) (a b c : Sessions) (l l' : LineFacts) (h h' : List HostFacts) (error : AllocError) (result : Result ⊤ AllocError) → IsErr result
    → Turned number a b (From moment l h l' h') → Turned number b c (Called calls.TakeInward (Err error))
    → Turned number a c (λ old new. PassesAll moment (serving old l h) (serving new l' h') result)
ends_for_want {moment} number a b c l l' h h' error result err turned wants =
    turned_then number a b c (From moment l h l' h') (Called calls.TakeInward (Err error)) (λ old new. PassesAll moment (serving old l h) (serving new l' h') result)
    (λ k m n moves called. passes_err moment (serving k l h) (serving n l' h') result err (more moves (wants_memory n calls.TakeInward error called)))
    turned wants

no_item : (item : Option Inward) → ((x : Inward) → item ≡ Some x → ⊥) → item ≡ None
no_item None nothing = refl
no_item (Some x) nothing = absurd (nothing x refl)

-- nothing was left
pub ends_whole : {moment : Option ℕ} (number : ℕ) (a b c : Sessions) (l l' : LineFacts) (h h' : List HostFacts) (item : Option Inward) → ((x : Inward) → item ≡ Some x → ⊥) → l'.kept ≡ None
    → AreOpened l'.sides → Turned number a b (From moment l h l' h') → Turned number b c (Called calls.TakeInward (Ok (replies.TakeInward item)))
    → Turned number a c (λ old new. PassesAll moment (serving old l h) (serving new l' h') (Ok tt))
ends_whole {moment} number a b c l l' h h' item nothing kept opened turned taken =
    turned_then number a b c (From moment l h l' h') (Called calls.TakeInward (Ok (replies.TakeInward item))) (λ old new. PassesAll moment (serving old l h) (serving new l' h') (Ok tt))
    (λ k m n moves called. record {
      last = serving m l' h';
      moves = moves;
      kept = kept;
      opened = opened;
      called = subst (λ i. Called calls.TakeInward (Ok (replies.TakeInward i)) m n) (no_item item nothing) called;
      same = refl;
    })
    turned taken

-- the next item is kept
pub keeps_next : {moment : Option ℕ} (number : ℕ) (a b c : Sessions) (l l' : LineFacts) (h h' : List HostFacts) (got : Option Inward) (item : Inward) → got ≡ Some item → l'.kept ≡ None
    → Turned number a b (From moment l h l' h') → Turned number b c (Called calls.TakeInward (Ok (replies.TakeInward got)))
    → Turned number a c (From moment l h (record l' { kept = Some item }) h')
keeps_next {moment} number a b c l l' h h' got item is kept turned taken =
    turned_then number a b c (From moment l h l' h') (Called calls.TakeInward (Ok (replies.TakeInward got))) (From moment l h (record l' { kept = Some item }) h')
    (λ k m n moves called. more moves (takes n item kept (subst (λ i. Called calls.TakeInward (Ok (replies.TakeInward i)) m n) is called)))
    turned taken

-- ---- what is kept is for nobody

dropped : {moment : Option ℕ} (known : Known Entry) (l : LineFacts) (h : List HostFacts) (item : Inward) → l.kept ≡ Some item → HasNowhere (serving known l h) item
    → Moves moment (serving known l h) (serving known (record l { kept = None }) h)
dropped known l h item is nowhere = one_move (drops item is nowhere)

pub any_at : {A : Type 0} (test : A → Bool) (xs : List A) (i : ℕ) (x : A) → slice_get xs i ≡ Some x → test x ≡ true → list_any test xs ≡ true
any_at test [] i x is passes = absurd (none-some x is)
any_at test (a ∷ xs) zero x is passes = ap (λ (b : Bool). b || list_any test xs) (ap test (same_Some a x is) ∙ passes)
any_at test (a ∷ xs) (suc i) x is passes = by (test a) (any_at test xs i x is passes)
  where
    by : (b : Bool) → list_any test xs ≡ true → (b || list_any test xs) ≡ true
    by true any = refl
    by false any = any

pub eq_true : (m n : ℕ) → m ≡ n → (m == n) ≡ true
eq_true m n same = eq-eqb m n same

-- it opens a stream that was met before
pub dropped_met : {moment : Option ℕ} (known : Known Entry) (l : LineFacts) (h : List HostFacts) (item : Inward) (stream : ℕ) (place : Option ℕ) (at : ℕ) → l.kept ≡ Some item
    → is_opening item ≡ true → stream ≡ stream_of item → place ≡ Some at → IfSome place (λ p. (side : Side) × (slice_get l.sides p ≡ Some side) × (side.stream ≡ stream))
    → Moves moment (serving known l h) (serving known (record l { kept = None }) h)
dropped_met known l h item stream place at is opening of there found = dropped known l h item is (was_met opening (by (subst (λ (o : Option ℕ). IfSome o (λ p. (side : Side) × (slice_get l.sides p ≡ Some side) × (side.stream ≡ stream))) there found)))
  where
    by : (side : Side) × (slice_get l.sides at ≡ Some side) × (side.stream ≡ stream) → is_met (stream_of item) l.sides ≡ true
    by got = any_at (λ side. side.stream == stream_of item) l.sides at got.0 got.1 (eq_true got.0.stream (stream_of item) (got.2 ∙ of))

-- it is for one that wasn't met
pub dropped_unmet : {moment : Option ℕ} (known : Known Entry) (l : LineFacts) (h : List HostFacts) (place : Option ℕ) → place ≡ None
    → (item : Inward) × (l.kept ≡ Some item) × (is_opening item ≡ false)
    × IfSome place (λ at. (side : Side) × (slice_get l.sides at ≡ Some side) × (side.stream ≡ stream_of item)) × IfNone place (is_met (stream_of item) l.sides ≡ false)
    → Moves moment (serving known l h) (serving known (record l { kept = None }) h)
dropped_unmet known l h place nowhere req =
    dropped known l h req.0 req.1 (is_unmet req.2 (subst (λ (o : Option ℕ). IfNone o (is_met (stream_of req.0) l.sides ≡ false)) nowhere req.4))

-- it is for one that has no host
pub dropped_hostless : {moment : Option ℕ} (known : Known Entry) (l : LineFacts) (h : List HostFacts) (place : Option ℕ) (at : ℕ) (side : Side) → place ≡ Some at
    → (item : Inward) × (l.kept ≡ Some item) × (is_opening item ≡ false)
    × IfSome place (λ at. (side : Side) × (slice_get l.sides at ≡ Some side) × (side.stream ≡ stream_of item)) × IfNone place (is_met (stream_of item) l.sides ≡ false)
    → slice_get l.sides at ≡ Some side → AreOpened l.sides → HasNoHost h side
    → Moves moment (serving known l h) (serving known (with_side at side (record l { kept = None })) h)
dropped_hostless {moment} known l h place at side there req is opened nowhere =
    let found = subst (λ (o : Option ℕ). IfSome o (λ at. (side : Side) × (slice_get l.sides at ≡ Some side) × (side.stream ≡ stream_of req.0))) there req.3 in
    let same : found.0 ≡ side = same_Some found.0 side (sym found.1 ∙ is) in
    subst (λ (sides : List Side). Moves moment (serving known l h) (serving known (record l { kept = None; sides = sides }) h)) (sym (set_same l.sides at side is))
    (dropped known l h req.0 req.1
    (has_no_host at side req.2 is (subst (λ (s : Side). s.stream ≡ stream_of req.0) same found.2) nowhere (opened at side is)))

pub no_host : (h : List HostFacts) (side : Side) → side.host ≡ None → HasNoHost h side
no_host h side is = subst (λ (o : Option ℕ). IfSome o (λ at. length h ≤ at)) (sym is) tt

pub no_host_there : {X : Type 0} (facts : X → HostFacts) (stands : List X) (side : Side) (at : ℕ) → side.host ≡ Some at → length stands ≤ at → HasNoHost (map facts stands) side
no_host_there facts stands side at is past =
    subst (λ (o : Option ℕ). IfSome o (λ p. length (map facts stands) ≤ p)) (sym is) (subst (λ (n : ℕ). n ≤ at) (sym (length-map stands facts)) past)

-- ---- moves of a stream at a host that was lent

same_but_ends : (h i : HostFacts) → i.kept ≡ h.kept → record h { ends = i.ends } ≡ i
same_but_ends h i kept = ap (λ k. record { kept = k; ends = i.ends }) (sym kept)

pub left_as : {X : Type 0} (facts : X → HostFacts) (stands : List X) (place at : ℕ) (line : LineFacts) (stand stand' : X) (t : Strand)
    → (facts stand').kept ≡ (facts stand).kept → t.ends ≡ (facts stand').ends
    → left_by place at line (map facts stands) (facts stand) t ≡ serving t.known (with_side place t.side (record line { kept = t.kept })) (map facts (set stands at stand'))
left_as facts stands place at line stand stand' t kept ends =
    ap (λ (hs : List HostFacts). serving t.known (with_side place t.side (record line { kept = t.kept })) hs)
    (ap (λ (host : HostFacts). set (map facts stands) at host)
    (ap (λ e. record (facts stand) { ends = e }) ends ∙ same_but_ends (facts stand) (facts stand') kept)
    ∙ sym (map-set facts stands at stand'))

pub lifted_as : {moment : Option ℕ} {X : Type 0} (facts : X → HostFacts) (stands : List X) (place at : ℕ) (line : LineFacts) (side : Side) (stand stand' : X) (known : Known Entry) (t : Strand)
    → slice_get line.sides place ≡ Some side → side.host ≡ Some at → slice_get stands at ≡ Some stand → (facts stand').kept ≡ (facts stand).kept → t.ends ≡ (facts stand').ends
    → StrandMoves moment (strand known line.kept side (facts stand).ends) t
    → Moves moment (serving known line (map facts stands)) (serving t.known (with_side place t.side (record line { kept = t.kept })) (map facts (set stands at stand')))
lifted_as {moment} facts stands place at line side stand stand' known t is to there kept ends moves =
    subst (λ (s : Served). Moves moment (serving known line (map facts stands)) s) (left_as facts stands place at line stand stand' t kept ends)
    (lifted place at line (map facts stands) side (facts stand) known t is to (got_map facts stands at stand there) moves)

-- ---- an item is passed on

-- what a call needs that hands an item on to a stream
abbrev pub ToPass : LineFacts → Option ℕ → Type 0
ToPass l place = (item : Inward) × (l.kept ≡ Some item) × (is_opening item ≡ false)
    × IfSome place (λ at. (side : Side) × (slice_get l.sides at ≡ Some side) × (side.stream ≡ stream_of item)) × IfNone place (is_met (stream_of item) l.sides ≡ false)

pub to_pass : (l : LineFacts) (place : Option ℕ) (item : Inward) (stream : ℕ) → l.kept ≡ Some item → is_opening item ≡ false → stream ≡ stream_of item
    → IfSome place (λ at. (side : Side) × (slice_get l.sides at ≡ Some side) × (side.stream ≡ stream)) → IfNone place (is_met stream l.sides ≡ false) → ToPass l place
to_pass l place item stream is passing of found unmet = (
  item,
  is,
  passing,
  subst (λ (s : ℕ). IfSome place (λ at. (side : Side) × (slice_get l.sides at ≡ Some side) × (side.stream ≡ s))) of found,
  subst (λ (s : ℕ). IfNone place (is_met s l.sides ≡ false)) of unmet,
)

pub to_open : (l : LineFacts) (place : Option ℕ) (item : Inward) (stream : ℕ) → l.kept ≡ Some item → is_opening item ≡ true → stream ≡ stream_of item → place ≡ None
    → IfNone place (is_met stream l.sides ≡ false) → (other : Inward) × (l.kept ≡ Some other) × (is_opening other ≡ true) × (is_met (stream_of other) l.sides ≡ false)
to_open l place item stream is opening of nowhere unmet =
    (item, is, opening, subst (λ (s : ℕ). is_met s l.sides ≡ false) of (subst (λ (o : Option ℕ). IfNone o (is_met stream l.sides ≡ false)) nowhere unmet))

-- the side that was added is opened
pub opened_last : (xs ys : List Side) (place : ℕ) (side side' : Side) (result : Result ⊤ AllocError) → place ≡ length xs → ys ≡ xs ++ side ∷ [] → AreOpened xs
    → OnOk result (side'.stage ≢ stages.Unopened) → OnOk result (AreOpened (set ys place side'))
opened_last xs ys place side side' (Ok done) at is opened this =
    subst AreOpened (sym (ap (λ zs. set zs place side') is ∙ set_at xs side [] side' place (sym at))) (opened_more xs side' opened this)
opened_last xs ys place side side' (Err error) at is opened this = tt

pub it_passes : (l : LineFacts) (place : Option ℕ) (item : Inward) → ToPass l place → l.kept ≡ Some item → is_opening item ≡ false
it_passes l place item req is = subst (λ (i : Inward). is_opening i ≡ false) (same_Some req.0 item (sym req.1 ∙ is)) req.2

pub it_is_of : (l : LineFacts) (place : Option ℕ) (at : ℕ) (item : Inward) (side : Side) → ToPass l place → l.kept ≡ Some item → place ≡ Some at → slice_get l.sides at ≡ Some side
    → stream_of item ≡ side.stream
it_is_of l place at item side req is there stands =
    let it : req.0 ≡ item = same_Some req.0 item (sym req.1 ∙ is) in
    let found = subst (λ (o : Option ℕ). IfSome o (λ at. (side : Side) × (slice_get l.sides at ≡ Some side) × (side.stream ≡ stream_of req.0))) there req.3 in
    sym (ap stream_of it) ∙ sym found.2 ∙ ap (λ (s : Side). s.stream) (same_Some found.0 side (sym found.1 ∙ stands))

pub pass_lifted : {moment : Option ℕ} {X : Type 0} (facts : X → HostFacts) (stands : List X) (place at : ℕ) (line : LineFacts) (side side' : Side) (stand stand' : X) (known : Known Entry)
    (item : Inward) (kept kept' : Option Inward) → kept ≡ kept' → line.kept ≡ Some item
    → slice_get line.sides place ≡ Some side → side.host ≡ Some at → slice_get stands at ≡ Some stand → (facts stand').kept ≡ (facts stand).kept
    → StrandMoves moment (strand known (Some item) side (facts stand).ends) (strand known kept' side' (facts stand').ends)
    → Moves moment (serving known line (map facts stands)) (serving known (with_side place side' (record line { kept = kept })) (map facts (set stands at stand')))
pass_lifted {moment} facts stands place at line side side' stand stand' known item kept kept' same holds is to there still moves =
    subst (λ (k : Option Inward). Moves moment (serving known line (map facts stands)) (serving known (with_side place side' (record line { kept = k })) (map facts (set stands at stand')))) (sym same)
    (lifted_as facts stands place at line side stand stand' known (strand known kept' side' (facts stand').ends) is to there still refl
    (subst (λ (k : Option Inward). StrandMoves moment (strand known k side (facts stand).ends) (strand known kept' side' (facts stand').ends)) (sym holds) moves))

-- the item closes the stream
pub closing_so : (P : Inward → Type 0) (item : Inward) (stream : ℕ) → item ≡ inward.Close (stream_of item) → stream_of item ≡ stream → P (inward.Close stream) → P item
closing_so P item stream is of p = subst P (sym (is ∙ ap inward.Close of)) p

pub for_it : (item : Inward) (stream : ℕ) → stream_of item ≡ stream → is_for (stream_of item) item ≡ true → is_for stream item ≡ true
for_it item stream of for = subst (λ (s : ℕ). is_for s item ≡ true) of for

-- ---- a stream is met

first_of_map : {A B : Type 0} (test : B → Bool) (f : A → B) (xs : List A) (place : ℕ) → IsFirstPlace (λ x. test (f x)) xs place → IsFirstPlace test (map f xs) place
first_of_map test f [] place first = first
first_of_map test f (x ∷ xs) zero first = first
first_of_map test f (x ∷ xs) (suc place) first = (first.0, first_of_map test f xs place first.1)

any_of_map : {A B : Type 0} (test : B → Bool) (f : A → B) (xs : List A) → list_any test (map f xs) ≡ list_any (λ x. test (f x)) xs
any_of_map test f [] = refl
any_of_map test f (x ∷ xs) = ap (λ (b : Bool). test (f x) || b) (any_of_map test f xs)

-- to the first host of that name
pub new_side : {X : Type 0} (facts : X → HostFacts) (opening stream : ℕ) (text name : List ℕ) (stands : List X) (found : Option ℕ) (side : Side) → text ≡ name → stream < most_streams
    → IfSome found (λ place. IsFirstPlace (λ stand. bytes_eq (facts stand).ends.name text) stands place)
    → IfNone found (list_any (λ stand. bytes_eq (facts stand).ends.name text) stands ≡ false)
    → side.host ≡ found → side.stream ≡ stream → side.wire ≡ opening * most_streams + stream → side.owed ≡ None
    → IsNewSide opening stream name (map facts stands) side
new_side facts opening stream text name stands found side same small first unnamed host of wire owed =
    subst (λ (n : List ℕ). IsNewSide opening stream n (map facts stands) side) same
    (record {
      of = of;
      small = small;
      wire = wire;
      owed = owed;
      place = subst (λ (o : Option ℕ). IfSome o (λ place. IsFirstPlace (λ h. bytes_eq h.ends.name text) (map facts stands) place)) (sym host) (placed found first);
      nowhere = λ is. any_of_map (λ h. bytes_eq h.ends.name text) facts stands ∙ (missing found (sym host ∙ is) unnamed);
    })
  where
    placed : (o : Option ℕ) → IfSome o (λ place. IsFirstPlace (λ stand. bytes_eq (facts stand).ends.name text) stands place)
        → IfSome o (λ place. IsFirstPlace (λ h. bytes_eq h.ends.name text) (map facts stands) place)
    placed None told = tt
    placed (Some place) told = first_of_map (λ h. bytes_eq h.ends.name text) facts stands place told

    missing : (o : Option ℕ) → o ≡ None → IfNone o (list_any (λ stand. bytes_eq (facts stand).ends.name text) stands ≡ false)
        → list_any (λ stand. bytes_eq (facts stand).ends.name text) stands ≡ false
    missing None is told = told
    missing (Some place) is told = absurd (none-some place (sym is))

-- it is met
pub met_so : {moment : Option ℕ} (known : Known Entry) (l l' : LineFacts) (h : List HostFacts) (item : Inward) (to : List ℕ) (side : Side) → l.kept ≡ Some item
    → item ≡ inward.Open (stream_of item) to
    → ((other : Inward) × (l.kept ≡ Some other) × (is_opening other ≡ true) × (is_met (stream_of other) l.sides ≡ false))
    → IsNewSide l.opening (stream_of item) to h side → side.stage ≡ stages.Unopened → l' ≡ record l { kept = None; sides = l.sides ++ side ∷ [] }
    → Moves moment (serving known l h) (serving known l' h)
met_so {moment} known l l' h item to side is opens req new stage same =
    let it : req.0 ≡ item = same_Some req.0 item (sym req.1 ∙ is) in
    subst (λ (x : LineFacts). Moves moment (serving known l h) (serving known x h)) (sym same)
    (one_move (meets (stream_of item) to side (is ∙ ap Some opens) (subst (λ (i : Inward). is_met (stream_of i) l.sides ≡ false) it req.3) new stage))

-- by the call that added a side
pub added_so : {moment : Option ℕ} {X : Type 0} (facts : X → HostFacts) (stands : List X) (known : Known Entry) (l l' : LineFacts) (item : Inward) (text : List ℕ) (stream : ℕ) (found : Option ℕ) (side : Side)
    → l.kept ≡ Some item → item ≡ inward.Open (stream_of item) text
    → ((other : Inward) × (l.kept ≡ Some other) × (is_opening other ≡ true) × (is_met (stream_of other) l.sides ≡ false)) → stream ≡ stream_of item → stream < most_streams
    → IfSome found (λ place. IsFirstPlace (λ stand. bytes_eq (facts stand).ends.name text) stands place)
    → IfNone found (list_any (λ stand. bytes_eq (facts stand).ends.name text) stands ≡ false)
    → side ≡ record { stream = stream; host = found; wire = l.opening * most_streams + stream; stage = stages.Unopened; owed = None }
    → l' ≡ record l { kept = None; sides = l.sides ++ side ∷ [] } → Moves moment (serving known l (map facts stands)) (serving known l' (map facts stands))
added_so facts stands known l l' item text stream found side is opens req of small first unnamed made same =
    met_so known l l' (map facts stands) item text side is opens req
    (subst (λ (s : ℕ). IsNewSide l.opening s text (map facts stands) side) of
    (new_side facts l.opening stream text text stands found side refl small first unnamed (ap (λ (s : Side). s.host) made) (ap (λ (s : Side). s.stream) made) (ap (λ (s : Side). s.wire) made)
    (ap (λ (s : Side). s.owed) made)))
    (ap (λ (s : Side). s.stage) made) same

pub still_so : {moment : Option ℕ} (known : Known Entry) (l l' : LineFacts) (h : List HostFacts) → l' ≡ l → Moves moment (serving known l h) (serving known l' h)
still_so {moment} known l l' h same = subst (λ (x : LineFacts). Moves moment (serving known l h) (serving known x h)) (sym same) none
