-- A client that sends one body for each id: what goes inward is what its bodies carry, in order, each once.
use Rattle.std.proofs.Common.{◌≡◌, ℕ, zero, suc, ◌+◌, ◌<◌, All, List, [], ◌∷◌, ◌++◌, Option, Some, Ok, Result, length, slice_get, get_or, refl, sym, ◌∙◌, ap, ap₂, arith, subst, length-append}
use Rattle.std.specs.Option.{option_map}
use Rattle.std.proofs.lemmas.Option.{get_or_from_slice_get}
use Rattle.std.proofs.lemmas.List.Elements.{All-cons, All-nil, All-append}
use Rattle.bosh_types.specs.declared.inward.Inward.{Inward}
use Rattle.body_cutter.specs.declared.parts.Cut.{Cut}
use Rattle.body_cutter.specs.Cutting.{body_cut_of}
use Rattle.session_attrs.specs.declared.request.Request.{Request}
use Rattle.session_attrs.specs.Reading.{request_of}
use Rattle.session_attrs.specs.Values.{values_of}
use Rattle.session_core.specs.declared.copy.RequestCopy.{RequestCopy}
use Rattle.session_core.specs.Copy.{id_of}
use Rattle.session_core.specs.Journal.{Entered, Entry, Journal, IsJournal, IsReadFrom, IsMade, MayEnter, none, more, state_of}
use Rattle.session_core.specs.Machine.{creation_of}
use Rattle.session_core.specs.Processed.{Processed, as_creation, items_by, items_of, items_of_all, targets_among}
use Rattle.session_core.specs.Run.{moment_after, arrival_in, arrivals_from, arrivals_of, placings_of, run_of, IsRun}
use Rattle.session_core.specs.State.{PlainSession, inward, run}
use Rattle.session_laws.specs.OneBody.{Carries, all_processed, carried, SendsOneBody, RunCarries}
use Rattle.session_laws.proofs.Arrivals.{every_arrived}
use Rattle.session_laws.proofs.Steps.{entry-by}
use Rattle.session_laws.proofs.Lists.{copies_length, get_copies, get_within}

IsRead : RequestCopy → Type 0
IsRead copy = IsReadFrom copy.body copy.request

entry_reads : (moment : ℕ) (s : PlainSession) (entered : Entered) → MayEnter s entered → All IsRead (arrival_in moment entered)
unfolding IsRead
entry_reads moment s entered may = entry-by s (λ e u. All IsRead (arrival_in moment e)) (record {
  arrives = λ request body now allowed on room. All-cons IsRead _ [] allowed.0 (All-nil IsRead);
  backs = λ stream stanza now allowed on room. All-nil IsRead;
  closes = λ stream closing now on room. All-nil IsRead;
  ticks = λ now on due room. All-nil IsRead;
  collects = λ index ticket is. All-nil IsRead;
  takes = λ item is. All-nil IsRead;
  limits = λ kind cost now on full. All-nil IsRead;
}) entered may

reads_from : {s : PlainSession} {entries : List Entry} (moment : ℕ) → IsMade s entries → All IsRead (arrivals_from moment entries)
reads_from moment none = All-nil IsRead
reads_from moment (more {s = u} {entry} {entries} may rest) =
    All-append IsRead (arrival_in moment entry.entered) (arrivals_from (moment_after moment entry.entered) entries) (entry_reads moment u entry.entered may) (reads_from (moment_after moment entry.entered) rest)

-- whatever arrived is read from its body
pub all_read : (journal : Journal) → IsJournal journal → All (λ (copy : RequestCopy). IsReadFrom copy.body copy.request) (arrivals_of journal)
unfolding IsRead
all_read journal made = All-cons IsRead (creation_of journal.opening) (arrivals_from journal.opening.at journal.entries) (made.0).read (reads_from journal.opening.at made.1)

-- what is said of all copies is said of each
all_get : (P : RequestCopy → Type 0) (copies : List RequestCopy) (k : ℕ) (copy : RequestCopy) → slice_get copies k ≡ Some copy → All P copies → P copy
all_get P copies k copy at all = subst P (get_or_from_slice_get copies k copy copy at) (all k copy (get_within copies k copy at))

ok_is : {X Y : Type 0} (r s : Result X Y) (x y : X) → r ≡ s → r ≡ Ok x → s ≡ Ok y → x ≡ y
ok_is r s x y same is also = cc

-- one body is read in one way
pub one_reading : (body : List ℕ) (q r : Request) → IsReadFrom body q → IsReadFrom body r → q ≡ r
one_reading body q r first second =
    let cut : first.0 ≡ second.0 = ok_is (body_cut_of body) (body_cut_of body) first.0 second.0 refl first.1 second.1 in
    ok_is (request_of (values_of body first.0.attrs) first.0.children) (request_of (values_of body second.0.attrs) second.0.children) q r (ap (λ (c : Cut). request_of (values_of body c.attrs) c.children) cut) first.2 second.2

carries_items : (one : Processed) (body : List ℕ) (items : List Inward) → one.copy.body ≡ body → IsReadFrom one.copy.body one.copy.request → Carries body one.running one.opened items → items_of one ≡ items
carries_items one body items is read carries =
    let same : one.copy.request ≡ carries.request = one_reading body one.copy.request carries.request (subst (λ b. IsReadFrom b one.copy.request) is read) carries.read in
    ap₂ (λ (r : Request) (b : List ℕ). items_by (record { request = r; body = b; arrived = 0 }) (targets_among one.running r.stream) one.opened) same is ∙ sym carries.are

run_carried : (items : ℕ → List Inward) (first : ℕ) (run : List Processed) → ((k : ℕ) (one : Processed) → slice_get run k ≡ Some one → items_of one ≡ items (first + k)) → items_of_all run ≡ carried items first (length run)
run_carried items first [] each = refl
run_carried items first (one ∷ run) each =
    ap₂ (λ here later. here ++ later) (each 0 one refl ∙ ap items zero_more) (run_carried items (first + 1) run (λ k c is. each (suc k) c is ∙ ap items (next k)))
  where
    zero_more : first + 0 ≡ first
    zero_more = omega arith

    next : (k : ℕ) → first + suc k ≡ first + 1 + k
    next k = omega arith

pub every_one_body : (journal : Journal) → IsJournal journal → IsRun journal.opening.request.rid (placings_of journal) (run_of journal) → (bodies : ℕ → List ℕ) (items : ℕ → List Inward) → SendsOneBody bodies journal → RunCarries bodies items journal
    → inward (state_of journal) ≡ carried items journal.opening.request.rid (length (run_of journal))
every_one_body journal made is_run bodies items sends carries =
    let s : PlainSession = state_of journal in
    run_carried items journal.opening.request.rid (all_processed s)
    (λ k one is.
    let rid : ℕ = journal.opening.request.rid + k in
    let received = is_run k one.copy (all_copies s k one is) in
    let came = every_arrived journal made rid one.copy received in
    let body : one.copy.body ≡ bodies rid = all_get (λ (c : RequestCopy). c.body ≡ bodies (id_of c)) (arrivals_of journal) came.0 one.copy came.1 sends ∙ ap bodies received.0 in
    carries_items one (bodies rid) (items rid) body (all_get (λ (c : RequestCopy). IsReadFrom c.body c.request) (arrivals_of journal) came.0 one.copy came.1 (all_read journal made)) (carries k one is))
    ∙ ap (carried items journal.opening.request.rid) (ap suc (sym (copies_length s.processed)))
  where
    all_copies : (s : PlainSession) (k : ℕ) (one : Processed) → slice_get (all_processed s) k ≡ Some one → slice_get (run s) k ≡ Some one.copy
    all_copies s zero one is = ap (λ (o : Option Processed). option_map (λ (p : Processed). p.copy) o) is
    all_copies s (suc k) one is = get_copies s.processed k one is
