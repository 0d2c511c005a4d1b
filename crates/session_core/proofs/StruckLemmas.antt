-- What came to the places of ids, and what stands of it.
use Rattle.std.proofs.Common.{◌≡◌, ◌≢◌, ℕ, zero, suc, ◌+◌, ◌-◌, ◌^◌, ◌<◌, ◌≤◌, ◌==◌, ◌&&◌, ◌||◌, Bool, true, false, cond, not, nat_le, nat_lt, inl, inr, List, [], ◌∷◌, ◌++◌, map, length, filter, Option, Some, None, All, refl, sym, ◌∙◌, ap, subst, arith, add-one, if◌then◌else◌}
use Rattle.std.specs.Option.{SomeIff}
use Rattle.std.proofs.lemmas.Bool.{cases_eq}
use Rattle.std.proofs.lemmas.Bool.Decides.{nat_tests}
use Rattle.std.proofs.lemmas.List.Elements.{All-cons, All-filter, All-head, All-nil, All-tail, All-weaker, filter-append}
use Rattle.bosh_types.specs.ById.{at_id}
use Rattle.bosh_types.specs.Rid.{IsRid, greatest_rid}
use Rattle.rid_window.proofs.Struck.{at_id-without_other, at_id-without_same}
use Rattle.rid_window.specs.PlainWindow.{PlainWindow, after_strike, emptied_at, id_after, open_at, without_id}
use Rattle.rid_window.specs.StandsFor as windows
use Rattle.rid_window.specs.declared.window.Window.{Window}
use Rattle.session_core.specs.declared.copy.RequestCopy.{RequestCopy}
use Rattle.session_core.specs.declared.session.Session.{Session}
use Rattle.session_core.specs.Copy.{id_of, with_id}
use Rattle.session_core.specs.Endings.{error_text}
use Rattle.session_core.specs.Gap.{has_waited, ids_ahead, ids_from, ids_to_strike, is_to_strike, owes_errors, strike, strike_each, strike_ticket, struck}
use Rattle.session_core.specs.Machine.{bytes_for, placed}
use Rattle.session_core.specs.StandsFor.{Alike, Holds, IsLater, alike_in}
use Rattle.session_core.specs.Striking.{IsAhead}
use Rattle.session_core.specs.State.{PlainSession, Issued, Placing, Stands, Strikes, first_of, is_over, last_error, last_of, last_strike, standing, standing_after, standing_at, without}
use Rattle.session_core.specs.Tickets.{Book, strike as strike_in}
use Rattle.session_core.specs.TicketsOut.{AreOut}
use Rattle.session_core.proofs.AreOut.{struck_out}
use Rattle.session_core.proofs.WindowLemmas.{after_none, after_some, later_at, none_beyond}

-- One placing more.

pub standing_more : (copies : List RequestCopy) (first next : List Placing) → standing_after copies (first ++ next) ≡ standing_after (standing_after copies first) next
standing_more copies [] next = refl
standing_more copies (Stands copy ∷ first) next = standing_more (copies ++ copy ∷ []) first next
standing_more copies (Strikes rid moment ∷ first) next = standing_more (without rid copies) first next

pub last_more : (moment : ℕ) (first next : List Placing) → last_strike moment (first ++ next) ≡ last_strike (last_strike moment first) next
last_more moment [] next = refl
last_more moment (Stands copy ∷ first) next = last_more moment first next
last_more moment (Strikes rid at ∷ first) next = last_more at first next

pub standing_placed : (plain : PlainSession) (copy : RequestCopy) → standing (placed plain copy) ≡ standing plain ++ copy ∷ []
standing_placed plain copy = standing_more [] plain.placings (Stands copy ∷ [])

pub error_placed : (plain : PlainSession) (copy : RequestCopy) → last_error (placed plain copy) ≡ last_error plain
error_placed plain copy = last_more 0 plain.placings (Stands copy ∷ [])

pub standing_struck : (plain : PlainSession) (rid : ℕ) → standing (strike plain rid) ≡ without rid (standing plain)
standing_struck plain rid = standing_more [] plain.placings (Strikes rid plain.now ∷ [])

pub error_struck : (plain : PlainSession) (rid : ℕ) → last_error (strike plain rid) ≡ plain.now
error_struck plain rid = last_more 0 plain.placings (Strikes rid plain.now ∷ [])

-- The copies of all other ids, and what they are listed with.

kept_pair : (b : Bool) (copy : RequestCopy) (rest : List RequestCopy)
    → map with_id (cond (not b) (copy ∷ rest) rest) ≡ cond (not b) (with_id copy ∷ map with_id rest) (map with_id rest)
kept_pair true copy rest = refl
kept_pair false copy rest = refl

pub without_pairs : (rid : ℕ) (copies : List RequestCopy) → map with_id (without rid copies) ≡ without_id (map with_id copies) rid
without_pairs rid [] = refl
without_pairs rid (copy ∷ copies) =
    kept_pair (id_of copy == rid) copy (without rid copies)
    ∙ ap (λ rest. cond (not (id_of copy == rid)) (with_id copy ∷ rest) rest) (without_pairs rid copies)

-- at every other id stands what stood there
pub standing_other : (plain : PlainSession) (rid other : ℕ) → other ≢ rid → standing_at (strike plain rid) other ≡ standing_at plain other
standing_other plain rid other apart =
    ap (λ (copies : List RequestCopy). at_id (map with_id copies) other) (standing_struck plain rid)
    ∙ ap (λ (pairs : List (ℕ × RequestCopy)). at_id pairs other) (without_pairs rid (standing plain))
    ∙ at_id-without_other (map with_id (standing plain)) rid other apart

-- and at this one nothing
pub standing_none : (plain : PlainSession) (rid : ℕ) → standing_at (strike plain rid) rid ≡ None
standing_none plain rid =
    ap (λ (copies : List RequestCopy). at_id (map with_id copies) rid) (standing_struck plain rid)
    ∙ ap (λ (pairs : List (ℕ × RequestCopy)). at_id pairs rid) (without_pairs rid (standing plain))
    ∙ at_id-without_same (map with_id (standing plain)) rid

-- where nothing stood nothing stands, and what stands stood
pub still_none : (plain : PlainSession) (rid other : ℕ) → standing_at plain other ≡ None → standing_at (strike plain rid) other ≡ None
still_none plain rid other none = elim (cases_eq other rid) [
  | inl same ↦ ap (standing_at (strike plain rid)) same ∙ standing_none plain rid
  | inr apart ↦ standing_other plain rid other apart ∙ none
]

pub struck_before : (plain : PlainSession) (rid other : ℕ) (copy : RequestCopy) → standing_at (strike plain rid) other ≡ Some copy → standing_at plain other ≡ Some copy
struck_before plain rid other copy is = elim (cases_eq other rid) [
  | inl same ↦
      absurd (let never : None ≡ Some copy = sym (standing_none plain rid) ∙ ap (standing_at (strike plain rid)) (sym same) ∙ is in cc never)
  | inr apart ↦ sym (standing_other plain rid other apart) ∙ is
]

other_first : (a rid : ℕ) (copy : RequestCopy) (rest : List (ℕ × RequestCopy)) → a < rid → cond (not (a == rid)) ((a, copy) ∷ rest) rest ≡ (a, copy) ∷ rest
other_first a rid copy rest less =
    let differs : (a == rid) ≡ false = grind (arith, nat_tests, less) in
    ap (λ (b : Bool). cond (not b) ((a, copy) ∷ rest) rest) differs

-- the window without the copy of a later id
emptied_is : (creation : RequestCopy) (copies : List RequestCopy) (last rid : ℕ) → id_of creation ≤ last → last < rid → rid ≤ greatest_rid
    → emptied_at (id_after last) (map with_id (creation ∷ copies)) rid ≡ map with_id (creation ∷ without rid copies)
emptied_is creation copies last rid first later small =
    let from : nat_le (last + 1) rid ≡ true = grind (arith, nat_tests, later) in
    ap (λ (next : Option ℕ). emptied_at next (map with_id (creation ∷ copies)) rid) (after_some last (omega arith))
    ∙ ap (λ (b : Bool). cond b (without_id (map with_id (creation ∷ copies)) rid) (map with_id (creation ∷ copies))) from
    ∙ other_first (id_of creation) rid creation (without_id (map with_id copies) rid) (omega arith)
    ∙ ap (λ rest. with_id creation ∷ rest) (sym (without_pairs rid copies))

-- what stands at an id after the last one is what the window has there
pub opened_at : (creation : RequestCopy) (copies : List RequestCopy) (last rid : ℕ) → All (IsLater (id_of creation)) copies → id_of creation ≤ last → last < rid
    → open_at (id_after last) (map with_id (creation ∷ copies)) rid ≡ at_id (map with_id copies) rid
opened_at creation copies last rid ids first later = by (nat_lt last greatest_rid) refl
  where
    by : (b : Bool) → nat_lt last greatest_rid ≡ b → open_at (id_after last) (map with_id (creation ∷ copies)) rid ≡ at_id (map with_id copies) rid
    by true is =
        let from : nat_le (last + 1) rid ≡ true = grind (arith, nat_tests, later) in
        ap (λ (next : Option ℕ). open_at next (map with_id (creation ∷ copies)) rid) (after_some last (grind (arith, nat_tests, is)))
        ∙ ap (λ (b : Bool). cond b (at_id (map with_id (creation ∷ copies)) rid) None) from
        ∙ later_at creation copies rid (omega arith)
    by false is =
        let most : greatest_rid ≤ last = grind (arith, nat_tests, is) in
        ap (λ (next : Option ℕ). open_at next (map with_id (creation ∷ copies)) rid) (after_none last most)
        ∙ sym (none_beyond (id_of creation) copies rid ids (omega arith))

-- The copy of an id is struck.

and_parts : (a b : Bool) → (a && b) ≡ true → (a ≡ true) × (b ≡ true)
and_parts true b is = (refl, is)
and_parts false b is = absurd (cc)

-- it is an id after the last one
pub strike_later : (plain : PlainSession) (rid : ℕ) → is_to_strike plain rid ≡ true → last_of plain < rid
strike_later plain rid is = grind (arith, nat_tests, (and_parts (nat_lt (last_of plain) rid) (has_waited plain (standing_at plain rid)) is).0)

-- a strike leaves the test of another id as it was
pub test_other : (plain : PlainSession) (rid other : ℕ) → other ≢ rid → is_to_strike (strike plain rid) other ≡ is_to_strike plain other
test_other plain rid other apart = ap (λ (o : Option RequestCopy). nat_lt (last_of plain) other && has_waited plain o) (standing_other plain rid other apart)

pub waited_some : (plain : PlainSession) (o : Option RequestCopy) → has_waited plain o ≡ true → o ≡ None → ⊥
waited_some plain None is none = cc
waited_some plain (Some copy) is none = cc

-- it is an id after the last one, with a copy
pub struck_within : {s : Session} {plain : PlainSession} (rid : ℕ) → Holds s plain → is_to_strike plain rid ≡ true → (last_of plain < rid) × (rid ≤ greatest_rid)
struck_within {s = s} {plain = plain} rid h is =
    let parts = and_parts (nat_lt (last_of plain) rid) (has_waited plain (standing_at plain rid)) is in
    (grind (arith, nat_tests, parts.0), small (nat_le rid greatest_rid) refl parts.1)
  where
    small : (b : Bool) → nat_le rid greatest_rid ≡ b → has_waited plain (standing_at plain rid) ≡ true → rid ≤ greatest_rid
    small true le waited = grind (arith, nat_tests, le)
    small false le waited =
        let beyond : greatest_rid < rid = grind (arith, nat_tests, le) in
        absurd (waited_some plain (standing_at plain rid) waited (none_beyond (first_of plain) (standing plain) rid h.window.ids beyond))

pub struck_holds : {s : Session} {plain : PlainSession} (rid : ℕ) (error : List ℕ) (window : Window RequestCopy) (book : Book) → Holds s plain
    → is_to_strike plain rid ≡ true → error ≡ error_text
    → ((w : PlainWindow RequestCopy) → windows.StandsFor s.window w → windows.StandsFor window (after_strike w rid))
    → book ≡ record s.tickets { out = map (strike_in rid error) s.tickets.out }
    → Holds (record s { tickets = book; window = window; last_error = s.moment }) (strike plain rid)
struck_holds {s = s} {plain = plain} rid error window book h is text strikes out =
    let within = struck_within rid h is in
    let last : s.last ≡ last_of plain = h.run.last_is in
    record {
      alike =
          ap (λ (a : Alike). record a { last_error = a.now }) h.alike
          ∙ (λ i. record (alike_in plain) { last_error = sym (error_struck plain rid) i });
      run = h.run;
      latest = h.latest;
      kept = h.kept;
      inward = h.inward;
      items = h.items;
      streams = h.streams;
      tickets =
          rw out
          (subst (λ (e : List ℕ). AreOut (record s.tickets { out = map (strike_in rid e) s.tickets.out }) (map (strike_ticket rid) plain.tickets) (bytes_for plain)) (sym text)
          (struck_out (bytes_for plain) s.tickets plain.tickets rid h.tickets));
      window = record {
        stands =
            subst (λ (pairs : List (ℕ × RequestCopy)). windows.StandsFor window (record { placed = pairs; next = id_after s.last; width = plain.terms.requests }))
            (emptied_is plain.creation (standing plain) s.last rid (omega (arith, last)) (omega (arith, last, within.0)) within.1
            ∙ ap (λ (copies : List RequestCopy). map with_id (plain.creation ∷ copies)) (sym (standing_struck plain rid)))
            (strikes _ h.window.stands);
        ids =
            subst (All (IsLater (first_of plain))) (sym (standing_struck plain rid))
            (All-filter (λ copy. not (id_of copy == rid)) (IsLater (first_of plain)) (standing plain) h.window.ids);
      };
    }

-- What is at an id.

-- the window tells whether the copy of an id has waited
pub at_later : {s : Session} {plain : PlainSession} (rid : ℕ) → Holds s plain → last_of plain < rid
    → open_at (id_after s.last) (map with_id (plain.creation ∷ standing plain)) rid ≡ standing_at plain rid
at_later {s = s} {plain = plain} rid h later =
    opened_at plain.creation (standing plain) s.last rid h.window.ids (omega (arith, h.run.last_is)) (omega (arith, h.run.last_is, later))

-- an id that there isn't has no copy
pub never_struck : {s : Session} {plain : PlainSession} (rid : ℕ) → Holds s plain → nat_le rid greatest_rid ≡ false → is_to_strike plain rid ≡ false
never_struck {plain = plain} rid h beyond =
    let none : standing_at plain rid ≡ None = none_beyond (first_of plain) (standing plain) rid h.window.ids (grind (arith, nat_tests, beyond)) in
    ap (λ (o : Option RequestCopy). nat_lt (last_of plain) rid && has_waited plain o) none ∙ and_false (nat_lt (last_of plain) rid)
  where
    and_false : (b : Bool) → (b && false) ≡ false
    and_false true = refl
    and_false false = refl

pub to_strike_later : (plain : PlainSession) (rid : ℕ) (b : Bool) → last_of plain < rid → b ≡ has_waited plain (standing_at plain rid) → b ≡ is_to_strike plain rid
to_strike_later plain rid b later is =
    let test : nat_lt (last_of plain) rid ≡ true = grind (arith, nat_tests, later) in
    is ∙ sym (ap (λ (t : Bool). t && has_waited plain (standing_at plain rid)) test)

-- Several are struck, one after the other.

-- a strike leaves all but placings and tickets as they were
pub strike_each_shape : (rids : List ℕ) (plain : PlainSession)
    → strike_each rids plain ≡ record plain { placings = (strike_each rids plain).placings; tickets = (strike_each rids plain).tickets }
strike_each_shape [] plain = refl
strike_each_shape (rid ∷ rids) plain = strike_each_shape rids (strike plain rid)

pub strike_each_more : (rids more : List ℕ) (plain : PlainSession) → strike_each (rids ++ more) plain ≡ strike_each more (strike_each rids plain)
strike_each_more [] more plain = refl
strike_each_more (rid ∷ rids) more plain = strike_each_more rids more (strike plain rid)

pub standing_apart : (rids : List ℕ) (plain : PlainSession) (rid : ℕ) → All (λ other. other < rid) rids → standing_at (strike_each rids plain) rid ≡ standing_at plain rid
standing_apart [] plain rid below = refl
standing_apart (other ∷ rids) plain rid below =
    let less : other < rid = All-head (λ other. other < rid) other rids below in
    standing_apart rids (strike plain other) rid (All-tail (λ other. other < rid) other rids below)
    ∙ standing_other plain other rid (λ same. absurd (omega (arith, less, same)))

pub test_apart : (rids : List ℕ) (plain : PlainSession) (rid : ℕ) → All (λ other. other < rid) rids → is_to_strike (strike_each rids plain) rid ≡ is_to_strike plain rid
test_apart rids plain rid below =
    ap (λ (p : PlainSession). nat_lt (last_of p) rid && has_waited p (standing_at (strike_each rids plain) rid)) (strike_each_shape rids plain)
    ∙ ap (λ (o : Option RequestCopy). nat_lt (last_of plain) rid && has_waited plain o) (standing_apart rids plain rid below)

ids_next : (rid count : ℕ) → ids_from rid (suc count) ≡ ids_from rid count ++ (rid + count) ∷ []
ids_next rid zero =
    let same : rid ≡ rid + 0 = omega arith in
    ap (λ (r : ℕ). r ∷ []) same
ids_next rid (suc count) =
    let same : rid + 1 + count ≡ rid + suc count = omega arith in
    ap (λ rest. rid ∷ rest) (ids_next (rid + 1) count ∙ ap (λ (r : ℕ). ids_from (rid + 1) count ++ r ∷ []) same)

pub ids_more : (rid count : ℕ) → ids_from rid (count + 1) ≡ ids_from rid count ++ (rid + count) ∷ []
ids_more rid count = ap (ids_from rid) (add-one count) ∙ ids_next rid count

pub ids_below : (rid count bound : ℕ) → rid + count ≤ bound → All (λ other. other < bound) (ids_from rid count)
ids_below rid zero bound within = All-nil (λ other. other < bound)
ids_below rid (suc count) bound within =
    All-cons (λ other. other < bound) rid (ids_from (rid + 1) count) (omega arith) (ids_below (rid + 1) count bound (omega arith))

-- those of the first so many ids that are struck
abbrev pub first_struck : PlainSession → ℕ → List ℕ
first_struck plain count = filter (is_to_strike plain) (ids_from (last_of plain + 1) count)

pub first_below : (plain : PlainSession) (count rid : ℕ) → rid ≡ last_of plain + 1 + count → All (λ other. other < rid) (first_struck plain count)
first_below plain count rid is =
    All-filter (is_to_strike plain) (λ other. other < rid) (ids_from (last_of plain + 1) count) (ids_below (last_of plain + 1) count rid (omega (arith, is)))

one_more : (b : Bool) (rid : ℕ) (rids : List ℕ) (plain : PlainSession)
    → (if b then strike (strike_each rids plain) rid else strike_each rids plain) ≡ strike_each (rids ++ cond b (rid ∷ []) []) plain
one_more true rid rids plain = sym (strike_each_more rids (rid ∷ []) plain)
one_more false rid rids plain = sym (strike_each_more rids [] plain)

first_more : (plain : PlainSession) (count rid : ℕ) → rid ≡ last_of plain + 1 + count
    → first_struck plain count ++ cond (is_to_strike plain rid) (rid ∷ []) [] ≡ first_struck plain (count + 1)
first_more plain count rid is =
    sym (filter-append (is_to_strike plain) (ids_from (last_of plain + 1) count) (rid ∷ []))
    ∙ ap (λ (r : ℕ). filter (is_to_strike plain) (ids_from (last_of plain + 1) count ++ r ∷ [])) is
    ∙ sym (ap (filter (is_to_strike plain)) (ids_more (last_of plain + 1) count))

-- one id more
pub struck_more : (plain : PlainSession) (count rid : ℕ) → rid ≡ last_of plain + 1 + count
    → (if is_to_strike (strike_each (first_struck plain count) plain) rid then strike (strike_each (first_struck plain count) plain) rid else strike_each (first_struck plain count) plain)
    ≡ strike_each (first_struck plain (count + 1)) plain
struck_more plain count rid is =
    let now : PlainSession = strike_each (first_struck plain count) plain in
    ap (λ (b : Bool). if b then strike now rid else now) (test_apart (first_struck plain count) plain rid (first_below plain count rid is))
    ∙ one_more (is_to_strike plain rid) rid (first_struck plain count) plain
    ∙ ap (λ (rids : List ℕ). strike_each rids plain) (first_more plain count rid is)

-- Whether any is to be struck.

none_owed : (b : Bool) (rids : List ℕ) → b ≡ true → not (length (if b then [] else rids) == 0) ≡ false
none_owed true rids is = refl
none_owed false rids is = absurd (cc)

or_left : (a b : Bool) → a ≡ true → (a || b) ≡ true
or_left true b is = refl
or_left false b is = absurd (cc)

or_right : (a b : Bool) → b ≡ true → (a || b) ≡ true
or_right true b is = refl
or_right false b is = is

or_neither : (a b : Bool) → a ≡ false → b ≡ false → (a || b) ≡ false
or_neither true b is none = absurd (cc)
or_neither false b is none = none

-- after the ending, and in a session that polls, none is
pub owes_over : (plain : PlainSession) → is_over plain ≡ true → owes_errors plain ≡ false
owes_over plain over = none_owed (is_over plain || plain.terms.polled) (filter (is_to_strike plain) (ids_ahead plain)) (or_left (is_over plain) plain.terms.polled over)

pub owes_polled : (plain : PlainSession) → plain.terms.polled ≡ true → owes_errors plain ≡ false
owes_polled plain polls = none_owed (is_over plain || plain.terms.polled) (filter (is_to_strike plain) (ids_ahead plain)) (or_right (is_over plain) plain.terms.polled polls)

-- in any other
pub to_strike_live : (plain : PlainSession) → is_over plain ≡ false → plain.terms.polled ≡ false → ids_to_strike plain ≡ first_struck plain (plain.terms.requests + 1)
to_strike_live plain live holds =
    ap (λ (b : Bool). if b then [] else filter (is_to_strike plain) (ids_ahead plain)) (or_neither (is_over plain) plain.terms.polled live holds)

pub empty_or_not : {X : Type 0} (xs : List X) → not (length xs == 0) ≡ false → xs ≡ []
empty_or_not [] is = refl
empty_or_not (x ∷ xs) is = absurd (not_empty (length xs) is)
  where
    not_empty : (n : ℕ) → not (suc n == 0) ≡ false → ⊥
    not_empty n is = grind (arith, nat_tests, is)

-- where none is, nothing changes
pub struck_none : (plain : PlainSession) → owes_errors plain ≡ false → struck plain ≡ plain
struck_none plain none = ap (λ (rids : List ℕ). strike_each rids plain) (empty_or_not (ids_to_strike plain) none)

-- where one is, the session goes on and doesn't poll
pub owes_live : (plain : PlainSession) → owes_errors plain ≡ true → (is_over plain ≡ false) × (plain.terms.polled ≡ false)
owes_live plain owes = (by (is_over plain) refl, polls (plain.terms.polled) refl)
  where
    by : (b : Bool) → is_over plain ≡ b → is_over plain ≡ false
    by false is = is
    by true is = absurd (let never : true ≡ false = sym owes ∙ owes_over plain is in cc never)

    polls : (b : Bool) → plain.terms.polled ≡ b → plain.terms.polled ≡ false
    polls false is = is
    polls true is = absurd (let never : true ≡ false = sym owes ∙ owes_polled plain is in cc never)

pub struck_live : (plain : PlainSession) → owes_errors plain ≡ true → strike_each (first_struck plain (plain.terms.requests + 1)) plain ≡ struck plain
struck_live plain owes =
    let goes = owes_live plain owes in
    sym (ap (λ (rids : List ℕ). strike_each rids plain) (to_strike_live plain goes.0 goes.1))

-- Ids so many after the last one.

pub ahead_is : (plain : PlainSession) (ahead : ℕ) → 1 ≤ ahead → ahead ≤ plain.terms.requests + 1 → IsAhead plain ahead (last_of plain + ahead)
ahead_is plain ahead some few = record { some = some; few = few; is = refl }

pub ahead_struck : (plain : PlainSession) (ahead : ℕ) → 1 ≤ ahead → ahead ≤ plain.terms.requests + 1
    → IsAhead (strike_each (first_struck plain (ahead - 1)) plain) ahead (last_of plain + ahead)
ahead_struck plain ahead some few =
    subst (λ (p : PlainSession). IsAhead p ahead (last_of plain + ahead)) (sym (strike_each_shape (first_struck plain (ahead - 1)) plain))
    (record { some = some; few = few; is = refl })

pub strike_next : (plain : PlainSession) (ahead : ℕ) → 1 ≤ ahead
    → (if is_to_strike (strike_each (first_struck plain (ahead - 1)) plain) (last_of plain + ahead) then strike (strike_each (first_struck plain (ahead - 1)) plain) (last_of plain + ahead)
    else strike_each (first_struck plain (ahead - 1)) plain)
    ≡ strike_each (first_struck plain (ahead + 1 - 1)) plain
strike_next plain ahead some =
    let count : ahead - 1 + 1 ≡ ahead + 1 - 1 = omega (arith, some) in
    struck_more plain (ahead - 1) (last_of plain + ahead) (omega (arith, some)) ∙ ap (λ (n : ℕ). strike_each (first_struck plain n) plain) count

pub strike_end : (plain : PlainSession) (ahead : ℕ) → ahead ≡ plain.terms.requests + 2 → owes_errors plain ≡ true → strike_each (first_struck plain (ahead - 1)) plain ≡ struck plain
strike_end plain ahead is owes =
    let count : ahead - 1 ≡ plain.terms.requests + 1 = omega (arith, is) in
    ap (λ (n : ℕ). strike_each (first_struck plain n) plain) count ∙ struck_live plain owes

-- one id more that isn't to be struck
pub none_next : (plain : PlainSession) (ahead : ℕ) → 1 ≤ ahead → first_struck plain (ahead - 1) ≡ [] → is_to_strike plain (last_of plain + ahead) ≡ false → first_struck plain (ahead + 1 - 1) ≡ []
none_next plain ahead some none not_one =
    let count : ahead + 1 - 1 ≡ ahead - 1 + 1 = omega (arith, some) in
    ap (first_struck plain) count ∙ sym (first_more plain (ahead - 1) (last_of plain + ahead) (omega (arith, some)))
    ∙ (λ i. none i ++ cond (not_one i) ((last_of plain + ahead) ∷ []) [])

pub none_end : (plain : PlainSession) (ahead : ℕ) → ahead ≡ plain.terms.requests + 2 → is_over plain ≡ false → plain.terms.polled ≡ false → first_struck plain (ahead - 1) ≡ [] → owes_errors plain ≡ false
none_end plain ahead is live holds none =
    let count : plain.terms.requests + 1 ≡ ahead - 1 = omega (arith, is) in
    ap (λ (rids : List ℕ). not (length rids == 0)) (to_strike_live plain live holds ∙ ap (first_struck plain) count ∙ none)

some_length : (rid : ℕ) (before after : List ℕ) → not (length (before ++ rid ∷ after) == 0) ≡ true
some_length rid [] after = not_zero (length after)
  where
    not_zero : (n : ℕ) → not (suc n == 0) ≡ true
    not_zero n = grind (arith, nat_tests)
some_length rid (first ∷ before) after = not_zero (length (before ++ rid ∷ after))
  where
    not_zero : (n : ℕ) → not (suc n == 0) ≡ true
    not_zero n = grind (arith, nat_tests)

ids_split : (rid count more : ℕ) → ids_from rid (count + more) ≡ ids_from rid count ++ ids_from (rid + count) more
ids_split rid zero more =
    let same : rid ≡ rid + 0 = omega arith in
    let all : zero + more ≡ more = omega arith in
    ap (ids_from rid) all ∙ ap (λ (r : ℕ). ids_from r more) same
ids_split rid (suc count) more =
    let all : suc count + more ≡ suc (count + more) = omega arith in
    let same : rid + 1 + count ≡ rid + suc count = omega arith in
    ap (ids_from rid) all ∙ ap (λ rest. rid ∷ rest) (ids_split (rid + 1) count more ∙ ap (λ (r : ℕ). ids_from (rid + 1) count ++ ids_from r more) same)

-- where one is to be struck, errors are owed
pub some_struck : (plain : PlainSession) (ahead : ℕ) → 1 ≤ ahead → ahead ≤ plain.terms.requests + 1 → is_over plain ≡ false → plain.terms.polled ≡ false
    → is_to_strike plain (last_of plain + ahead) ≡ true → owes_errors plain ≡ true
some_struck plain ahead some few live holds due =
    let count : plain.terms.requests + 1 ≡ ahead - 1 + suc (plain.terms.requests + 1 - ahead) = omega (arith, some, few) in
    let rid : ℕ = last_of plain + ahead in
    let here : last_of plain + 1 + (ahead - 1) ≡ rid = omega (arith, some) in
    let rest : List ℕ = filter (is_to_strike plain) (ids_from (rid + 1) (plain.terms.requests + 1 - ahead)) in
    let before : List ℕ = filter (is_to_strike plain) (ids_from (last_of plain + 1) (ahead - 1)) in
    let all : first_struck plain (plain.terms.requests + 1) ≡ before ++ rid ∷ rest =
    ap (first_struck plain) count ∙ ap (filter (is_to_strike plain)) (ids_split (last_of plain + 1) (ahead - 1) (suc (plain.terms.requests + 1 - ahead)))
    ∙ filter-append (is_to_strike plain) (ids_from (last_of plain + 1) (ahead - 1)) (ids_from (last_of plain + 1 + (ahead - 1)) (suc (plain.terms.requests + 1 - ahead)))
    ∙ ap (λ (r : ℕ). before ++ filter (is_to_strike plain) (ids_from r (suc (plain.terms.requests + 1 - ahead)))) here
    ∙ ap (λ (b : Bool). before ++ cond b (rid ∷ rest) rest) due in
    ap (λ (rids : List ℕ). not (length rids == 0)) (to_strike_live plain live holds ∙ all) ∙ some_length rid before rest

-- the request id that is this number, if there is one
pub rid_from : (o : Option ℕ) (value rid : ℕ) → SomeIff o (IsRid value) value → value ≡ rid → 1 ≤ rid → o ≡ (if nat_le rid greatest_rid then Some rid else None)
rid_from (Some found) value rid is same some =
    let within : nat_le rid greatest_rid ≡ true = grind (arith, nat_tests, is.0, same) in
    ap Some (is.1 ∙ same) ∙ sym (ap (λ (b : Bool). if b then Some rid else None) within)
rid_from None value rid is same some = by (nat_le rid greatest_rid) refl
  where
    by : (b : Bool) → nat_le rid greatest_rid ≡ b → None ≡ (if b then Some rid else None)
    by false beyond = refl
    by true within =
        let small : rid ≤ greatest_rid = grind (arith, nat_tests, within) in
        absurd (is (omega (arith, same, some), omega (arith, same, small)))

-- a number that has no place in 64 bits is no request id
pub rid_beyond : (rid : ℕ) → 2 ^ 64 ≤ rid → None ≡ (if nat_le rid greatest_rid then Some rid else None)
rid_beyond rid most =
    let beyond : nat_le rid greatest_rid ≡ false = grind (arith, nat_tests, most) in
    sym (ap (λ (b : Bool). if b then Some rid else None) beyond)

pub some_rid : (b : Bool) (rid found : ℕ) → (if b then Some rid else None) ≡ Some found → found ≡ rid
some_rid true rid found is = cc
some_rid false rid found is = absurd (cc)

pub none_rid : (b : Bool) (rid : ℕ) → (if b then Some rid else None) ≡ None → b ≡ false
none_rid true rid is = absurd (cc)
none_rid false rid is = refl

pub struck_test : (plain : PlainSession) (moment rid found : ℕ) (b : Bool) → found ≡ rid → last_of plain < found → b ≡ has_waited (record plain { now = moment }) (standing_at plain found)
    → b ≡ is_to_strike (record plain { now = moment }) rid
struck_test plain moment rid found b same later is =
    subst (λ (r : ℕ). b ≡ is_to_strike (record plain { now = moment }) r) same (to_strike_later (record plain { now = moment }) found b later is)

pub left_alone : (plain : PlainSession) (rid : ℕ) → is_to_strike plain rid ≡ false → plain ≡ (if is_to_strike plain rid then strike plain rid else plain)
left_alone plain rid none = sym (ap (λ (b : Bool). if b then strike plain rid else plain) none)

pub struck_now : (plain : PlainSession) (rid : ℕ) → is_to_strike plain rid ≡ true → strike plain rid ≡ (if is_to_strike plain rid then strike plain rid else plain)
struck_now plain rid due = sym (ap (λ (b : Bool). if b then strike plain rid else plain) due)
