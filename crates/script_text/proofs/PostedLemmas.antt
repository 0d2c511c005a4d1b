-- The bodies that were posted, and the sessions that they came to.
use Rattle.std.proofs.Common.{◌≡◌, ℕ, zero, suc, ◌+◌, ◌<◌, ◌==◌, Bool, true, false, List, [], ◌∷◌, ◌++◌, All, length, take, drop, get_or, Option, Some, None, refl, sym, subst, ◌∙◌, ap, cond, append_assoc, arith, if◌then◌else◌}
use Rattle.std.specs.Prelude.{filter, slice_get, position, nat_lt}
use Rattle.std.specs.List.{position_or_len}
use Rattle.std.proofs.lemmas.Bool.{ltb-true, ltb-false, eqb-true}
use Rattle.std.proofs.lemmas.List.{append-nil}
use Rattle.std.proofs.lemmas.List.Elements.{filter-append, All-nil, All-cons, All-head, All-tail, All-append, All-map, All-weaker}
use Rattle.std.proofs.lemmas.List.Quantifiers.{position-Some}
use Rattle.std.proofs.lemmas.List.Sums.{fails_before_first}
use Rattle.session_core.specs.declared.opening.Opening.{Opening}
use Rattle.session_core.specs.State.{is_over}
use Rattle.session_laws.specs.Growing.{Begins}
use Rattle.session_laws.proofs.Lists.{get_some}
use Rattle.session_laws.proofs.Tests.{true_false, none_some}
use Rattle.script_text.specs.declared.event.Event.{Event}
use Rattle.script_text.specs.declared.event.Event.TheVariants.{Passes}
use Rattle.script_text.specs.declared.report.ReportLine.{ReportLine}
use Rattle.script_text.specs.Live.{PlainLive, state, Turn, told, turn_at, if_live, if_over}
use Rattle.script_text.specs.Manager.{PlainManager, Change, only, closed, with_closed, place_of, comes_at, comes, passed, passed_live, passed_over, opened_live}
use Rattle.script_text.specs.Posted.{is_for, bodies_of, CameFrom}
use Rattle.script_text.specs.Stands.{IsEvent}
use Rattle.script_text.proofs.BodiesLemmas.{Brings, told_brings, brought, turn_brings}
use Rattle.script_text.proofs.PositionLemmas.{none_there, some_within}
use Rattle.script_text.proofs.ReportLemmas.{Holds}
use Rattle.script_text.proofs.SessionsLemmas.{Ended, GoesOn, TellsAll, all_both, all_front, all_back, all_at, place_splits, swapped, apart}
use Rattle.script_text.proofs.TurnLemmas.{comes_turn}

-- One session.

module _ (posts more : List (List ℕ)) (s : PlainLive) (came : CameFrom posts s) where
  longer : posts ++ more ≡ came.before ++ s.journal.opening.body ∷ (came.later ++ more)
  longer = ap (λ l. l ++ more) came.are ∙ append_assoc came.before (s.journal.opening.body ∷ came.later) more

  -- nothing more was posted for it
  pub came_apart : filter (is_for s.number) more ≡ [] → CameFrom (posts ++ more) s
  came_apart none =
      let same : filter (is_for s.number) (came.later ++ more) ≡ filter (is_for s.number) came.later
      = filter-append (is_for s.number) came.later more ∙ ap (λ l. filter (is_for s.number) came.later ++ l) none ∙ append-nil (filter (is_for s.number) came.later) in
      record {
        before = came.before;
        later = came.later ++ more;
        are = longer;
        all = λ on. came.all on ∙ ap (λ l. s.journal.opening.body ∷ l) (sym same);
        first = subst (λ l. Begins (bodies_of s.journal) (s.journal.opening.body ∷ l)) (sym same) came.first;
      }

  -- it has ended
  pub came_over : is_over (state s) ≡ true → CameFrom (posts ++ more) s
  came_over over = record {
    before = came.before;
    later = came.later ++ more;
    are = longer;
    all = λ on.
        let never : true ≡ false = sym over ∙ on in
        absurd (true_false never);
    first = (
      (came.first).0 ++ filter (is_for s.number) more,
      ap (λ l. s.journal.opening.body ∷ l) (filter-append (is_for s.number) came.later more)
          ∙ ap (λ l. l ++ filter (is_for s.number) more) (came.first).1
          ∙ append_assoc (bodies_of s.journal) (came.first).0 (filter (is_for s.number) more),
    );
  }

  -- what was posted for it came with its turn
  pub came_turn : is_over (state s) ≡ false → (turn : Turn) → Brings s (filter (is_for s.number) more) turn → CameFrom (posts ++ more) turn.after
  came_turn on turn b =
      let whole : bodies_of s.journal ++ filter (is_for s.number) more ≡ turn.after.journal.opening.body ∷ filter (is_for turn.after.number) (came.later ++ more)
      = ap (λ l. l ++ filter (is_for s.number) more) (came.all on)
      ∙ ap (λ l. s.journal.opening.body ∷ l) (sym (filter-append (is_for s.number) came.later more))
      ∙ ap (λ (o : Opening). o.body ∷ filter (is_for s.number) (came.later ++ more)) (sym b.opening)
      ∙ ap (λ n. turn.after.journal.opening.body ∷ filter (is_for n) (came.later ++ more)) (sym b.number) in
      record {
        before = came.before;
        later = came.later ++ more;
        are = longer ∙ ap (λ (o : Opening). came.before ++ o.body ∷ (came.later ++ more)) (sym b.opening);
        all = λ goes_on. b.all goes_on ∙ whole;
        first = ((b.first).0, sym whole ∙ (b.first).1);
      }

-- a turn with which nothing was posted
came_still : (posts : List (List ℕ)) (s : PlainLive) → CameFrom posts s → is_over (state s) ≡ false → (turn : Turn) → Brings s [] turn → CameFrom posts turn.after
came_still posts s came on turn b = subst (λ p. CameFrom p turn.after) (append-nil posts) (came_turn posts [] s came on turn b)

-- a session that was opened by this body
pub came_opened : (posts : List (List ℕ)) (number : ℕ) (o : Opening) (answer : List ReportLine) → CameFrom (posts ++ o.body ∷ []) (told (opened_live number o) answer).after
came_opened posts number o answer = came_still (posts ++ o.body ∷ []) (opened_live number o)
    (record { before = posts; later = []; are = refl; all = λ on. refl; first = ([], refl) }) refl (told (opened_live number o) answer) (told_brings (opened_live number o) answer)

-- All sessions.

pub record Came (posts : List (List ℕ)) (over live : List PlainLive) : Type 0 where
  pub ended : All (CameFrom posts) over
  pub going : All (CameFrom posts) live

-- after a turn of one of them
pub came_parts : (posts : List (List ℕ)) (over front back : List PlainLive) (s : PlainLive) → All (CameFrom posts) over → All (CameFrom posts) front → All (CameFrom posts) back → CameFrom posts s
    → Came posts (over ++ if_over s) (front ++ (if_live s ++ back))
came_parts posts over front back s ended before after came = record {
  ended = All-append (CameFrom posts) over (if_over s) ended (over_part (is_over (state s)));
  going = All-append (CameFrom posts) front (if_live s ++ back) before (All-append (CameFrom posts) (if_live s) back (live_part (is_over (state s))) after);
}
  where
    over_part : (b : Bool) → All (CameFrom posts) (if b then s ∷ [] else [])
    over_part true = All-cons (CameFrom posts) s [] came (All-nil (CameFrom posts))
    over_part false = All-nil (CameFrom posts)

    live_part : (b : Bool) → All (CameFrom posts) (if b then [] else s ∷ [])
    live_part true = All-nil (CameFrom posts)
    live_part false = All-cons (CameFrom posts) s [] came (All-nil (CameFrom posts))

get_is : (live : List PlainLive) (k : ℕ) (s d : PlainLive) → slice_get live k ≡ Some s → get_or live k d ≡ s
get_is [] k s d is = absurd (cc)
get_is (x ∷ live) zero s d is = cc
get_is (x ∷ live) (suc k) s d is = get_is live k s d is

-- the session at the place of a number has that number
pub number_at : (number : ℕ) (live : List PlainLive) (place : ℕ) (s : PlainLive) → position (λ s. s.number == number) live ≡ Some place → slice_get live place ≡ Some s → s.number ≡ number
number_at number live place s at is =
    let there = position-Some (λ s. s.number == number) live place s at in
    eqb-true s.number number (ap (λ (x : PlainLive). x.number == number) (sym (get_is live place s s is)) ∙ there.1)

module _ (posts more : List (List ℕ)) (report : List ReportLine) (over : List PlainLive) (m : PlainManager) (holds : Holds report over m) (came : Came posts over m.live) where
  pub overs_more : All (CameFrom (posts ++ more)) over
  overs_more = all_both (CameFrom posts) (Ended report) (CameFrom (posts ++ more)) (λ s c e. came_over posts more s c e.over) over came.ended holds.tells.ended

  pub lives_more : (live : List PlainLive) → All (CameFrom posts) live → All (λ s. filter (is_for s.number) more ≡ []) live → All (CameFrom (posts ++ more)) live
  lives_more live all none = all_both (CameFrom posts) (λ s. filter (is_for s.number) more ≡ []) (CameFrom (posts ++ more)) (λ s c n. came_apart posts more s c n) live all none

  -- nothing was posted for a live session
  pub none_came : All (λ s. filter (is_for s.number) more ≡ []) m.live → Came (posts ++ more) (over ++ []) m.live
  none_came none = record {
    ended = subst (λ o. All (CameFrom (posts ++ more)) o) (sym (append-nil over)) overs_more;
    going = lives_more m.live came.going none;
  }

  module _ (event : Event) (allowed : IsEvent event) (otherwise : ReportLine) (number : ℕ) (own : filter (is_for number) more ≡ brought event)
      (others : (k : ℕ) → (number == k) ≡ false → filter (is_for k) more ≡ []) where
    none_of : (s : PlainLive) → (s.number == number) ≡ false → filter (is_for s.number) more ≡ []
    none_of s other = others s.number (swapped s.number number other)

    turned_came : (place : ℕ) (s : PlainLive) → slice_get m.live place ≡ Some s → s.number ≡ number
        → Came (posts ++ more) (over ++ if_over (turn_at m.moment event s).after)
        (take place m.live ++ (if_live (turn_at m.moment event s).after ++ drop (place + 1) m.live))
    turned_came place s is same =
        let turn : Turn = turn_at m.moment event s in
        let next : suc place ≡ place + 1 = omega arith in
        let front : List PlainLive = take place m.live in
        let back : List PlainLive = drop (suc place) m.live in
        let splits : m.live ≡ front ++ s ∷ back = place_splits m.live place s is in
        let tells = subst (λ l. TellsAll report over l m.opened) splits holds.tells in
        let going = subst (λ l. All (CameFrom posts) l) splits came.going in
        let up = (all_at (GoesOn report) m.live place s is holds.tells.going).up in
        let differ : All (λ x. (x.number == s.number) ≡ false) (front ++ back) = apart report over front back s turn m.opened tells (comes_turn s m.moment event up allowed) in
        let none = All-weaker (λ (x : PlainLive). (x.number == s.number) ≡ false) (λ x. filter (is_for x.number) more ≡ [])
        (λ x other. none_of x (subst (λ n. (x.number == n) ≡ false) same other)) (front ++ back) differ in
        let mine = subst (λ n. filter (is_for n) more ≡ brought event) (sym same) own in
        let here = came_turn posts more s (All-head (CameFrom posts) s back (all_back (CameFrom posts) front (s ∷ back) going)) up.goes_on turn
        (subst (λ l. Brings s l turn) (sym mine) (turn_brings s m.moment event up allowed)) in
        subst (λ n. Came (posts ++ more) (over ++ if_over turn.after) (front ++ (if_live turn.after ++ drop n m.live))) next
        (came_parts (posts ++ more) over front back turn.after overs_more
        (lives_more front (all_front (CameFrom posts) front (s ∷ back) going) (all_front (λ x. filter (is_for x.number) more ≡ []) front back none))
        (lives_more back (All-tail (CameFrom posts) s back (all_back (CameFrom posts) front (s ∷ back) going)) (all_back (λ x. filter (is_for x.number) more ≡ []) front back none))
        here)

  abbrev pub AfterChange : Change → Type 0
  AfterChange change = Came (posts ++ more) (over ++ change.over) change.after.live

  module _ (event : Event) (allowed : IsEvent event) (otherwise : ReportLine) (number : ℕ) (own : filter (is_for number) more ≡ brought event)
      (others : (k : ℕ) → (number == k) ≡ false → filter (is_for k) more ≡ []) where
    at_came : (place : ℕ) → place_of m number ≡ Some place → (o : Option PlainLive) → slice_get m.live place ≡ o → AfterChange (comes_at m event otherwise place o)
    at_came place at None is =
        let there = get_some m.live place (some_within (λ s. s.number == number) m.live place at) in
        absurd (none_some (slice_get m.live place) there.0 is there.1)
    at_came place at (Some s) is = turned_came event allowed otherwise number own others place s is (number_at number m.live place s at is)

    -- what was posted comes to the session with this number
    pub comes_came : AfterChange (comes m event otherwise number)
    comes_came = by (place_of m number) refl
      where
        by : (o : Option ℕ) → place_of m number ≡ o
            → AfterChange (elim o [ None ↦ only m otherwise | Some place ↦ comes_at m event otherwise place (slice_get m.live place) ])
        by None is = none_came (All-weaker (λ (s : PlainLive). (s.number == number) ≡ false) (λ s. filter (is_for s.number) more ≡ [])
            (none_of event allowed otherwise number own others) m.live (none_there (λ s. s.number == number) m.live is))
        by (Some place) is = at_came place is (slice_get m.live place) refl

-- Time, and what closes.

passed_came : (now : ℕ) (posts : List (List ℕ)) (report : List ReportLine) (live : List PlainLive) → All (CameFrom posts) live → All (GoesOn report) live
    → Came posts (passed_over now live) (passed_live now live)
passed_came now posts report [] came going = record { ended = All-nil (CameFrom posts); going = All-nil (CameFrom posts) }
passed_came now posts report (s ∷ live) came going =
    let turn : Turn = turn_at now Passes s in
    let up = (All-head (GoesOn report) s live going).up in
    let here = came_still posts s (All-head (CameFrom posts) s live came) up.goes_on turn (turn_brings s now Passes up tt) in
    let parts = came_parts posts [] [] [] turn.after (All-nil (CameFrom posts)) (All-nil (CameFrom posts)) (All-nil (CameFrom posts)) here in
    let rest = passed_came now posts report live (All-tail (CameFrom posts) s live came) (All-tail (GoesOn report) s live going) in
    record {
      ended = All-append (CameFrom posts) (if_over turn.after) (passed_over now live) parts.ended rest.ended;
      going = All-append (CameFrom posts) (if_live turn.after) (passed_live now live)
          (all_front (CameFrom posts) (if_live turn.after) [] parts.going) rest.going;
    }

pub pass_came : (posts : List (List ℕ)) (report : List ReportLine) (over : List PlainLive) (m : PlainManager) (now : ℕ) → Holds report over m → Came posts over m.live
    → Came posts (over ++ (passed m now).over) (passed m now).after.live
pass_came posts report over m now holds came =
    let all = passed_came now posts report m.live came.going holds.tells.going in
    record { ended = All-append (CameFrom posts) over (passed_over now m.live) came.ended all.ended; going = all.going }

pub closed_came : (posts : List (List ℕ)) (over : List PlainLive) (m : PlainManager) (conn : ℕ) → Came posts over m.live
    → Came posts (over ++ (closed m conn).over) (closed m conn).after.live
closed_came posts over m conn came = record {
  ended = subst (λ o. All (CameFrom posts) o) (sym (append-nil over)) came.ended;
  going = All-map (CameFrom posts) (with_closed conn) m.live
      (All-weaker (CameFrom posts) (λ s. CameFrom posts (with_closed conn s)) (λ s c. record { before = c.before; later = c.later; are = c.are; all = c.all; first = c.first }) m.live came.going);
}
