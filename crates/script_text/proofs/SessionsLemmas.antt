-- The sessions of a script so far, and what its report so far tells of them.
use Rattle.std.proofs.Common.{◌≡◌, ℕ, zero, suc, ◌+◌, ◌≤◌, ◌==◌, Bool, true, false, List, [], ◌∷◌, ◌++◌, All, Some, length, drop, take, get_or, map, refl, sym, subst, ◌∙◌, ap, arith, cond, append_assoc, if◌then◌else◌}
use Rattle.std.specs.Prelude.{filter, count_by, ◌&&◌, nat_le, slice_get}
use Rattle.std.proofs.lemmas.Bool.{eqb-true, eqb-false, ne_eqb, leb-true, leb-false}
use Rattle.std.proofs.lemmas.List.{append-nil}
use Rattle.std.proofs.lemmas.List.Elements.{filter-append, All-nil, All-cons, All-head, All-tail, All-append, All-filter, All-weaker}
use Rattle.std.proofs.lemmas.List.Sums.{sum_by-append, sum_by-cons}
use Rattle.session_core.specs.Journal.{IsJournal}
use Rattle.session_core.specs.State.{inward, is_over}
use Rattle.script_text.specs.declared.event.Event.TheVariants.{Passes}
use Rattle.script_text.specs.declared.report.ReportLine.{ReportLine}
use Rattle.script_text.specs.declared.report.ReportLine.TheVariants.{In, Out, Lost, Gone, Refused, Over, Done, Bad}
use Rattle.script_text.specs.Headline.{is_opened, is_numbered, NamesOpened, tells_of, IsTold}
use Rattle.script_text.specs.Live.{PlainLive, state, Turn, over_lines, turn_at, if_live, if_over}
use Rattle.script_text.specs.Manager.{passed_lines, passed_live, passed_over}
use Rattle.script_text.specs.Script.{is_told}
use Rattle.script_text.proofs.ToldLemmas.{same_number, taken, IsTurnOf}
use Rattle.script_text.proofs.TurnLemmas.{IsUp, none_over, all_taken_of, comes_turn}

-- a session that ended, and one that is live, of which the report tells
pub record Ended (report : List ReportLine) (s : PlainLive) : Type 0 where
  pub made : IsJournal s.journal
  pub told : IsTold report s
  pub over : is_over (state s) ≡ true

pub record GoesOn (report : List ReportLine) (s : PlainLive) : Type 0 where
  pub up : IsUp s
  pub told : IsTold report s

abbrev pub one_if : Bool → ℕ
one_if b = if b then 1 else 0

-- the report so far tells of the sessions so far
pub record TellsAll (report : List ReportLine) (over live : List PlainLive) (opened : ℕ) : Type 0 where
  pub numbers : (k : ℕ) → count_by (is_numbered k) (over ++ live) ≡ one_if (is_opened opened k)
  pub named : All (NamesOpened opened) report
  pub ended : All (Ended report) over
  pub going : All (GoesOn report) live

-- Lists.

pub all_both : {X : Type 0} (P Q R : X → Type 0) → ((x : X) → P x → Q x → R x) → (xs : List X) → All P xs → All Q xs → All R xs
all_both P Q R both xs ps qs = λ k d within. both (get_or xs k d) (ps k d within) (qs k d within)

module _ {X : Type 0} (P : X → Type 0) where
  pub all_front : (xs ys : List X) → All P (xs ++ ys) → All P xs
  all_front [] ys all = All-nil P
  all_front (x ∷ xs) ys all = All-cons P x xs (All-head P x (xs ++ ys) all) (all_front xs ys (All-tail P x (xs ++ ys) all))

  pub all_back : (xs ys : List X) → All P (xs ++ ys) → All P ys
  all_back [] ys all = all
  all_back (x ∷ xs) ys all = all_back xs ys (All-tail P x (xs ++ ys) all)

  pub all_at : (xs : List X) (k : ℕ) (x : X) → slice_get xs k ≡ Some x → All P xs → P x
  all_at [] k x is all = absurd (cc)
  all_at (y ∷ xs) zero x is all =
      let same : y ≡ x = cc in
      subst P same (All-head P y xs all)
  all_at (y ∷ xs) (suc k) x is all = all_at xs k x is (All-tail P y xs all)

module _ {X : Type 0} (p : X → Bool) where
  pub count_append : (xs ys : List X) → count_by p (xs ++ ys) ≡ count_by p xs + count_by p ys
  count_append xs ys = sum_by-append (λ x. cond (p x) 1 0) xs ys

  pub count_cons : (x : X) (xs : List X) → count_by p (x ∷ xs) ≡ cond (p x) 1 0 + count_by p xs
  count_cons x xs = sum_by-cons (λ x. cond (p x) 1 0) x xs

  pub none_passes : (xs : List X) → count_by p xs ≡ 0 → All (λ x. p x ≡ false) xs
  none_passes [] none = All-nil (λ x. p x ≡ false)
  none_passes (x ∷ xs) none = by (none_passes xs) (p x) refl
    where
      by : (count_by p xs ≡ 0 → All (λ x. p x ≡ false) xs) → (b : Bool) → p x ≡ b → All (λ x. p x ≡ false) (x ∷ xs)
      by rest true is =
          let one : one_if (p x) ≡ 1 = ap one_if is in
          absurd (omega (arith, count_cons x xs, none, one))
      by rest false is =
          let no : one_if (p x) ≡ 0 = ap one_if is in
          All-cons (λ x. p x ≡ false) x xs is (rest (omega (arith, count_cons x xs, none, no)))

-- a place in a list
pub place_splits : {X : Type 0} (xs : List X) (k : ℕ) (x : X) → slice_get xs k ≡ Some x → xs ≡ take k xs ++ (x ∷ drop (suc k) xs)
place_splits [] k x is = absurd (cc)
place_splits (y ∷ xs) zero x is =
    let same : y ≡ x = cc in
    ap (λ z. z ∷ xs) same
place_splits (y ∷ xs) (suc k) x is = ap (λ l. y ∷ l) (place_splits xs k x is)

-- Numbers.

pub one_if-few : (b : Bool) → one_if b ≤ 1
one_if-few true = omega arith
one_if-few false = omega arith

pub one_if-true : (b : Bool) → 1 ≤ one_if b → b ≡ true
one_if-true true some = refl
one_if-true false some = absurd (omega arith)

pub swapped : (a b : ℕ) → (a == b) ≡ false → (b == a) ≡ false
swapped a b is = ne_eqb b a (λ same. eqb-false a b is (sym same))

pub opened_more : (opened k : ℕ) → one_if (is_opened opened k) + one_if ((opened + 1) == k) ≡ one_if (is_opened (opened + 1) k)
opened_more opened k = by (nat_le 1 k) (nat_le k opened) ((opened + 1) == k) (nat_le k (opened + 1)) refl refl refl refl
  where
    by : (a b c d : Bool) → nat_le 1 k ≡ a → nat_le k opened ≡ b → ((opened + 1) == k) ≡ c → nat_le k (opened + 1) ≡ d
        → one_if (a && b) + one_if c ≡ one_if (a && d)
    by false b true d a_is b_is c_is d_is = absurd (omega (arith, leb-false 1 k a_is, eqb-true (opened + 1) k c_is))
    by false b false d a_is b_is c_is d_is = refl
    by true true true d a_is b_is c_is d_is = absurd (omega (arith, leb-true k opened b_is, eqb-true (opened + 1) k c_is))
    by true true false true a_is b_is c_is d_is = refl
    by true true false false a_is b_is c_is d_is = absurd (omega (arith, leb-true k opened b_is, leb-false k (opened + 1) d_is))
    by true false true true a_is b_is c_is d_is = refl
    by true false true false a_is b_is c_is d_is = absurd (omega (arith, eqb-true (opened + 1) k c_is, leb-false k (opened + 1) d_is))
    by true false false true a_is b_is c_is d_is =
        let other : (opened + 1 ≡ k) → ⊥ = eqb-false (opened + 1) k c_is in
        absurd (omega (arith, other, leb-false k opened b_is, leb-true k (opened + 1) d_is))
    by true false false false a_is b_is c_is d_is = refl

-- The report goes on.

told_on : (report lines : List ReportLine) (s : PlainLive) → IsTold report s → filter (tells_of s.number) lines ≡ [] → IsTold (report ++ lines) s
told_on report lines s told none =
    filter-append (tells_of s.number) report lines ∙ ap (λ l. filter (tells_of s.number) report ++ l) none ∙ append-nil (filter (tells_of s.number) report) ∙ told

-- another report that tells the same
pub tells_same : (report other : List ReportLine) (over live : List PlainLive) (opened : ℕ) → ((k : ℕ) → filter (tells_of k) other ≡ filter (tells_of k) report)
    → All (NamesOpened opened) other → TellsAll report over live opened → TellsAll other over live opened
tells_same report other over live opened same named tells = record {
  numbers = tells.numbers;
  named = named;
  ended = All-weaker (Ended report) (Ended other) (λ s e. record { made = e.made; told = same s.number ∙ e.told; over = e.over }) over tells.ended;
  going = All-weaker (GoesOn report) (GoesOn other) (λ s g. record { up = g.up; told = same s.number ∙ g.told }) live tells.going;
}

-- lines that tell of no session
pub tells_on : (report lines : List ReportLine) (over live : List PlainLive) (opened : ℕ) → ((k : ℕ) → filter (tells_of k) lines ≡ []) → All (NamesOpened opened) lines
    → TellsAll report over live opened → TellsAll (report ++ lines) over live opened
tells_on report lines over live opened silent named tells = tells_same report (report ++ lines) over live opened
    (λ k. filter-append (tells_of k) report lines ∙ ap (λ l. filter (tells_of k) report ++ l) (silent k) ∙ append-nil (filter (tells_of k) report))
    (All-append (NamesOpened opened) report lines tells.named named) tells

told_same : (k : ℕ) (lines : List ReportLine) → filter (tells_of k) (filter is_told lines) ≡ filter (tells_of k) lines
told_same k [] = refl
told_same k (In session item ∷ lines) = ap (λ l. cond (session == k) (In session item ∷ l) l) (told_same k lines)
told_same k (Out conn body ∷ lines) = told_same k lines
told_same k (Lost conn ∷ lines) = told_same k lines
told_same k (Gone conn ∷ lines) = told_same k lines
told_same k (Refused session refusal ∷ lines) = told_same k lines
told_same k (Over session ending ∷ lines) = ap (λ l. cond (session == k) (Over session ending ∷ l) l) (told_same k lines)
told_same k (Done line ∷ lines) = told_same k lines
told_same k (Bad line kind ∷ lines) = told_same k lines

-- of some lines only what goes inward and the endings are reported
pub tells_told : (report lines : List ReportLine) (over live : List PlainLive) (opened : ℕ) → TellsAll (report ++ lines) over live opened
    → TellsAll (report ++ filter is_told lines) over live opened
tells_told report lines over live opened tells = tells_same (report ++ lines) (report ++ filter is_told lines) over live opened
    (λ k. filter-append (tells_of k) report (filter is_told lines) ∙ ap (λ l. filter (tells_of k) report ++ l) (told_same k lines) ∙ sym (filter-append (tells_of k) report lines))
    (All-append (NamesOpened opened) report (filter is_told lines) (all_front (NamesOpened opened) report lines tells.named)
    (All-filter is_told (NamesOpened opened) lines (all_back (NamesOpened opened) report lines tells.named)))
    tells

-- A session after its turn.

pub if_over-part : (P : PlainLive → Type 0) (s : PlainLive) → (is_over (state s) ≡ true → P s) → All P (if_over s)
if_over-part P s holds = by (is_over (state s)) refl
  where
    by : (b : Bool) → is_over (state s) ≡ b → All P (if b then s ∷ [] else [])
    by true is = All-cons P s [] (holds is) (All-nil P)
    by false is = All-nil P

pub if_live-part : (P : PlainLive → Type 0) (s : PlainLive) → (is_over (state s) ≡ false → P s) → All P (if_live s)
if_live-part P s holds = by (is_over (state s)) refl
  where
    by : (b : Bool) → is_over (state s) ≡ b → All P (if b then [] else s ∷ [])
    by true is = All-nil P
    by false is = All-cons P s [] (holds is) (All-nil P)

pub either_counts : (p : PlainLive → Bool) (s : PlainLive) → count_by p (if_over s) + count_by p (if_live s) ≡ count_by p (s ∷ [])
either_counts p s = by (is_over (state s))
  where
    by : (b : Bool) → count_by p (if b then s ∷ [] else []) + count_by p (if b then [] else s ∷ []) ≡ count_by p (s ∷ [])
    by true = omega arith
    by false = omega arith

module _ (report lines : List ReportLine) (over front back : List PlainLive) (t : PlainLive) (opened : ℕ)
    (numbers : (k : ℕ) → count_by (is_numbered k) (over ++ (front ++ back)) + count_by (is_numbered k) (t ∷ []) ≡ one_if (is_opened opened k))
    (named_before : All (NamesOpened opened) report) (named_now : All (NamesOpened opened) lines)
    (ended : All (Ended report) over) (before : All (GoesOn report) front) (after : All (GoesOn report) back)
    (others : (k : ℕ) → (t.number == k) ≡ false → filter (tells_of k) lines ≡ [])
    (made : IsJournal t.journal) (all : (state t).passed ≡ length (inward (state t))) (told : IsTold (report ++ lines) t) where
  absent : count_by (is_numbered t.number) (over ++ (front ++ back)) ≡ 0
  absent =
      let sum = numbers t.number in
      let one : count_by (is_numbered t.number) (t ∷ []) ≡ 1 = ap (λ b. 0 + cond b 1 0) (same_number t.number) in
      let few = one_if-few (is_opened opened t.number) in
      omega (arith, sum, one, few)

  other_numbers : All (λ s. is_numbered t.number s ≡ false) (over ++ (front ++ back))
  other_numbers = none_passes (is_numbered t.number) (over ++ (front ++ back)) absent

  silent : (s : PlainLive) → is_numbered t.number s ≡ false → filter (tells_of s.number) lines ≡ []
  silent s other = others s.number (swapped s.number t.number other)

  goes_on : (live : List PlainLive) → All (λ s. is_numbered t.number s ≡ false) live → All (GoesOn report) live → All (GoesOn (report ++ lines)) live
  goes_on live other on = all_both (λ s. is_numbered t.number s ≡ false) (GoesOn report) (GoesOn (report ++ lines))
      (λ s apart g. record { up = g.up; told = told_on report lines s g.told (silent s apart) }) live other on

  still_ended : All (Ended (report ++ lines)) over
  still_ended = all_both (λ s. is_numbered t.number s ≡ false) (Ended report) (Ended (report ++ lines))
      (λ s apart e. record { made = e.made; told = told_on report lines s e.told (silent s apart); over = e.over }) over
      (all_front (λ s. is_numbered t.number s ≡ false) over (front ++ back) other_numbers) ended

  counts : (k : ℕ) → count_by (is_numbered k) ((over ++ if_over t) ++ (front ++ (if_live t ++ back))) ≡ one_if (is_opened opened k)
  counts k =
      let p = is_numbered k in
      let a = count_append p (over ++ if_over t) (front ++ (if_live t ++ back)) in
      let b = count_append p over (if_over t) in
      let c = count_append p front (if_live t ++ back) in
      let d = count_append p (if_live t) back in
      let e = either_counts p t in
      let f = count_append p over (front ++ back) in
      let g = count_append p front back in
      let h = numbers k in
      omega (arith, a, b, c, d, e, f, g, h)

  pub puts : TellsAll (report ++ lines) (over ++ if_over t) (front ++ (if_live t ++ back)) opened
  puts =
      let rest = all_back (λ s. is_numbered t.number s ≡ false) over (front ++ back) other_numbers in
      record {
        numbers = counts;
        named = All-append (NamesOpened opened) report lines named_before named_now;
        ended = All-append (Ended (report ++ lines)) over (if_over t) still_ended
            (if_over-part (Ended (report ++ lines)) t (λ is. record { made = made; told = told; over = is }));
        going = All-append (GoesOn (report ++ lines)) front (if_live t ++ back)
            (goes_on front (all_front (λ s. is_numbered t.number s ≡ false) front back rest) before)
            (All-append (GoesOn (report ++ lines)) (if_live t) back
            (if_live-part (GoesOn (report ++ lines)) t (λ is. record { up = record { made = made; goes_on = is; all = all }; told = told }))
            (goes_on back (all_back (λ s. is_numbered t.number s ≡ false) front back rest) after));
      }

-- what was told before and what the turn tells
turn_told : (report : List ReportLine) (s : PlainLive) (turn : Turn) → filter (tells_of s.number) report ≡ map (In s.number) (taken s) → IsTurnOf s turn → IsTold (report ++ turn.lines) turn.after
turn_told report s turn before t =
    subst (λ n. filter (tells_of n) (report ++ turn.lines) ≡ map (In n) (inward (state turn.after)) ++ over_lines n (state turn.after).ending) (sym t.number)
    (filter-append (tells_of s.number) report turn.lines ∙ ap (λ l. l ++ filter (tells_of s.number) turn.lines) before ∙ t.own)

module _ (report : List ReportLine) (over front back : List PlainLive) (s : PlainLive) (turn : Turn) (opened : ℕ)
    (tells : TellsAll report over (front ++ s ∷ back) opened) (t : IsTurnOf s turn) where
  on : GoesOn report s
  on = All-head (GoesOn report) s back (all_back (GoesOn report) front (s ∷ back) tells.going)

  before_is : filter (tells_of s.number) report ≡ map (In s.number) (taken s)
  before_is =
      on.told ∙ ap (λ l. map (In s.number) (inward (state s)) ++ l) (none_over s.number (state s).ending on.up.goes_on)
      ∙ append-nil (map (In s.number) (inward (state s)))
      ∙ ap (map (In s.number)) (sym (all_taken_of s on.up.all))

  with_it : (k : ℕ) → count_by (is_numbered k) (over ++ (front ++ s ∷ back)) ≡ count_by (is_numbered k) (over ++ (front ++ back)) + count_by (is_numbered k) (s ∷ [])
  with_it k =
      let p = is_numbered k in
      let a = count_append p over (front ++ s ∷ back) in
      let b = count_append p front (s ∷ back) in
      let c = count_append p (s ∷ []) back in
      let d = count_append p over (front ++ back) in
      let e = count_append p front back in
      omega (arith, a, b, c, d, e)

  counts_same : (k : ℕ) → count_by (is_numbered k) (over ++ (front ++ back)) + count_by (is_numbered k) (turn.after ∷ []) ≡ one_if (is_opened opened k)
  counts_same k = ap (λ n. count_by (is_numbered k) (over ++ (front ++ back)) + (0 + cond (n == k) 1 0)) t.number ∙ sym (with_it k) ∙ tells.numbers k

  pub is_one : is_opened opened s.number ≡ true
  is_one =
      let one : count_by (is_numbered s.number) (s ∷ []) ≡ 1 = ap (λ b. 0 + cond b 1 0) (same_number s.number) in
      let sum = with_it s.number in
      let is = tells.numbers s.number in
      one_if-true (is_opened opened s.number) (omega (arith, one, sum, is))

  -- no other session has its number
  pub all_apart : All (λ x. is_numbered s.number x ≡ false) (over ++ (front ++ back))
  all_apart =
      let one : count_by (is_numbered s.number) (s ∷ []) ≡ 1 = ap (λ b. 0 + cond b 1 0) (same_number s.number) in
      let sum = with_it s.number in
      let is = tells.numbers s.number in
      let little = one_if-few (is_opened opened s.number) in
      none_passes (is_numbered s.number) (over ++ (front ++ back)) (omega (arith, one, sum, is, little))

  pub apart : All (λ x. is_numbered s.number x ≡ false) (front ++ back)
  apart = all_back (λ x. is_numbered s.number x ≡ false) over (front ++ back) all_apart

  -- the session that stands here has this turn
  pub turns : TellsAll (report ++ turn.lines) (over ++ if_over turn.after) (front ++ (if_live turn.after ++ back)) opened
  turns = puts report turn.lines over front back turn.after opened counts_same tells.named (t.named opened is_one) tells.ended
      (all_front (GoesOn report) front (s ∷ back) tells.going) (All-tail (GoesOn report) s back (all_back (GoesOn report) front (s ∷ back) tells.going))
      (λ k other. t.others k (subst (λ n. (n == k) ≡ false) t.number other))
      t.made t.all (turn_told report s turn before_is t)

-- time passes for all
pub pass_all : (now opened : ℕ) (live : List PlainLive) (report : List ReportLine) (over front : List PlainLive) → TellsAll report over (front ++ live) opened
    → TellsAll (report ++ passed_lines now live) (over ++ passed_over now live) (front ++ passed_live now live) opened
pass_all now opened [] report over front tells =
    subst (λ r. TellsAll r (over ++ []) (front ++ []) opened) (sym (append-nil report)) (subst (λ o. TellsAll report o (front ++ []) opened) (sym (append-nil over)) tells)
pass_all now opened (s ∷ live) report over front tells =
    let on = All-head (GoesOn report) s live (all_back (GoesOn report) front (s ∷ live) tells.going) in
    let turn : Turn = turn_at now Passes s in
    let one = turns report over front live s turn opened tells (comes_turn s now Passes on.up tt) in
    let rest = pass_all now opened live (report ++ turn.lines) (over ++ if_over turn.after) (front ++ if_live turn.after)
    (subst (λ l. TellsAll (report ++ turn.lines) (over ++ if_over turn.after) l opened) (sym (append_assoc front (if_live turn.after) live)) one) in
    subst (λ r. TellsAll r (over ++ (if_over turn.after ++ passed_over now live)) (front ++ (if_live turn.after ++ passed_live now live)) opened) (append_assoc report turn.lines (passed_lines now live))
    (subst (λ o. TellsAll ((report ++ turn.lines) ++ passed_lines now live) o (front ++ (if_live turn.after ++ passed_live now live)) opened) (append_assoc over (if_over turn.after) (passed_over now live))
    (subst (λ l. TellsAll ((report ++ turn.lines) ++ passed_lines now live) ((over ++ if_over turn.after) ++ passed_over now live) l opened) (append_assoc front (if_live turn.after) (passed_live now live)) rest))

-- One more session.

both_opened : (opened n : ℕ) (a : Bool) → nat_le 1 n ≡ a → nat_le n opened ≡ true → nat_le n (opened + 1) ≡ true → is_opened opened n ≡ is_opened (opened + 1) n
both_opened opened n a is within more = ap (λ b. nat_le 1 n && b) (within ∙ sym more)

names_none : (opened n : ℕ) → is_opened opened n ≡ false → (line : ReportLine) → NamesOpened opened line → tells_of n line ≡ false
names_none opened n none (In session item) names = by (session == n) refl
  where
    by : (b : Bool) → (session == n) ≡ b → b ≡ false
    by true is =
        let same : session ≡ n = eqb-true session n is in
        let both : true ≡ false = sym names ∙ ap (is_opened opened) same ∙ none in
        both
    by false is = refl
names_none opened n none (Out conn body) names = refl
names_none opened n none (Lost conn) names = refl
names_none opened n none (Gone conn) names = refl
names_none opened n none (Refused session refusal) names = refl
names_none opened n none (Over session ending) names = by (session == n) refl
  where
    by : (b : Bool) → (session == n) ≡ b → b ≡ false
    by true is =
        let same : session ≡ n = eqb-true session n is in
        let both : true ≡ false = sym names ∙ ap (is_opened opened) same ∙ none in
        both
    by false is = refl
names_none opened n none (Done line) names = refl
names_none opened n none (Bad line kind) names = refl

nothing_yet : (opened n : ℕ) → is_opened opened n ≡ false → (report : List ReportLine) → All (NamesOpened opened) report → filter (tells_of n) report ≡ []
nothing_yet opened n none [] named = refl
nothing_yet opened n none (line ∷ report) named =
    ap (λ b. cond b (line ∷ filter (tells_of n) report) (filter (tells_of n) report)) (names_none opened n none line (All-head (NamesOpened opened) line report named))
    ∙ nothing_yet opened n none report (All-tail (NamesOpened opened) line report named)

-- what was opened stays so
pub opened_still : (opened k : ℕ) → is_opened opened k ≡ true → is_opened (opened + 1) k ≡ true
opened_still opened k is =
    let more = opened_more opened k in
    let one : one_if (is_opened opened k) ≡ 1 = ap one_if is in
    one_if-true (is_opened (opened + 1) k) (omega (arith, more, one))

names_still : (opened : ℕ) (line : ReportLine) → NamesOpened opened line → NamesOpened (opened + 1) line
names_still opened (In session item) names = opened_still opened session names
names_still opened (Out conn body) names = tt
names_still opened (Lost conn) names = tt
names_still opened (Gone conn) names = tt
names_still opened (Refused session refusal) names = opened_still opened session names
names_still opened (Over session ending) names = opened_still opened session names
names_still opened (Done line) names = tt
names_still opened (Bad line kind) names = tt

pub new_number : (opened : ℕ) → (is_opened opened (opened + 1) ≡ false) × (is_opened (opened + 1) (opened + 1) ≡ true)
new_number opened =
    let more = opened_more opened (opened + 1) in
    let one : one_if ((opened + 1) == (opened + 1)) ≡ 1 = ap one_if (same_number (opened + 1)) in
    let few = one_if-few (is_opened (opened + 1) (opened + 1)) in
    (not_one (is_opened opened (opened + 1)) (omega (arith, more, one, few)), one_if-true (is_opened (opened + 1) (opened + 1)) (omega (arith, more, one)))
  where
    not_one : (b : Bool) → one_if b ≡ 0 → b ≡ false
    not_one true is = absurd (omega arith)
    not_one false is = refl

module _ (report : List ReportLine) (over live : List PlainLive) (opened : ℕ) (s : PlainLive) (turn : Turn)
    (tells : TellsAll report over live opened) (number : s.number ≡ opened + 1) (none : taken s ≡ []) (t : IsTurnOf s turn) where
  nothing : filter (tells_of s.number) report ≡ map (In s.number) (taken s)
  nothing =
      nothing_yet opened s.number (ap (is_opened opened) number ∙ (new_number opened).0) report tells.named
      ∙ sym (ap (map (In s.number)) none)

  counts_more : (k : ℕ) → count_by (is_numbered k) (over ++ (live ++ [])) + count_by (is_numbered k) (turn.after ∷ []) ≡ one_if (is_opened (opened + 1) k)
  counts_more k =
      ap (λ l. count_by (is_numbered k) (over ++ l) + count_by (is_numbered k) (turn.after ∷ [])) (append-nil live)
      ∙ ap (λ n. n + count_by (is_numbered k) (turn.after ∷ [])) (tells.numbers k)
      ∙ ap (λ n. one_if (is_opened opened k) + (0 + one_if (n == k))) (t.number ∙ number)
      ∙ zero_first (one_if (is_opened opened k)) (one_if ((opened + 1) == k))
      ∙ opened_more opened k
    where
      zero_first : (a b : ℕ) → a + (0 + b) ≡ a + b
      zero_first a b = omega arith

  -- a session that was opened has its first turn
  pub opens_one : TellsAll (report ++ turn.lines) (over ++ if_over turn.after) (live ++ if_live turn.after) (opened + 1)
  opens_one = subst (λ l. TellsAll (report ++ turn.lines) (over ++ if_over turn.after) (live ++ l) (opened + 1)) (append-nil (if_live turn.after))
      (puts report turn.lines over live [] turn.after (opened + 1) counts_more
      (All-weaker (NamesOpened opened) (NamesOpened (opened + 1)) (names_still opened) report tells.named)
      (t.named (opened + 1) (ap (is_opened (opened + 1)) number ∙ (new_number opened).1))
      tells.ended tells.going (All-nil (GoesOn report))
      (λ k other. t.others k (subst (λ n. (n == k) ≡ false) t.number other))
      t.made t.all (turn_told report s turn nothing t))
