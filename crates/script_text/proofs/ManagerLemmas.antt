-- Sessions in their order, and what a line does to them.
use Rattle.std.proofs.Common.{◌≡◌, ℕ, zero, suc, ◌+◌, ◌<◌, ◌==◌, add-one, arith, Bool, true, false, List, [], ◌∷◌, ◌++◌, Option, Some, None, length, take, drop, refl, sym, subst, ◌∙◌, ap, ap₂, append_assoc, append-nil, if◌then◌else◌}
use Rattle.std.specs.Prelude.{All, cond, map, nat_lt, not, position}
use Rattle.std.proofs.lemmas.List.{take-append-drop}
use Rattle.std.proofs.lemmas.List.Elements.{All-append, All-nil, All-weaker}
use Rattle.std.specs.List.{list_any, position_or_len, slice_get}
use Rattle.bosh_types.specs.declared.hosts.HostName.{HostName}
use Rattle.session_core.specs.State.{is_over}
use Rattle.script_text.specs.declared.event.Event.TheVariants.{Passes}
use Rattle.script_text.specs.declared.live.Live.{Live}
use Rattle.script_text.specs.declared.report.ReportLine.{ReportLine}
use Rattle.script_text.specs.Live.{PlainLive, if_live, if_over, state, turn_at}
use Rattle.script_text.specs.Manager.{passed_lines, passed_live, passed_over, waits_on, with_closed}
use Rattle.script_text.specs.Stands.{AreLive, IsBefore, IsLive, Rests}

pub live_append : (lives others : List Live) (ss ts : List PlainLive) → AreLive lives ss → AreLive others ts → AreLive (lives ++ others) (ss ++ ts)
live_append [] others [] ts are more = more
live_append [] others (s ∷ ss) ts are more = absurd are
live_append (live ∷ lives) others [] ts are more = absurd are
live_append (live ∷ lives) others (s ∷ ss) ts are more = (are.0, live_append lives others ss ts are.1 more)

pub live_length : (lives : List Live) (ss : List PlainLive) → AreLive lives ss → length lives ≡ length ss
live_length [] [] are = refl
live_length [] (s ∷ ss) are = absurd are
live_length (live ∷ lives) [] are = absurd are
live_length (live ∷ lives) (s ∷ ss) are = ap suc (live_length lives ss are.1)

-- a test that agrees on each session agrees on all
pub any_same : (p : Live → Bool) (q : PlainLive → Bool) → ((live : Live) (s : PlainLive) → IsLive live s → p live ≡ q s)
    → (lives : List Live) (ss : List PlainLive) → AreLive lives ss → list_any p lives ≡ list_any q ss
any_same p q same [] [] are = refl
any_same p q same [] (s ∷ ss) are = absurd are
any_same p q same (live ∷ lives) [] are = absurd are
any_same p q same (live ∷ lives) (s ∷ ss) are = rw (same live s are.0, any_same p q same lives ss are.1) refl

abbrev pub waits_any : ℕ → List Live → Bool
waits_any conn lives = list_any (λ live. list_any (waits_on conn) live.parked.items) lives

pub waits_same : (conn : ℕ) (lives : List Live) (ss : List PlainLive) → AreLive lives ss
    → waits_any conn lives ≡ list_any (λ s. list_any (waits_on conn) s.parked) ss
waits_same conn lives ss are =
    any_same (λ live. list_any (waits_on conn) live.parked.items) (λ s. list_any (waits_on conn) s.parked)
    (λ live s is. ap (λ parked. list_any (waits_on conn) parked) is.parked) lives ss are

-- and finds the same place
abbrev pub places : ℕ → List Live → Option ℕ
places number lives = position (λ live. live.number == number) lives

abbrev numbered : ℕ → List Live → ℕ
numbered number lives = position_or_len (λ live. live.number == number) lives

abbrev plainly : ℕ → List PlainLive → ℕ
plainly number ss = position_or_len (λ s. s.number == number) ss

first_same : (number : ℕ) (lives : List Live) (ss : List PlainLive) → AreLive lives ss → numbered number lives ≡ plainly number ss
first_same number [] [] are = refl
first_same number [] (s ∷ ss) are = absurd are
first_same number (live ∷ lives) [] are = absurd are
first_same number (live ∷ lives) (s ∷ ss) are =
    ap₂ (λ n k. cond (not (n == number)) (1 + k) 0) (are.0).number (first_same number lives ss are.1)

pub place_same : (number : ℕ) (lives : List Live) (ss : List PlainLive) → AreLive lives ss
    → places number lives ≡ position (λ s. s.number == number) ss
place_same number lives ss are =
    ap₂ (λ k n. cond (nat_lt k n) (Some k) None) (first_same number lives ss are) (live_length lives ss are)

-- the session at a place
pub live_at : (lives : List Live) (ss : List PlainLive) (place : ℕ) (live : Live) → AreLive lives ss → slice_get lives place ≡ Some live
    → (s : PlainLive) × (slice_get ss place ≡ Some s) × IsLive live s
live_at [] ss place live are is = absurd (cc)
live_at (first ∷ lives) [] place live are is = absurd are
live_at (first ∷ lives) (s ∷ ss) zero live are is = (s, refl, subst (λ l. IsLive l s) (one first is) are.0)
  where
    one : (l : Live) → Some l ≡ Some live → l ≡ live
    one l same = cc
live_at (first ∷ lives) (s ∷ ss) (suc place) live are is = live_at lives ss place live are.1 is

pub live_take : (place : ℕ) (lives : List Live) (ss : List PlainLive) → AreLive lives ss → AreLive (take place lives) (take place ss)
live_take zero lives ss are = tt
live_take (suc place) [] [] are = tt
live_take (suc place) [] (s ∷ ss) are = absurd are
live_take (suc place) (live ∷ lives) [] are = absurd are
live_take (suc place) (live ∷ lives) (s ∷ ss) are = (are.0, live_take place lives ss are.1)

pub live_drop : (place : ℕ) (lives : List Live) (ss : List PlainLive) → AreLive lives ss → AreLive (drop place lives) (drop place ss)
live_drop zero lives ss are = are
live_drop (suc place) [] [] are = tt
live_drop (suc place) [] (s ∷ ss) are = absurd are
live_drop (suc place) (live ∷ lives) [] are = absurd are
live_drop (suc place) (live ∷ lives) (s ∷ ss) are = live_drop place lives ss are.1

-- a session that goes on stays, and one that has ended goes
pub stays : (s : PlainLive) → is_over (state s) ≡ false → s ∷ [] ≡ if_live s
stays s on = ap (λ over. if over then [] else s ∷ []) (sym on)

pub goes : (s : PlainLive) → is_over (state s) ≡ true → if_live s ≡ []
goes s over = ap (λ b. if b then [] else s ∷ []) over

-- kept at the end
pub kept_last : (lives lives' : List Live) (live : Live) (s : PlainLive) (through : List PlainLive) → IsLive live s → is_over (state s) ≡ false → lives' ≡ lives ++ live ∷ []
    → AreLive lives through → AreLive lives' (through ++ if_live s)
kept_last lives lives' live s through is on longer are =
    subst (λ l. AreLive l (through ++ if_live s)) (sym longer)
    (subst (λ l. AreLive (lives ++ live ∷ []) (through ++ l)) (stays s on) (live_append lives (live ∷ []) through (s ∷ []) are (is, tt)))

pub not_kept : (lives : List Live) (s : PlainLive) (through : List PlainLive) → is_over (state s) ≡ true → AreLive lives through → AreLive lives (through ++ if_live s)
not_kept lives s through over are =
    subst (λ l. AreLive lives (through ++ l)) (sym (goes s over)) (subst (λ l. AreLive lives l) (sym (append-nil through)) are)

-- the same of those that have ended
pub over_stays : (s : PlainLive) → is_over (state s) ≡ true → s ∷ [] ≡ if_over s
over_stays s over = ap (λ b. if b then s ∷ [] else []) (sym over)

pub over_goes : (s : PlainLive) → is_over (state s) ≡ false → if_over s ≡ []
over_goes s on = ap (λ b. if b then s ∷ [] else []) on

pub kept_over : (overs overs' : List Live) (live : Live) (s : PlainLive) (ended : List PlainLive) → IsLive live s → is_over (state s) ≡ true → overs' ≡ overs ++ live ∷ []
    → AreLive overs ended → AreLive overs' (ended ++ if_over s)
kept_over overs overs' live s ended is over longer are =
    subst (λ l. AreLive l (ended ++ if_over s)) (sym longer)
    (subst (λ l. AreLive (overs ++ live ∷ []) (ended ++ l)) (over_stays s over) (live_append overs (live ∷ []) ended (s ∷ []) are (is, tt)))

pub not_over : (overs : List Live) (s : PlainLive) (ended : List PlainLive) → is_over (state s) ≡ false → AreLive overs ended → AreLive overs (ended ++ if_over s)
not_over overs s ended on are =
    subst (λ l. AreLive overs (ended ++ l)) (sym (over_goes s on)) (subst (λ l. AreLive overs l) (sym (append-nil ended)) are)

-- no session at all
pub none_live : (lives : List Live) → lives ≡ [] → AreLive lives []
none_live lives none = subst (λ l. AreLive l []) (sym none) tt

-- kept at a place
pub kept_at : (place : ℕ) (lives lives' : List Live) (live : Live) (s : PlainLive) (ss : List PlainLive) → IsLive live s → is_over (state s) ≡ false
    → lives' ≡ take place lives ++ (live ∷ drop place lives) → AreLive lives ss → AreLive lives' (take place ss ++ (if_live s ++ drop place ss))
kept_at place lives lives' live s ss is on longer are =
    subst (λ l. AreLive l (take place ss ++ (if_live s ++ drop place ss))) (sym longer)
    (subst (λ l. AreLive (take place lives ++ (live ∷ drop place lives)) (take place ss ++ (l ++ drop place ss))) (stays s on)
    (live_append (take place lives) (live ∷ drop place lives) (take place ss) (s ∷ drop place ss) (live_take place lives ss are) (is, live_drop place lives ss are)))

pub gone_at : (place : ℕ) (lives : List Live) (s : PlainLive) (ss : List PlainLive) → is_over (state s) ≡ true → AreLive lives ss
    → AreLive lives (take place ss ++ (if_live s ++ drop place ss))
gone_at place lives s ss over are =
    subst (λ l. AreLive lives (take place ss ++ (l ++ drop place ss))) (sym (goes s over)) (subst (λ l. AreLive lives l) (sym (take-append-drop place ss)) are)

-- without the session at a place, those before it and those after it are as before
pub without_at : (place : ℕ) (ss : List PlainLive) → place < length ss
    → (take place (take place ss ++ drop (suc place) ss) ≡ take place ss) × (drop place (take place ss ++ drop (suc place) ss) ≡ drop (suc place) ss)
without_at place [] within = absurd (omega (arith, within))
without_at zero (s ∷ ss) within = (refl, refl)
without_at (suc place) (s ∷ ss) within =
    let rest = without_at place ss (omega (arith, within)) in
    (ap (λ l. s ∷ l) rest.0, rest.1)

pub live_without : (place : ℕ) (lives : List Live) (ss : List PlainLive) → AreLive lives ss → AreLive (take place lives ++ drop (suc place) lives) (take place ss ++ drop (suc place) ss)
live_without place lives ss are =
    live_append (take place lives) (drop (suc place) lives) (take place ss) (drop (suc place) ss) (live_take place lives ss are) (live_drop (suc place) lives ss are)

-- a session comes back to its place
pub back_at : (place : ℕ) (lives lives' : List Live) (ss : List PlainLive) (after : PlainLive) → AreLive lives ss → place < length lives
    → ((ts : List PlainLive) → AreLive (take place lives ++ drop (suc place) lives) ts → AreLive lives' (take place ts ++ (if_live after ++ drop place ts)))
    → AreLive lives' (take place ss ++ (if_live after ++ drop (place + 1) ss))
back_at place lives lives' ss after are within comes =
    let same = without_at place ss (subst (λ n. place < n) (live_length lives ss are) within) in
    subst (λ l. AreLive lives' (take place ss ++ (if_live after ++ l))) (same.1 ∙ ap (λ n. drop n ss) (sym (add-one place)))
    (subst (λ l. AreLive lives' (l ++ (if_live after ++ drop place (take place ss ++ drop (suc place) ss)))) same.0
    (comes (take place ss ++ drop (suc place) ss) (live_without place lives ss are)))

-- where they rest until a moment they do until an earlier one
pub rest_until : (first later : Option ℕ) (ss : List PlainLive) → ((now : ℕ) → IsBefore now later → IsBefore now first) → All (Rests first) ss → All (Rests later) ss
rest_until first later ss earlier rest =
    All-weaker (Rests first) (Rests later) (λ s rests. record { goes_on = rests.goes_on; quiet = λ now range before. rests.quiet now range (earlier now before) }) ss rest

-- Time passes for one session after the other: those that passed, and those that are left.

pub record PassesOn (now : ℕ) (soonest : Option ℕ) (lines : List ReportLine) (kept rest : List Live) (whole : List PlainLive) : Type 0 where
  pub left : List PlainLive
  pub through : List PlainLive
  pub are_left : AreLive rest left
  pub are_through : AreLive kept through
  pub resting : All (Rests soonest) through
  pub told : passed_lines now whole ≡ lines ++ passed_lines now left
  pub live : passed_live now whole ≡ through ++ passed_live now left

-- Connections are closed in one session after the other.

pub record ClosesOn (conn : ℕ) (kept rest : List Live) (whole : List PlainLive) : Type 0 where
  pub left : List PlainLive
  pub through : List PlainLive
  pub are_left : AreLive rest left
  pub are_through : AreLive kept through
  pub live : map (with_closed conn) whole ≡ through ++ map (with_closed conn) left

pub closes_from : (conn : ℕ) (lives : List Live) (ss : List PlainLive) → AreLive lives ss → ClosesOn conn [] lives ss
closes_from conn lives ss are = record { left = ss; through = []; are_left = are; are_through = tt; live = refl }

pub closes_more : (conn : ℕ) (kept rest : List Live) (first after : Live) (whole : List PlainLive) → ClosesOn conn kept (first ∷ rest) whole
    → ((s : PlainLive) → IsLive first s → IsLive after (with_closed conn s)) → ClosesOn conn (kept ++ after ∷ []) rest whole
closes_more conn kept rest first after whole on closes = by on.left on.are_left on.live
  where
    by : (left : List PlainLive) → AreLive (first ∷ rest) left → map (with_closed conn) whole ≡ on.through ++ map (with_closed conn) left
        → ClosesOn conn (kept ++ after ∷ []) rest whole
    by [] are live = absurd are
    by (s ∷ left) are live = record {
      left = left;
      through = on.through ++ with_closed conn s ∷ [];
      are_left = are.1;
      are_through = live_append kept (after ∷ []) on.through (with_closed conn s ∷ []) on.are_through (closes s are.0, tt);
      live = live ∙ sym (append_assoc on.through (with_closed conn s ∷ []) (map (with_closed conn) left));
    }

pub closes_end : (conn : ℕ) (kept : List Live) (whole : List PlainLive) → ClosesOn conn kept [] whole → AreLive kept (map (with_closed conn) whole)
closes_end conn kept whole on = by on.left on.are_left on.live
  where
    by : (left : List PlainLive) → AreLive [] left → map (with_closed conn) whole ≡ on.through ++ map (with_closed conn) left → AreLive kept (map (with_closed conn) whole)
    by [] are live = subst (λ l. AreLive kept l) (sym (live ∙ append-nil on.through)) on.are_through
    by (s ∷ left) are live = absurd are

pub passes_from : (now : ℕ) (lives : List Live) (ss : List PlainLive) → AreLive lives ss → PassesOn now None [] [] lives ss
passes_from now lives ss are = record { left = ss; through = []; are_left = are; are_through = tt; resting = All-nil (Rests None); told = refl; live = refl }

pub passes_more : (now : ℕ) (soonest later : Option ℕ) (lines : List ReportLine) (kept kept' rest : List Live) (first : Live) (told : List ReportLine) (whole : List PlainLive)
    → PassesOn now soonest lines kept (first ∷ rest) whole → ((moment : ℕ) → IsBefore moment later → IsBefore moment soonest)
    → ((s : PlainLive) → IsLive first s → (told ≡ (turn_at now Passes s).lines) × ((through : List PlainLive) → AreLive kept through
    → AreLive kept' (through ++ if_live (turn_at now Passes s).after)) × All (Rests later) (if_live (turn_at now Passes s).after))
    → PassesOn now later (lines ++ told) kept' rest whole
passes_more now soonest later lines kept kept' rest first told whole on earlier turns = by on.left on.are_left on.told on.live
  where
    by : (left : List PlainLive) → AreLive (first ∷ rest) left → passed_lines now whole ≡ lines ++ passed_lines now left
        → passed_live now whole ≡ on.through ++ passed_live now left → PassesOn now later (lines ++ told) kept' rest whole
    by [] are lines_are live = absurd are
    by (s ∷ left) are lines_are live =
        let turn = turns s are.0 in
        record {
          left = left;
          through = on.through ++ if_live (turn_at now Passes s).after;
          are_left = are.1;
          are_through = turn.1 on.through on.are_through;
          resting = All-append (Rests later) on.through (if_live (turn_at now Passes s).after) (rest_until soonest later on.through earlier on.resting) turn.2;
          told = lines_are ∙ ap (λ l. lines ++ (l ++ passed_lines now left)) (sym turn.0) ∙ sym (append_assoc lines told (passed_lines now left));
          live = live ∙ sym (append_assoc on.through (if_live (turn_at now Passes s).after) (passed_live now left));
        }

pub passes_end : (now : ℕ) (soonest : Option ℕ) (lines : List ReportLine) (kept : List Live) (whole : List PlainLive) → PassesOn now soonest lines kept [] whole
    → (lines ≡ passed_lines now whole) × AreLive kept (passed_live now whole) × All (Rests soonest) (passed_live now whole)
passes_end now soonest lines kept whole on = by on.left on.are_left on.told on.live
  where
    by : (left : List PlainLive) → AreLive [] left → passed_lines now whole ≡ lines ++ passed_lines now left
        → passed_live now whole ≡ on.through ++ passed_live now left → (lines ≡ passed_lines now whole) × AreLive kept (passed_live now whole) × All (Rests soonest) (passed_live now whole)
    by [] are told live =
        let same = sym (live ∙ append-nil on.through) in
        (sym (told ∙ append-nil lines), subst (λ l. AreLive kept l) same on.are_through, subst (λ l. All (Rests soonest) l) same on.resting)
    by (s ∷ left) are told live = absurd are

pub nothing_left : (lives : List Live) → length lives ≡ 0 → lives ≡ []
nothing_left [] is = refl
nothing_left (live ∷ lives) is = absurd (omega (arith, is))

-- the host at a place
pub host_at : (hosts : List HostName) (place : ℕ) → place < length hosts → (host : HostName) × (slice_get hosts place ≡ Some host)
host_at [] place within = absurd (omega (arith, within))
host_at (host ∷ hosts) zero within = (host, refl)
host_at (host ∷ hosts) (suc place) within = host_at hosts place (omega (arith, within))

-- Those that ended while time passed.

pub record PassesAway (now : ℕ) (over rest : List Live) (whole : List PlainLive) : Type 0 where
  pub left : List PlainLive
  pub gone : List PlainLive
  pub are_left : AreLive rest left
  pub are_gone : AreLive over gone
  pub ended : passed_over now whole ≡ gone ++ passed_over now left

pub away_from : (now : ℕ) (lives : List Live) (ss : List PlainLive) → AreLive lives ss → PassesAway now [] lives ss
away_from now lives ss are = record { left = ss; gone = []; are_left = are; are_gone = tt; ended = refl }

pub away_more : (now : ℕ) (over over' rest : List Live) (first : Live) (whole : List PlainLive) → PassesAway now over (first ∷ rest) whole
    → ((s : PlainLive) → IsLive first s → (ended : List PlainLive) → AreLive over ended → AreLive over' (ended ++ if_over (turn_at now Passes s).after))
    → PassesAway now over' rest whole
away_more now over over' rest first whole away turns = by away.left away.are_left away.ended
  where
    by : (left : List PlainLive) → AreLive (first ∷ rest) left → passed_over now whole ≡ away.gone ++ passed_over now left → PassesAway now over' rest whole
    by [] are is = absurd are
    by (s ∷ left) are is = record {
      left = left;
      gone = away.gone ++ if_over (turn_at now Passes s).after;
      are_left = are.1;
      are_gone = turns s are.0 away.gone away.are_gone;
      ended = is ∙ sym (append_assoc away.gone (if_over (turn_at now Passes s).after) (passed_over now left));
    }

pub away_end : (now : ℕ) (over : List Live) (whole : List PlainLive) → PassesAway now over [] whole → AreLive over (passed_over now whole)
away_end now over whole away = by away.left away.are_left away.ended
  where
    by : (left : List PlainLive) → AreLive [] left → passed_over now whole ≡ away.gone ++ passed_over now left → AreLive over (passed_over now whole)
    by [] are is = subst (λ l. AreLive over l) (sym (is ∙ append-nil away.gone)) away.are_gone
    by (s ∷ left) are is = absurd are
