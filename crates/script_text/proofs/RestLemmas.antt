-- Sessions for which time has nothing to do.
use Rattle.std.proofs.Common.{◌≡◌, ℕ, ◌+◌, ◌<◌, ◌≤◌, ◌^◌, Bool, true, false, List, [], ◌∷◌, ◌++◌, Option, Some, None, take, drop, refl, sym, ◌∙◌, ap, ap₂, subst, arith, true≢false}
use Rattle.std.specs.Prelude.{All, IsTrue, map}
use Rattle.std.proofs.lemmas.List.Elements.{All-append, All-cons, All-drop, All-head, All-nil, All-tail, All-take, All-weaker}
use Rattle.pause_rules.specs.Due.{IsFirstMoment}
use Rattle.session_core.specs.Journal.{Tick}
use Rattle.session_core.specs.Machine.{tick}
use Rattle.session_core.specs.State.{PlainSession, is_over}
use Rattle.session_core.specs.Time.{is_due}
use Rattle.session_core.specs.declared.replies.Ticked.TheVariants.{Quiet}
use Rattle.session_calls.specs.After.{after_call}
use Rattle.script_text.specs.declared.event.Event.TheVariants.{Passes}
use Rattle.script_text.specs.Live.{PlainLive, if_live, if_over, state, ticked, turn_at, with_journal}
use Rattle.script_text.specs.Manager.{passed_lines, passed_live, passed_over, with_closed}
use Rattle.script_text.specs.Stands.{IsBefore, Rests}
use Rattle.script_text.proofs.ManagerLemmas.{goes, over_goes, stays}

-- ---- a moment at which nothing is due

tick_quiet : (s : PlainSession) (now : ℕ) → is_due s now ≡ false → (tick s now).1 ≡ Quiet
tick_quiet s now quiet = rw quiet refl

quiet_turn : (now : ℕ) (s : PlainLive) → is_due (state s) now ≡ false → turn_at now Passes s ≡ record { lines = []; after = s }
quiet_turn now s quiet = ap (ticked s (with_journal s (after_call s.journal (Tick now)))) (tick_quiet (state s) now quiet)

-- the session goes on, and nothing is due at this moment
record IsQuiet (now : ℕ) (s : PlainLive) : Type 0 where
  goes_on : is_over (state s) ≡ false
  quiet : is_due (state s) now ≡ false

quiet_at : (soonest : Option ℕ) (now : ℕ) (ss : List PlainLive) → now < 2 ^ 64 → IsBefore now soonest → All (Rests soonest) ss → All (IsQuiet now) ss
quiet_at soonest now ss range before rest =
    All-weaker (Rests soonest) (IsQuiet now) (λ s rests. record { goes_on = rests.goes_on; quiet = rests.quiet now range before }) ss rest

no_lines : (now : ℕ) (ss : List PlainLive) → All (IsQuiet now) ss → passed_lines now ss ≡ []
no_lines now [] all = refl
no_lines now (s ∷ ss) all = ap₂ (λ turn lines. turn.lines ++ lines) (quiet_turn now s (All-head (IsQuiet now) s ss all).quiet) (no_lines now ss (All-tail (IsQuiet now) s ss all))

same_live : (now : ℕ) (ss : List PlainLive) → All (IsQuiet now) ss → passed_live now ss ≡ ss
same_live now [] all = refl
same_live now (s ∷ ss) all =
    ap₂ (λ turn live. if_live turn.after ++ live) (quiet_turn now s (All-head (IsQuiet now) s ss all).quiet) (same_live now ss (All-tail (IsQuiet now) s ss all))
    ∙ ap (λ l. l ++ ss) (sym (stays s (All-head (IsQuiet now) s ss all).goes_on))

none_over : (now : ℕ) (ss : List PlainLive) → All (IsQuiet now) ss → passed_over now ss ≡ []
none_over now [] all = refl
none_over now (s ∷ ss) all =
    ap₂ (λ turn over. if_over turn.after ++ over) (quiet_turn now s (All-head (IsQuiet now) s ss all).quiet) (none_over now ss (All-tail (IsQuiet now) s ss all))
    ∙ ap (λ l. l ++ []) (over_goes s (All-head (IsQuiet now) s ss all).goes_on)

pub passes_by : (soonest : Option ℕ) (now : ℕ) (ss : List PlainLive) → now < 2 ^ 64 → IsBefore now soonest → All (Rests soonest) ss
    → (passed_lines now ss ≡ []) × (passed_live now ss ≡ ss) × (passed_over now ss ≡ [])
passes_by soonest now ss range before rest =
    let all = quiet_at soonest now ss range before rest in
    (no_lines now ss all, same_live now ss all, none_over now ss all)

-- ---- the first moment at which something is

not_yet : (test : ℕ → Bool) (due : Option ℕ) (now : ℕ) → IsFirstMoment test due → now < 2 ^ 64 → IsBefore now due → test now ≡ false
not_yet test None now first range before = first now range
not_yet test (Some moment) now first range before = by (test now) refl
  where
    by : (b : Bool) → test now ≡ b → test now ≡ false
    by true is =
        let no_later : moment ≤ now = first.1 now is in
        absurd (omega (arith, no_later, before))
    by false is = is

-- a session rests until its first moment, unless it is over
pub rest_of : (due soonest : Option ℕ) (s : PlainLive) → IsFirstMoment (is_due (state s)) due → ((now : ℕ) → IsBefore now soonest → IsBefore now due) → All (Rests soonest) (if_live s)
rest_of due soonest s first earlier = by (is_over (state s)) refl
  where
    by : (b : Bool) → is_over (state s) ≡ b → All (Rests soonest) (if_live s)
    by true over = subst (All (Rests soonest)) (sym (goes s over)) (All-nil (Rests soonest))
    by false on = subst (All (Rests soonest)) (stays s on)
        (All-cons (Rests soonest) s [] (record { goes_on = on; quiet = λ now range before. not_yet (is_due (state s)) due now first range (earlier now before) }) (All-nil (Rests soonest)))

-- ---- what a line leaves

pub rest_closed : (soonest : Option ℕ) (conn : ℕ) (ss : List PlainLive) → All (Rests soonest) ss → All (Rests soonest) (map (with_closed conn) ss)
rest_closed soonest conn [] rest = All-nil (Rests soonest)
rest_closed soonest conn (s ∷ ss) rest =
    let first = All-head (Rests soonest) s ss rest in
    All-cons (Rests soonest) (with_closed conn s) (map (with_closed conn) ss) (record { goes_on = first.goes_on; quiet = first.quiet }) (rest_closed soonest conn ss (All-tail (Rests soonest) s ss rest))

pub rest_at : (place : ℕ) (soonest : Option ℕ) (s : PlainLive) (ss : List PlainLive) → All (Rests soonest) ss → All (Rests soonest) (if_live s)
    → All (Rests soonest) (take place ss ++ (if_live s ++ drop (place + 1) ss))
rest_at place soonest s ss rest one =
    All-append (Rests soonest) (take place ss) (if_live s ++ drop (place + 1) ss) (All-take (Rests soonest) place ss rest)
    (All-append (Rests soonest) (if_live s) (drop (place + 1) ss) one (All-drop (Rests soonest) (place + 1) ss rest))

pub rest_same : (soonest : Option ℕ) (ss others : List PlainLive) → ss ≡ others → All (Rests soonest) ss → All (Rests soonest) others
rest_same soonest ss others same rest = subst (λ l. All (Rests soonest) l) same rest

pub rest_more : (soonest : Option ℕ) (s : PlainLive) (ss : List PlainLive) → All (Rests soonest) ss → All (Rests soonest) (if_live s) → All (Rests soonest) (ss ++ if_live s)
rest_more soonest s ss rest one = All-append (Rests soonest) ss (if_live s) rest one
