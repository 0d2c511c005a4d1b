-- What a wrong connection would leave is refused: a line that says that there is no room or no such session and for which the directory wasn't
-- asked, or wasn't asked anew, or that is told by what was seen before an earlier line's opening, or where there is room; a name without an opening, or
-- that wasn't drawn; and lines of one session whose places fall, stay, or are of two callers.
use Rattle.std.proofs.Common.{◌≡◌, ◌≢◌, ◌⊎◌, ◌<◌, ◌≤◌, ◌+◌, ℕ, suc, true, List, [], ◌∷◌, ◌++◌, length, Option, Some, None, refl, sym, ◌∙◌, ap, subst, inl, inr, append-nil, arith}
use Rattle.std.specs.Arc.{arc_value}
use Rattle.bosh_types.specs.declared.condition.Condition.TheVariants.{UndefinedCondition}
use Rattle.parked_gate.specs.Passes.{GateId, Known, gate_of, known}
use Rattle.session_table.specs.declared.entry.Entry.{Entry}
use Rattle.session_table.specs.declared.opening.Limits.{Limits}
use Rattle.serve_loop.specs.declared.trail.Evidence.{Evidence}
use Rattle.serve_loop.specs.declared.trail.Evidence.TheVariants as evidence
use Rattle.serve_loop.specs.declared.trail.Traced.{Traced}
use Rattle.serve_loop.specs.declared.trail.TrailLine.TheVariants as lines
use Rattle.session_journal.specs.declared.entry.Entry.{Entry as Journalled}
use Rattle.trail_laws.specs.Asking.{AsksForEach, Every}
use Rattle.trail_laws.specs.Drawing.{IsNamedAs, NamesAsDrawn}
use Rattle.trail_laws.specs.Naming.{IsNamed}
use Rattle.trail_laws.specs.Rising.{HasEnded, PlacesRise, SeesEnd}
use Rattle.trail_laws.specs.Seeing.{HasNoRoomFor, HasOpening, IsSeenFor, SeesEach}
use Rattle.trail_laws.specs.Told.{seen_for, session_by}
use Rattle.trail_laws.proofs.ListLemmas.{cancel}

-- a line that says that there is no room
abbrev no_room : Evidence → Traced
no_room by = record { line = lines.NoSession UndefinedCondition; evidence = by }

-- one that says that no live session has the name
abbrev unknown : List ℕ → Evidence → Traced
unknown sid by = record { line = lines.Unknown sid; evidence = by }

-- it isn't told by the request alone, nor by a session
pub not_by_the_request : (old new : Known Entry) → AsksForEach (no_room evidence.Request ∷ []) old new → ⊥
not_by_the_request old new asks = never (asks.shown.0 refl).1
  where
    never : {log : List Entry} → None ≡ Some log → ⊥
    never is = cc

-- for a line that the directory wasn't asked for
pub not_unasked : (by : Evidence) (k : Known Entry) → AsksForEach (no_room by ∷ []) k k → ⊥
not_unasked by k asks = none asks.news (cancel k.learnt [] asks.news (append-nil k.learnt ∙ asks.learnt)) asks.enough
  where
    none : (news : List ℕ) → [] ≡ news → 1 ≤ length news → ⊥
    none news is few = omega (arith, few, ap length is)

-- for two that it was asked for once
pub not_asked_once : (by other : Evidence) (k : Known Entry) (count : ℕ) → AsksForEach (no_room by ∷ no_room other ∷ []) k (record k { learnt = k.learnt ++ count ∷ [] }) → ⊥
not_asked_once by other k count asks = one asks.news (cancel k.learnt (count ∷ []) asks.news asks.learnt) asks.enough
  where
    one : (news : List ℕ) → count ∷ [] ≡ news → 2 ≤ length news → ⊥
    one news is few = omega (arith, few, ap length is)

-- for one that is told by what was seen before an opening that an earlier line names
pub not_before_the_opening : (limits : Limits) (sid other : List ℕ) (opened by : Evidence) (session : List ℕ × GateId) (last : Known Entry) → session_by other opened ≡ Some session
    → (log : List Entry) → log ≡ [] → seen_for (unknown sid by) ≡ Some log → SeesEach limits (record { line = lines.Opened other; evidence = opened } ∷ unknown sid by ∷ []) last → ⊥
not_before_the_opening limits sid other opened by session last is log none told sees =
    nothing (subst (λ l. HasOpening l last.mine session) none
    ((sees (record { line = lines.Opened other; evidence = opened } ∷ []) [] (unknown sid by) log refl told).openings (record { line = lines.Opened other; evidence = opened }) session (inl refl) is))
  where
    nothing : HasOpening [] last.mine session → ⊥
    nothing has = has.there

-- where there is room
pub not_where_there_is_room : (limits : Limits) → 0 < limits.live → 0 < limits.openings → HasNoRoomFor limits [] → ⊥
not_where_there_is_room limits live openings (inl full) = omega (arith, live, full)
not_where_there_is_room limits live openings (inr spent) = omega (arith, openings, spent.1)

-- a session that the directory doesn't count among the opened ones
pub not_without_an_opening : (session : List ℕ × GateId) → IsNamed [] session → ⊥
not_without_an_opening session named = named.there

-- a request that its own caller superseded
pub not_by_itself : (number : ℕ) (e : Journalled) → e.caller ≡ number → Every (λ (x : Journalled). x.caller ≢ number) (e ∷ []) → ⊥
not_by_itself number e own others = others.0 own

-- a session that was opened where no name was drawn
pub not_undrawn : (sid : List ℕ) (by : Evidence) (session : List ℕ × GateId) (last : Known Entry) → session_by sid by ≡ Some session
    → NamesAsDrawn [] (record { line = lines.Opened sid; evidence = by } ∷ []) last → ⊥
not_undrawn sid by session last is names = nothing (names (record { line = lines.Opened sid; evidence = by }) session (inl refl) is)
  where
    nothing : IsNamedAs [] last.seen session → ⊥
    nothing named = named.drawn

-- a line that names an entry
abbrev entry : List ℕ → ℕ → ℕ → Traced
entry sid caller place = record { line = lines.Entry sid caller place; evidence = evidence.Request }

none_ends : (sid : List ℕ) (t : Traced) → t.evidence ≡ evidence.Request → SeesEnd sid (t ∷ []) → ⊥
none_ends sid t is (u, inl here, ended) = subst (HasEnded sid) (ap (λ (l : Traced). l.evidence) (sym here) ∙ is) ended
none_ends sid t is (u, inr there, ended) = there

-- a place that isn't greater than the one before
pub not_falling : (sid : List ℕ) (caller place place' : ℕ) → place' ≤ place → PlacesRise (entry sid caller place ∷ entry sid caller place' ∷ []) → ⊥
not_falling sid caller place place' low rise = by (rise [] [] [] (entry sid caller place) (entry sid caller place') sid caller caller place place' refl refl refl)
  where
    by : ((caller ≡ caller) × (place < place')) ⊎ SeesEnd sid (entry sid caller place ∷ []) → ⊥
    by (inl higher) = omega (arith, low, higher.1)
    by (inr ended) = none_ends sid (entry sid caller place) refl ended

-- another caller, where the session goes on
pub not_by_two : (sid : List ℕ) (caller caller' place place' : ℕ) → caller' ≢ caller → PlacesRise (entry sid caller place ∷ entry sid caller' place' ∷ []) → ⊥
not_by_two sid caller caller' place place' apart rise = by (rise [] [] [] (entry sid caller place) (entry sid caller' place') sid caller caller' place place' refl refl refl)
  where
    by : ((caller' ≡ caller) × (place < place')) ⊎ SeesEnd sid (entry sid caller place ∷ []) → ⊥
    by (inl same) = apart same.0
    by (inr ended) = none_ends sid (entry sid caller place) refl ended
