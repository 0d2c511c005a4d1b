-- What the calls of a directory are replied.
use Rattle.std.proofs.Common.{◌≡◌, ◌<◌, ◌+◌, ℕ, List, [], ◌∷◌, ◌++◌, length, map, Option, Some, None, refl, sym, ◌∙◌, ap, subst}
use Rattle.std.specs.Prelude.{Bool, true, IfOk, OnErr, Result, Ok, Err}
use Rattle.std.specs.Arc.{arc_value}
use Rattle.std.specs.declared.alloc.AllocError.{AllocError}
use Rattle.session_table.specs.declared.calls.DirectoryCall.{DirectoryCall}
use Rattle.session_table.specs.declared.calls.DirectoryCall.TheVariants as calls
use Rattle.session_table.specs.declared.calls.DirectoryReply.{DirectoryReply}
use Rattle.session_table.specs.declared.calls.DirectoryReply.TheVariants as replies
use Rattle.parked_gate.specs.Histories.{Appends}
use Rattle.parked_gate.specs.Passes.{GateId, gate_of, known}
use Rattle.session_journal.specs.declared.entry.Entry as journal
use Rattle.session_table.specs.declared.entry.Entry.{Entry}
use Rattle.session_table.specs.declared.handle.SessionHandle.{SessionHandle}
use Rattle.session_table.specs.declared.opening.Opening.{Opening}
use Rattle.session_table.specs.Entering.{EntersOpening, EntersRemoval, RemovesOrNot}
use Rattle.session_table.specs.Handles.{IsOfSame, IsSameHandle, IsSplitOf}
use Rattle.session_table.specs.History.{live_of, opening_in, openings_of}
use Rattle.session_table.specs.Keeping.{Keeps, session_of}
use Rattle.session_table.specs.Replies.{IsAnswered, Opens, RepliesTo, Starts, Steps, first_seen, live_sessions}
use Rattle.session_table.specs.Sessions.{OpenedSession}
use Rattle.session_table.specs.declared.calls.LiveSession.{LiveSession}

-- a handle that was split off has started as the first one
starts_split : (number : ℕ) (o : Opening) (x y : SessionHandle) (answer : List ℕ) → Starts number o x answer → IsSplitOf x y → Starts number o y answer
starts_split number o x y answer starts split = record {
  sid = (split.of_same).sid ∙ starts.sid;
  number_is = (split.of_same).number ∙ starts.number_is;
  seen = split.seen ∙ (starts.seen ∙ ap (λ s. first_seen s o) (sym (split.of_same).sid));
  answered = subst (λ l. IsAnswered l answer) (sym split.seen) starts.answered;
}

pub step_opened : (value later : List Entry) (caller openings : ℕ) (o : Opening) (started kept handed : SessionHandle) (answer : List ℕ)
    → openings ≡ length (openings_of value) → Starts (openings + 1) o started answer → IsSameHandle started kept → IsSplitOf started handed
    → EntersOpening value caller kept later → length (live_of value) < o.limits.live → openings < o.limits.openings
    → (made : Option Entry) × Appends (λ e. e.caller) caller value made later × Opens value o (record { session = handed; answer = answer }) made
step_opened value later caller openings o started kept handed answer count starts same split enters not_full not_spent = (
  Some enters.entry,
  (enters.appended, enters.caller_is),
  record {
    not_full = not_full;
    not_spent = subst (λ n. n < o.limits.openings) count not_spent;
    starts = subst (λ n. Starts (n + 1) o handed answer) count (starts_split (openings + 1) o started handed answer starts split);
    mine = split.mine;
    entry = enters.entry;
    entered = refl;
    tells = enters.tells
        ∙ (ap (λ s. Some (s, gate_of (arc_value kept.gate))) ((same.of_same).sid ∙ sym (split.of_same).sid)
        ∙ ap (λ (g : GateId). Some (handed.sid, g)) ((same.of_same).gate ∙ sym (split.of_same).gate));
  },
)

map_through : {X Y Z : Type 0} (g : Y → Z) (shows : X → Y) (xs : List X) → map (λ x. g (shows x)) xs ≡ map g (map shows xs)
map_through g shows [] = refl
map_through g shows (x ∷ xs) = ap (λ l. g (shows x) ∷ l) (map_through g shows xs)

abbrev listed : ℕ × SessionHandle → LiveSession
listed h = record { sid = h.1.sid; number = h.0 }

abbrev opened_as : ℕ × OpenedSession → LiveSession
opened_as p = record { sid = p.1.sid; number = p.0 }

-- the handles in order are the live sessions
pub listed_all : {X : Type 0} (shows : X → ℕ × SessionHandle) (xs : List X) (handles : List (ℕ × SessionHandle)) (log : List Entry) (openings : ℕ)
    → Keeps handles log openings → map shows xs ≡ handles → map (λ x. listed (shows x)) xs ≡ live_sessions log
listed_all shows xs handles log openings keeps all =
    map_through listed shows xs
    ∙ (ap (map listed) all
    ∙ (map_through opened_as (λ (h : ℕ × SessionHandle). (h.0, session_of h.1)) handles
    ∙ (ap (map opened_as) keeps.live ∙ sym (map_through opened_as (λ (s : OpenedSession). (s.number, s)) (live_of log)))))

abbrev Replied : List Entry → List Entry → ℕ → Result DirectoryReply AllocError → DirectoryCall → Type 0
Replied log later caller result call = (made : Option Entry) × Appends (λ e. e.caller) caller log made later × RepliesTo log call result made

opening_replied : (log later : List Entry) (caller : ℕ) (o : Opening) (result : Result DirectoryReply AllocError)
    → IfOk result (λ reply. Steps log caller (calls.Open o) reply later) → OnErr result (later ≡ log) → Replied log later caller result (calls.Open o)
opening_replied log later caller o (Ok reply) steps same = steps
opening_replied log later caller o (Err error) steps same = (None, same, refl)

pub open_replies : (log later : List Entry) (caller : ℕ) (call : DirectoryCall) (o : Opening) (result : Result DirectoryReply AllocError) → call ≡ calls.Open o
    → IfOk result (λ reply. Steps log caller (calls.Open o) reply later) → OnErr result (later ≡ log)
    → (made : Option Entry) × Appends (λ e. e.caller) caller log made later × RepliesTo log call result made
open_replies log later caller call o result is steps same =
    subst (Replied log later caller result) (sym is) (opening_replied log later caller o result steps same)

pub removed_replies : (log later : List Entry) (caller : ℕ) (call : DirectoryCall) (sid text : List ℕ) (removed : Bool) → call ≡ calls.Remove sid → text ≡ sid
    → RemovesOrNot log caller text removed later → removed ≡ true
    → (made : Option Entry) × Appends (λ e. e.caller) caller log made later × RepliesTo log call (Ok replies.Removed) made
removed_replies log later caller call sid text removed is_call is removes yes_ =
    let e : EntersRemoval log caller sid later = subst (λ t. EntersRemoval log caller t later) is (subst (λ b. RemovesOrNot log caller text b later) yes_ removes) in
    subst (Replied log later caller (Ok replies.Removed)) (sym is_call)
    (Some e.entry, (e.appended, e.caller_is), record { session = e.session; live = e.live; entry = e.entry; entered = refl; tells = e.tells })
