-- What is done in a turn, and what of one number is kept by it.
use Rattle.std.proofs.Common.{refl, ◌≡◌, ◌≢◌, ◌⊎◌, ℕ, List, [], ◌∷◌, ◌++◌, Option, Some, None, Result, sym, ◌∙◌, ap, subst, inl, inr, append_assoc, append-nil}
use Rattle.std.specs.Prelude.{⊤}
use Rattle.std.specs.BTreeMap.{is_at}
use Rattle.std.specs.Map.{lookup}
use Rattle.std.specs.Ordering.{nat_cmp}
use Rattle.std.specs.declared.alloc.AllocError.{AllocError}
use Rattle.parked_gate.specs.Histories.{Appends, StartsWith}
use Rattle.parked_gate.specs.Passes.{Calls, Known, known}
use Rattle.session_journal.specs.declared.entry.Entry as journal
use Rattle.session_table.specs.declared.entry.Entry.{Entry}
use Rattle.session_table.specs.declared.handle.SessionHandle.{SessionHandle}
use Rattle.session_table.specs.Purses.{OthersStay, Sessions, Turned, held}
use Rattle.session_pump.specs.Dues.{Dues}
use Rattle.session_pump.specs.Hosts.{HostFacts}
use Rattle.session_pump.specs.Pumping.{AsksDirectory, AsksSession, HasNoLine, LineTurns, Lines, OnLine, Pumping, alone, line_of, on_line}
use Rattle.session_pump.specs.Sides.{Served, line_facts, served}
use Rattle.session_pump.specs.declared.line.Line.{Line}
use Rattle.bosh_types.specs.Limits.{most_streams}
use Rattle.pump_laws.proofs.CallLemmas.{Carries}
use Rattle.pump_laws.proofs.KeepsLemmas.{AllLeave, Good, IsProper, Keeps, LineKeeps, all_same, host_at, is_gone, keeps_as, keeps_later, keeps_left, keeps_turned, none_some, same_of, same_or_apart, unmet, was_met}
use Rattle.pump_laws.proofs.NumberLemmas.{IsGone, IsOpening}
use Rattle.pump_laws.proofs.SessionLemmas.{IsKept, Other, Own, other_is_kept, own_is_kept}
use Rattle.pump_laws.proofs.SideLemmas.{wire_of, wires_apart}

-- ---- histories

pub starts_same : (log : List Entry) → StartsWith log log
starts_same log = ([], sym (append-nil log))

pub starts_then : (log more later : List Entry) → StartsWith more log → StartsWith later more → StartsWith later log
starts_then log more later (rest, is) (last, also) = (rest ++ last, also ∙ (ap (λ l. l ++ last) is ∙ append_assoc log rest last))

pub called_starts : (Says : List Entry → Option Entry → Type 0) (old new : Known Entry) → Calls (λ e. e.caller) Says old new → StartsWith new.seen old.seen
called_starts Says old new c = starts_then old.seen c.before new.seen c.begins (by c.made c.seen)
  where
    by : (o : Option Entry) → Appends (λ e. e.caller) old.number c.before o new.seen → StartsWith new.seen c.before
    by None is = ([], is ∙ sym (append-nil c.before))
    by (Some e) is = (e ∷ [], is.0)

pub asked_starts : {Says : Known Entry → Known Entry → Type 0} (a b : Pumping) → ((k l : Known Entry) → Says k l → StartsWith l.seen k.seen) → AsksDirectory Says a b
    → StartsWith b.directory.seen a.directory.seen
asked_starts a b starts d = starts a.directory b.directory d.learns

pub session_starts : {Says : Known journal.Entry → Known journal.Entry → Type 0} (m : ℕ) (a b : Pumping) → AsksSession Says m a b → StartsWith b.directory.seen a.directory.seen
session_starts m a b asks = subst (λ k. StartsWith k.seen a.directory.seen) (sym (ap (λ (p : Pumping). p.directory) asks.same)) (starts_same a.directory.seen)

-- ---- the directory and a session are asked

pub good_as : {B G H : Type 0} (n : ℕ) (a : Pumping) → (IsGone n a.directory.seen → G → H) → Good B G n a → Good B H n a
good_as n a so g = record { keeps = keeps_as n (held a.sessions n) (line_of a.lines n) (host_at a.hosts) a.directory.seen so g.keeps; proper = g.proper }

pub good_directory : {B G : Type 0} {Says : Known Entry → Known Entry → Type 0} (n : ℕ) (a b : Pumping) → ((k l : Known Entry) → Says k l → StartsWith l.seen k.seen)
    → AsksDirectory Says a b → Good B G n a → Good B G n b
good_directory {B} {G} n a b starts d g = subst (Good B G n) (sym d.same) (record {
  keeps = subst (λ o. Keeps B G n o (line_of a.lines n) (host_at a.hosts) b.directory.seen) (sym (ap (lookup (is_at (nat_cmp n))) d.sessions))
      (keeps_later n (held a.sessions n) (line_of a.lines n) (host_at a.hosts) a.directory.seen b.directory.seen (starts a.directory b.directory d.learns) g.keeps);
  proper = g.proper;
})

pub good_sessions : {B G : Type 0} (n m : ℕ) (a : Pumping) (sessions : Sessions) (Says : Known journal.Entry → Known journal.Entry → Type 0)
    → ((k l : Known journal.Entry) → Says k l → Carries k l) → Turned m a.sessions sessions Says → OthersStay m a.sessions sessions → Good B G n a
    → Good B G n (record a { sessions = sessions })
good_sessions n m a sessions Says carries t others g = record {
  keeps = keeps_turned n m a.sessions sessions Says carries t others (line_of a.lines n) (host_at a.hosts) a.directory.seen g.keeps;
  proper = g.proper;
}

-- whatever is noted of when sessions are due
pub good_noted : {B G : Type 0} (n : ℕ) (a : Pumping) (dues : Dues) → Good B G n a → Good B G n (record a { dues = dues })
good_noted n a dues g = record { keeps = g.keeps; proper = g.proper }

pub good_session : {B G : Type 0} {Says : Known journal.Entry → Known journal.Entry → Type 0} (n m : ℕ) (a b : Pumping)
    → ((k l : Known journal.Entry) → Says k l → Carries k l) → AsksSession Says m a b → Good B G n a → Good B G n b
good_session {B} {G} {Says} n m a b carries asks g =
    subst (Good B G n) (sym asks.same) (good_sessions n m a b.sessions Says carries asks.turned asks.others g)

-- ---- something is done at the line of a session

-- this session has a line
abbrev pub HasLine : ℕ → Pumping → Type 0
HasLine n a = (line : Line) × (line_of a.lines n ≡ Some line)

-- what is kept of a session that has a line and is held
pub record IsMet (B : Type 0) (n : ℕ) (a : Pumping) (line : Line) (h : SessionHandle) : Type 0 where
  pub opened : IsOpening n h.sid a.directory.seen
  pub keeps : LineKeeps B n (host_at a.hosts) (line_facts line) (known h.pass).mine

pub met_line : {B G : Type 0} (n : ℕ) (a : Pumping) (line : Line) (h : SessionHandle) → line_of a.lines n ≡ Some line → held a.sessions n ≡ Some h
    → Keeps B G n (held a.sessions n) (line_of a.lines n) (host_at a.hosts) a.directory.seen → IsMet B n a line h
met_line {B} n a line h is at (unmet none held_so nothing) = absurd (none_some (line_of a.lines n) line none is)
met_line {B} n a line h is at (was_met i other at' is' opened k) =
    subst (λ (x : Line). IsMet B n a x h) (same_of (line_of a.lines n) other line is' is)
    (subst (λ (x : SessionHandle). IsMet B n a other x) (same_of (held a.sessions n) i h at' at) (record { opened = opened; keeps = k }))
met_line {B} n a line h is at (is_gone none nobody gone why) = absurd (none_some (line_of a.lines n) line none is)

module _ {B G : Type 0} (n : ℕ) (moment : Option ℕ) (OnHosts : Served → Served → Result ⊤ AllocError → Type 0)
    (preserves : (P : Served → Type 0) → IsKept moment P → (s t : Served) (result : Result ⊤ AllocError) → OnHosts s t result → P s → P t) where
  module _ (a : Pumping) (sessions : Sessions) (lines : Lines) (hosts : List HostFacts) (line later : Line) (result : Result ⊤ AllocError) (g : Good B G n a) where
    -- the lines of others are as before
    lines_proper : (m : ℕ) → LineTurns m a.lines lines line later → IsProper m (line_facts later) → (k : ℕ) (x : Line) → line_of lines k ≡ Some x → (k ≡ m) ⊎ (k ≢ m) → IsProper k (line_facts x)
    lines_proper m l p k x is (inl same) =
        subst (λ (j : ℕ). IsProper j (line_facts x)) (sym same)
        (subst (λ (y : Line). IsProper m (line_facts y)) (same_of (line_of lines m) later x l.after (ap (line_of lines) (sym same) ∙ is)) p)
    lines_proper m l p k x is (inr apart) = g.proper k x (sym (l.others k apart) ∙ is)

    own_line : LineTurns n a.lines lines line later → Turned n a.sessions sessions (λ old new. OnHosts (served old line a.hosts) (served new later hosts) result)
        → Good B G n (record a { sessions = sessions; lines = lines; hosts = hosts })
    own_line l t =
        let m : IsMet B n a line t.before = met_line n a line t.before l.before t.was g.keeps in
        let end : Own B n (served (known t.after.pass) later hosts) =
        preserves (Own B n) (own_is_kept moment B n) (served (known t.before.pass) line a.hosts) (served (known t.after.pass) later hosts) result t.says
        (record { proper = g.proper n line l.before; keeps = m.keeps }) in
        record {
          keeps = was_met t.after later t.is l.after (subst (λ sid. IsOpening n sid a.directory.seen) (sym t.of_same.sid) m.opened) end.keeps;
          proper = λ k x is. lines_proper n l end.proper k x is (same_or_apart k n);
        }

    other_line : (m : ℕ) → m ≢ n → LineTurns m a.lines lines line later → Turned m a.sessions sessions (λ old new. OnHosts (served old line a.hosts) (served new later hosts) result)
        → OthersStay m a.sessions sessions → Good B G n (record a { sessions = sessions; lines = lines; hosts = hosts })
    other_line m apart l t others =
        let end : Other B n m a.hosts (served (known t.after.pass) later hosts) =
        preserves (Other B n m a.hosts) (other_is_kept moment B n m a.hosts (λ q r small also. wires_apart n m q r small also apart))
        (served (known t.before.pass) line a.hosts) (served (known t.after.pass) later hosts) result t.says
        (record { proper = g.proper m line l.before; leaves = λ q small. all_same B (wire_of n q) (host_at a.hosts) }) in
        let away : n ≢ m = λ same. apart (sym same) in
        record {
          keeps = subst (λ o. Keeps B G n o (line_of lines n) (host_at hosts) a.directory.seen) (sym (others n away))
              (subst (λ x. Keeps B G n (held a.sessions n) x (host_at hosts) a.directory.seen) (sym (l.others n away))
              (keeps_left n (held a.sessions n) (line_of a.lines n) (host_at a.hosts) (host_at hosts) a.directory.seen (λ x is. g.proper n x is) end.leaves g.keeps));
          proper = λ k x is. lines_proper m l end.proper k x is (same_or_apart k m);
        }

  pub on_line_keeps : (m : ℕ) (a b : Pumping) (Alone : Known journal.Entry → Known journal.Entry → Result ⊤ AllocError → Type 0) (result : Result ⊤ AllocError)
      → ((sessions : Sessions) → HasNoLine a m → Turned m a.sessions sessions (λ old new. Alone old new result) → OthersStay m a.sessions sessions → Good B G n a
      → Good B G n (record a { sessions = sessions }))
      → OnLine OnHosts Alone m a b result → Good B G n a → Good B G n b
  on_line_keeps m a b Alone result by_itself (on_line sessions lines hosts line later l t others) g = by (same_or_apart m n)
    where
      by : (m ≡ n) ⊎ (m ≢ n) → Good B G n (record a { sessions = sessions; lines = lines; hosts = hosts })
      by (inl same) =
          own_line a sessions lines hosts line later result g
          (subst (λ k. LineTurns k a.lines lines line later) same l)
          (subst (λ k. Turned k a.sessions sessions (λ old new. OnHosts (served old line a.hosts) (served new later hosts) result)) same t)
      by (inr apart) = other_line a sessions lines hosts line later result g m apart l t others
  on_line_keeps m a b Alone result by_itself (alone sessions no_line t others) g = by_itself sessions no_line t others g
