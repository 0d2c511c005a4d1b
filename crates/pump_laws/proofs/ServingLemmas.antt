-- A session is served, and what of one number is kept by it.
use Rattle.std.proofs.Common.{◌≡◌, ◌≢◌, ◌⊎◌, ◌≤◌, ◌<◌, ◌^◌, ℕ, zero, suc, false, cond, List, [], ◌∷◌, ◌++◌, Option, Some, None, Result, Ok, Err, refl, sym, ◌∙◌, ap, subst, inl, inr, arith}
use Rattle.std.specs.Prelude.{⊤, ◌||◌, ◌==◌, option_to_list, slice_get}
use Rattle.std.specs.BTreeMap.{is_at}
use Rattle.std.specs.Map.{lookup}
use Rattle.std.specs.Ordering.{nat_cmp}
use Rattle.std.proofs.lemmas.Slice.Eq.{bytes_eq-Decides}
use Rattle.std.specs.declared.alloc.AllocError.{AllocError}
use Rattle.bosh_types.specs.Limits.{most_streams}
use Rattle.parked_gate.specs.Histories.{Appends, StartsWith}
use Rattle.parked_gate.specs.Passes.{Known, known}
use Rattle.session_journal.specs.declared.asking.State.{State}
use Rattle.session_journal.specs.declared.entry.Entry as journal
use Rattle.session_table.specs.declared.calls.DirectoryCall.TheVariants as directory_calls
use Rattle.session_table.specs.declared.calls.DirectoryReply.{DirectoryReply}
use Rattle.session_table.specs.declared.calls.DirectoryReply.TheVariants as replies
use Rattle.session_table.specs.declared.calls.LiveSession.{LiveSession}
use Rattle.session_table.specs.declared.entry.Entry.{Entry}
use Rattle.session_table.specs.declared.handle.SessionHandle.{SessionHandle}
use Rattle.session_table.specs.History.{IsLegal}
use Rattle.session_table.specs.Purses.{OthersStay, Sessions, Turned, held, own_entries}
use Rattle.session_table.specs.Replies.{RepliesTo, live_sessions}
use Rattle.session_pump.specs.Hosts.{HostFacts}
use Rattle.session_pump.specs.NumberedTurns.{ServesHeld}
use Rattle.session_pump.specs.Pumping.{HasNoLine, OnLine, Pumping, Then, alone, line_of, on_line, stopped, went_on}
use Rattle.session_pump.specs.Sides.{PassesAll, Serves, TellsCut, is_met, line_facts}
use Rattle.session_pump.specs.Turns.{AnswersState, ClosesWires, FindsSession, IsNewLine, LeavesAlone, Meets, Notes, Removes, RemovesEnded, ServesAlone, ServesMet, ServesOne, TakesAll, TellsOne, first_stage, found, goes_on, has_ended, left_alone, live_no_longer, met, met_not, not_found, not_held, noted, noted_not, refused, removed, removed_not, told_where_cut, too_large, was_served}
use Rattle.session_pump.specs.Turns as turns
use Rattle.session_pump.specs.declared.line.Line.{Line}
use Rattle.session_pump.specs.declared.line.Side.{Side}
use Rattle.pump_laws.specs.CallsMade.{MadeBy, carried, handed, made_none, taken}
use Rattle.pump_laws.specs.Handing.{gave_nothing}
use Rattle.pump_laws.specs.Passing.{isnt_opened}
use Rattle.pump_laws.proofs.CallLemmas.{Carries, carries_same, carries_look}
use Rattle.pump_laws.proofs.KeepsLemmas.{Good, IdleAt, IsProper, IsProperSide, IsUnmet, Keeps, LineKeeps, NoneAt, NothingPassed, SideKeeps, host_at, is_gone, keeps_as, keeps_follows, keeps_later, none_some, same_of, same_or_apart, unmet, was_met}
use Rattle.pump_laws.proofs.NumberLemmas.{Has, IsGone, IsOpening, live_opened, name_tells, not_live_is_gone, one_name, opening_later, removed_is_gone}
use Rattle.pump_laws.proofs.SessionLemmas.{closes_keep, new_proper, passes_all_keep, serves_keep, tells_keep}
use Rattle.pump_laws.proofs.SideLemmas.{its_kept, wire_of}
use Rattle.pump_laws.proofs.StepLemmas.{HasLine, called_starts, good_as, good_directory, good_noted, good_session, good_sessions, on_line_keeps, session_starts, starts_same, starts_then}
use Rattle.pump_laws.proofs.TakenLemmas.{nothing_carried}

-- ---- a session without a line

-- one that has a line isn't one of these
alone_keeps : {B G : Type 0} (n m : ℕ) (a : Pumping) (Alone : Known journal.Entry → Known journal.Entry → Type 0) → (m ≡ n → HasLine n a) → (sessions : Sessions) → HasNoLine a m
    → Turned m a.sessions sessions Alone → OthersStay m a.sessions sessions → Good B G n a → Good B G n (record a { sessions = sessions })
alone_keeps {B} {G} n m a Alone lined sessions no_line t others g = by (same_or_apart m n)
  where
    by : (m ≡ n) ⊎ (m ≢ n) → Good B G n (record a { sessions = sessions })
    by (inl same) = absurd (none_some (line_of a.lines n) (lined same).0 (ap (line_of a.lines) (sym same) ∙ no_line) (lined same).1)
    by (inr apart) = record {
      keeps = subst (λ o. Keeps B G n o (line_of a.lines n) (host_at a.hosts) a.directory.seen) (sym (others n (λ same. apart (sym same)))) g.keeps;
      proper = g.proper;
    }

-- where nothing is done to it, nothing is
still_keeps : {B G : Type 0} (n m : ℕ) (a : Pumping) (result : Result ⊤ AllocError) (sessions : Sessions) → HasNoLine a m
    → Turned m a.sessions sessions (λ k l. (l ≡ k) × (result ≡ Ok tt)) → OthersStay m a.sessions sessions → Good B G n a
    → Good B G n (record a { sessions = sessions })
still_keeps n m a result sessions no_line t others g =
    good_sessions n m a sessions (λ k l. (l ≡ k) × (result ≡ Ok tt)) (λ k l says. carries_same k l (ap (λ (x : Known journal.Entry). x.mine) says.0)) t others g

-- ---- a session is met

meets_keeps : {B G : Type 0} (n m : ℕ) (a b : Pumping) (result : Result ⊤ AllocError) → n < 2 ^ 32 → Meets m a b result → Good B G n a → Good B G n b
meets_keeps n m a b result small (turns.was_met line is) g = g
meets_keeps {B} {G} n m a b result small (met {b = c} name lines line none asks new is beside) g = by (same_or_apart n m)
  where
    asked : Good B G n c
    asked = good_session n m a c (λ k l says. carries_look k l says) asks g

    its_lines : c.lines ≡ a.lines
    its_lines = ap (λ (p : Pumping). p.lines) asks.same

    -- its first stream
    first_side : n ≡ m → (u : IsUnmet B n c.directory.seen asks.turned.after) → NothingPassed B n (host_at c.hosts) → SideKeeps B (host_at c.hosts) u.calls line.kept new.side
    first_side same u nothing =
        let its_wire : new.side.wire ≡ wire_of n 0 = new.new.wire ∙ ap (λ k. wire_of k 0) (sym same) in
        let there : (place : ℕ) (host : HostFacts) → host_at c.hosts place ≡ Some host → NoneAt B new.side.wire host =
        λ (place : ℕ) (host : HostFacts) (got : host_at c.hosts place ≡ Some host). subst (λ w. NoneAt B w host) (sym its_wire) (nothing 0 (omega arith) place host got) in
        record {
          begun = inl new.new.of;
          here = λ place host got at few. isnt_opened (new.stage ∙ ap first_stage at) (there place host got).passed
              (ap (carried new.side.stream) u.nothing ∙ (nothing_carried new.side.stream ∙ sym (ap (its_kept new.side.stream) new.kept)));
          elsewhere = λ place host got away. there place host got;
          gives = λ place host got at b.
              let i : IdleAt new.side.wire host = (there place host got).given b in
              gave_nothing (new.stage ∙ ap first_stage at) i.idle (ap (λ q. handed q u.calls) new.new.of ∙ u.unhanded 0 (omega arith) b) new.new.owed i.none;
        }

    only_side : (p : ℕ) (x : Side) → slice_get line.sides.items p ≡ Some x → (p ≡ 0) × (new.side ≡ x)
    only_side p x got = by p (ap (λ xs. slice_get xs p) (sym new.alone) ∙ got)
      where
        by : (p : ℕ) → slice_get (new.side ∷ []) p ≡ Some x → (p ≡ 0) × (new.side ≡ x)
        by zero got = (refl, same_of (Some new.side) new.side x refl got)
        by (suc p) got = absurd (none_some None x refl got)

    first_line : n ≡ m → IsUnmet B n c.directory.seen asks.turned.after → NothingPassed B n (host_at c.hosts)
        → LineKeeps B n (host_at c.hosts) (line_facts line) (known asks.turned.after.pass).mine
    first_line same u nothing = record {
      calls = u.calls;
      made = u.made;
      zeroth = ap (is_met 0) new.alone ∙ ap (λ q. (q == 0) || false) new.new.of;
      once = λ p q x y at_p at_q together. (only_side p x at_p).0 ∙ sym (only_side q y at_q).0;
      has = λ p x got. subst (SideKeeps B (host_at c.hosts) u.calls line.kept) (only_side p x got).1 (first_side same u nothing);
      hasnt = λ q few none. record {
        nothing = nothing q few;
        earlier = [];
        are = u.nothing ∙ sym (ap option_to_list new.kept);
        unopened = refl;
        unhanded = λ b. u.unhanded q few b;
      };
    }

    begin : n ≡ m → Keeps B G n (held c.sessions n) (line_of c.lines n) (host_at c.hosts) c.directory.seen → Keeps B G n (held c.sessions n) (line_of lines n) (host_at c.hosts) c.directory.seen
    begin same (unmet empty held_so nothing) =
        let at : held c.sessions n ≡ Some asks.turned.after = ap (held c.sessions) same ∙ asks.turned.is in
        let u : IsUnmet B n c.directory.seen asks.turned.after = held_so asks.turned.after at in
        was_met asks.turned.after line at (ap (line_of lines) same ∙ is) u.opened (first_line same u nothing)
    begin same (was_met h other at there opened k) =
        absurd (none_some (line_of c.lines n) other (ap (line_of c.lines) same ∙ (ap (λ ls. line_of ls m) its_lines ∙ none)) there)
    begin same (is_gone empty nobody gone why) = absurd (none_some (held c.sessions n) asks.turned.after nobody (ap (held c.sessions) same ∙ asks.turned.is))

    new_line : IsProper m (line_facts line)
    new_line = record {
      opening = new.opening;
      sides = λ p x got. subst (IsProperSide m) (only_side p x got).1 (new_proper m 0 name a.hosts m new.side refl new.new);
    }

    its_line : (k : ℕ) (x : Line) → line_of lines k ≡ Some x → (k ≡ m) ⊎ (k ≢ m) → IsProper k (line_facts x)
    its_line k x there (inl same) =
        subst (λ (j : ℕ). IsProper j (line_facts x)) (sym same)
        (subst (λ (y : Line). IsProper m (line_facts y)) (same_of (line_of lines m) line x is (ap (line_of lines) (sym same) ∙ there)) new_line)
    its_line k x there (inr apart) = g.proper k x (sym (beside k apart) ∙ there)

    by : (n ≡ m) ⊎ (n ≢ m) → Good B G n (record c { lines = lines })
    by (inl same) = record { keeps = begin same asked.keeps; proper = λ k x there. its_line k x there (same_or_apart k m) }
    by (inr apart) = record {
      keeps = subst (λ l. Keeps B G n (held c.sessions n) l (host_at c.hosts) c.directory.seen) (sym (beside n apart ∙ sym (ap (λ ls. line_of ls n) its_lines))) asked.keeps;
      proper = λ k x there. its_line k x there (same_or_apart k m);
    }
meets_keeps n m a b result small (too_large asks large) g = good_session n m a b (λ k l says. carries_look k l says) asks g
meets_keeps {B} {G} n m a b result small (met_not {b = c} error lines asks unchanged) g =
    let asked : Good B G n c = good_session n m a c (λ k l says. carries_look k l says) asks g in
    record {
      keeps = subst (λ l. Keeps B G n (held c.sessions n) l (host_at c.hosts) c.directory.seen) (sym (ap (lookup (is_at (nat_cmp n))) unchanged)) asked.keeps;
      proper = λ k x there. asked.proper k x (sym (ap (lookup (is_at (nat_cmp k))) unchanged) ∙ there);
    }

-- and has a line then
meets_line : (n : ℕ) (a b : Pumping) → n < 2 ^ 32 → Meets n a b (Ok tt) → HasLine n b
meets_line n a b small (turns.was_met line is) = (line, is)
meets_line n a b small (met name lines line none asks new is beside) = (line, is)
meets_line n a b small (too_large asks large) = absurd (omega (arith, small, large))

meets_starts : (m : ℕ) (a b : Pumping) (result : Result ⊤ AllocError) → Meets m a b result → StartsWith b.directory.seen a.directory.seen
meets_starts m a b result (turns.was_met line is) = starts_same a.directory.seen
meets_starts m a b result (met {b = c} name lines line none asks new is beside) = session_starts m a c asks
meets_starts m a b result (too_large asks large) = session_starts m a b asks
meets_starts m a b result (met_not {b = c} error lines asks unchanged) = session_starts m a c asks

on_line_starts : (OnHost : _) (Alone : _) (m : ℕ) (a b : Pumping) (result : Result ⊤ AllocError) → OnLine OnHost Alone m a b result → StartsWith b.directory.seen a.directory.seen
on_line_starts OnHost Alone m a b result (on_line sessions lines hosts line later l t others) = starts_same a.directory.seen
on_line_starts OnHost Alone m a b result (alone sessions no_line t others) = starts_same a.directory.seen

-- who has a line keeps it while something is done at it
on_line_line : (OnHost : _) (Alone : _) (n m : ℕ) (a b : Pumping) (result : Result ⊤ AllocError) → OnLine OnHost Alone m a b result → HasLine n a → HasLine n b
on_line_line OnHost Alone n m a b result (on_line sessions lines hosts line later l t others) (x, is) = by (same_or_apart n m)
  where
    by : (n ≡ m) ⊎ (n ≢ m) → HasLine n (record a { sessions = sessions; lines = lines; hosts = hosts })
    by (inl same) = (later, ap (line_of lines) same ∙ l.after)
    by (inr apart) = (x, l.others n apart ∙ is)
on_line_line OnHost Alone n m a b result (alone sessions no_line t others) lined = lined

-- ---- a session is removed

gone_by : (n : ℕ) (sid : List ℕ) (caller : ℕ) (before later : List Entry) (made : Option Entry) (reply : DirectoryReply) → IsOpening n sid before
    → RepliesTo before (directory_calls.Remove sid) (Ok reply) made → Appends (λ e. e.caller) caller before made later → IsGone n later
gone_by n sid caller before later made replies.Removed o r appends =
    removed_is_gone n sid before later r.entry o r.tells (subst (λ x. Appends (λ e. e.caller) caller before x later) r.entered appends).0
gone_by n sid caller before later made replies.Unknown o (none, unknown) appends =
    subst (IsGone n) (sym (subst (λ x. Appends (λ e. e.caller) caller before x later) none appends)) (not_live_is_gone n sid before o unknown)
gone_by n sid caller before later made (replies.Opened x) o never appends = absurd never
gone_by n sid caller before later made replies.TableFull o never appends = absurd never
gone_by n sid caller before later made replies.OpeningsSpent o never appends = absurd never
gone_by n sid caller before later made (replies.Found x) o never appends = absurd never

removes_keeps : {B G : Type 0} (n m : ℕ) (sid : List ℕ) (a b : Pumping) (result : Result ⊤ AllocError) → (m ≡ n → IsOpening n sid a.directory.seen) → Removes m sid a b result
    → Good B G n a → Good B (G ⊎ (m ≡ n)) n b
removes_keeps {B} {G} n m sid a b result named (removed directory sessions lines dues reply c none beside nobody others forgotten) g = by (same_or_apart m n)
  where
    proper : (k : ℕ) (x : Line) → line_of lines k ≡ Some x → (k ≡ m) ⊎ (k ≢ m) → IsProper k (line_facts x)
    proper k x there (inl same) = absurd (none_some (line_of lines m) x none (ap (line_of lines) (sym same) ∙ there))
    proper k x there (inr apart) = g.proper k x (sym (beside k apart) ∙ there)

    by : (m ≡ n) ⊎ (m ≢ n) → Good B (G ⊎ (m ≡ n)) n (record a { directory = directory; sessions = sessions; lines = lines; dues = dues })
    by (inl same) = record {
      keeps = is_gone (ap (line_of lines) (sym same) ∙ none) (ap (held sessions) (sym same) ∙ nobody)
          (gone_by n sid a.directory.number c.before directory.seen c.made reply (opening_later n sid a.directory.seen c.before c.begins (named same)) c.says c.seen) (inr same);
      proper = λ k x there. proper k x there (same_or_apart k m);
    }
    by (inr apart) =
        let away : n ≢ m = λ same. apart (sym same) in
        record {
          keeps = subst (λ o. Keeps B (G ⊎ (m ≡ n)) n o (line_of lines n) (host_at a.hosts) directory.seen) (sym (others n away))
              (subst (λ l. Keeps B (G ⊎ (m ≡ n)) n (held a.sessions n) l (host_at a.hosts) directory.seen) (sym (beside n away))
              (keeps_later n (held a.sessions n) (line_of a.lines n) (host_at a.hosts) a.directory.seen directory.seen (called_starts _ a.directory directory c)
              (keeps_as n (held a.sessions n) (line_of a.lines n) (host_at a.hosts) a.directory.seen (λ gone why. inl why) g.keeps)));
          proper = λ k x there. proper k x there (same_or_apart k m);
        }
removes_keeps n m sid a b result named (removed_not error) g = good_as n a (λ gone why. inl why) g
removes_keeps n m sid a b result named (refused error asks) g = good_as n b (λ gone why. inl why) (good_directory n a b (λ k l says. called_starts _ k l says) asks g)

removes_starts : (m : ℕ) (sid : List ℕ) (a b : Pumping) (result : Result ⊤ AllocError) → Removes m sid a b result → StartsWith b.directory.seen a.directory.seen
removes_starts m sid a b result (removed directory sessions lines dues reply c none beside nobody others forgotten) = called_starts _ a.directory directory c
removes_starts m sid a b result (removed_not error) = starts_same a.directory.seen
removes_starts m sid a b result (refused error asks) = called_starts _ a.directory b.directory asks.learns

-- ---- a session is found

some_mine : (sid : List ℕ) (h : SessionHandle) → h.sid ≡ sid → own_entries sid (Some h) ≡ (known h.pass).mine
some_mine sid h same = ap (λ b. cond b (known h.pass).mine []) ((bytes_eq-Decides h.sid sid).1 same)

module _ {B G : Type 0} (n m : ℕ) (sid : List ℕ) (a b : Pumping) (finds : FindsSession sid m a b) (later : List Entry) (opened : m ≡ n → IsOpening n sid later)
    (starts : StartsWith b.directory.seen later) (not_gone : m ≡ n → G → ⊥) (g : Good B G n a) where
  abbrev found_handle : SessionHandle
  found_handle = finds.found.holds.handle

  mid : Good B G n (record a { directory = b.directory })
  mid = record {
    keeps = keeps_later n (held a.sessions n) (line_of a.lines n) (host_at a.hosts) a.directory.seen b.directory.seen finds.learns.begins g.keeps;
    proper = g.proper;
  }

  own : m ≡ n → held b.sessions n ≡ Some found_handle → own_entries sid (held b.sessions n) ≡ own_entries sid (held a.sessions n)
      → Keeps B G n (held a.sessions n) (line_of a.lines n) (host_at a.hosts) b.directory.seen → Keeps B G n (held b.sessions n) (line_of a.lines n) (host_at a.hosts) b.directory.seen
  own same at mine (unmet none held_so nothing) = by (held a.sessions n) refl
    where
      here : IsOpening n sid b.directory.seen
      here = opening_later n sid later b.directory.seen starts (opened same)

      new_one : held a.sessions n ≡ None → IsUnmet B n b.directory.seen found_handle
      new_one nobody = record {
        opened = subst (λ t. IsOpening n t b.directory.seen) (sym finds.found.holds.named) here;
        calls = [];
        made = subst (MadeBy []) (sym (sym (some_mine sid found_handle finds.found.holds.named) ∙ (ap (own_entries sid) (sym at) ∙ (mine ∙ ap (own_entries sid) nobody)))) made_none;
        nothing = refl;
        unhanded = λ q few b. refl;
      }

      by : (o : Option SessionHandle) → held a.sessions n ≡ o → Keeps B G n (held b.sessions n) (line_of a.lines n) (host_at a.hosts) b.directory.seen
      by None nobody = unmet none (λ h is. subst (IsUnmet B n b.directory.seen) (same_of (held b.sessions n) found_handle h at is) (new_one nobody)) nothing
      by (Some h) somebody =
          let its_name : h.sid ≡ sid = one_name n b.directory.seen h.sid sid (held_so h somebody).opened here in
          keeps_follows n (held a.sessions n) (held b.sessions n) (line_of a.lines n) (host_at a.hosts) b.directory.seen h found_handle somebody at (record {
            sid = finds.found.holds.named ∙ sym its_name;
            carries = carries_same (known h.pass) (known found_handle.pass) (sym (some_mine sid found_handle finds.found.holds.named)
                ∙ (ap (own_entries sid) (sym at) ∙ (mine ∙ (ap (own_entries sid) somebody ∙ some_mine sid h its_name))));
          }) (unmet none held_so nothing)
  own same at mine (was_met h line is there named k) =
      let here : IsOpening n sid b.directory.seen = opening_later n sid later b.directory.seen starts (opened same) in
      let its_name : h.sid ≡ sid = one_name n b.directory.seen h.sid sid named here in
      keeps_follows n (held a.sessions n) (held b.sessions n) (line_of a.lines n) (host_at a.hosts) b.directory.seen h found_handle is at (record {
        sid = finds.found.holds.named ∙ sym its_name;
        carries = carries_same (known h.pass) (known found_handle.pass) (sym (some_mine sid found_handle finds.found.holds.named)
            ∙ (ap (own_entries sid) (sym at) ∙ (mine ∙ (ap (own_entries sid) is ∙ some_mine sid h its_name))));
      }) (was_met h line is there named k)
  own same at mine (is_gone none nobody gone why) = absurd (not_gone same why)

  pub finds_keeps : Good B G n b
  finds_keeps = subst (Good B G n) (sym finds.same) (record { keeps = by (same_or_apart m n); proper = g.proper })
    where
      by : (m ≡ n) ⊎ (m ≢ n) → Keeps B G n (held b.sessions n) (line_of a.lines n) (host_at a.hosts) b.directory.seen
      by (inl same) =
          own same (ap (held b.sessions) (sym same) ∙ finds.found.holds.is)
          (subst (λ k. own_entries sid (held b.sessions k) ≡ own_entries sid (held a.sessions k)) same finds.found.own) mid.keeps
      by (inr apart) =
          subst (λ o. Keeps B G n o (line_of a.lines n) (host_at a.hosts) b.directory.seen) (sym (finds.found.others n (λ same. apart (sym same)))) mid.keeps

pub finds_starts : (m : ℕ) (sid : List ℕ) (a b : Pumping) → FindsSession sid m a b → StartsWith b.directory.seen a.directory.seen
finds_starts m sid a b finds = finds.learns.begins

-- ---- when it is due is noted

notes_keep : {B G : Type 0} (n m : ℕ) (due : Option ℕ) (a b : Pumping) (result : Result ⊤ AllocError) → Notes m due a b result → Good B G n a → Good B G n b
notes_keep n m due a b result (noted dues at) g = good_noted n a dues g
notes_keep n m due a b result (noted_not error) g = g

notes_start : (m : ℕ) (due : Option ℕ) (a b : Pumping) (result : Result ⊤ AllocError) → Notes m due a b result → StartsWith b.directory.seen a.directory.seen
notes_start m due a b result (noted dues at) = starts_same a.directory.seen
notes_start m due a b result (noted_not error) = starts_same a.directory.seen

-- ---- and is removed where it has ended

removes_ended_keeps : {B G : Type 0} (moment : Option ℕ) (n m : ℕ) (sid : List ℕ) (a b : Pumping) (result : Result ⊤ AllocError) → (m ≡ n → IsOpening n sid a.directory.seen)
    → (m ≡ n → HasLine n a) → RemovesEnded moment m sid a b result → Good B G n a → Good B (G ⊎ (m ≡ n)) n b
removes_ended_keeps moment n m sid a c result named lined (goes_on {b = b} state asks on notes) g =
    good_as n c (λ gone why. inl why) (notes_keep n m state.due b c result notes (good_session n m a b (λ k l says. carries_look k l says) asks g))
removes_ended_keeps {B} {G} moment n m sid a c result named lined (has_ended {b = b} state asks over then_) g = by result then_
  where
    asked : Good B G n b
    asked = good_session n m a b (λ k l says. carries_look k l says) asks g

    line_there : m ≡ n → HasLine n b
    line_there same = ((lined same).0, ap (λ (p : Pumping). line_of p.lines n) asks.same ∙ (lined same).1)

    passes : (d : Pumping) (r : Result ⊤ AllocError) → OnLine (PassesAll moment) TakesAll m b d r → Good B G n d
    passes d r step =
        on_line_keeps n moment (PassesAll moment) (λ P kept s t r says p. passes_all_keep moment P kept s t r says p) m b d TakesAll r
        (λ sessions no_line t others good. alone_keeps n m b (λ k l. TakesAll k l r) line_there sessions no_line t others good) step asked

    closes : (d e : Pumping) (r : Result ⊤ AllocError) → OnLine ClosesWires (λ k l done. (l ≡ k) × (done ≡ Ok tt)) m d e r → Good B G n d → Good B G n e
    closes d e r step good =
        on_line_keeps n moment ClosesWires (λ P kept s t r says p. closes_keep moment P kept s t r says p) m d e (λ k l done. (l ≡ k) × (done ≡ Ok tt)) r
        (λ sessions no_line t others good. still_keeps n m d r sessions no_line t others good) step good

    named_at : (d e : Pumping) → StartsWith d.directory.seen b.directory.seen → StartsWith e.directory.seen d.directory.seen → m ≡ n → IsOpening n sid e.directory.seen
    named_at d e first second same =
        opening_later n sid a.directory.seen e.directory.seen (starts_then a.directory.seen b.directory.seen e.directory.seen (session_starts m a b asks)
        (starts_then b.directory.seen d.directory.seen e.directory.seen first second)) (named same)

    by : (r : Result ⊤ AllocError) → Then (OnLine (PassesAll moment) TakesAll m) (Then (OnLine ClosesWires (λ k l done. (l ≡ k) × (done ≡ Ok tt)) m) (Removes m sid)) b c r → Good B (G ⊎ (m ≡ n)) n c
    by r (stopped error other first) = good_as n c (λ gone why. inl why) (passes c (Err error) first)
    by r (went_on {b = d} first (stopped error other second)) = good_as n c (λ gone why. inl why) (closes d c (Err error) second (passes d (Ok tt) first))
    by r (went_on {b = d} first (went_on {b = e} second third)) =
        removes_keeps n m sid e c r
        (named_at d e (on_line_starts (PassesAll moment) TakesAll m b d (Ok tt) first) (on_line_starts ClosesWires (λ k l done. (l ≡ k) × (done ≡ Ok tt)) m d e (Ok tt) second))
        third (closes d e (Ok tt) second (passes d (Ok tt) first))

removes_ended_starts : (moment : Option ℕ) (m : ℕ) (sid : List ℕ) (a b : Pumping) (result : Result ⊤ AllocError) → RemovesEnded moment m sid a b result → StartsWith b.directory.seen a.directory.seen
removes_ended_starts moment m sid a c result (goes_on {b = b} state asks on notes) =
    starts_then a.directory.seen b.directory.seen c.directory.seen (session_starts m a b asks) (notes_start m state.due b c result notes)
removes_ended_starts moment m sid a c result (has_ended {b = b} state asks over then_) = starts_then a.directory.seen b.directory.seen c.directory.seen (session_starts m a b asks) (by result then_)
  where
    by : (r : Result ⊤ AllocError) → Then (OnLine (PassesAll moment) TakesAll m) (Then (OnLine ClosesWires (λ k l done. (l ≡ k) × (done ≡ Ok tt)) m) (Removes m sid)) b c r → StartsWith c.directory.seen b.directory.seen
    by r (stopped error other first) = on_line_starts (PassesAll moment) TakesAll m b c (Err error) first
    by r (went_on {b = d} first (stopped error other second)) =
        starts_then b.directory.seen d.directory.seen c.directory.seen (on_line_starts (PassesAll moment) TakesAll m b d (Ok tt) first)
        (on_line_starts ClosesWires (λ k l done. (l ≡ k) × (done ≡ Ok tt)) m d c (Err error) second)
    by r (went_on {b = d} first (went_on {b = e} second third)) =
        starts_then b.directory.seen d.directory.seen c.directory.seen (on_line_starts (PassesAll moment) TakesAll m b d (Ok tt) first)
        (starts_then d.directory.seen e.directory.seen c.directory.seen (on_line_starts ClosesWires (λ k l done. (l ≡ k) × (done ≡ Ok tt)) m d e (Ok tt) second) (removes_starts m sid e c r third))

-- ---- a session is left alone

leaves_keep : {B G : Type 0} (moment : Option ℕ) (n m : ℕ) (a b : Pumping) (result : Result ⊤ AllocError) → LeavesAlone moment m a b result → Good B G n a → Good B G n b
leaves_keep moment n m a b result leaves g =
    notes_keep n m leaves.state.due leaves.asked b result leaves.notes (good_session n m a leaves.asked (λ k l says. carries_look k l says) leaves.answers g)

leaves_start : (moment : Option ℕ) (m : ℕ) (a b : Pumping) (result : Result ⊤ AllocError) → LeavesAlone moment m a b result → StartsWith b.directory.seen a.directory.seen
leaves_start moment m a b result leaves =
    starts_then a.directory.seen leaves.asked.directory.seen b.directory.seen (session_starts m a leaves.asked leaves.answers)
    (notes_start m leaves.state.due leaves.asked b result leaves.notes)

-- ---- a session is served

pub serves_held_keeps : {B G : Type 0} (moment : Option ℕ) (n m : ℕ) (sid : List ℕ) (a b : Pumping) (result : Result ⊤ AllocError) → n < 2 ^ 32
    → (m ≡ n → IsOpening n sid a.directory.seen) → ServesHeld moment m sid a b result → Good B G n a → Good B (G ⊎ (m ≡ n)) n b
serves_held_keeps {B} {G} moment n m sid a f result small named then_ g = by result then_
  where
    lined : (b : Pumping) → Meets m a b (Ok tt) → m ≡ n → HasLine n b
    lined b meets same = meets_line n a b small (subst (λ k. Meets k a b (Ok tt)) same meets)

    serves : (b c : Pumping) (r : Result ⊤ AllocError) → (m ≡ n → HasLine n b) → OnLine (Serves moment) (ServesAlone moment) m b c r → Good B G n b → Good B G n c
    serves b c r line_there step good =
        on_line_keeps n moment (Serves moment) (λ P kept s t r says p. serves_keep moment P kept s t r says p) m b c (ServesAlone moment) r
        (λ sessions no_line t others good. alone_keeps n m b (λ k l. ServesAlone moment k l r) line_there sessions no_line t others good) step good

    -- what was met is asked, and keeps its line
    asked : (b d : Pumping) (state : State) → Meets m a b (Ok tt) → AnswersState state m b d → Good B G n d
    asked b d state first asks = good_session n m b d (λ k l says. carries_look k l says) asks (meets_keeps n m a b (Ok tt) small first g)

    line_there : (b d : Pumping) (state : State) → Meets m a b (Ok tt) → AnswersState state m b d → m ≡ n → HasLine n d
    line_there b d state first asks same = ((lined b first same).0, ap (λ (p : Pumping). line_of p.lines n) asks.same ∙ (lined b first same).1)

    named_at : (b d c : Pumping) (state : State) → Meets m a b (Ok tt) → AnswersState state m b d → OnLine (Serves moment) (ServesAlone moment) m d c (Ok tt) → m ≡ n
        → IsOpening n sid c.directory.seen
    named_at b d c state first asks second same =
        opening_later n sid a.directory.seen c.directory.seen (starts_then a.directory.seen b.directory.seen c.directory.seen (meets_starts m a b (Ok tt) first)
        (starts_then b.directory.seen d.directory.seen c.directory.seen (session_starts m b d asks)
        (on_line_starts (Serves moment) (ServesAlone moment) m d c (Ok tt) second))) (named same)

    by : (r : Result ⊤ AllocError) → Then (Meets m) (ServesMet moment m sid) a f r → Good B (G ⊎ (m ≡ n)) n f
    by r (stopped error other first) = good_as n f (λ gone why. inl why) (meets_keeps n m a f (Err error) small first g)
    by r (went_on {b = b} first (left_alone leaves)) =
        good_as n f (λ gone why. inl why) (leaves_keep moment n m b f r leaves (meets_keeps n m a b (Ok tt) small first g))
    by r (went_on {b = b} first (was_served {b = d} state asks (stopped error other second))) =
        good_as n f (λ gone why. inl why) (serves d f (Err error) (line_there b d state first asks) second (asked b d state first asks))
    by r (went_on {b = b} first (was_served {b = d} state asks (went_on {b = c} second third))) =
        removes_ended_keeps moment n m sid c f r (named_at b d c state first asks second)
        (λ same. on_line_line (Serves moment) (ServesAlone moment) n m d c (Ok tt) second (line_there b d state first asks same)) third
        (serves d c (Ok tt) (line_there b d state first asks) second (asked b d state first asks))

-- and then removed where it has ended
then_starts : (moment : Option ℕ) (m : ℕ) (sid : List ℕ) (a b : Pumping) (result : Result ⊤ AllocError)
    → Then (OnLine (Serves moment) (ServesAlone moment) m) (RemovesEnded moment m sid) a b result → StartsWith b.directory.seen a.directory.seen
then_starts moment m sid a b result (stopped error other first) = on_line_starts (Serves moment) (ServesAlone moment) m a b (Err error) first
then_starts moment m sid a b result (went_on {b = c} first second) =
    starts_then a.directory.seen c.directory.seen b.directory.seen (on_line_starts (Serves moment) (ServesAlone moment) m a c (Ok tt) first)
    (removes_ended_starts moment m sid c b result second)

serves_met_starts : (moment : Option ℕ) (m : ℕ) (sid : List ℕ) (a b : Pumping) (result : Result ⊤ AllocError) → ServesMet moment m sid a b result → StartsWith b.directory.seen a.directory.seen
serves_met_starts moment m sid a b result (left_alone leaves) = leaves_start moment m a b result leaves
serves_met_starts moment m sid a b result (was_served {b = c} state asks then_) =
    starts_then a.directory.seen c.directory.seen b.directory.seen (session_starts m a c asks) (then_starts moment m sid c b result then_)

pub serves_held_starts : (moment : Option ℕ) (m : ℕ) (sid : List ℕ) (a b : Pumping) (result : Result ⊤ AllocError) → ServesHeld moment m sid a b result → StartsWith b.directory.seen a.directory.seen
serves_held_starts moment m sid a b result (stopped error other first) = meets_starts m a b (Err error) first
serves_held_starts moment m sid a b result (went_on {b = c} first second) =
    starts_then a.directory.seen c.directory.seen b.directory.seen (meets_starts m a c (Ok tt) first) (serves_met_starts moment m sid c b result second)

-- a live session of this history is found under its own number
pub found_number : (log final : List Entry) (session : LiveSession) (m : ℕ) (a b : Pumping) → Has (live_sessions log) session → StartsWith final log → IsLegal final
    → FindsSession session.sid m a b → m ≡ session.number
found_number log final session m a b is starts legal finds =
    name_tells log final session.sid session.number m starts legal (live_opened log session is) finds.found.of_name

module _ (n : ℕ) (small : n < 2 ^ 32) (final : List Entry) (legal : IsLegal final) (log : List Entry) (begins : StartsWith final log) (session : LiveSession)
    (is : Has (live_sessions log) session) where
  -- who is served is a live session of what the directory told
  pub serves_one_keeps : {B G : Type 0} (moment : Option ℕ) (a b : Pumping) (result : Result ⊤ AllocError) → StartsWith a.directory.seen log
      → (session.number ≡ n → G → ⊥) → ServesOne moment session a b result → Good B G n a → Good B (G ⊎ (session.number ≡ n)) n b
  serves_one_keeps moment a b result starts not_gone (live_no_longer asks) g = good_as n b (λ gone why. inl why) (good_directory n a b (λ k l says. called_starts _ k l says) asks g)
  serves_one_keeps moment a b result starts not_gone (not_found error asks) g = good_as n b (λ gone why. inl why) (good_directory n a b (λ k l says. says.begins) asks g)
  serves_one_keeps {B} {G} moment a c result starts not_gone (found {b = b} m finds then_) g =
      let its : m ≡ session.number = found_number log final session m a b is begins legal finds in
      let later : StartsWith b.directory.seen log = starts_then log a.directory.seen b.directory.seen starts (finds_starts m session.sid a b finds) in
      let opened : m ≡ n → IsOpening n session.sid log = λ same. subst (λ k. IsOpening k session.sid log) (sym its ∙ same) (live_opened log session is) in
      good_as n c (λ gone why. by why its)
      (serves_held_keeps moment n m session.sid b c result small (λ same. opening_later n session.sid log b.directory.seen later (opened same)) then_
      (finds_keeps n m session.sid a b finds log opened later (λ same why. not_gone (sym its ∙ same) why) g))
    where
      by : {m : ℕ} → G ⊎ (m ≡ n) → m ≡ session.number → G ⊎ (session.number ≡ n)
      by (inl why) its = inl why
      by (inr same) its = inr (sym its ∙ same)

pub serves_one_starts : (moment : Option ℕ) (session : LiveSession) (a b : Pumping) (result : Result ⊤ AllocError) → ServesOne moment session a b result → StartsWith b.directory.seen a.directory.seen
serves_one_starts moment session a b result (live_no_longer asks) = called_starts _ a.directory b.directory asks.learns
serves_one_starts moment session a b result (not_found error asks) = asks.learns.begins
serves_one_starts moment session a c result (found {b = b} m finds then_) =
    starts_then a.directory.seen b.directory.seen c.directory.seen (finds_starts m session.sid a b finds) (serves_held_starts moment m session.sid b c result then_)

pub tells_one_keeps : {B G : Type 0} (moment : Option ℕ) (n : ℕ) (session : LiveSession) (a b : Pumping) (result : Result ⊤ AllocError) → TellsOne moment session a b result → Good B G n a → Good B G n b
tells_one_keeps moment n session a b result (not_held nobody) g = g
tells_one_keeps moment n session a b result (told_where_cut step) g =
    on_line_keeps n moment (TellsCut moment) (λ P kept s t r says p. tells_keep moment P kept s t r says p) session.number a b (λ k l done. (l ≡ k) × (done ≡ Ok tt)) result
    (λ sessions no_line t others good. still_keeps n session.number a result sessions no_line t others good) step g

pub tells_one_starts : (moment : Option ℕ) (session : LiveSession) (a b : Pumping) (result : Result ⊤ AllocError) → TellsOne moment session a b result → StartsWith b.directory.seen a.directory.seen
tells_one_starts moment session a b result (not_held nobody) = starts_same a.directory.seen
tells_one_starts moment session a b result (told_where_cut step) = on_line_starts (TellsCut moment) (λ k l done. (l ≡ k) × (done ≡ Ok tt)) session.number a b result step
