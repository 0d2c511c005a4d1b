-- What a file has of sessions whose entries are added to it.
use Rattle.std.proofs.Common.{◌≡◌, inl, inr, ℕ, zero, suc, ◌+◌, ◌<◌, ◌≤◌, ◌==◌, Bool, true, false, List, [], ◌∷◌, ◌++◌, All, Option, Some, None, length, get_or, drop, map, refl, sym, subst, ◌∙◌, ap, ap₂, arith, add-one, append_assoc, cond, if◌then◌else◌}
use Rattle.std.specs.Prelude.{◌⊎◌, count_by, filter, ◌&&◌, nat_le}
use Rattle.std.proofs.lemmas.Bool.{leb-true, leb-false, le-leb, eqb-true, eqb-false}
use Rattle.std.proofs.lemmas.Bool.Decides.{nat_tests}
use Rattle.std.proofs.Math.Seq.{drop-cons}
use Rattle.std.proofs.lemmas.List.{append-nil, drop_at}
use Rattle.std.proofs.lemmas.List.Elements.{All-nil, All-cons, All-head, All-tail, All-append}
use Rattle.session_core.specs.Journal as plain
use Rattle.session_core.specs.Journal.{Journal}
use Rattle.session_laws.specs.Growing.{with_later}
use Rattle.session_journal.specs.declared.entry.Entry.{Entry}
use Rattle.session_journal.specs.Entries as told
use Rattle.session_journal.specs.Stored.{IsJournalOf}
use Rattle.session_journal.proofs.JournalLemmas.{all_there, consed, journal_append, opened_with}
use Rattle.journal_store.specs.Entries.{journal_in}
use Rattle.journal_store.specs.declared.reading.SessionEntry.{SessionEntry}
use Rattle.session_store.specs.Journals.{AreJournals, opened_in}
use Rattle.session_store.specs.Store.{Stores, of_session}
use Rattle.session_store.specs.declared.store.Store.{Store}
use Rattle.session_store.proofs.GrownLemmas.{journals_grow}
use Rattle.session_store.proofs.JournalLemmas.{with_own, with_other}
use Rattle.script_text.specs.declared.live.Live.{Live}
use Rattle.script_text.specs.Headline.{is_numbered, is_opened}
use Rattle.script_text.specs.Entered.{Grew}
use Rattle.script_text.specs.Kept.{AddsJournals, HasJournal, HaveJournals, IsBehind, IsNextAtMost, KeepsSome}
use Rattle.script_text.specs.Live.{PlainLive}
use Rattle.script_text.specs.Manager.{PlainManager}
use Rattle.script_text.specs.Stands.{AreLive, IsLive}
use Rattle.script_text.proofs.GrowLemmas.{Continues}
use Rattle.script_text.proofs.SessionsLemmas.{all_back, all_both, all_front, count_append, count_cons, none_passes, one_if, one_if-few, swapped}
use Rattle.script_text.proofs.ToldLemmas.{same_number}

-- ---- what entries tell, and some of them

nothing_told : (xs : List plain.Entry) → ◌≡◌ {A = Option (List plain.Entry)} (Some []) (Some xs) → [] ≡ xs
nothing_told xs is = cc

entries_length : (es : List Entry) (xs : List plain.Entry) → told.entries_in es ≡ Some xs → length es ≡ length xs
entries_length [] xs is = ap length (nothing_told xs is)
entries_length (e ∷ es) xs is =
    let both = all_there consed (told.entry_in e) (told.entries_in es) xs is in
    ap suc (entries_length es both.1 both.3) ∙ sym (ap length both.4)

entries_drop : (count : ℕ) (es : List Entry) (xs : List plain.Entry) → told.entries_in es ≡ Some xs → told.entries_in (drop count es) ≡ Some (drop count xs)
entries_drop zero es xs is = is
entries_drop (suc count) [] xs is = ap (λ (l : List plain.Entry). Some (drop (suc count) l)) (nothing_told xs is)
entries_drop (suc count) (e ∷ es) xs is =
    let both = all_there consed (told.entry_in e) (told.entries_in es) xs is in
    entries_drop count es both.1 both.3 ∙ ap (λ (l : List plain.Entry). Some (drop (suc count) l)) (sym both.4)

-- entries that tell a beginning of a journal, with those behind them that tell the whole, tell the whole
whole_told : (some all : List Entry) (before journal : Journal) → told.journal_in some ≡ Some before → told.journal_in all ≡ Some journal → Grew before journal
    → told.journal_in (some ++ drop (length some) all) ≡ Some journal
whole_told [] all before journal is is_all grew = absurd (cc)
whole_told (o ∷ es) [] before journal is is_all grew = absurd (cc)
whole_told (o ∷ es) (p ∷ fs) before journal is is_all (more, grew) =
    let first = all_there opened_with (told.opening_in o.call) (told.entries_in es) before is in
    let other = all_there opened_with (told.opening_in p.call) (told.entries_in fs) journal is_all in
    let size : length before.entries ≡ length es = ap (λ (j : Journal). length j.entries) first.4 ∙ sym (entries_length es first.1 first.3) in
    let longer : other.1 ≡ before.entries ++ more = sym (ap (λ (j : Journal). j.entries) other.4) ∙ ap (λ (j : Journal). j.entries) grew in
    let rest = entries_drop (length es) fs other.1 other.3 ∙ ap (λ (l : List plain.Entry). Some (drop (length es) l)) longer ∙ ap Some (drop_at before.entries more (length es) size) in
    journal_append (o ∷ es) (drop (length es) fs) before more is rest ∙ ap Some (sym grew)

-- ---- one session's entries are added

module _ (entries : List SessionEntry) (s : PlainLive) (log : List Entry) (is : IsJournalOf log s.journal) where
  abbrev pub fresh : List Entry
  fresh = drop (length (journal_in s.number entries)) log

  abbrev pub added : List SessionEntry
  added = entries ++ map (of_session s.number) fresh

  pub kept_journal : IsBehind entries s → IsJournalOf (journal_in s.number entries ++ fresh) s.journal
  kept_journal (inl none) =
      subst (λ (l : List Entry). IsJournalOf (l ++ drop (length l) log) s.journal) (sym none) is
  kept_journal (inr (before, tells, grew)) = record {
    told = whole_told (journal_in s.number entries) log before s.journal tells.told is.told grew;
    made = is.made;
  }

  pub has_it : IsBehind entries s → HasJournal added s
  has_it behind = subst (λ (l : List Entry). IsJournalOf l s.journal) (sym (with_own s.number entries fresh)) (kept_journal behind)

  pub has_other : (number : ℕ) → (number == s.number) ≡ false → journal_in number added ≡ journal_in number entries
  has_other number apart = with_other s.number number (swapped number s.number apart) entries fresh

behind_same : (before after : List SessionEntry) (s : PlainLive) → journal_in s.number after ≡ journal_in s.number before → IsBehind before s → IsBehind after s
behind_same before after s same (inl none) = inl (same ∙ none)
behind_same before after s same (inr (journal, is, grew)) = inr (journal, subst (λ (l : List Entry). IsJournalOf l journal) (sym same) is, grew)

-- with more entries no fewer sessions are opened
opened-both : (entries more : List SessionEntry) → opened_in entries ≤ opened_in (entries ++ more)
opened-both [] more = omega arith
opened-both (e ∷ entries) more =
    let both = opened-both entries more in
    omega (arith, both)

-- a session of which there is an entry was opened
opened-entry : (number : ℕ) (entries : List SessionEntry) → (journal_in number entries ≡ [] → ⊥) → number ≤ opened_in entries
opened-entry number [] some = absurd (some refl)
opened-entry number (e ∷ entries) some = by (opened-entry number entries) (e.session == number) refl
  where
    by : ((journal_in number entries ≡ [] → ⊥) → number ≤ opened_in entries) → (b : Bool) → (e.session == number) ≡ b → number ≤ opened_in (e ∷ entries)
    by behind true same =
        let is = eqb-true e.session number same in
        omega (arith, is)
    by behind false apart =
        let more = behind (λ none. some (ap (λ b. map (λ (x : SessionEntry). x.entry) (cond b (e ∷ filter (λ (x : SessionEntry). x.session == number) entries) (filter (λ (x : SessionEntry). x.session == number) entries))) apart ∙ none)) in
        omega (arith, more)

-- what tells a journal is not nothing
some_told : (log : List Entry) (journal : Journal) → IsJournalOf log journal → log ≡ [] → ⊥
some_told [] journal is none = nothing_journal journal is.told
  where
    nothing_journal : (journal : Journal) → told.journal_in [] ≡ Some journal → ⊥
    nothing_journal journal clash = cc
some_told (e ∷ log) journal is none = cc

-- of sessions of which one has a number there is one with it
one_numbered : (P : PlainLive → Type 0) (number : ℕ) (ss : List PlainLive) → 1 ≤ count_by (is_numbered number) ss → All P ss → (s : PlainLive) × (s.number ≡ number) × P s
one_numbered P number [] some all =
    let none : count_by (is_numbered number) [] ≡ 0 = refl in
    absurd (omega (arith, some, none))
one_numbered P number (s ∷ ss) some all = by (one_numbered P number ss) (s.number == number) refl
  where
    by : (1 ≤ count_by (is_numbered number) ss → All P ss → (t : PlainLive) × (t.number ≡ number) × P t) → (b : Bool) → (s.number == number) ≡ b → (t : PlainLive) × (t.number ≡ number) × P t
    by behind true same = (s, eqb-true s.number number same, All-head P s ss all)
    by behind false apart =
        let a = count_cons (is_numbered number) s ss in
        let none : one_if (s.number == number) ≡ 0 = ap one_if apart in
        behind (omega (arith, some, a, none)) (All-tail P s ss all)

-- each number up to that of the last session was opened
opened_all : (entries : List SessionEntry) (sessions : List PlainLive) (opened : ℕ) → HaveJournals entries sessions opened → opened ≤ opened_in entries
opened_all entries sessions zero have = omega arith
opened_all entries sessions (suc before) have =
    let one : one_if (is_opened (suc before) (suc before)) ≡ 1 = ap one_if (ap₂ (λ a b. a && b) (le-leb 1 (suc before) (omega arith)) (le-leb (suc before) (suc before) (omega arith))) in
    let numbers = have.numbers (suc before) in
    let found = one_numbered (HasJournal entries) (suc before) sessions (omega (arith, numbers, one)) have.each in
    opened-entry (suc before) entries (subst (λ n. journal_in n entries ≡ [] → ⊥) found.1 (some_told (journal_in (found.0).number entries) (found.0).journal found.2))

-- a session whose number was given is none beyond the last
number_few : (opened : ℕ) (s : PlainLive) (ss : List PlainLive) → ((k : ℕ) → count_by (is_numbered k) (s ∷ ss) ≤ one_if (is_opened opened k)) → s.number ≤ opened
number_few opened s ss counts =
    let a = count_cons (is_numbered s.number) s ss in
    let one : one_if (is_numbered s.number s) ≡ 1 = ap one_if (same_number s.number) in
    let b = counts s.number in
    by (nat_le 1 s.number) (nat_le s.number opened) refl (omega (arith, a, one, b))
  where
    by : (b c : Bool) → nat_le s.number opened ≡ c → 1 ≤ one_if (b && c) → s.number ≤ opened
    by true true is some = leb-true s.number opened is
    by true false is some = absurd (omega (arith, some))
    by false c is some = absurd (omega (arith, some))

numbers_few : (opened : ℕ) (P : PlainLive → Type 0) → ((s : PlainLive) → s.number ≤ opened → P s) → (ss : List PlainLive)
    → ((k : ℕ) → count_by (is_numbered k) ss ≤ one_if (is_opened opened k)) → All P ss
numbers_few opened P so [] counts = All-nil P
numbers_few opened P so (s ∷ ss) counts =
    All-cons P s ss (so s (number_few opened s ss counts)) (numbers_few opened P so ss (λ k.
    let a = count_cons (is_numbered k) s ss in
    let b = counts k in
    omega (arith, a, b)))

few_if : (b : Bool) → (if b then 1 else 0) ≤ 1
few_if true = omega arith
few_if false = omega arith

module _ {D : Type 0} (seen : D → List ℕ) (time : D → ℕ) (left : D → ℕ → List ℕ → Type 0) (stored : List SessionEntry) where
  -- one session more
  module _ (old new : Store D) (kept rest : List PlainLive) (s : PlainLive) (live : Live) (some : KeepsSome seen time left old stored kept (s ∷ rest)) (is : IsLive live s)
      (keeps : 1 ≤ live.number → Stores seen time left new stored (some.waiting ++ map (of_session live.number) (drop (length (journal_in live.number (stored ++ some.waiting))) live.session))) where
    abbrev so_far : List SessionEntry
    so_far = stored ++ some.waiting

    abbrev then_so : List SessionEntry
    then_so = added so_far s live.session is.journal

    mine : count_by (is_numbered s.number) (s ∷ rest) ≡ 1 + count_by (is_numbered s.number) rest
    mine = count_cons (is_numbered s.number) s rest ∙ ap (λ b. cond b 1 0 + count_by (is_numbered s.number) rest) (same_number s.number)

    none_kept : count_by (is_numbered s.number) kept ≡ 0
    none_kept = omega (arith, some.numbers s.number, mine, few_if (nat_le 1 s.number))

    none_rest : count_by (is_numbered s.number) rest ≡ 0
    none_rest = omega (arith, some.numbers s.number, mine, few_if (nat_le 1 s.number))

    positive : 1 ≤ s.number
    positive = by (nat_le 1 s.number) refl
      where
        by : (b : Bool) → nat_le 1 s.number ≡ b → 1 ≤ s.number
        by true is_yes = leb-true 1 s.number is_yes
        by false is_no =
            let none : one_if (nat_le 1 s.number) ≡ 0 = ap one_if is_no in
            absurd (omega (arith, some.numbers s.number, mine, none))

    regrouped : stored ++ (some.waiting ++ map (of_session s.number) (fresh so_far s live.session is.journal)) ≡ then_so
    regrouped = sym (append_assoc stored some.waiting _)

    -- its entries go behind those that there are
    all_journals : AreJournals then_so
    all_journals =
        let next = All-head (IsNextAtMost stored) s rest some.next in
        let more = opened-both stored some.waiting in
        journals_grow s.number (fresh so_far s live.session is.journal) so_far some.journals positive (omega (arith, next, more))
        (s.journal, kept_journal so_far s live.session is.journal (All-head (IsBehind so_far) s rest some.behind))

    all_kept : All (HasJournal then_so) (kept ++ s ∷ [])
    all_kept = All-append (HasJournal then_so) kept (s ∷ [])
        (all_both (λ x. is_numbered s.number x ≡ false) (HasJournal so_far) (HasJournal then_so)
        (λ x apart has. subst (λ (l : List Entry). IsJournalOf l x.journal) (sym (has_other so_far s live.session is.journal x.number apart)) has)
        kept (none_passes (is_numbered s.number) kept none_kept) some.each)
        (All-cons (HasJournal then_so) s [] (has_it so_far s live.session is.journal (All-head (IsBehind so_far) s rest some.behind)) (All-nil (HasJournal then_so)))

    all_rest : All (IsBehind then_so) rest
    all_rest = all_both (λ x. is_numbered s.number x ≡ false) (IsBehind so_far) (IsBehind then_so)
        (λ x apart behind. behind_same so_far then_so x (has_other so_far s live.session is.journal x.number apart) behind)
        rest (none_passes (is_numbered s.number) rest none_rest) (All-tail (IsBehind so_far) s rest some.behind)

    no_other : (number : ℕ) → count_by (is_numbered number) (kept ++ s ∷ []) ≡ 0 → journal_in number then_so ≡ journal_in number stored
    no_other number none =
        let sum = count_append (is_numbered number) kept (s ∷ []) in
        by (s.number == number) refl sum
      where
        by : (b : Bool) → (s.number == number) ≡ b → count_by (is_numbered number) (kept ++ s ∷ []) ≡ count_by (is_numbered number) kept + count_by (is_numbered number) (s ∷ [])
            → journal_in number then_so ≡ journal_in number stored
        by true same sum =
            let one : count_by (is_numbered number) (s ∷ []) ≡ 1 = ap (λ b. 0 + cond b 1 0) same in
            absurd (omega (arith, sum, none, one))
        by false apart sum =
            has_other so_far s live.session is.journal number (swapped s.number number apart) ∙ some.others number (omega (arith, sum, none))

    pub one_kept : KeepsSome seen time left new stored (kept ++ s ∷ []) rest
    one_kept = record {
      waiting = some.waiting ++ map (of_session s.number) (fresh so_far s live.session is.journal);
      stores = subst (λ n. 1 ≤ n → Stores seen time left new stored (some.waiting ++ map (of_session n) (drop (length (journal_in n so_far)) live.session))) is.number keeps positive;
      each = subst (λ (l : List SessionEntry). All (HasJournal l) (kept ++ s ∷ [])) (sym regrouped) all_kept;
      journals = subst AreJournals (sym regrouped) all_journals;
      behind = subst (λ (l : List SessionEntry). All (IsBehind l) rest) (sym regrouped) all_rest;
      next = All-tail (IsNextAtMost stored) s rest some.next;
      numbers = λ number.
          let a = count_append (is_numbered number) kept (s ∷ []) in
          let b = count_append (is_numbered number) (s ∷ []) rest in
          let c = some.numbers number in
          omega (arith, a, b, c);
      others = λ number none. ap (journal_in number) regrouped ∙ no_other number none;
    }

  -- ---- the sessions of a line

  module _ (ended over live gone : List PlainLive) (opened : ℕ) (after : PlainManager) (have : HaveJournals stored (ended ++ (over ++ live)) opened)
      (continues : Continues stored live opened gone after) where
    sums : (k : ℕ) → count_by (is_numbered k) ended + count_by (is_numbered k) over + count_by (is_numbered k) gone + count_by (is_numbered k) after.live ≡ one_if (is_opened after.opened k)
    sums k =
        let p = is_numbered k in
        let a = count_append p ended (over ++ live) in
        let b = count_append p over live in
        let c = have.numbers k in
        let d = continues.counts k in
        omega (arith, a, b, c, d)

    from_one : (k : ℕ) → one_if (is_opened after.opened k) ≤ (if nat_le 1 k then 1 else 0)
    from_one k = by (nat_le 1 k) (nat_le k after.opened)
      where
        by : (a b : Bool) → one_if (a && b) ≤ (if a then 1 else 0)
        by true true = omega arith
        by true false = omega arith
        by false b = omega arith

    -- nothing of the line was added
    pub line_begins : (store : Store D) → Stores seen time left store stored [] → KeepsSome seen time left store stored [] (gone ++ after.live)
    line_begins store stores = record {
      waiting = [];
      stores = stores;
      each = All-nil (HasJournal (stored ++ []));
      journals = subst AreJournals (sym (append-nil stored)) have.journals;
      behind = subst (λ (l : List SessionEntry). All (IsBehind l) (gone ++ after.live)) (sym (append-nil stored)) (All-append (IsBehind stored) gone after.live continues.over_behind continues.live_behind);
      next = numbers_few after.opened (IsNextAtMost stored)
          (λ s few. omega (arith, few, continues.few, opened_all stored (ended ++ (over ++ live)) opened have))
          (gone ++ after.live) (λ k.
          let a = count_append (is_numbered k) gone after.live in
          let b = sums k in
          omega (arith, a, b));
      numbers = λ k.
          let a = count_append (is_numbered k) gone after.live in
          let b = sums k in
          let c = from_one k in
          omega (arith, a, b, c);
      others = λ k none. ap (journal_in k) (append-nil stored);
    }

    module _ (all_so : List SessionEntry) (adds : AddsJournals stored all_so (gone ++ after.live)) where
      -- those that ended before stay as they were
      counted_in : (xs : List PlainLive) (i : ℕ) (d : PlainLive) → i < length xs → 1 ≤ count_by (is_numbered (get_or xs i d).number) xs
      counted_in [] i d within = absurd (omega (arith, within))
      counted_in (x ∷ xs) zero d within =
          let a = count_cons (is_numbered x.number) x xs in
          let one : one_if (is_numbered x.number x) ≡ 1 = ap one_if (same_number x.number) in
          omega (arith, a, one)
      counted_in (x ∷ xs) (suc i) d within =
          let a = count_cons (is_numbered (get_or xs i d).number) x xs in
          let b = counted_in xs i d (omega (arith, within)) in
          omega (arith, a, b)

      same_at : (k : ℕ) → 1 ≤ count_by (is_numbered k) ended + count_by (is_numbered k) over → journal_in k all_so ≡ journal_in k stored
      same_at k one =
          let a = count_append (is_numbered k) gone after.live in
          adds.others k (omega (arith, a, sums k, one, one_if-few (is_opened after.opened k)))

      stays : (xs : List PlainLive) → ((k : ℕ) → count_by (is_numbered k) xs ≤ count_by (is_numbered k) ended + count_by (is_numbered k) over) → All (HasJournal stored) xs → All (HasJournal all_so) xs
      stays xs within all = λ i d inside.
          let x = get_or xs i d in
          let one = counted_in xs i d inside in
          let two = within x.number in
          subst (λ (l : List Entry). IsJournalOf l x.journal) (sym (same_at x.number (omega (arith, one, two)))) (all i d inside)

      -- then the entries are the journals of all
      pub line_ends : HaveJournals all_so (ended ++ ((over ++ gone) ++ after.live)) after.opened
      line_ends =
          let old_ended = all_front (HasJournal stored) ended (over ++ live) have.each in
          let old_over = all_front (HasJournal stored) over live (all_back (HasJournal stored) ended (over ++ live) have.each) in
          record {
            numbers = λ k.
                let p = is_numbered k in
                let a = count_append p ended ((over ++ gone) ++ after.live) in
                let b = count_append p (over ++ gone) after.live in
                let c = count_append p over gone in
                let d = sums k in
                omega (arith, a, b, c, d);
            each = All-append (HasJournal all_so) ended ((over ++ gone) ++ after.live) (stays ended (λ k. omega arith) old_ended)
                (All-append (HasJournal all_so) (over ++ gone) after.live
                (All-append (HasJournal all_so) over gone (stays over (λ k. omega arith) old_over) (all_front (HasJournal all_so) gone after.live adds.each))
                (all_back (HasJournal all_so) gone after.live adds.each));
            others = λ k none.
                let a = count_append (is_numbered k) gone after.live in
                let zero_now : one_if (is_opened after.opened k) ≡ 0 = ap one_if none in
                adds.others k (omega (arith, a, sums k, zero_now)) ∙ have.others k (fewer_opened k none);
            written = adds.written;
            journals = adds.journals;
          }
        where
          fewer_opened : (k : ℕ) → is_opened after.opened k ≡ false → is_opened opened k ≡ false
          fewer_opened k none = by (nat_le 1 k) (nat_le k opened) (nat_le k after.opened) refl refl none
            where
              by : (a b c : Bool) → nat_le k opened ≡ b → nat_le k after.opened ≡ c → (a && c) ≡ false → (a && b) ≡ false
              by true true true b_is c_is is_no = absurd (cc)
              by true true false b_is c_is is_no = absurd (omega (arith, leb-true k opened b_is, leb-false k after.opened c_is, continues.more))
              by true false c b_is c_is is_no = refl
              by false b c b_is c_is is_no = refl

-- ---- several sessions, one after the other

-- the session at a place, and those after it
pub live_place : (lives : List Live) (i : ℕ) (live : Live) → i < length lives → live ≡ get_or lives i live → drop i lives ≡ live ∷ drop (i + 1) lives
live_place lives i live within is = drop-cons lives i live within ∙ ap (λ first. first ∷ drop (suc i) lives) (sym is) ∙ ap (λ n. live ∷ drop n lives) (sym (add-one i))

pub record KeepsOn {D : Type 0} (seen : D → List ℕ) (time : D → ℕ) (left : D → ℕ → List ℕ → Type 0) (stored : List SessionEntry) (store : Store D) (kept ss rest : List PlainLive) (lives : List Live) : Type 0 where
  pub gone : List PlainLive
  pub going : List PlainLive
  pub split : ss ≡ gone ++ going
  pub are : AreLive lives going
  pub some : KeepsSome seen time left store stored (kept ++ gone) (going ++ rest)

module _ {D : Type 0} (seen : D → List ℕ) (time : D → ℕ) (left : D → ℕ → List ℕ → Type 0) (stored : List SessionEntry) (kept ss rest : List PlainLive) where
  pub keeps_begin : (store : Store D) (lives : List Live) → AreLive lives ss → KeepsSome seen time left store stored kept (ss ++ rest) → KeepsOn seen time left stored store kept ss rest lives
  keeps_begin store lives are some = record {
    gone = [];
    going = ss;
    split = refl;
    are = are;
    some = subst (λ (l : List PlainLive). KeepsSome seen time left store stored l (ss ++ rest)) (sym (append-nil kept)) some;
  }

  pub keeps_more : (old new : Store D) (live : Live) (lives : List Live) → KeepsOn seen time left stored old kept ss rest (live ∷ lives)
      → (1 ≤ live.number → (before waiting : List SessionEntry) → Stores seen time left old before waiting
      → Stores seen time left new before (waiting ++ map (of_session live.number) (drop (length (journal_in live.number (before ++ waiting))) live.session)))
      → KeepsOn seen time left stored new kept ss rest lives
  keeps_more old new live lives on keeps = by on.going on.split on.are on.some
    where
      by : (going : List PlainLive) → ss ≡ on.gone ++ going → AreLive (live ∷ lives) going → KeepsSome seen time left old stored (kept ++ on.gone) (going ++ rest)
          → KeepsOn seen time left stored new kept ss rest lives
      by [] split are some = absurd are
      by (s ∷ going) split are some = record {
        gone = on.gone ++ s ∷ [];
        going = going;
        split = split ∙ sym (append_assoc on.gone (s ∷ []) going);
        are = are.1;
        some = subst (λ (l : List PlainLive). KeepsSome seen time left new stored l (going ++ rest)) (append_assoc kept on.gone (s ∷ []))
            (one_kept seen time left stored old new (kept ++ on.gone) (going ++ rest) s live some are.0 (λ one. keeps one stored some.waiting some.stores));
      }

  pub keeps_done : (store : Store D) → KeepsOn seen time left stored store kept ss rest [] → KeepsSome seen time left store stored (kept ++ ss) rest
  keeps_done store on = by on.going on.split on.are on.some
    where
      by : (going : List PlainLive) → ss ≡ on.gone ++ going → AreLive [] going → KeepsSome seen time left store stored (kept ++ on.gone) (going ++ rest) → KeepsSome seen time left store stored (kept ++ ss) rest
      by [] split are some = subst (λ (l : List PlainLive). KeepsSome seen time left store stored (kept ++ l) rest) (sym (split ∙ append-nil on.gone)) some
      by (s ∷ going) split are some = absurd are
