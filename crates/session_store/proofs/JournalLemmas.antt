-- The journals of entries, with more entries behind them.
use Rattle.std.proofs.Common.{◌≡◌, ℕ, zero, suc, ◌==◌, ◌≤◌, Bool, true, false, cond, length, max, List, [], ◌∷◌, ◌++◌, map, refl, sym, ◌∙◌, ap, subst, arith, append_assoc}
use Rattle.std.specs.Prelude.{filter}
use Rattle.std.proofs.lemmas.Bool.{eq-eqb, eqb-true, eqb-false}
use Rattle.std.proofs.lemmas.List.{append-nil}
use Rattle.session_journal.specs.declared.entry.Entry.{Entry}
use Rattle.session_journal.specs.Stored.{IsLegal}
use Rattle.journal_store.specs.Entries.{journal_in}
use Rattle.journal_store.specs.declared.reading.SessionEntry.{SessionEntry}
use Rattle.journal_store.proofs.EntryLemmas.{journal-append}
use Rattle.session_store.specs.Journals.{AreJournals, AreLogs, MayAllCome, MayCome, log_at, opened_in}
use Rattle.session_store.specs.Replay.{GoesBehind}
use Rattle.session_store.specs.Store.{of_session}

-- what a session's entries are among its own
pub journal-own : (session : ℕ) (entries : List Entry) → journal_in session (map (of_session session) entries) ≡ entries
journal-own session [] = refl
journal-own session (e ∷ entries) =
    ap (λ b. map (λ (x : SessionEntry). x.entry) (cond b (of_session session e ∷ filter (λ (x : SessionEntry). x.session == session) (map (of_session session) entries)) (filter (λ (x : SessionEntry). x.session == session) (map (of_session session) entries)))) (eq-eqb session session refl)
    ∙ ap (λ (l : List Entry). e ∷ l) (journal-own session entries)

-- and among those of another
pub journal-other : (session other : ℕ) → (session == other) ≡ false → (entries : List Entry) → journal_in other (map (of_session session) entries) ≡ []
journal-other session other apart [] = refl
journal-other session other apart (e ∷ entries) =
    ap (λ b. map (λ (x : SessionEntry). x.entry) (cond b (of_session session e ∷ filter (λ (x : SessionEntry). x.session == other) (map (of_session session) entries)) (filter (λ (x : SessionEntry). x.session == other) (map (of_session session) entries)))) apart
    ∙ journal-other session other apart entries

pub with_own : (session : ℕ) (entries : List SessionEntry) (more : List Entry) → journal_in session (entries ++ map (of_session session) more) ≡ journal_in session entries ++ more
with_own session entries more =
    journal-append session entries (map (of_session session) more) ∙ ap (λ (l : List Entry). journal_in session entries ++ l) (journal-own session more)

pub with_other : (session other : ℕ) → (session == other) ≡ false → (entries : List SessionEntry) (more : List Entry) → journal_in other (entries ++ map (of_session session) more) ≡ journal_in other entries
with_other session other apart entries more =
    journal-append other entries (map (of_session session) more)
    ∙ ap (λ (l : List Entry). journal_in other entries ++ l) (journal-other session other apart more)
    ∙ append-nil (journal_in other entries)

-- how many sessions there are with one entry more
pub opened-append : (entries : List SessionEntry) (e : SessionEntry) → opened_in (entries ++ e ∷ []) ≡ max e.session (opened_in entries)
opened-append [] e = refl
opened-append (x ∷ entries) e =
    let more = opened-append entries e in
    omega (arith, more)

opened-both : (entries more : List SessionEntry) → opened_in (entries ++ more) ≡ max (opened_in entries) (opened_in more)
opened-both [] more = omega arith
opened-both (x ∷ entries) more =
    let rest = opened-both entries more in
    omega (arith, rest)

opened-own : (session : ℕ) (fresh : List Entry) → 1 ≤ length fresh → opened_in (map (of_session session) fresh) ≡ session
opened-own session [] some = absurd (omega (arith, some))
opened-own session (e ∷ []) some = omega arith
opened-own session (e ∷ f ∷ fresh) some =
    let rest = opened-own session (f ∷ fresh) (omega arith) in
    omega (arith, rest)

-- and with some more of one session
pub opened-more : (session : ℕ) (entries : List SessionEntry) (fresh : List Entry) → 1 ≤ length fresh → opened_in (entries ++ map (of_session session) fresh) ≡ max session (opened_in entries)
opened-more session entries fresh some =
    let both = opened-both entries (map (of_session session) fresh) in
    let own = opened-own session fresh some in
    omega (arith, both, own)

-- an entry that may come goes behind those that may
pub one_comes : (before entries : List SessionEntry) (e : SessionEntry) → MayAllCome before entries → MayCome (before ++ entries) e → MayAllCome before (entries ++ e ∷ [])
one_comes before [] e all may = (subst (λ l. MayCome l e) (append-nil before) may, tt)
one_comes before (x ∷ entries) e all may =
    (all.0, one_comes (before ++ x ∷ []) entries e all.1 (subst (λ l. MayCome l e) (sym (append_assoc before (x ∷ []) entries)) may))

module _ (logs logs' : List (List Entry)) (entries : List SessionEntry) (session : ℕ) (e : Entry) (are : AreLogs logs entries) (goes : GoesBehind logs session e logs') where
  pub may_come : MayCome entries (of_session session e)
  may_come = record {
    numbered = goes.numbered;
    next = omega (arith, goes.next, are.count);
    journal = subst (λ (l : List Entry). IsLegal (l ++ e ∷ [])) (are.each session) goes.legal;
  }

  each_log : (n : ℕ) → (b : Bool) → (session == n) ≡ b → log_at logs' n ≡ journal_in n (entries ++ of_session session e ∷ [])
  each_log n true same =
      let is = eqb-true session n same in
      subst (λ k. log_at logs' k ≡ journal_in k (entries ++ of_session session e ∷ [])) is
      (goes.mine ∙ ap (λ (l : List Entry). l ++ e ∷ []) (are.each session) ∙ sym (with_own session entries (e ∷ [])))
  each_log n false apart =
      goes.others n (other_way session n apart) ∙ are.each n ∙ sym (with_other session n apart entries (e ∷ []))
    where
      other_way : (a b : ℕ) → (a == b) ≡ false → (b == a) ≡ false
      other_way a b is = by (b == a) refl
        where
          by : (c : Bool) → (b == a) ≡ c → c ≡ false
          by true yet = absurd (eqb-false a b is (sym (eqb-true b a yet)))
          by false yet = refl

  -- the journals are then those of the entries with this one
  pub logs_more : AreLogs logs' (entries ++ of_session session e ∷ [])
  logs_more = record {
    count = goes.count ∙ ap (max session) are.count ∙ sym (opened-append entries (of_session session e));
    each = λ n. each_log n (session == n) refl;
  }

  pub journals_more : AreJournals entries → AreJournals (entries ++ of_session session e ∷ [])
  journals_more all = one_comes [] entries (of_session session e) all may_come

pub no_logs : AreLogs [] []
no_logs = record { count = refl; each = none }
  where
    none : (session : ℕ) → log_at [] session ≡ []
    none zero = refl
    none (suc place) = refl
