-- The sessions of a file, with which a script goes on.
use Rattle.std.proofs.Common.{◌≡◌, ℕ, zero, suc, ◌+◌, ◌<◌, ◌≤◌, ◌==◌, Bool, true, false, max, List, [], ◌∷◌, ◌++◌, All, Option, length, get_or, refl, sym, subst, ◌∙◌, ap, ap₂, arith, append_assoc, length-append, cond, if◌then◌else◌}
use Rattle.std.specs.List.{AllByRecursion}
use Rattle.std.specs.Prelude.{count_by, flat_map, ◌&&◌, nat_le}
use Rattle.std.proofs.lemmas.Bool.{le-leb, leb-false}
use Rattle.std.proofs.lemmas.List.{append-nil}
use Rattle.std.proofs.lemmas.List.Elements.{All-nil, All-append}
use Rattle.std.proofs.Math.ListN.{get_or-eq_default}
use Rattle.session_journal.specs.declared.entry.Entry.{Entry}
use Rattle.session_journal.specs.Stored.{IsJournalOf}
use Rattle.journal_store.specs.Entries.{FitsContent, journal_in}
use Rattle.journal_store.specs.declared.reading.SessionEntry.{SessionEntry}
use Rattle.session_store.specs.Journals.{AreJournals, AreLogs, log_at}
use Rattle.script_text.specs.declared.live.Live.{Live}
use Rattle.script_text.specs.Headline.{is_numbered, is_opened}
use Rattle.script_text.specs.Kept.{HasJournal, HaveJournals}
use Rattle.script_text.specs.Live.{PlainLive, if_live, if_over}
use Rattle.script_text.specs.Resumed.{AreSessions, IsSession, latest, latest_of_all, live_of, over_of}
use Rattle.script_text.specs.Stands.{AreLive, IsBefore, Rests}
use Rattle.script_text.proofs.HeadlineLemmas.{none_opened}
use Rattle.script_text.proofs.ManagerLemmas.{rest_until}
use Rattle.script_text.proofs.SessionsLemmas.{count_append, either_counts, if_live-part, if_over-part, one_if, opened_more}

-- one session more

sessions_push : (before : ℕ) (logs : List (List Entry)) (ss : List PlainLive) (log : List Entry) (s : PlainLive) → AreSessions before logs ss → IsSession (before + length logs + 1) log s
    → AreSessions before (logs ++ log ∷ []) (ss ++ s ∷ [])
sessions_push before [] [] log s are is =
    let same : before + 0 + 1 ≡ before + 1 = omega arith in
    (subst (λ n. IsSession n log s) same is, tt)
sessions_push before [] (t ∷ ss) log s are is = absurd are
sessions_push before (l ∷ logs) [] log s are is = absurd are
sessions_push before (l ∷ logs) (t ∷ ss) log s are is =
    let same : before + suc (length logs) + 1 ≡ (before + 1) + length logs + 1 = omega arith in
    (are.0, sessions_push (before + 1) logs ss log s are.1 (subst (λ n. IsSession n log s) same is))

live_push : (ss : List PlainLive) (s : PlainLive) → live_of (ss ++ s ∷ []) ≡ live_of ss ++ if_live s
live_push [] s = append-nil (if_live s)
live_push (t ∷ ss) s = ap (λ (l : List PlainLive). if_live t ++ l) (live_push ss s) ∙ sym (append_assoc (if_live t) (live_of ss) (if_live s))

latest_push : (logs : List (List Entry)) (log : List Entry) → latest_of_all (logs ++ log ∷ []) ≡ max (latest_of_all logs) (latest log)
latest_push [] log = omega arith
latest_push (l ∷ logs) log =
    let more = latest_push logs log in
    omega (arith, more)

-- the sessions so far, and the journals that are left
pub record ResumesOn (opened moment : ℕ) (soonest : Option ℕ) (live : List Live) (rest whole : List (List Entry)) : Type 0 where
  pub done : List (List Entry)
  pub all : List PlainLive
  pub split : whole ≡ done ++ rest
  pub are : AreSessions 0 done all
  pub count : opened ≡ length done
  pub latest_is : moment ≡ latest_of_all done
  pub lives : AreLive live (live_of all)
  pub resting : All (Rests soonest) (live_of all)

pub resumes_from : (soonest : Option ℕ) (logs : List (List Entry)) → ResumesOn 0 0 soonest [] logs logs
resumes_from soonest logs = record { done = []; all = []; split = refl; are = tt; count = refl; latest_is = refl; lives = tt; resting = All-nil (Rests soonest) }

pub resumes_more : (opened moment : ℕ) (soonest sooner : Option ℕ) (live live' : List Live) (log : List Entry) (rest whole : List (List Entry)) → ResumesOn opened moment soonest live (log ∷ rest) whole
    → ((now : ℕ) → IsBefore now sooner → IsBefore now soonest)
    → (s : PlainLive) → IsSession (opened + 1) log s → ((through : List PlainLive) → AreLive live through → AreLive live' (through ++ if_live s)) → All (Rests sooner) (if_live s)
    → ResumesOn (opened + 1) (max moment (latest log)) sooner live' rest whole
resumes_more opened moment soonest sooner live live' log rest whole on earlier s is kept rests =
    let number : opened + 1 ≡ 0 + length on.done + 1 = omega (arith, on.count) in
    record {
      done = on.done ++ log ∷ [];
      all = on.all ++ s ∷ [];
      split = on.split ∙ sym (append_assoc on.done (log ∷ []) rest);
      are = sessions_push 0 on.done on.all log s on.are (subst (λ n. IsSession n log s) number is);
      count = omega (arith, on.count, length-append on.done (log ∷ []));
      latest_is = ap (λ n. max n (latest log)) on.latest_is ∙ sym (latest_push on.done log);
      lives = subst (λ (l : List PlainLive). AreLive live' l) (sym (live_push on.all s)) (kept (live_of on.all) on.lives);
      resting = subst (λ (l : List PlainLive). All (Rests sooner) l) (sym (live_push on.all s)) (All-append (Rests sooner) (live_of on.all) (if_live s) (rest_until soonest sooner (live_of on.all) earlier on.resting) rests);
    }

-- what the file has of them

resumed_counts : (k before : ℕ) (logs : List (List Entry)) (ss : List PlainLive) → AreSessions before logs ss
    → count_by (is_numbered k) (over_of ss) + count_by (is_numbered k) (live_of ss) + one_if (is_opened before k) ≡ one_if (is_opened (before + length logs) k)
resumed_counts k before [] [] are =
    let same : before + 0 ≡ before = omega arith in
    let e : one_if (is_opened (before + 0) k) ≡ one_if (is_opened before k) = ap (λ n. one_if (is_opened n k)) same in
    omega (arith, e)
resumed_counts k before [] (s ∷ ss) are = absurd are
resumed_counts k before (log ∷ logs) [] are = absurd are
resumed_counts k before (log ∷ logs) (s ∷ ss) are =
    let p = is_numbered k in
    let a = count_append p (if_over s) (over_of ss) in
    let b = count_append p (if_live s) (live_of ss) in
    let c : count_by p (if_over s) + count_by p (if_live s) ≡ 0 + one_if ((before + 1) == k) = either_counts p s ∙ ap (λ n. 0 + one_if (n == k)) (are.0).numbered in
    let d = opened_more before k in
    let e = resumed_counts k (before + 1) logs ss are.1 in
    let same : (before + 1) + length logs ≡ before + suc (length logs) = omega arith in
    let f : one_if (is_opened ((before + 1) + length logs) k) ≡ one_if (is_opened (before + suc (length logs)) k) = ap (λ n. one_if (is_opened n k)) same in
    omega (arith, a, b, c, d, e, f)

module _ (entries : List SessionEntry) where
  resumed_each : (before : ℕ) (logs : List (List Entry)) (ss : List PlainLive) → AreSessions before logs ss → ((place : ℕ) → place < length logs → get_or logs place [] ≡ journal_in (before + place + 1) entries)
      → All (HasJournal entries) (over_of ss) × All (HasJournal entries) (live_of ss)
  resumed_each before [] [] are have = (All-nil (HasJournal entries), All-nil (HasJournal entries))
  resumed_each before [] (s ∷ ss) are have = absurd are
  resumed_each before (log ∷ logs) [] are have = absurd are
  resumed_each before (log ∷ logs) (s ∷ ss) are have =
      let here : before + 0 + 1 ≡ s.number = omega (arith, (are.0).numbered) in
      let has : HasJournal entries s = subst (λ (l : List Entry). IsJournalOf l s.journal) (have 0 (omega arith) ∙ ap (λ n. journal_in n entries) here) (are.0).journal in
      let rest = resumed_each (before + 1) logs ss are.1 (λ place within.
      let same : before + suc place + 1 ≡ (before + 1) + place + 1 = omega arith in
      have (suc place) (omega (arith, within)) ∙ ap (λ n. journal_in n entries) same) in (
        All-append (HasJournal entries) (if_over s) (over_of ss) (if_over-part (HasJournal entries) s (λ is. has)) rest.0,
        All-append (HasJournal entries) (if_live s) (live_of ss) (if_live-part (HasJournal entries) s (λ is. has)) rest.1,
      )

  pub resumed_have : (logs : List (List Entry)) (all : List PlainLive) → AllByRecursion FitsContent entries → AreJournals entries → AreLogs logs entries → AreSessions 0 logs all
      → HaveJournals entries (over_of all ++ live_of all) (length logs)
  resumed_have logs all written journals are sessions =
      let each = resumed_each 0 logs all sessions (λ place within.
      let same : suc place ≡ 0 + place + 1 = omega arith in
      are.each (suc place) ∙ ap (λ n. journal_in n entries) same) in
      record {
        numbers = λ k.
            let a = count_append (is_numbered k) (over_of all) (live_of all) in
            let b = resumed_counts k 0 logs all sessions in
            let none : one_if (is_opened 0 k) ≡ 0 = sym (none_opened k) in
            let zero_first : 0 + length logs ≡ length logs = omega arith in
            let whole : one_if (is_opened (0 + length logs) k) ≡ one_if (is_opened (length logs) k) = ap (λ n. one_if (is_opened n k)) zero_first in
            omega (arith, a, b, none, whole);
        each = All-append (HasJournal entries) (over_of all) (live_of all) each.0 each.1;
        others = λ k none. sym (are.each k) ∙ no_log k none;
        written = written;
        journals = journals;
      }
    where
      no_log : (k : ℕ) → is_opened (length logs) k ≡ false → log_at logs k ≡ []
      no_log zero none = refl
      no_log (suc place) none = get_or-eq_default logs [] (leb_past (suc place) none)
        where
          leb_past : (k : ℕ) → is_opened (length logs) (suc place) ≡ false → length logs ≤ place
          leb_past k none = by (nat_le (suc place) (length logs)) refl
            where
              by : (b : Bool) → nat_le (suc place) (length logs) ≡ b → length logs ≤ place
              by true is = absurd (true_false (sym (ap₂ (λ a b. a && b) (le-leb 1 (suc place) (omega arith)) is) ∙ none))
                where
                  true_false : true ≡ false → ⊥
                  true_false clash = cc
              by false is = omega (arith, leb-false (suc place) (length logs) is)
