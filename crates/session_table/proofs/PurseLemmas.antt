-- What a worker holds, as its sessions are called, opened and let go.
use Rattle.std.proofs.Common.{◌≡◌, ◌==◌, ℕ, Bool, true, false, cond, List, [], ◌∷◌, map, filter, Option, Some, None, refl, sym, ◌∙◌, ap, subst}
use Rattle.std.specs.Prelude.{IsSome, Ok, bytes_eq, ◌||◌}
use Rattle.std.specs.BTreeMap.{UpdatesBy, WritesThrough, is_at}
use Rattle.std.specs.List.{list_any}
use Rattle.std.specs.Map.{lookup}
use Rattle.std.specs.Ordering.{nat_cmp}
use Rattle.std.proofs.lemmas.Slice.Eq.{bytes_eq-Decides}
use Rattle.parked_gate.specs.Passes.{Known, known}
use Rattle.session_journal.specs.declared.entry.Entry as journal
use Rattle.session_table.specs.declared.calls.LiveSession.{LiveSession}
use Rattle.session_table.specs.declared.calls.DirectoryCall.TheVariants as calls
use Rattle.session_table.specs.declared.calls.DirectoryReply.{DirectoryReply}
use Rattle.session_table.specs.declared.calls.DirectoryReply.TheVariants as replies
use Rattle.session_table.specs.declared.calls.NewSession.TheVariants as news
use Rattle.session_table.specs.declared.calls.Opened.{Opened}
use Rattle.session_table.specs.declared.entry.Entry.{Entry}
use Rattle.session_table.specs.declared.opening.Opening.{Opening}
use Rattle.session_table.specs.declared.handle.SessionHandle.{SessionHandle}
use Rattle.session_table.specs.Handles.{IsOfSame}
use Rattle.session_table.specs.History.{live_of}
use Rattle.session_table.specs.Purses.{Holds, KeepsLive, OpensInto, OthersStay, Sessions, Turned, held, is_live}
use Rattle.session_table.specs.Replies.{Opens, RepliesTo, live_sessions}
use Rattle.session_table.specs.Sessions.{OpenedSession}
use Rattle.session_table.proofs.LiveLists.{at_other, at_same}

-- ---- one session is called

is_some : {X : Type 0} {o : Option X} {x : X} → o ≡ Some x → IsSome o
is_some e = cc

module _ (number : ℕ) (old new : Sessions) (before after : SessionHandle) (was : held old number ≡ Some before)
    (written : WritesThrough nat_cmp (nat_cmp number) old after new) where
  updates : UpdatesBy nat_cmp (nat_cmp number) old new (Some after)
  updates = written.3 (is_some was)

  pub turned : (Says : Known journal.Entry → Known journal.Entry → Type 0) → IsOfSame before after
      → (known after.pass).number ≡ (known before.pass).number → Says (known before.pass) (known after.pass) → Turned number old new Says
  turned Says of_same pass_number says = record {
    before = before;
    after = after;
    was = was;
    is = updates.1;
    of_same = of_same;
    pass_number = pass_number;
    says = says;
  }

  pub others_stay : OthersStay number old new
  others_stay other apart = updates.2 other (at_other number other (λ e. apart (sym e)))

pub others_after : (number : ℕ) (old new : Sessions) (w : Option SessionHandle) → UpdatesBy nat_cmp (nat_cmp number) old new w → OthersStay number old new
others_after number old new w updates other apart = updates.2 other (at_other number other (λ e. apart (sym e)))

-- ---- those that are no longer live are let go

nothing_kept : {X : Type 0} (o : Option X) (b : Bool) → o ≡ None → o ≡ cond b o None
nothing_kept o true none = refl
nothing_kept o false none = none

-- what is kept by its number is looked up just where that is kept
pub lookup_kept : {X : Type 0} (p : ℕ → Bool) (n : ℕ) (es : List (ℕ × X))
    → lookup (is_at (nat_cmp n)) (filter (λ e. p e.0) es) ≡ cond (p n) (lookup (is_at (nat_cmp n)) es) None
lookup_kept {X} p n [] = nothing_kept None (p n) refl
lookup_kept {X} p n (e ∷ es) = by (is_at (nat_cmp n) e.0) refl (p e.0) refl (lookup_kept p n es)
  where
    kept : List (ℕ × X)
    kept = filter (λ e. p e.0) es

    there : Option X
    there = lookup (is_at (nat_cmp n)) es

    by : (b : Bool) → is_at (nat_cmp n) e.0 ≡ b → (k : Bool) → p e.0 ≡ k → lookup (is_at (nat_cmp n)) kept ≡ cond (p n) there None
        → lookup (is_at (nat_cmp n)) (cond k (e ∷ kept) kept) ≡ cond (p n) (cond b (Some e.1) there) None
    by true here true keeps later =
        ap (λ b. cond b (Some e.1) (lookup (is_at (nat_cmp n)) kept)) here
        ∙ sym (ap (λ k. cond k (Some e.1) None) (ap p (at_same n e.0 here) ∙ keeps))
    by true here false drops later =
        let gone : p n ≡ false = ap p (at_same n e.0 here) ∙ drops in
        later ∙ (ap (λ k. cond k there None) gone ∙ sym (ap (λ k. cond k (Some e.1) None) gone))
    by false away true keeps later = ap (λ b. cond b (Some e.1) (lookup (is_at (nat_cmp n)) kept)) away ∙ later
    by false away false drops later = later

told_among : (number : ℕ) (ss : List OpenedSession)
    → list_any (λ (session : LiveSession). session.number == number) (map (λ session. record { sid = session.sid; number = session.number }) ss)
    ≡ list_any (λ session. session.number == number) ss
told_among number [] = refl
told_among number (s ∷ ss) = ap (λ b. (s.number == number) || b) (told_among number ss)

-- whether a session with this number is among the live ones that were told
pub told_live : (log : List Entry) (number : ℕ) → list_any (λ (session : LiveSession). session.number == number) (live_sessions log) ≡ is_live log number
told_live log number = told_among number (live_of log)

pub keeps_live : (log : List Entry) (live : List LiveSession) (old new : Sessions) → live ≡ live_sessions log
    → new.entries ≡ filter (λ e. list_any (λ (session : LiveSession). session.number == e.0) live) old.entries → KeepsLive log old new
keeps_live log live old new told kept number =
    ap (lookup (is_at (nat_cmp number))) kept
    ∙ (lookup_kept (λ n. list_any (λ (session : LiveSession). session.number == n) live) number old.entries
    ∙ ap (λ b. cond b (held old number) None) (ap (list_any (λ (session : LiveSession). session.number == number)) told ∙ told_live log number))

-- ---- a session is opened

pub opens_into : (log : List Entry) (o : Opening) (sessions : Sessions) (number : ℕ) (session : SessionHandle) (answer : List ℕ) (made : Option Entry)
    → number ≡ session.number → held sessions session.number ≡ Some session → Opens log o (record { session = session; answer = answer }) made
    → OpensInto log o (news.Opened number answer) sessions made
opens_into log o sessions number session answer made same is opens = (session, subst (λ n. held sessions n ≡ Some session) (sym same) is, opens, sym same)

pub others_beside : (old new : Sessions) (number other : ℕ) → number ≡ other → OthersStay other old new → OthersStay number old new
others_beside old new number other same stay = subst (λ n. OthersStay n old new) (sym same) stay

-- ---- a session is held

pub holds_named : (sessions : Sessions) (number : ℕ) (sid text : List ℕ) (handle : SessionHandle) (r : Bool) → held sessions number ≡ Some handle
    → text ≡ handle.sid → r ≡ bytes_eq text sid → r ≡ true → Holds sessions number sid
holds_named sessions number sid text handle r is text_is r_is same = record {
  handle = handle;
  is = is;
  named = sym text_is ∙ (bytes_eq-Decides text sid).0 (sym r_is ∙ same);
}

-- the reply tells of this session
pub opens_by : (log : List Entry) (o : Opening) (reply : DirectoryReply) (x : Opened) (made : Option Entry) → reply ≡ replies.Opened x
    → RepliesTo log (calls.Open o) (Ok reply) made → Opens log o x made
opens_by log o reply x made is said = subst (λ r. RepliesTo log (calls.Open o) (Ok r) made) is said
