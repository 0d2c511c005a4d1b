-- Whether a session of a name is held, and what its pass made.
use Rattle.std.proofs.Common.{◌≡◌, ◌≢◌, ◌≤◌, ◌<◌, ◌+◌, ℕ, Bool, true, false, cond, List, [], ◌∷◌, Option, Some, None, length, refl, sym, ◌∙◌, ap, subst, inl, inr, arith}
use Rattle.std.specs.Prelude.{All, Contains, OnErr, Result, Ok, Err, bytes_eq}
use Rattle.std.specs.declared.alloc.AllocError.{AllocError}
use Rattle.std.proofs.lemmas.Slice.Eq.{bytes_eq-Decides}
use Rattle.std.proofs.lemmas.List.Elements.{All-cons, All-contains, All-filter, All-head, All-map, All-nil, All-tail}
use Rattle.parked_gate.specs.Histories.{Appends}
use Rattle.parked_gate.specs.Passes.{Calls, Known, known}
use Rattle.session_table.specs.declared.calls.DirectoryCall.TheVariants as calls
use Rattle.session_table.specs.declared.calls.DirectoryReply.{DirectoryReply}
use Rattle.session_table.specs.declared.calls.LiveSession.{LiveSession}
use Rattle.session_table.specs.declared.calls.Opened.{Opened}
use Rattle.session_table.specs.declared.entry.Entry.{Entry}
use Rattle.session_table.specs.declared.handle.SessionHandle.{SessionHandle}
use Rattle.session_table.specs.declared.opening.Opening.{Opening}
use Rattle.session_table.specs.History.{IsLegal, live_at, live_of, openings_of}
use Rattle.session_table.specs.Keeping.{session_of}
use Rattle.session_table.specs.Purses.{IsFound, IsNotHeld, IsNumberOf, OpensOrNot, OthersStay, Sessions, StaysOrComes, found_of, held, own_entries}
use Rattle.session_table.specs.Replies.{Finds, Opens, RepliesTo, live_sessions}
use Rattle.session_table.specs.Sessions.{OpenedSession}
use Rattle.session_table.specs.Sids.{IsSidOf, highest_number}
use Rattle.session_table.proofs.KeepingLemmas.{Numbers, all_below, opened_below}
use Rattle.session_table.proofs.LiveLists.{filter_below, named_all}
use Rattle.session_table.proofs.PassLemmas.{enters_nothing, finds, found_by_name, holds_found}
use Rattle.session_table.proofs.PurseLemmas.{others_beside}
use Rattle.session_table.proofs.SidLemmas.{one_number}

some_same : {X : Type 0} (x y : X) → Some x ≡ Some y → x ≡ y
some_same x y is = cc

none_some : {X : Type 0} (x : X) → None ≡ Some x → ⊥
none_some x is = cc

pub on_err_by : {T E : Type 0} (r : Result T E) (P : Type 0) → P → OnErr r P
on_err_by (Ok x) P so = tt
on_err_by (Err error) P so = so

opposite : {b : Bool} → b ≡ true → b ≡ false → ⊥
opposite yes_ no_ = cc

-- a name that has no number is no session's
pub unnumbered : (sessions : Sessions) (sid : List ℕ) (found : Option ℕ) → found ≡ None → Numbers sid found → IsNotHeld sessions sid
unnumbered sessions sid found is numbers number few named = absurd (none_some number (sym is ∙ numbers number few named))

module _ (sessions : Sessions) (sid : List ℕ) (found : Option ℕ) (n : ℕ) (is : found ≡ Some n) (numbers : Numbers sid found) where
  same_number : (number : ℕ) → number ≤ highest_number → IsSidOf sid number → held sessions number ≡ held sessions n
  same_number number few named = ap (held sessions) (some_same number n (sym (numbers number few named) ∙ is))

  pub numbered_so : IsNumberOf sid n
  numbered_so number few named = some_same n number (sym is ∙ numbers number few named)

  pub nothing_held : held sessions n ≡ None → IsNotHeld sessions sid
  nothing_held none number few named handle is = absurd (none_some handle (sym none ∙ (sym (same_number number few named) ∙ is)))

  pub held_otherwise : (x : SessionHandle) (text : List ℕ) (r : Bool) → held sessions n ≡ Some x → text ≡ x.sid → r ≡ bytes_eq text sid → r ≡ false → IsNotHeld sessions sid
  held_otherwise x text r there text_is r_is apart number few named handle is =
      let other : bytes_eq x.sid sid ≡ false = ap (λ t. bytes_eq t sid) (sym text_is) ∙ (sym r_is ∙ apart) in
      let same : x ≡ handle = some_same x handle (sym there ∙ (sym (same_number number few named) ∙ is)) in
      λ of. absurd (opposite ((bytes_eq-Decides handle.sid sid).1 of) (ap (λ (h : SessionHandle). bytes_eq h.sid sid) (sym same) ∙ other))

-- a handle that made nothing
own_none : (sid : List ℕ) (x : SessionHandle) → (known x.pass).mine ≡ [] → own_entries sid (Some x) ≡ []
own_none sid x none = by (bytes_eq x.sid sid)
  where
    by : (b : Bool) → cond b (known x.pass).mine [] ≡ []
    by true = none
    by false = refl

-- of a session that isn't held nothing was made
own_not_held : (sessions : Sessions) (sid : List ℕ) (number : ℕ) → IsNotHeld sessions sid → number ≤ highest_number → IsSidOf sid number → own_entries sid (held sessions number) ≡ []
own_not_held sessions sid number not_held few named = by (held sessions number) refl
  where
    other_own : (x : SessionHandle) (b : Bool) → bytes_eq x.sid sid ≡ b → (x.sid ≢ sid) → cond b (known x.pass).mine [] ≡ []
    other_own x false is apart = refl
    other_own x true is apart = absurd (apart ((bytes_eq-Decides x.sid sid).0 is))

    by : (o : Option SessionHandle) → held sessions number ≡ o → own_entries sid o ≡ []
    by None is = refl
    by (Some x) is = other_own x (bytes_eq x.sid sid) refl (not_held number few named x is)

-- who is found has its name's number
found_number : (log : List Entry) (sid : List ℕ) (x : SessionHandle) → IsLegal log → Finds log sid x → (x.number ≤ highest_number) × IsSidOf sid x.number
found_number log sid x legal found =
    let below = named_all (λ s. s.number < length (openings_of log) + 1) sid (live_of log) (session_of x)
    (all_below _ (live_of log) (filter_below _ _ (openings_of log) (opened_below log))) found.live in (
      omega (arith, below, legal.few_opened),
      subst (λ t. IsSidOf t x.number) (found_by_name log sid x found)
          (named_all (λ (s : OpenedSession). IsSidOf s.sid s.number) sid (live_of log) (session_of x) (All-filter _ (λ (s : OpenedSession). IsSidOf s.sid s.number) (openings_of log) legal.named) found.live),
    )

-- what the directory tells of a live session
abbrev told_as : OpenedSession → LiveSession
told_as session = record { sid = session.sid; number = session.number }

abbrev IsTold : LiveSession → Type 0
IsTold session = (number : ℕ) → IsNumberOf session.sid number → number ≡ session.number

-- live sessions are told under their numbers
pub live_numbered : (log : List Entry) → IsLegal log → (session : LiveSession) → Contains (live_sessions log) session
    → (number : ℕ) → IsNumberOf session.sid number → number ≡ session.number
live_numbered log legal session is =
    All-contains IsTold (live_sessions log) session (All-map IsTold told_as (live_of log)
    (told (live_of log) (all_below _ (live_of log) (filter_below _ _ (openings_of log) (opened_below log)))
    (All-filter _ (λ (s : OpenedSession). IsSidOf s.sid s.number) (openings_of log) legal.named))) is
  where
    Below : OpenedSession → Type 0
    Below s = s.number < length (openings_of log) + 1

    Named : OpenedSession → Type 0
    Named s = IsSidOf s.sid s.number

    told : (ss : List OpenedSession) → All Below ss → All Named ss → All (λ s. IsTold (told_as s)) ss
    told [] low named = All-nil (λ s. IsTold (told_as s))
    told (s ∷ ss) low named =
        let below : s.number < length (openings_of log) + 1 = All-head Below s ss low in
        All-cons (λ s. IsTold (told_as s)) s ss
        (λ number of. of s.number (omega (arith, below, legal.few_opened)) (All-head Named s ss named))
        (told ss (All-tail Below s ss low) (All-tail Named s ss named))

-- who was found is held, and nothing of it was
pub held_found : (sid text : List ℕ) (reply : DirectoryReply) (x : SessionHandle) (old_pass new_pass : Known Entry) (old new : Sessions) (number : ℕ)
    → IsLegal new_pass.seen → Calls (λ e. e.caller) (λ log made. RepliesTo log (calls.Find text) (Ok reply) made) old_pass new_pass
    → found_of reply ≡ Some x → text ≡ sid → number ≡ x.number → held new x.number ≡ Some x → OthersStay x.number old new → IsNotHeld old sid
    → IsFound old new number sid
held_found sid text reply x old_pass new_pass old new number legal called is same numbered there others not_held =
    let none = enters_nothing called.before text (Ok reply) called.made called.says in
    let seen : new_pass.seen ≡ called.before = subst (λ m. Appends (λ e. e.caller) old_pass.number called.before m new_pass.seen) none called.seen in
    let found : Finds called.before sid x = subst (λ t. Finds called.before t x) same (finds called.before text reply called.made x is called.says) in
    let of = found_number called.before sid x (subst IsLegal seen legal) found in
    record {
      holds = holds_found called.before sid text reply called.made x new number is called.says same numbered there;
      of_name = λ told few named. numbered ∙ one_number sid x.number told of.0 few of.1 named;
      others = others_beside old new number x.number numbered others;
      own = subst (λ n. own_entries sid (held new n) ≡ own_entries sid (held old n)) (sym numbered)
          (ap (own_entries sid) there ∙ (own_none sid x found.mine ∙ sym (own_not_held old sid x.number not_held of.0 of.1)));
    }

-- and it has come
pub held_comes : (sid text : List ℕ) (reply : DirectoryReply) (x : SessionHandle) (old_pass new_pass : Known Entry) (old new : Sessions) (number : ℕ)
    → IsLegal new_pass.seen → Calls (λ e. e.caller) (λ log made. RepliesTo log (calls.Find text) (Ok reply) made) old_pass new_pass
    → found_of reply ≡ Some x → text ≡ sid → number ≡ x.number → held new x.number ≡ Some x → IsNotHeld old sid
    → StaysOrComes new_pass.seen old new number sid
held_comes sid text reply x old_pass new_pass old new number legal called is same numbered there not_held =
    let none = enters_nothing called.before text (Ok reply) called.made called.says in
    let seen : new_pass.seen ≡ called.before = subst (λ m. Appends (λ e. e.caller) old_pass.number called.before m new_pass.seen) none called.seen in
    let found : Finds called.before sid x = subst (λ t. Finds called.before t x) same (finds called.before text reply called.made x is called.says) in
    let of = found_number called.before sid x (subst IsLegal seen legal) found in
    inr (record {
      handle = x;
      is = subst (λ n. held new n ≡ Some x) (sym numbered) there;
      numbered = sym numbered;
      live = subst (λ log. live_at log sid ≡ Some (session_of x)) (sym seen) found.live;
      none = λ other is. not_held x.number of.0 of.1 other (subst (λ n. held old n ≡ Some other) numbered is);
    })

-- a reply that is lost tells that a session was opened, or that none was
pub opened_or_not : (log : List Entry) (o : Opening) (error : AllocError) (made : Option Entry) → RepliesTo log (calls.Open o) (Err error) made → OpensOrNot log o made
opened_or_not log o error made none = inl none

pub opened_unheld : (log : List Entry) (o : Opening) (x : Opened) (made : Option Entry) → Opens log o x made → OpensOrNot log o made
opened_unheld log o x made opens = inr (x, opens)
