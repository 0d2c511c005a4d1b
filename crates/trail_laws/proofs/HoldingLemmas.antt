-- What a worker holds, line by line.
use Rattle.std.proofs.Common.{◌≡◌, ◌≢◌, ◌⊎◌, ◌≤◌, ◌+◌, ℕ, Bool, true, false, cond, List, [], ◌∷◌, ◌++◌, length, Option, Some, None, refl, sym, ◌∙◌, ap, subst, inl, inr, length-append, arith}
use Rattle.std.specs.Prelude.{Contains}
use Rattle.std.specs.BTreeMap.{IsUnchanged}
use Rattle.std.proofs.lemmas.Bool.{cases_eq}
use Rattle.bosh_types.specs.declared.condition.Condition.TheVariants.{UndefinedCondition}
use Rattle.parked_gate.specs.Passes.{Known, known}
use Rattle.session_core.specs.State.{is_over}
use Rattle.session_journal.specs.declared.entry.Entry as journal
use Rattle.session_journal.specs.Stored.{After}
use Rattle.session_table.specs.declared.entry.Entry.{Entry}
use Rattle.session_table.specs.declared.handle.SessionHandle.{SessionHandle}
use Rattle.session_table.specs.declared.purse.Purse.{Purse}
use Rattle.session_table.specs.History.{openings_of}
use Rattle.session_table.specs.Keeping.{session_of}
use Rattle.session_table.specs.Purses.{KeepsLive, held, is_live, own_entries}
use Rattle.session_table.specs.Sessions.{OpenedSession}
use Rattle.session_table.proofs.LawLemmas.{live_opened, number_within, one_numbered, opened_last, opened_on, openings_grow}
use Rattle.serve_loop.specs.declared.trail.Evidence.{Evidence}
use Rattle.serve_loop.specs.declared.trail.Evidence.TheVariants as evidence
use Rattle.serve_loop.specs.declared.trail.Traced.{Traced}
use Rattle.serve_loop.specs.declared.trail.TrailLine.{TrailLine}
use Rattle.serve_loop.specs.declared.trail.TrailLine.TheVariants as lines
use Rattle.serve_loop.specs.Answering.{ShowsSession}
use Rattle.serve_loop.specs.Effects.{AsksDirectory, CallsOne, ComesBy, DropsRemoved, GoesOn, IsLast, OpensOne}
use Rattle.serve_loop.specs.Trail.{FindsNoRoom, HasNoRoom, IsTrueOf, Setting}
use Rattle.serve_loop.proofs.EffectLemmas.{goes_further, goes_still, own_is, same_session, unchanged_one}
use Rattle.serve_loop.proofs.TellingLemmas.{seen_one}
use Rattle.trail_laws.specs.Rising.{HasEnded, HoldsOpened}
use Rattle.trail_laws.specs.Told.{is_undefined}
use Rattle.trail_laws.proofs.ChainLemmas.{Grew}
use Rattle.trail_laws.proofs.StepLemmas.{grew_by_call, grew_of, none_or_room, same_directory}
use Rattle.trail_laws.proofs.WalkLemmas.{IsStep}

some_same : {A : Type 0} (x y : A) → Some x ≡ Some y → x ≡ y
some_same x y same = cc

none_some : {A : Type 0} (x : A) → None ≡ Some x → ⊥
none_some x is = cc

-- ---- what a line's request did to what is held

-- one session was called, which tells the line
pub record Called (p : Purse) (t : Traced) (q : Purse) : Type 0 where
  pub number : ℕ
  pub session : SessionHandle
  pub added : List journal.Entry
  pub shows : ShowsSession session t.evidence
  pub calls : CallsOne p q number session added

-- nothing changed that is held
pub record Rests (p q : Purse) : Type 0 where
  pub sessions : IsUnchanged p.sessions q.sessions
  pub grew : Grew (known p.directory) (known q.directory)

abbrev pub Does : Purse → Traced → Purse → Type 0
Does p t q = Called p t q ⊎ (((session : SessionHandle) × OpensOne p q session) ⊎ Rests p q)

rests_so : (p q : Purse) → q ≡ p → Rests p q
rests_so p q same = subst (Rests p) (sym same) (record { sessions = refl; grew = same_directory p p refl })

rests_asked : (p q : Purse) (k : Known Entry) → AsksDirectory p q k → Rests p q
rests_asked p q k asks = record { sessions = asks.held; grew = grew_by_call (known p.directory) (known q.directory) asks.asked }

no_room : (site : Setting) (p q : Purse) (by : Evidence) → HasNoRoom site.limits p q by → Rests p q
no_room site p q evidence.Request room = absurd room
no_room site p q (evidence.Session session) room = absurd room
no_room site p q (evidence.Directory pass) room = rests_asked p q (known pass.value) room.1

does_by : (site : Setting) (body text : List ℕ) (p q : Purse) (line : TrailLine) (by : Evidence) → IsTrueOf site body text p q line by → Does p (record { line = line; evidence = by }) q
does_by site body text p q (lines.Http refusal) by is = absurd is
does_by site body text p q (lines.Entry sid caller place) evidence.Request is = absurd is
does_by site body text p q (lines.Entry sid caller place) (evidence.Directory pass) is = absurd is
does_by site body text p q (lines.Entry sid caller place) (evidence.Session session) is =
    inl (record { number = is.number; session = session.value; added = is.added; shows = refl; calls = is.alone })
does_by site body text p q (lines.Opened sid) evidence.Request is = absurd is
does_by site body text p q (lines.Opened sid) (evidence.Directory pass) is = absurd is
does_by site body text p q (lines.Opened sid) (evidence.Session session) is = inr (inl (session.value, is.alone))
does_by site body text p q (lines.Unknown sid) evidence.Request is = absurd is.gone
does_by site body text p q (lines.Unknown sid) (evidence.Session session) is =
    inl (record { number = is.gone.2.0; session = session.value; added = []; shows = refl; calls = is.gone.2.1 })
does_by site body text p q (lines.Unknown sid) (evidence.Directory pass) is = inr (inr (rests_asked p q (known pass.value) is.gone.1))
does_by site body text p q (lines.NoSession condition) by is = inr (inr (none (none_or_room site body condition p q by is.1)))
  where
    none : ((is_undefined condition ≡ false) × (q ≡ p)) ⊎ ((condition ≡ UndefinedCondition) × FindsNoRoom site body p q by) → Rests p q
    none (inl other) = rests_so p q other.1
    none (inr finds) = no_room site p q by finds.1.room

pub does : (site : Setting) (p q : Purse) (t : Traced) → IsStep site p t q → Does p t q
does site p q t (inl a) = does_by site a.body a.text p q t.line t.evidence a.true_of
does site p q t (inr r) = inr (inr (rests_so p q r.same))

-- ---- what is held was opened

pub opened_later : (k l : Known Entry) (x : OpenedSession) → Grew k l → Contains (openings_of k.seen) x → Contains (openings_of l.seen) x
opened_later k l x grew there = subst (λ (log : List Entry). Contains (openings_of log) x) (sym grew.begins.1) (opened_on k.seen grew.begins.0 x there)

abbrev IsOpened : Purse → ℕ → SessionHandle → Type 0
IsOpened q number handle = (handle.number ≡ number) × Contains (openings_of (known q.directory).seen) (session_of handle)

pub called_opened : (p q : Purse) (number : ℕ) (x : SessionHandle) (added : List journal.Entry) → CallsOne p q number x added → HoldsOpened p → IsOpened q number x
called_opened p q number x added calls holds = by calls.comes
  where
    by : ComesBy (known q.directory) number (held p.sessions number) x → IsOpened q number x
    by (inl (h, was, on)) =
        let it : IsOpened p number h = holds number h was in (
          on.of_same.number ∙ it.0,
          subst (Contains (openings_of (known q.directory).seen)) (sym (same_session h x on.of_same))
              (opened_later (known p.directory) (known q.directory) (session_of h) (grew_of (known p.directory) (known q.directory) calls.directory) it.1),
        )
    by (inr new) = (new.numbered, live_opened (known q.directory).seen x.sid (session_of x) new.live)

-- the entry of an opening is the last one
opens_seen : (p q : Purse) (x : SessionHandle) (opens : OpensOne p q x) → (known q.directory).seen ≡ opens.entered.before ++ opens.entered.says.0 ∷ []
opens_seen p q x opens =
    (seen_one (λ (e : Entry). e.caller) (known p.directory).number opens.entered.before (known q.directory).seen opens.entered.made opens.entered.says.0 opens.entered.says.1 opens.entered.seen).0

opens_opened : (p q : Purse) (x : SessionHandle) (opens : OpensOne p q x) → IsOpened q opens.number x
opens_opened p q x opens = (
  opens.numbered,
  subst (λ (log : List Entry). Contains (openings_of log) (session_of x)) (sym (opens_seen p q x opens))
      (opened_last opens.entered.before opens.entered.says.0 (session_of x) opens.entered.says.2 opens.entered.says.3),
)

pub does_opened : (p q : Purse) (t : Traced) → Does p t q → HoldsOpened p → HoldsOpened q
does_opened p q t (inl c) holds n h is = by (cases_eq n c.number)
  where
    last : IsLast q.sessions c.number c.session → n ≡ c.number → IsOpened q n h
    last (inl there) same =
        subst (IsOpened q n) (some_same c.session h (sym there ∙ (ap (held q.sessions) (sym same) ∙ is)))
        (subst (λ m. IsOpened q m c.session) (sym same) (called_opened p q c.number c.session c.added c.calls holds))
    last (inr (none, over)) same = absurd (none_some h (sym none ∙ (ap (held q.sessions) (sym same) ∙ is)))

    by : (n ≡ c.number) ⊎ (n ≢ c.number) → IsOpened q n h
    by (inl same) = last c.calls.last same
    by (inr apart) =
        let it : IsOpened p n h = holds n h (sym (c.calls.others n apart) ∙ is) in
        (it.0, opened_later (known p.directory) (known q.directory) (session_of h) (grew_of (known p.directory) (known q.directory) c.calls.directory) it.1)
does_opened p q t (inr (inl (x, opens))) holds n h is = by (cases_eq n opens.number)
  where
    by : (n ≡ opens.number) ⊎ (n ≢ opens.number) → IsOpened q n h
    by (inl same) =
        subst (IsOpened q n) (some_same x h (sym opens.is ∙ (ap (held q.sessions) (sym same) ∙ is)))
        (subst (λ m. IsOpened q m x) (sym same) (opens_opened p q x opens))
    by (inr apart) =
        let it : IsOpened p n h = holds n h (sym (opens.others n apart) ∙ is) in
        (it.0, opened_later (known p.directory) (known q.directory) (session_of h) (grew_by_call (known p.directory) (known q.directory) opens.entered) it.1)
does_opened p q t (inr (inr rests)) holds n h is =
    let it : IsOpened p n h = holds n h (sym (unchanged_one p.sessions q.sessions n rests.sessions) ∙ is) in
    (it.0, opened_later (known p.directory) (known q.directory) (session_of h) rests.grew it.1)

-- and so it is where removed sessions were let go
pub dropped_opened : (p q : Purse) → DropsRemoved p q → HoldsOpened p → HoldsOpened q
dropped_opened p q drops holds n h is = by drops.sessions
  where
    was_held : held p.sessions n ≡ Some h → IsOpened q n h
    was_held was =
        let it : IsOpened p n h = holds n h was in
        (it.0, opened_later (known p.directory) (known q.directory) (session_of h) (grew_of (known p.directory) (known q.directory) drops.directory) it.1)

    live_or_not : (b : Bool) → held q.sessions n ≡ cond b (held p.sessions n) None → IsOpened q n h
    live_or_not true same = was_held (sym same ∙ is)
    live_or_not false same = absurd (none_some h (sym same ∙ is))

    by : KeepsLive (known q.directory).seen p.sessions q.sessions ⊎ IsUnchanged p.sessions q.sessions → IsOpened q n h
    by (inl live) = live_or_not (is_live (known q.directory).seen n) (live n)
    by (inr same) = was_held (sym (unchanged_one p.sessions q.sessions n same) ∙ is)

-- a worker that holds nothing holds what was opened
pub holds_none : (p : Purse) → ((number : ℕ) → held p.sessions number ≡ None) → HoldsOpened p
holds_none p none number handle is = absurd (none_some handle (sym (none number) ∙ is))

-- ---- a session is held on

-- a handle that goes on from this one is held, whose pass has made at least as much
pub record Keeps (x : SessionHandle) (p : Purse) : Type 0 where
  pub number : ℕ
  pub handle : SessionHandle
  pub is : held p.sessions number ≡ Some handle
  pub on : GoesOn x handle
  pub mine : length (known x.pass).mine ≤ length (known handle.pass).mine

pub keeps_itself : (x : SessionHandle) (p : Purse) (number : ℕ) → held p.sessions number ≡ Some x → Keeps x p
keeps_itself x p number is = record { number = number; handle = x; is = is; on = goes_still x; mine = omega arith }

keeps_on : (x : SessionHandle) (p q : Purse) (k : Keeps x p) → held q.sessions k.number ≡ held p.sessions k.number → Keeps x q
keeps_on x p q k same = record { number = k.number; handle = k.handle; is = same ∙ k.is; on = k.on; mine = k.mine }

pub ended_by : (sid : List ℕ) (y : SessionHandle) (by : Evidence) → ShowsSession y by → y.sid ≡ sid → After (known y.pass).seen (λ s. is_over s ≡ true) → HasEnded sid by
ended_by sid y evidence.Request shows named over = absurd shows
ended_by sid y (evidence.Directory pass) shows named over = absurd shows
ended_by sid y (evidence.Session session) shows named over =
    subst (λ (h : SessionHandle). (h.sid ≡ sid) × After (known h.pass).seen (λ s. is_over s ≡ true)) (sym shows) (named, over)

-- what was called under the number of a session that is held goes on from it
pub called_goes : (x : SessionHandle) (p q : Purse) (number : ℕ) (y : SessionHandle) (added : List journal.Entry) (k : Keeps x p) → CallsOne p q number y added → HoldsOpened p → number ≡ k.number
    → GoesOn k.handle y
called_goes x p q number y added k calls holds same = by calls.comes
  where
    was : held p.sessions number ≡ Some k.handle
    was = ap (held p.sessions) same ∙ k.is

    by : ComesBy (known q.directory) number (held p.sessions number) y → GoesOn k.handle y
    by (inl (h, there, on)) = subst (λ (z : SessionHandle). GoesOn z y) (some_same h k.handle (sym there ∙ was)) on
    by (inr new) =
        let it : IsOpened p number k.handle = holds number k.handle was in
        let one : session_of k.handle ≡ session_of y =
        one_numbered (known q.directory).seen (session_of k.handle) (session_of y)
        (opened_later (known p.directory) (known q.directory) (session_of k.handle) (grew_of (known p.directory) (known q.directory) calls.directory) it.1)
        (live_opened (known q.directory).seen y.sid (session_of y) new.live) (it.0 ∙ sym new.numbered) in
        absurd (new.none k.handle was (ap (λ (s : OpenedSession). s.sid) one))

-- and has made as much, and what was added
pub called_made : (x : SessionHandle) (p q : Purse) (number : ℕ) (y : SessionHandle) (added : List journal.Entry) (k : Keeps x p) → CallsOne p q number y added → number ≡ k.number → GoesOn k.handle y
    → (known y.pass).mine ≡ (known k.handle.pass).mine ++ added
called_made x p q number y added k calls same on =
    calls.mine ∙ ap (λ (l : List journal.Entry). l ++ added)
    (ap (own_entries y.sid) (ap (held p.sessions) same ∙ k.is) ∙ own_is y.sid k.handle (sym on.of_same.sid))

-- it is held on, or it was seen to have ended
pub does_keep : (x : SessionHandle) (p q : Purse) (t : Traced) → Does p t q → HoldsOpened p → Keeps x p → Keeps x q ⊎ HasEnded x.sid t.evidence
does_keep x p q t (inl c) holds k = by (cases_eq c.number k.number)
  where
    held_on : IsLast q.sessions c.number c.session → GoesOn k.handle c.session → (known c.session.pass).mine ≡ (known k.handle.pass).mine ++ c.added → Keeps x q ⊎ HasEnded x.sid t.evidence
    held_on (inl there) on made = inl (record {
      number = c.number;
      handle = c.session;
      is = there;
      on = goes_further x k.handle c.session k.on on;
      mine = omega (arith, k.mine, ap length made, length-append (known k.handle.pass).mine c.added);
    })
    held_on (inr (none, over)) on made = inr (ended_by x.sid c.session t.evidence c.shows (on.of_same.sid ∙ k.on.of_same.sid) over)

    by : (c.number ≡ k.number) ⊎ (c.number ≢ k.number) → Keeps x q ⊎ HasEnded x.sid t.evidence
    by (inl same) =
        let on : GoesOn k.handle c.session = called_goes x p q c.number c.session c.added k c.calls holds same in
        held_on c.calls.last on (called_made x p q c.number c.session c.added k c.calls same on)
    by (inr apart) = inl (keeps_on x p q k (c.calls.others k.number (λ same. apart (sym same))))
does_keep x p q t (inr (inl (y, opens))) holds k = by (cases_eq opens.number k.number)
  where
    by : (opens.number ≡ k.number) ⊎ (opens.number ≢ k.number) → Keeps x q ⊎ HasEnded x.sid t.evidence
    by (inl same) =
        let it : IsOpened p k.number k.handle = holds k.number k.handle k.is in
        let low : k.handle.number ≤ length (openings_of (known p.directory).seen) = number_within (known p.directory).seen (session_of k.handle) it.1 in
        let more : length (openings_of (known p.directory).seen) ≤ length (openings_of opens.entered.before) =
        subst (λ (log : List Entry). length (openings_of (known p.directory).seen) ≤ length (openings_of log)) (sym opens.entered.begins.1)
        (openings_grow (known p.directory).seen opens.entered.begins.0) in
        absurd (omega (arith, low, more, opens.entered.says.3, opens.numbered, same, it.0))
    by (inr apart) = inl (keeps_on x p q k (opens.others k.number (λ same. apart (sym same))))
does_keep x p q t (inr (inr rests)) holds k = inl (keeps_on x p q k (unchanged_one p.sessions q.sessions k.number rests.sessions))
