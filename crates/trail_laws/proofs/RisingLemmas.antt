-- The places that lines of one session name rise.
use Rattle.std.proofs.Common.{◌≡◌, ◌≢◌, ◌⊎◌, ◌<◌, ◌≤◌, ◌+◌, ℕ, zero, suc, true, cond, List, [], ◌∷◌, ◌++◌, length, Some, refl, sym, ◌∙◌, ap, subst, inl, inr, eq-eqb, length-append, append_assoc, arith}
use Rattle.std.specs.Prelude.{Contains, ◌==◌}
use Rattle.std.proofs.lemmas.Bool.{cases_eq, cases_lt}
use Rattle.parked_gate.specs.Passes.{Known, known}
use Rattle.session_attrs.specs.declared.request.Request.{Request}
use Rattle.session_core.specs.State.{is_over}
use Rattle.session_journal.specs.declared.entry.Entered.{Entered}
use Rattle.session_journal.specs.declared.entry.Entered.TheVariants as stored
use Rattle.session_journal.specs.declared.entry.Entry as journal
use Rattle.session_journal.specs.Stored.{After}
use Rattle.session_table.specs.declared.entry.Entry.{Entry}
use Rattle.session_table.specs.declared.handle.SessionHandle.{SessionHandle}
use Rattle.session_table.specs.declared.purse.Purse.{Purse}
use Rattle.session_table.specs.History.{IsLegal, openings_of}
use Rattle.session_table.specs.Keeping.{session_of}
use Rattle.session_table.specs.Purses.{held}
use Rattle.session_table.specs.Sessions.{OpenedSession}
use Rattle.session_table.proofs.LawLemmas.{one_of_name}
use Rattle.serve_loop.specs.declared.trail.Evidence.{Evidence}
use Rattle.serve_loop.specs.declared.trail.Evidence.TheVariants as evidence
use Rattle.serve_loop.specs.declared.trail.Traced.{Traced}
use Rattle.serve_loop.specs.declared.trail.TrailLine.{TrailLine}
use Rattle.serve_loop.specs.declared.trail.TrailLine.TheVariants as lines
use Rattle.serve_loop.specs.Answering.{ShowsSession}
use Rattle.serve_loop.specs.Connections.{Outside}
use Rattle.serve_loop.specs.Effects.{GoesOn, IsLast}
use Rattle.serve_loop.specs.Trail.{AnswersBy, IsEntry, IsTrueOf, Setting}
use Rattle.serve_loop.proofs.EffectLemmas.{goes_further}
use Rattle.serve_loop.proofs.OwnLemmas.{own, own-append, owns}
use Rattle.trail_laws.specs.Rising.{HasEnded, HoldsOpened, PlacesRise, SeesEnd}
use Rattle.trail_laws.specs.Told.{Has}
use Rattle.trail_laws.proofs.ChainLemmas.{Grew, grew_on}
use Rattle.trail_laws.proofs.EndLemmas.{Did}
use Rattle.trail_laws.proofs.HoldingLemmas.{Does, Keeps, called_goes, called_made, called_opened, does, does_keep, does_opened, dropped_opened, ended_by, keeps_itself, opened_later}
use Rattle.trail_laws.proofs.StepLemmas.{grew_of}
use Rattle.trail_laws.proofs.WalkLemmas.{IsStep, Walks, step_grew, walk_grew}

-- ---- places in a list

tails : {A : Type 0} (x y : A) (xs ys : List A) → x ∷ xs ≡ y ∷ ys → xs ≡ ys
tails x y xs ys same = cc

heads : {A : Type 0} (x y : A) (xs ys : List A) → x ∷ xs ≡ y ∷ ys → x ≡ y
heads x y xs ys same = cc

-- of two that begin one list the shorter begins the longer
front_of : {A : Type 0} (xs ys s t : List A) → xs ++ s ≡ ys ++ t → length ys ≤ length xs → (more : List A) × (xs ≡ ys ++ more)
front_of xs [] s t same short = (xs, refl)
front_of [] (y ∷ ys) s t same short = absurd (omega (arith, short))
front_of (x ∷ xs) (y ∷ ys) s t same short =
    let later : (more : List _) × (xs ≡ ys ++ more) = front_of xs ys s t (tails x y (xs ++ s) (ys ++ t) same) (omega (arith, short)) in
    (later.0, ap (λ z. z ∷ xs) (heads x y (xs ++ s) (ys ++ t) same) ∙ ap (λ zs. y ∷ zs) later.1)

own_one : (n : ℕ) (e : journal.Entry) (rest : List journal.Entry) → e.caller ≡ n → own n (e ∷ rest) ≡ e ∷ own n rest
own_one n e rest is = ap (λ b. cond b (e ∷ own n rest) (own n rest)) (eq-eqb e.caller n is)

own_behind : (n : ℕ) (before rest : List journal.Entry) (e : journal.Entry) → e.caller ≡ n → length (own n (before ++ e ∷ rest)) ≡ length (own n before) + suc (length (own n rest))
own_behind n before rest e is =
    ap length (own-append n before (e ∷ rest)) ∙ (length-append (own n before) (own n (e ∷ rest)) ∙ ap (λ l. length (own n before) + length l) (own_one n e rest is))

-- the last own entry of what has more of them stands further behind
further : (n : ℕ) (seen more before later before' later' : List journal.Entry) (e e' : journal.Entry) → seen ≡ before ++ e ∷ later → seen ++ more ≡ before' ++ e' ∷ later' → e.caller ≡ n
    → e'.caller ≡ n → own n later' ≡ [] → length (own n seen) < length (own n (seen ++ more)) → length before < length before'
further n seen more before later before' later' e e' is is' of of' none grew = by (cases_lt (length before) (length before'))
  where
    whole : before ++ (e ∷ later ++ more) ≡ before' ++ e' ∷ later'
    whole = sym (append_assoc before (e ∷ later) more) ∙ (ap (λ l. l ++ more) (sym is) ∙ is')

    first : length (own n seen) ≡ length (own n before) + suc (length (own n later))
    first = ap (λ l. length (own n l)) is ∙ own_behind n before later e of

    last : length (own n (seen ++ more)) ≡ length (own n before') + suc (length (own n later'))
    last = ap (λ l. length (own n l)) is' ∙ own_behind n before' later' e' of'

    by : (length before < length before') ⊎ (length before' ≤ length before) → length before < length before'
    by (inl less) = less
    by (inr short) =
        let begun : (m : List journal.Entry) × (before ≡ before' ++ m) = front_of before before' (e ∷ later ++ more) (e' ∷ later') whole short in
        let fewer : length (own n before) ≡ length (own n before') + length (own n begun.0) =
        ap (λ l. length (own n l)) begun.1 ∙ (ap length (own-append n before' begun.0) ∙ length-append (own n before') (own n begun.0)) in
        absurd (omega (arith, first, last, fewer, ap length none, grew))

-- ---- a line that names an entry

-- the session that tells it
record Names (site : Setting) (p : Purse) (t : Traced) (q : Purse) (sid : List ℕ) (caller place : ℕ) : Type 0 where
  session : SessionHandle
  body : List ℕ
  text : List ℕ
  shows : ShowsSession session t.evidence
  entry : IsEntry site sid caller place body text p q session

names_by : (site : Setting) (p q : Purse) (t : Traced) (sid body text : List ℕ) (caller place : ℕ) (by : Evidence) → t.evidence ≡ by → IsTrueOf site body text p q (lines.Entry sid caller place) by
    → Names site p t q sid caller place
names_by site p q t sid body text caller place evidence.Request same is = absurd is
names_by site p q t sid body text caller place (evidence.Directory pass) same is = absurd is
names_by site p q t sid body text caller place (evidence.Session session) same is =
    record { session = session.value; body = body; text = text; shows = subst (ShowsSession session.value) (sym same) refl; entry = is }

names : (site : Setting) (p q : Purse) (t : Traced) (sid : List ℕ) (caller place : ℕ) → IsStep site p t q → t.line ≡ lines.Entry sid caller place → Names site p t q sid caller place
names site p q t sid caller place (inl a) is =
    names_by site p q t sid a.body a.text caller place t.evidence refl (subst (λ (l : TrailLine). IsTrueOf site a.body a.text p q l t.evidence) is a.true_of)
names site p q t sid caller place (inr r) is = absurd (other (sym is ∙ ap (λ (l : Traced). l.line) r.is))
  where
    other : lines.Entry sid caller place ≡ lines.Http r.refusal → ⊥
    other same = cc

-- something was added for it
some_added : (site : Setting) (before : List journal.Entry) (e : journal.Entry) (call : Entered) (request : Request) (body text : List ℕ) (added : List journal.Entry)
    → AnswersBy site before e call request body text added → 1 ≤ length added
some_added site before e (stored.Arrive stored now) request body text added answers = omega (arith, ap length answers.2)
some_added site before e (stored.Limit kind cost now) request body text added answers = omega (arith, ap length answers.3)
some_added site before e (stored.Collect ticket) request body text added answers = omega (arith, ap length answers.2)
some_added site before e (stored.Open sid host greeting body' now limit gap_waits) request body text added answers = absurd answers
some_added site before e (stored.Back stream stanza now) request body text added answers = absurd answers
some_added site before e (stored.BackClosed stream closing now) request body text added answers = absurd answers
some_added site before e (stored.Tick now) request body text added answers = absurd answers
some_added site before e stored.TakeInward request body text added answers = absurd answers

-- ---- a later line of a session that is held on

module _ (site : Setting) (p0 q0 : Purse) (t : Traced) (sid : List ℕ) (caller place : ℕ) (first : Names site p0 t q0 sid caller place) where
  abbrev x : SessionHandle
  x = first.session

  abbrev Rises : ℕ → ℕ → Type 0
  Rises caller' place' = (caller' ≡ caller) × (place < place')

  rises_by : (p q : Purse) (u : Traced) (caller' place' : ℕ) (later : Names site p u q sid caller' place') (k : Keeps x p) → GoesOn k.handle later.session
      → (known later.session.pass).mine ≡ (known k.handle.pass).mine ++ later.entry.added → Rises caller' place'
  rises_by p q u caller' place' later k on made =
      let e = first.entry in
      let f = later.entry in
      let goes : GoesOn x later.session = goes_further x k.handle later.session k.on on in
      let n : ℕ = (known x.pass).number in
      let same : caller' ≡ n = sym f.by ∙ goes.pass_number in
      let seen : (known later.session.pass).seen ≡ (known x.pass).seen ++ goes.seen.0 = goes.seen.1 in
      let was : own n (known x.pass).seen ≡ (known x.pass).mine = owns x n refl in
      let now : own n ((known x.pass).seen ++ goes.seen.0) ≡ (known later.session.pass).mine = ap (own n) (sym seen) ∙ owns later.session n goes.pass_number in
      let some : 1 ≤ length f.added = some_added site f.before f.entry f.entry.call f.request later.body later.text f.added f.answers in
      let more : length (own n (known x.pass).seen) < length (own n ((known x.pass).seen ++ goes.seen.0)) =
      omega (arith, ap length was, ap length now, ap length made, length-append (known k.handle.pass).mine f.added, k.mine, some) in
      let stands : length e.before < length f.before =
      further n (known x.pass).seen goes.seen.0 e.before e.later f.before f.later e.entry f.entry e.seen (sym seen ∙ f.seen) (e.own ∙ sym e.by) (f.own ∙ same)
      (subst (λ m. own m f.later ≡ []) same f.since) more in
      (same ∙ e.by, omega (arith, stands, e.at, f.at))

  -- it is of the session that is held
  rises_so : (p q : Purse) (last : Known Entry) (u : Traced) (caller' place' : ℕ) → Names site p u q sid caller' place' → (k : Keeps x p) → HoldsOpened p → Grew (known q.directory) last → IsLegal last.seen
      → Rises caller' place'
  rises_so p q last u caller' place' later k holds grew legal = by (cases_eq later.entry.number k.number)
    where
      y : SessionHandle
      y = later.session

      by : (later.entry.number ≡ k.number) ⊎ (later.entry.number ≢ k.number) → Rises caller' place'
      by (inl same) =
          let on : GoesOn k.handle y = called_goes x p q later.entry.number y later.entry.added k later.entry.alone holds same in
          rises_by p q u caller' place' later k on (called_made x p q later.entry.number y later.entry.added k later.entry.alone same on)
      by (inr apart) =
          let it = called_opened p q later.entry.number y later.entry.added later.entry.alone holds in
          let old = holds k.number k.handle k.is in
          let one : session_of k.handle ≡ session_of y =
          one_of_name last.seen legal (session_of k.handle) (session_of y)
          (opened_later (known q.directory) last (session_of k.handle) grew
          (opened_later (known p.directory) (known q.directory) (session_of k.handle) (grew_of (known p.directory) (known q.directory) later.entry.alone.directory) old.1))
          (opened_later (known q.directory) last (session_of y) grew it.1) (k.on.of_same.sid ∙ (first.entry.of ∙ sym later.entry.of)) in
          absurd (apart (sym it.0 ∙ (sym (ap (λ (s : OpenedSession). s.number) one) ∙ old.0)))

  -- a later line of that session
  rises_later : (p q : Purse) (last : Known Entry) (between later : List Traced) (u : Traced) (caller' place' : ℕ) → Walks site p (between ++ u ∷ later) q → Grew (known q.directory) last → IsLegal last.seen
      → HoldsOpened p → Keeps x p → u.line ≡ lines.Entry sid caller' place' → Rises caller' place' ⊎ SeesEnd sid between
  rises_later p q last [] later u caller' place' (next, step, rest) grew legal holds k is =
      inl (rises_so p next last u caller' place' (names site p next u sid caller' place' step is) k holds (grew_on (known next.directory) (known q.directory) last (walk_grew site next q later rest) grew) legal)
  rises_later p q last (b ∷ between) later u caller' place' (next, step, rest) grew legal holds k is =
      by (does_keep x p next b did holds k) (λ keeps. rises_later next q last between later u caller' place' rest grew legal (does_opened p next b did holds) keeps is)
    where
      did : Does p b next
      did = does site p next b step

      behind : Rises caller' place' ⊎ SeesEnd sid between → Rises caller' place' ⊎ SeesEnd sid (b ∷ between)
      behind (inl rises) = inl rises
      behind (inr ended) = inr (ended.0, inr ended.1, ended.2)

      by : Keeps x next ⊎ HasEnded x.sid b.evidence → (Keeps x next → Rises caller' place' ⊎ SeesEnd sid between) → Rises caller' place' ⊎ SeesEnd sid (b ∷ between)
      by (inl keeps) further_on = behind (further_on keeps)
      by (inr ended) further_on = inr (b, inl refl, subst (λ s. HasEnded s b.evidence) first.entry.of ended)

  rises_from : (q : Purse) (last : Known Entry) (between later : List Traced) (u : Traced) (caller' place' : ℕ) → Walks site q0 (between ++ u ∷ later) q → Grew (known q.directory) last → IsLegal last.seen
      → HoldsOpened q0 → u.line ≡ lines.Entry sid caller' place' → Rises caller' place' ⊎ SeesEnd sid (t ∷ between)
  rises_from q last between later u caller' place' walk grew legal holds is = by first.entry.alone.last
    where
      behind : Rises caller' place' ⊎ SeesEnd sid between → Rises caller' place' ⊎ SeesEnd sid (t ∷ between)
      behind (inl rises) = inl rises
      behind (inr ended) = inr (ended.0, inr ended.1, ended.2)

      by : IsLast q0.sessions first.entry.number x → Rises caller' place' ⊎ SeesEnd sid (t ∷ between)
      by (inl there) = behind (rises_later q0 q last between later u caller' place' walk grew legal holds (keeps_itself x q0 first.entry.number there) is)
      by (inr (none, over)) = inr (t, inl refl, ended_by sid x t.evidence first.shows first.entry.of over)

rises_in : (site : Setting) (p q : Purse) (last : Known Entry) (before between later : List Traced) (t u : Traced) (sid : List ℕ) (caller caller' place place' : ℕ)
    → Walks site p (before ++ t ∷ (between ++ u ∷ later)) q → Grew (known q.directory) last → IsLegal last.seen → HoldsOpened p
    → t.line ≡ lines.Entry sid caller place → u.line ≡ lines.Entry sid caller' place' → ((caller' ≡ caller) × (place < place')) ⊎ SeesEnd sid (t ∷ between)
rises_in site p q last [] between later t u sid caller caller' place place' (next, step, rest) grew legal holds is is' =
    rises_from site p next t sid caller place (names site p next t sid caller place step is) q last between later u caller' place' rest grew legal
    (does_opened p next t (does site p next t step) holds) is'
rises_in site p q last (b ∷ before) between later t u sid caller caller' place place' (next, step, rest) grew legal holds is is' =
    rises_in site next q last before between later t u sid caller caller' place place' rest grew legal (does_opened p next b (does site p next b step) holds) is is'

pub places_rise : (site : Setting) (start : Outside) (added : List Traced) (purse : Purse) → Did site start added purse → HoldsOpened start.purse → IsLegal (known purse.directory).seen
    → PlacesRise added
places_rise site start added purse did holds legal before between later t u sid caller caller' place place' are is is' =
    rises_in site did.first did.mid (known purse.directory) before between later t u sid caller caller' place place' (subst (λ ts. Walks site did.first ts did.mid) are did.walk) did.since legal
    (dropped_opened start.purse did.first did.drops holds) is is'
