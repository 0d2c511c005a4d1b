-- What each line of a trail adds to what is known of the directory.
use Rattle.std.proofs.Common.{◌≡◌, ◌⊎◌, ◌<◌, ◌≤◌, ℕ, Bool, true, false, cond, List, [], ◌∷◌, ◌++◌, length, All, Option, Some, None, refl, sym, ◌∙◌, ap, subst, inl, inr, append_assoc, append-nil, true≢false, arith}
use Rattle.std.specs.Prelude.{IfSome}
use Rattle.std.specs.Option.{option_to_list}
use Rattle.std.proofs.lemmas.Bool.{cases_lt}
use Rattle.std.proofs.lemmas.List.Elements.{All-head, All-tail}
use Rattle.std.specs.Arc.{arc_value}
use Rattle.bosh_types.specs.declared.condition.Condition.{Condition}
use Rattle.bosh_types.specs.declared.condition.Condition.TheVariants.{BadRequest, HostUnknown, ImproperAddressing, ItemNotFound, OtherRequest, PolicyViolation, RemoteConnectionFailed, RemoteStreamError, SystemShutdown, UndefinedCondition}
use Rattle.bosh_types.specs.declared.hosts.HostName.{HostName}
use Rattle.parked_gate.specs.Histories.{Appends, StartsWith}
use Rattle.parked_gate.specs.Passes.{Calls, GateId, Grows, Known, gate_of, known}
use Rattle.session_attrs.specs.declared.admission.Admitted.{Admitted}
use Rattle.session_attrs.specs.declared.admission.Admitted.TheVariants as admitted
use Rattle.session_attrs.specs.declared.request.Kind.{Kind}
use Rattle.session_attrs.specs.declared.request.Kind.TheVariants as kinds
use Rattle.session_attrs.specs.declared.request.Request.{Request}
use Rattle.session_attrs.specs.Admission.{admitted_of}
use Rattle.session_table.specs.declared.entry.Entry.{Entry}
use Rattle.session_table.specs.declared.handle.SessionHandle.{SessionHandle}
use Rattle.session_table.specs.declared.opening.Limits.{Limits}
use Rattle.session_table.specs.declared.purse.Purse.{Purse}
use Rattle.session_table.specs.History.{live_of, opening_in, openings_of}
use Rattle.session_table.specs.Replies.{IsFull, IsSpent}
use Rattle.serve_loop.specs.declared.trail.Evidence.{Evidence}
use Rattle.serve_loop.specs.declared.trail.Evidence.TheVariants as evidence
use Rattle.serve_loop.specs.declared.trail.Traced.{Traced}
use Rattle.serve_loop.specs.declared.trail.TrailLine.{TrailLine}
use Rattle.serve_loop.specs.declared.trail.TrailLine.TheVariants as lines
use Rattle.serve_loop.specs.Asked.{admitted_as, asked_as, asked_by, asked_of, request_in}
use Rattle.serve_loop.specs.Effects.{AsksDirectory, IsOpeningOf, OpensOne}
use Rattle.serve_loop.specs.Trail.{ConcernsNone, FindsNoRoom, HasNoRoom, IsGone, IsTrueOf, IsUnknown, Setting}
use Rattle.trail_laws.specs.Asking.{IsShown}
use Rattle.trail_laws.specs.Seeing.{HasNoRoomFor, HasOpening, IsTold}
use Rattle.trail_laws.specs.Told.{Has, is_of_directory, is_undefined, opened_in, seen_for, told_by}
use Rattle.trail_laws.proofs.ChainLemmas.{Grew, IsAsked, Steps, grew_none}
use Rattle.trail_laws.proofs.ListLemmas.{has_last, starts_on}

pub grew_of : (old new : Known Entry) → Grows old new → Grew old new
grew_of old new g = record { begins = g.begins; more = []; mine = g.mine ∙ sym (append-nil old.mine); news = g.earlier; learnt = g.learnt }

-- ---- the directory was called

appends_none : (number : ℕ) (before after : List Entry) (made : Option Entry) → made ≡ None → Appends (λ e. e.caller) number before made after → after ≡ before
appends_none number before after None is appends = appends
appends_none number before after (Some e) is appends = absurd (cc)

appends_some : (number : ℕ) (before after : List Entry) (made : Option Entry) (e : Entry) → made ≡ Some e → Appends (λ e. e.caller) number before made after → after ≡ before ++ e ∷ []
appends_some number before after None e is appends = absurd (cc)
appends_some number before after (Some x) e is appends = appends.0 ∙ ap (λ o. before ++ option_to_list o) is

pub starts_more : {A : Type 0} (xs ys zs : List A) (made : Option A) → StartsWith ys xs → zs ≡ ys ++ option_to_list made → StartsWith zs xs
starts_more xs ys zs made begins is = starts_on xs ys zs begins (option_to_list made, is)

pub appended : (number : ℕ) (before after : List Entry) (made : Option Entry) → Appends (λ e. e.caller) number before made after → after ≡ before ++ option_to_list made
appended number before after None appends = appends ∙ sym (append-nil before)
appended number before after (Some e) appends = appends.0

abbrev pub grew_by_call : {Says : List Entry → Option Entry → Type 0} (old new : Known Entry) → Calls (λ e. e.caller) Says old new → Grew old new
grew_by_call old new c = record {
  begins = starts_more old.seen c.before new.seen c.made c.begins (appended old.number c.before new.seen c.made c.seen);
  more = option_to_list c.made;
  mine = c.mine;
  news = c.earlier ++ length c.before ∷ [];
  learnt = c.learnt ∙ append_assoc old.learnt c.earlier (length c.before ∷ []);
}

-- ---- lines that the directory doesn't tell

pub quiet : (limits : Limits) (old new : Known Entry) (t : Traced) → is_of_directory t.line t.evidence ≡ false → seen_for t ≡ None → opened_in t ≡ None → Grew old new → Steps limits old t new
quiet limits old new t of_none none not_opened grew = record {
  grew = grew;
  shown = λ is. absurd (true≢false (sym is ∙ of_none));
  asked = λ log is. never none is;
  opened = λ session is. never not_opened is;
  entered = λ session is. never not_opened is;
}
  where
    never : {A B : Type 0} {o : Option A} {x : A} → o ≡ None → o ≡ Some x → B
    never none is = absurd (cc)

-- ---- the ones that it tells

full_or_not : (limits : Limits) (log : List Entry) → IsFull limits log ⊎ IsSpent limits log → HasNoRoomFor limits log
full_or_not limits log (inl full) = inl full
full_or_not limits log (inr spent) = by (cases_lt (length (live_of log)) limits.live)
  where
    by : (length (live_of log) < limits.live) ⊎ (limits.live ≤ length (live_of log)) → HasNoRoomFor limits log
    by (inl few) = inr (few, spent)
    by (inr full) = inl full

some_same : {A : Type 0} (x y : A) → Some x ≡ Some y → x ≡ y
some_same x y same = cc

told_steps : (limits : Limits) (old new : Purse) (t : Traced) (k : Known Entry) → AsksDirectory old new k → is_of_directory t.line t.evidence ≡ true → seen_for t ≡ Some k.seen
    → opened_in t ≡ None → IsTold limits t.line k.seen → Steps limits (known old.directory) t (known new.directory)
told_steps limits old new t k asks of_it shows not_opened told =
    let c : Calls (λ e. e.caller) (λ log made. made ≡ None) (known old.directory) (known new.directory) = asks.asked in
    let now : k.seen ≡ (known new.directory).seen = ap (λ (x : Known Entry). x.seen) asks.now in
    let before : (known new.directory).seen ≡ c.before = appends_none (known old.directory).number c.before (known new.directory).seen c.made c.says c.seen in
    record {
      grew = grew_by_call (known old.directory) (known new.directory) c;
      shown = λ is. (k.seen, shows);
      asked = λ log is. asked log (some_same k.seen log (sym shows ∙ is)) c.earlier c.before now before;
      opened = λ session is. never not_opened is;
      entered = λ session is. never not_opened is;
    }
  where
    never : {A B : Type 0} {o : Option A} {x : A} → o ≡ None → o ≡ Some x → B
    never none is = absurd (cc)

    asked : (log : List Entry) → k.seen ≡ log → (earlier : List ℕ) (before : List Entry) → k.seen ≡ (known new.directory).seen → (known new.directory).seen ≡ before
        → IsAsked limits t log (known new.directory) (earlier ++ length before ∷ [])
    asked log same earlier before now is = record {
      now = sym same ∙ now;
      told = subst (IsTold limits t.line) same told;
      earlier = earlier;
      last = ap (λ (l : List Entry). earlier ++ length l ∷ []) (sym is ∙ (sym now ∙ same));
    }

-- ---- a body that can't be served is answered with another condition

pub none_or_room : (site : Setting) (body : List ℕ) (condition : Condition) (old new : Purse) (by : Evidence) → ConcernsNone site body condition old new by
    → ((is_undefined condition ≡ false) × (new ≡ old)) ⊎ ((condition ≡ UndefinedCondition) × FindsNoRoom site body old new by)
none_or_room site body condition old new by (inr finds) = inr finds
none_or_room site body condition old new by (inl asks) = inl (read (request_in body) refl, asks.1)
  where
    is_other : (c : Condition) → c ≡ condition → is_undefined c ≡ false → is_undefined condition ≡ false
    is_other c same is = ap is_undefined (sym same) ∙ is

    to_admitted : (request : Request) (a : Admitted) → request_in body ≡ Some request → asked_as site.hosts (Some request) ≡ admitted_as request a → is_undefined condition ≡ false
    to_admitted request (admitted.Host place) eq is = absurd (cc (sym is ∙ (sym (ap (asked_as site.hosts) eq) ∙ asks.0)))
    to_admitted request admitted.Improper eq is = is_other ImproperAddressing (cc (sym is ∙ (sym (ap (asked_as site.hosts) eq) ∙ asks.0))) refl
    to_admitted request admitted.Unknown eq is = is_other HostUnknown (cc (sym is ∙ (sym (ap (asked_as site.hosts) eq) ∙ asks.0))) refl

    by_kind : (request : Request) (kind : Kind) → request_in body ≡ Some request → request.kind ≡ kind → is_undefined condition ≡ false
    by_kind request (kinds.Later sid) eq is = absurd (cc (sym (ap (asked_by site.hosts request) is) ∙ (sym (ap (asked_as site.hosts) eq) ∙ asks.0)))
    by_kind request (kinds.Creation creation) eq is = to_admitted request (admitted_of request.to site.hosts) eq (ap (asked_by site.hosts request) is)

    read : (r : Option Request) → request_in body ≡ r → is_undefined condition ≡ false
    read None eq = is_other BadRequest (cc (sym (ap (asked_as site.hosts) eq) ∙ asks.0)) refl
    read (Some request) eq = by_kind request request.kind eq refl

-- ---- each line

pub opened_steps : (limits : Limits) (old new : Purse) (t : Traced) (sid : List ℕ) (x : SessionHandle) (gate : GateId) → OpensOne old new x → is_of_directory t.line t.evidence ≡ false
    → seen_for t ≡ None → opened_in t ≡ Some (sid, gate) → ((log : List Entry) (e : Entry) → IsOpeningOf log x (Some e) → opening_in e ≡ Some (sid, gate))
    → Steps limits (known old.directory) t (known new.directory)
opened_steps limits old new t sid x gate opens of_none none opened tells =
    let c : Calls (λ e. e.caller) (λ log made. IsOpeningOf log x made) (known old.directory) (known new.directory) = opens.entered in
    let opening : opening_in c.says.0 ≡ Some (sid, gate) = tells c.before c.says.0 (subst (IsOpeningOf c.before x) c.says.1 c.says) in
    record {
      grew = grew_by_call (known old.directory) (known new.directory) c;
      shown = λ is. absurd (true≢false (sym is ∙ of_none));
      asked = λ log is. never none is;
      opened = λ session is. subst (HasOpening (known new.directory).seen (known new.directory).mine) (some_same (sid, gate) session (sym opened ∙ is))
          (has c.before c.made c.says.0 c.says.1 opening c.seen c.mine);
      entered = λ session is. (c.says.0, subst (λ o. Has (option_to_list o) c.says.0) (sym c.says.1) (inl refl), opening ∙ (sym opened ∙ is));
    }
  where
    never : {A B : Type 0} {o : Option A} {y : A} → o ≡ None → o ≡ Some y → B
    never none is = absurd (cc)

    has : (before : List Entry) (made : Option Entry) (e : Entry) → made ≡ Some e → opening_in e ≡ Some (sid, gate)
        → Appends (λ e. e.caller) (known old.directory).number before made (known new.directory).seen
        → (known new.directory).mine ≡ (known old.directory).mine ++ option_to_list made → HasOpening (known new.directory).seen (known new.directory).mine (sid, gate)
    has before made e is opening appends mine = record {
      entry = e;
      there = subst (λ l. Has l e) (sym (appends_some (known old.directory).number before (known new.directory).seen made e is appends)) (has_last before (e ∷ []) e (inl refl));
      own = subst (λ l. Has l e) (sym (mine ∙ ap (λ o. (known old.directory).mine ++ option_to_list o) is)) (has_last (known old.directory).mine (e ∷ []) e (inl refl));
      tells = opening;
    }

named : (x : SessionHandle) (sid : List ℕ) (gate : GateId) → x.sid ≡ sid → ◌≡◌ {A = List ℕ × GateId} (x.sid, gate) (sid, gate)
named x sid gate same = ap (λ s. (s, gate)) same

pub same_directory : (old new : Purse) → new ≡ old → Grew (known old.directory) (known new.directory)
same_directory old new same = subst (λ (p : Purse). Grew (known old.directory) (known p.directory)) (sym same) (grew_none (known old.directory))

step_none : (site : Setting) (body : List ℕ) (condition : Condition) (old new : Purse) (by : Evidence)
    → ((is_undefined condition ≡ false) × (new ≡ old)) ⊎ ((condition ≡ UndefinedCondition) × FindsNoRoom site body old new by)
    → Steps site.limits (known old.directory) (record { line = lines.NoSession condition; evidence = by }) (known new.directory)
step_none site body condition old new by (inl other) =
    quiet site.limits (known old.directory) (known new.directory) (record { line = lines.NoSession condition; evidence = by }) other.0
    (unseen other.0) refl (same_directory old new other.1)
  where
    unseen : is_undefined condition ≡ false → seen_for (record { line = lines.NoSession condition; evidence = by }) ≡ None
    unseen is = ap (λ b. cond b (told_by by) None) is
step_none site body condition old new evidence.Request (inr (is, finds)) = absurd finds.room
step_none site body condition old new (evidence.Session session) (inr (is, finds)) = absurd finds.room
step_none site body condition old new (evidence.Directory pass) (inr (is, finds)) =
    subst (λ c. Steps site.limits (known old.directory) (record { line = lines.NoSession c; evidence = evidence.Directory pass }) (known new.directory)) (sym is)
    (told_steps site.limits old new (record { line = lines.NoSession UndefinedCondition; evidence = evidence.Directory pass }) (known pass.value) finds.room.1 refl refl refl
    (full_or_not site.limits (known pass.value).seen finds.room.0))

step_unknown : (site : Setting) (sid body text : List ℕ) (old new : Purse) (by : Evidence) → IsUnknown sid body text old new by
    → Steps site.limits (known old.directory) (record { line = lines.Unknown sid; evidence = by }) (known new.directory)
step_unknown site sid body text old new evidence.Request is = absurd is.gone
step_unknown site sid body text old new (evidence.Session session) is =
    quiet site.limits (known old.directory) (known new.directory) (record { line = lines.Unknown sid; evidence = evidence.Session session }) refl refl refl
    (grew_of (known old.directory) (known new.directory) is.gone.2.1.directory)
step_unknown site sid body text old new (evidence.Directory pass) is =
    told_steps site.limits old new (record { line = lines.Unknown sid; evidence = evidence.Directory pass }) (known pass.value) is.gone.1 refl refl refl is.gone.0

pub step_by : (site : Setting) (body text : List ℕ) (old new : Purse) (line : TrailLine) (by : Evidence) → IsTrueOf site body text old new line by
    → Steps site.limits (known old.directory) (record { line = line; evidence = by }) (known new.directory)
step_by site body text old new (lines.Http refusal) by is = absurd is
step_by site body text old new (lines.Entry sid caller place) evidence.Request is = absurd is
step_by site body text old new (lines.Entry sid caller place) (evidence.Directory pass) is = absurd is
step_by site body text old new (lines.Entry sid caller place) (evidence.Session session) is =
    quiet site.limits (known old.directory) (known new.directory) (record { line = lines.Entry sid caller place; evidence = evidence.Session session }) refl refl refl
    (grew_of (known old.directory) (known new.directory) is.alone.directory)
step_by site body text old new (lines.Opened sid) evidence.Request is = absurd is
step_by site body text old new (lines.Opened sid) (evidence.Directory pass) is = absurd is
step_by site body text old new (lines.Opened sid) (evidence.Session session) is =
    opened_steps site.limits old new (record { line = lines.Opened sid; evidence = evidence.Session session }) sid session.value (gate_of (arc_value session.value.gate)) is.alone refl refl refl
    (λ log e opening. tells e opening.0 opening.1 opening.2)
  where
    tells : (e x : Entry) → Some e ≡ Some x → opening_in x ≡ (Some (session.value.sid, gate_of (arc_value session.value.gate))) → opening_in e ≡ Some (sid, gate_of (arc_value session.value.gate))
    tells e x same opens = ap opening_in (some_same e x same) ∙ (opens ∙ ap Some (named session.value sid (gate_of (arc_value session.value.gate)) is.of))
step_by site body text old new (lines.Unknown sid) by is = step_unknown site sid body text old new by is
step_by site body text old new (lines.NoSession condition) by is = step_none site body condition old new by (none_or_room site body condition old new by is.1)
