-- What a session tells of the plain one that it stands for.
use Rattle.std.proofs.Common.{◌≡◌, ℕ, suc, ◌+◌, ◌==◌, ◌&&◌, ◌||◌, Bool, true, false, not, nat_lt, List, [], ◌∷◌, map, length, max, Option, None, refl, sym, ◌∙◌, ap, arith}
use Rattle.std.specs.Prelude.{◌↔◌, is_some, IsTrue, if◌then◌else◌}
use Rattle.std.specs.List.{list_any}
use Rattle.bosh_types.specs.ById.{at_id}
use Rattle.bosh_types.specs.declared.terms.Terms.{Terms}
use Rattle.pause_rules.specs.Due.{is_wait_due}
use Rattle.rid_window.specs.PlainWindow.{item_at, id_after, IsClear}
use Rattle.session_core.specs.declared.copy.RequestCopy.{RequestCopy}
use Rattle.session_core.specs.declared.held.HeldRequest.{HeldRequest}
use Rattle.session_core.specs.declared.session.Session.{Session}
use Rattle.session_core.specs.Answers.{has_reason, has_reason_for}
use Rattle.session_core.specs.Copy.{with_id, is_prompt}
use Rattle.session_core.specs.Machine.{next_copy}
use Rattle.session_core.specs.Processed.{Processed}
use Rattle.session_core.specs.StandsFor.{Alike, Holds, held_of}
use Rattle.session_core.specs.State.{PlainSession, beyond, held, last_of, is_over, standing, waiting}
use Rattle.session_core.specs.Steps.{wants, wants_answer}
use Rattle.session_core.specs.Time.{last_told, owes_nothing_beyond, quiet_of}
use Rattle.session_core.proofs.WindowLemmas.{above, clear_is, next_at}

module _ {s : Session} {plain : PlainSession} where
  pub ending_is : Holds s plain → s.ending ≡ plain.ending
  ending_is h = ap (λ (a : Alike). a.ending) h.alike

  pub over_is : Holds s plain → is_some s.ending ≡ is_over plain
  over_is h = ap (λ (a : Alike). is_some a.ending) h.alike

  pub moment_is : Holds s plain → s.moment ≡ plain.now
  moment_is h = ap (λ (a : Alike). a.now) h.alike

  pub terms_is : Holds s plain → s.deadlines.terms ≡ plain.terms
  terms_is h = ap (λ (a : Alike). a.pace.terms) h.alike

  pub held_length : Holds s plain → length s.held ≡ length (held plain)
  held_length h = ap length h.run.held_is ∙ length-map (held plain)
    where
      length-map : (copies : List Processed) → length (map held_of copies) ≡ length copies
      length-map [] = refl
      length-map (one ∷ copies) = ap suc (length-map copies)

  -- no copy is next in a session that has ended
  pub next_over : Holds s plain → is_some s.ending ≡ true → None ≡ next_copy plain
  next_over h over = sym (ap (λ (b : Bool). if b then None else at_id (map with_id (standing plain)) (last_of plain + 1)) (sym (over_is h) ∙ over))

  -- the first item of the window is next in a session that goes on
  pub next_live : (found : Option RequestCopy) → Holds s plain → is_some s.ending ≡ false
      → found ≡ item_at (id_after s.last) (map with_id (plain.creation ∷ standing plain)) → found ≡ next_copy plain
  next_live found h live is =
      is ∙ next_at plain.creation (standing plain) s.last h.window.ids (omega (arith, h.run.last_is))
      ∙ ap (λ (last : ℕ). at_id (map with_id (standing plain)) (last + 1)) h.run.last_is
      ∙ sym (ap (λ (b : Bool). if b then None else at_id (map with_id (standing plain)) (last_of plain + 1)) (sym (over_is h) ∙ live))

  -- whether one stands beyond the gap
  pub clear_of : (clear : Bool) → Holds s plain
      → (IsTrue clear ↔ IsClear (record { placed = map with_id (plain.creation ∷ standing plain); next = id_after s.last; width = plain.terms.requests }))
      → clear ≡ (length (beyond plain) == 0)
  clear_of clear h told =
      clear_is clear plain.creation (standing plain) s.last h.window.ids (omega (arith, h.run.last_is)) told.0 told.1
      ∙ ap (λ (last : ℕ). length (above last (standing plain)) == 0) h.run.last_is

  -- in a session that doesn't poll
  pub nothing_beyond_is : (polled clear : Bool) → Holds s plain → polled ≡ s.deadlines.terms.polled
      → (IsTrue clear ↔ IsClear (record { placed = map with_id (plain.creation ∷ standing plain); next = id_after s.last; width = plain.terms.requests }))
      → (polled || clear) ≡ owes_nothing_beyond plain
  nothing_beyond_is polled clear h is told =
      let polls : polled ≡ plain.terms.polled = is ∙ ap (λ (t : Terms). t.polled) (terms_is h) in
      (λ i. polls i || clear_of clear h told i)

  -- in one that polls nothing is owed
  pub polls_nothing : Holds s plain → s.deadlines.terms.polled ≡ true → true ≡ owes_nothing_beyond plain
  polls_nothing h is =
      let polls : plain.terms.polled ≡ true = sym (ap (λ (t : Terms). t.polled) (terms_is h)) ∙ is in
      sym (ap (λ (b : Bool). b || (length (beyond plain) == 0)) polls)

  -- when the client was last told something
  pub told_is : Holds s plain → max s.last_given s.last_error ≡ last_told plain
  told_is h = (λ i. max (h.latest.given_is i) (ap (λ (a : Alike). a.last_error) h.alike i))

  -- since when it is quiet
  pub quiet_is : (clear b : Bool) → clear ≡ b → Holds s plain
      → (IsTrue clear ↔ IsClear (record { placed = map with_id (plain.creation ∷ standing plain); next = id_after s.last; width = plain.terms.requests }))
      → (if b then max s.last_given s.last_error else max (max s.last_given s.last_error) s.last_arrival) ≡ quiet_of plain
  quiet_is clear b is h told =
      let empty : b ≡ (length (beyond plain) == 0) = sym is ∙ clear_of clear h told in
      let arrival : s.last_arrival ≡ plain.last_arrival = ap (λ (a : Alike). a.last_arrival) h.alike in
      (λ i. if empty i then told_is h i else max (told_is h i) (arrival i))

any_map : (p : HeldRequest → Bool) (copies : List Processed) → list_any p (map held_of copies) ≡ list_any (λ one. p (held_of one)) copies
any_map p [] = refl
any_map p (one ∷ copies) = ap (λ (b : Bool). p (held_of one) || b) (any_map p copies)

chain : (over a h w p r q : Bool) → (if over then false else if a then true else if h then true else if w then true else if p then true else r || q)
    ≡ (not over && (a || (h || (w || (p || (r || (q || false)))))))
chain true a h w p r q = refl
chain false true h w p r q = refl
chain false false true w p r q = refl
chain false false false true p r q = refl
chain false false false false true r q = refl
chain false false false false false true q = refl
chain false false false false false false true = refl
chain false false false false false false false = refl

over_or_not : (b : Bool) → (if b then false else false) ≡ false
over_or_not true = refl
over_or_not false = refl

-- a reason by the copies that are held is one by what is remembered of them
reason_for : (plain : PlainSession) (copies : List Processed) → held plain ≡ copies
    → wants plain.terms (is_over plain) (waiting plain) (map held_of copies) plain.now plain.reporting.due ≡ has_reason_for plain copies
reason_for plain [] is = over_or_not (is_over plain)
reason_for plain (oldest ∷ later) is =
    let items : Bool = not (length (waiting plain) == 0) && not (is_prompt oldest.copy) in
    let test : List Processed → Bool = λ copies.
    not (is_over plain) && (items || (nat_lt plain.terms.hold (length copies) || (list_any (λ one. is_wait_due plain.terms one.copy.arrived plain.now) copies
    || (list_any (λ one. is_prompt one.copy) copies || (is_some plain.reporting.due || (plain.terms.polled || false)))))) in
    chain (is_over plain) items (nat_lt plain.terms.hold (length (map held_of (oldest ∷ later))))
    (list_any (λ request. is_wait_due plain.terms request.arrived plain.now) (map held_of (oldest ∷ later)))
    (list_any (λ request. request.prompt) (map held_of (oldest ∷ later))) (is_some plain.reporting.due) plain.terms.polled
    ∙ (λ i. not (is_over plain) && (items || (nat_lt plain.terms.hold (length_map (oldest ∷ later) i)
    || (any_map (λ request. is_wait_due plain.terms request.arrived plain.now) (oldest ∷ later) i
    || (any_map (λ request. request.prompt) (oldest ∷ later) i || (is_some plain.reporting.due || (plain.terms.polled || false)))))))
    ∙ ap test (sym is)
  where
    length_map : (copies : List Processed) → length (map held_of copies) ≡ length copies
    length_map [] = refl
    length_map (one ∷ copies) = ap suc (length_map copies)

pub wants_is : {s : Session} {plain : PlainSession} → Holds s plain → wants_answer s ≡ has_reason plain
wants_is {s = s} {plain = plain} h =
    let due : s.acks.due ≡ plain.reporting.due = ap (λ (a : Alike). a.reporting.due) h.alike in
    (λ i. wants (terms_is h i) (over_is h i) (h.items.outbox_is i) (h.run.held_is i) (moment_is h i) (due i))
    ∙ reason_for plain (held plain) refl

-- at another moment
pub moved : {s : Session} {plain : PlainSession} (moment : ℕ) → Holds s plain → Holds (record s { moment = moment }) (record plain { now = moment })
moved moment h = record {
  alike = ap (λ (a : Alike). record a { now = moment }) h.alike;
  run = h.run;
  latest = h.latest;
  kept = h.kept;
  inward = h.inward;
  items = h.items;
  streams = h.streams;
  tickets = h.tickets;
  window = h.window;
}
