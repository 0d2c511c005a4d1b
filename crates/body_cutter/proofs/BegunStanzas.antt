-- A stanza that comes in pieces.
use Rattle.std.proofs.Common.{◌≡◌, ◌∙◌, ◌+◌, ◌<◌, ◌≤◌, ℕ, Bool, true, false, List, [], ◌∷◌, ◌++◌, length, take, drop, refl, sym, ap, subst, arith, inl, inr, append_assoc, append-nil, length-append}
use Rattle.std.specs.Prelude.{Option, None, Some, Result, Ok, Err, is_none, is_ok, if◌then◌else◌}
use Rattle.std.specs.Str.{is_utf8}
use Rattle.std.proofs.Math.Seq.{take-append-add, take-append_seam}
use Rattle.std.proofs.lemmas.List.{take-append-drop, take-append-le, take-take, length-take}
use Rattle.std.proofs.lemmas.Bool.{cases_order}
use Rattle.body_cutter.specs.declared.place.Place.TheVariants.{StanzaStart}
use Rattle.body_cutter.specs.declared.place.Place.{Place}
use Rattle.body_cutter.specs.declared.place.Place.TheVariants as places
use Rattle.body_cutter.specs.declared.place.Wide.{Wide}
use Rattle.body_cutter.specs.declared.place.Kind.TheVariants as kinds
use Rattle.body_cutter.specs.declared.place.Kind.{Kind}
use Rattle.body_cutter.specs.declared.place.Move.{Move}
use Rattle.body_cutter.specs.declared.place.Reference.{Reference}
use Rattle.body_cutter.specs.declared.parts.Cut.{Cut}
use Rattle.body_cutter.specs.declared.parts.CutRefusal.{CutRefusal}
use Rattle.body_cutter.specs.declared.parts.CutRefusal.TheVariants.{TooLong, NotUtf8, NotBody, Forbidden, Malformed}
use Rattle.body_cutter.specs.declared.stanza_cutter.Found.TheVariants.{More, Refused}
use Rattle.body_cutter.specs.declared.stanza_cutter.StanzaCutter.{StanzaCutter}
use Rattle.body_cutter.specs.Begun.{HasNoElement, IsBeginning, BeginsNone, HasBegun, IsFound, found_at, found_before, found_within}
use Rattle.body_cutter.specs.BodyText.{IsElementText, IsStanza}
use Rattle.body_cutter.specs.Chars.{is_whole, wide_next}
use Rattle.body_cutter.specs.Cutting.{is_stanza, stanza_read_of}
use Rattle.body_cutter.specs.Feeding.{IsRead, ReadsPiece, end_answer, reading_from, refusal_after}
use Rattle.body_cutter.specs.Ends.{last_bytes}
use Rattle.body_cutter.specs.Names.{around, due, is_empty}
use Rattle.body_cutter.specs.Reader.{State, first_state, matched, moved, next_move, move_of, place_next, step}
use Rattle.body_cutter.specs.Reading.{cut_of, state_of}
use Rattle.body_cutter.specs.Refusal.{Reading, Ended, Stopped, reading, is_accepted, is_complete, is_content, is_before_body, is_forbidden, ends_in_section_start, ended_refusal, limit_refusal, read_answer, refusal_or, stopped_refusal, text_answer, unit_answer}
use Rattle.body_cutter.specs.Table.{IsStanzaRefusal}
use Rattle.body_cutter.specs.Tables.{content_next}
use Rattle.body_cutter.specs.Viable.{Anything, IsViable, Row, has_state, is_for_place}
use Rattle.body_cutter.proofs.CompletionRows.{answer_rowed}
use Rattle.body_cutter.proofs.CompletionRuns.{reaches, stanza_stands}
use Rattle.body_cutter.proofs.CompletionNamed.{stanza_lands, stanza_runs}
use Rattle.body_cutter.proofs.CompletionTable.{stanza_forbids}
use Rattle.body_cutter.proofs.CompletionViable.{stanza_accepted, stanza_completed, stanza_viable}
use Rattle.body_cutter.proofs.Cuts.{stanza_is, stanza_refusal}
use Rattle.body_cutter.proofs.EndLemmas.{last_append, section_start_same}
use Rattle.body_cutter.proofs.FedLemmas.{end_gives, front_read, read_more, same_refusal, stopped_is}
use Rattle.body_cutter.proofs.Leads.{both}
use Rattle.body_cutter.proofs.Readings.{stanza_is_read}
use Rattle.body_cutter.proofs.Stops.{stops, never_on}

true_false : {P : Type 0} (b : Bool) → b ≡ true → b ≡ false → P
true_false true e f = absurd (cc)
true_false false e f = absurd (cc)

ended_same : {s t : State} → Ended s ≡ Ended t → s ≡ t
ended_same h = cc

never_ended : {P : Type 0} {at b : ℕ} {s t : State} → Stopped at b s ≡ Ended t → P
never_ended h = absurd (cc)

take_all : (xs : List ℕ) → take (length xs) xs ≡ xs
take_all [] = refl
take_all (x ∷ xs) = ap (λ (ys : List ℕ). x ∷ ys) (take_all xs)

-- the state with which a reading ends or stops
abbrev state_in : Reading → State
state_in (Ended s) = s
state_in (Stopped at b s) = s

-- Nothing follows an element.

content_only : (place : Place) → is_content place ≡ true → (brackets : ℕ) × (place ≡ places.Content brackets)
content_only (places.Content brackets) h = (brackets, refl)
content_only _ h = absurd (cc)

no_names : (names : List (List ℕ)) → is_empty names ≡ true → names ≡ []
no_names [] h = refl
no_names (name ∷ names) h = absurd (cc)

no_reference : {A : Type 0} (o : Option A) → is_none o ≡ true → o ≡ None
no_reference None h = refl
no_reference (Some x) h = absurd (cc)

stays : (o : Option Wide) (s : State) (at b : ℕ) → moved o None s at b ≡ None
stays None s at b = refl
stays (Some w) s at b = refl

no_move : (kind : Kind) (place : Place) (reference : Option Reference) (elements : List (List ℕ)) (brackets b : ℕ) → kind ≡ kinds.Stanza → place ≡ places.Content brackets → reference ≡ None → elements ≡ [] →
    move_of place reference (around kind elements) (due elements (matched place)) b ≡ None
unfolding move_of place_next content_next around
no_move kind place reference elements brackets b k p r e = rw (k, p, r, e) refl

next_none : (s : State) (b : ℕ) → is_complete s ≡ true → s.kind ≡ kinds.Stanza → next_move s b ≡ None
unfolding next_move is_complete
next_none s b h k =
    let x = both (is_content s.place) _ h in
    let y = both (is_whole s.wide) _ x.1 in
    let z = both _ (is_empty s.elements) y.1 in
    let p = content_only s.place x.0 in
    no_move s.kind s.place s.reference s.elements p.0 b k p.1 (no_reference s.reference z.0) (no_names s.elements z.1)

complete_steps : (s : State) (at b : ℕ) → is_complete s ≡ true → s.kind ≡ kinds.Stanza → step s at b ≡ None
unfolding step
complete_steps s at b h k = ap (λ (o : Option Move). moved (wide_next s.wide b) o s at b) (next_none s b h k) ∙ stays (wide_next s.wide b) s at b

after : (n : ℕ) (s : State) (rest : List ℕ) → is_complete s ≡ true → s.kind ≡ kinds.Stanza → is_complete (state_in (reading n s rest)) ≡ true
unfolding reading
after n s [] c k = c
after n s (b ∷ rest) c k =
    ap (λ (o : Option State). is_complete (state_in (elim o [ None ↦ Stopped n b s | Some next ↦ reading (n + 1) next rest ]))) (complete_steps s n b c k) ∙ c

-- where a front of a text is an element, the text is read up to its end
front_by : (text : List ℕ) (n : ℕ) → n ≤ length text → (q : Reading) → reading 0 (first_state kinds.Stanza StanzaStart) (take n text) ≡ q → is_accepted q ≡ true →
    is_complete (state_in (reading 0 (first_state kinds.Stanza StanzaStart) text)) ≡ true
front_by text n within (Ended s) e h =
    let start = first_state kinds.Stanza StanzaStart in
    let more : reading 0 start (take n text ++ drop n text) ≡ reading n s (drop n text) = read_more (take n text) 0 n start s (drop n text) (omega (arith, length-take n text, within)) e in
    ap (λ (xs : List ℕ). is_complete (state_in (reading 0 start xs))) (sym (take-append-drop n text))
    ∙ ap (λ (q : Reading). is_complete (state_in q)) more
    ∙ after n s (drop n text) h (reaches kinds.Stanza (take n text) 0 start s stanza_stands e).0.same
front_by text n within (Stopped at b s) e h = absurd (cc)

no_element : (text : List ℕ) → is_complete (state_in (reading 0 (first_state kinds.Stanza StanzaStart) text)) ≡ false → HasNoElement text
no_element text h n within e = true_false _ (front_by text n within _ refl (stanza_is_read (take n text) e)) h

-- what is read to its end, and isn't complete, is a beginning
pub begun_is : (text : List ℕ) (s : State) → reading_from kinds.Stanza text ≡ Ended s → is_complete s ≡ false → length text ≤ 1000000 → IsBeginning text
begun_is text s read h within = record {
  within = within;
  viable = (stanza_viable text).1 (ap has_state read);
  unended = no_element text (ap (λ (q : Reading). is_complete (state_in q)) read ∙ h);
}

-- What is complete is a stanza, or passes a limit.

answer_by : (whole before complete : Bool) (len : ℕ) (limits : Option CutRefusal) (cut : Cut) → whole ≡ true → before ≡ false → complete ≡ true →
    (if whole then refusal_or (if before then Some NotBody else if complete then limits else Some (Malformed len)) cut else Err NotUtf8) ≡ refusal_or limits cut
answer_by true false true len limits cut e f g = refl
answer_by true false false len limits cut e f g = absurd (cc)
answer_by true true complete len limits cut e f g = absurd (cc)
answer_by false before complete len limits cut e f g = absurd (cc)

content_is_late : (place : Place) → is_content place ≡ true → is_before_body place ≡ false
unfolding is_before_body
content_is_late (places.Content count) h = refl
content_is_late _ h = absurd (cc)

late : (s : State) → is_complete s ≡ true → (is_whole s.wide ≡ true) × (is_before_body s.place ≡ false)
unfolding is_complete
late s c =
    let x = both (is_content s.place) _ c in
    ((both (is_whole s.wide) _ x.1).0, content_is_late s.place x.0)

complete_answer : (len : ℕ) (s : State) → is_complete s ≡ true → end_answer len s ≡ refusal_or (limit_refusal s) (cut_of s)
unfolding ended_refusal
complete_answer len s c =
    let l = late s c in
    answer_by (is_whole s.wide) (is_before_body s.place) (is_complete s) len (limit_refusal s) (cut_of s) l.0 l.1 c

module _ (front : List ℕ) (s : State) (read : reading_from kinds.Stanza front ≡ Ended s) (c : is_complete s ≡ true) (within : length front ≤ 1000000) where
  answer : text_answer kinds.Stanza StanzaStart 1000000 (is_utf8 front) front ≡ refusal_or (limit_refusal s) (cut_of s)
  answer =
      end_gives kinds.Stanza front within s (last_bytes front) (length front) (record { read = read; tail_is = refl; len_is = refl })
      ∙ complete_answer (length front) s c

  pub whole_is : limit_refusal s ≡ None → IsStanza front
  unfolding is_stanza stanza_read_of
  whole_is e = (stanza_is front).0 (ap (λ (a : Result Cut CutRefusal). is_ok (unit_answer a)) (answer ∙ ap (λ (o : Option CutRefusal). refusal_or o (cut_of s)) e))

  element_is : IsElementText front
  element_is = stanza_accepted front (ap is_accepted read ∙ c)

  limit_is : (refusal : CutRefusal) → limit_refusal s ≡ Some refusal → IsStanzaRefusal front refusal
  unfolding stanza_read_of
  limit_is refusal e = (stanza_refusal front refusal).0 (ap unit_answer (answer ∙ ap (λ (o : Option CutRefusal). refusal_or o (cut_of s)) e))

  -- a front that passes a limit is refused whatever follows
  pub limit_on : (text : List ℕ) (n : ℕ) → n ≤ length text → take n text ≡ front → (refusal : CutRefusal) → limit_refusal s ≡ Some refusal → BeginsNone text refusal
  limit_on text n inside is refusal e =
      let len : n ≤ 1000000 = omega (arith, sym (length-take n text), ap length is, within, inside) in
      BeginsNone.passes_limit n inside len (subst IsElementText (sym is) element_is) (subst (λ (xs : List ℕ). IsStanzaRefusal xs refusal) (sym is) (limit_is refusal e))

-- A text that goes wrong does so whatever follows.

row : (text : List ℕ) (refusal : CutRefusal) → read_answer text (reading 0 (first_state kinds.Stanza StanzaStart) text) ≡ Err refusal → is_for_place refusal ≡ true → Row IsElementText Anything text refusal
row text =
    answer_rowed IsElementText Anything (first_state kinds.Stanza StanzaStart) stanza_is_read stanza_completed
    (λ front s h. stanza_lands front _ (stanza_runs front s h)) stanza_forbids text false true

for_place : (before bad : Bool) (at : ℕ) → is_for_place (if before then NotBody else if bad then Forbidden at else Malformed at) ≡ true
for_place true bad at = refl
for_place false true at = refl
for_place false false at = refl

stopped_for_place : (text : List ℕ) (at b : ℕ) (s : State) → is_for_place (stopped_refusal text at b s) ≡ true
unfolding stopped_refusal
stopped_for_place text at b s = for_place (is_before_body s.place) (is_forbidden (take at text) s b) at

stop_answer : (text : List ℕ) (at b : ℕ) (s : State) → read_answer text (Stopped at b s) ≡ Err (stopped_refusal text at b s)
unfolding read_answer
stop_answer text at b s = refl

-- the same reading of more
stop_on : (text more : List ℕ) (at b : ℕ) (s : State) → reading_from kinds.Stanza text ≡ Stopped at b s → reading_from kinds.Stanza (text ++ more) ≡ Stopped at b s
stop_on text more at b s h =
    let k = stops text 0 (first_state kinds.Stanza StanzaStart) at b s h in
    ap (reading_from kinds.Stanza) (ap (λ (xs : List ℕ). xs ++ more) k.2 ∙ append_assoc k.0 (b ∷ k.1) more) ∙ k.4 (k.1 ++ more)

stop_within : (text : List ℕ) (at b : ℕ) (s : State) → reading_from kinds.Stanza text ≡ Stopped at b s → at < length text
stop_within text at b s h =
    let k = stops text 0 (first_state kinds.Stanza StanzaStart) at b s h in
    omega (arith, k.3, ap length k.2, length-append k.0 (b ∷ k.1))

not_viable : (text : List ℕ) (at b n : ℕ) (s : State) → reading_from kinds.Stanza text ≡ Stopped at b s → at < n → IsViable IsElementText (take n text) → ⊥
not_viable text at b n s h below v =
    let f = take n text in
    let same : take (at + 1) f ≡ take (at + 1) text = take-take (at + 1) n text (omega (arith, below)) in
    let whole : take (at + 1) text ++ (drop (at + 1) f ++ v.0) ≡ f ++ v.0 =
    sym (append_assoc (take (at + 1) text) (drop (at + 1) f) v.0)
    ∙ ap (λ (xs : List ℕ). (xs ++ drop (at + 1) f) ++ v.0) (sym same)
    ∙ ap (λ (xs : List ℕ). xs ++ v.0) (take-append-drop (at + 1) f) in
    never_on text (first_state kinds.Stanza StanzaStart) at b s h (drop (at + 1) f ++ v.0)
    (ap (λ (xs : List ℕ). is_accepted (reading 0 (first_state kinds.Stanza StanzaStart) xs)) whole ∙ stanza_is_read (f ++ v.0) v.1)

pub wrong_is : (text : List ℕ) (at b : ℕ) (s : State) → reading_from kinds.Stanza text ≡ Stopped at b s → is_complete s ≡ false → at < 1000000 → BeginsNone text (stopped_refusal text at b s)
wrong_is text at b s h open_ below =
    BeginsNone.goes_wrong (not_viable text at b 1000000 s h below) (no_element text (ap (λ (q : Reading). is_complete (state_in q)) h ∙ open_))
    (row text (stopped_refusal text at b s) (ap (read_answer text) h ∙ stop_answer text at b s) (stopped_for_place text at b s))

pub first_open : is_complete (first_state kinds.Stanza StanzaStart) ≡ false
unfolding is_complete first_state
first_open = refl

-- A piece after what was read.

module _ (text piece : List ℕ) (cutter : StanzaCutter) (within : length text + length piece ≤ 1000000) where
  inside : length (text ++ piece) ≤ 1000000
  inside = omega (arith, length-append text piece, within)

  -- it is read to its end
  module _ (r : IsRead kinds.Stanza (text ++ piece) (state_of cutter.reader) cutter.tail cutter.len) where
    found_by : (c : Bool) → is_complete (state_of cutter.reader) ≡ c → (l : Option CutRefusal) → limit_refusal (state_of cutter.reader) ≡ l → IsFound (if c then found_within l (length piece) else More) cutter text piece
    unfolding HasBegun
    found_by false e l f = record { read = r; unended = e; within = inside }
    found_by true e None f = (omega arith, subst (λ (xs : List ℕ). IsStanza (text ++ xs)) (sym (take_all piece)) (whole_is (text ++ piece) (state_of cutter.reader) r.read e inside f))
    found_by true e (Some refusal) f = λ more.
        limit_on (text ++ piece) (state_of cutter.reader) r.read e inside ((text ++ piece) ++ more) (length (text ++ piece)) (omega (arith, length-append (text ++ piece) more))
        (take-append_seam (text ++ piece) more) refusal f

    pub ended_found : IsFound (found_at (state_of cutter.reader) (length piece)) cutter text piece
    ended_found = found_by (is_complete (state_of cutter.reader)) refl (limit_refusal (state_of cutter.reader)) refl

  -- it is read up to a byte of it
  module _ (s new : State) (tail : List ℕ) (len at b place : ℕ) (read : IsRead kinds.Stanza text s tail len) (stop : reading_from kinds.Stanza (text ++ piece) ≡ Stopped place b new) (there : place ≡ len + at) (below : at < length piece) where
    place_is : place ≡ length text + at
    place_is = omega (arith, there, read.len_is)

    front_is : take place (text ++ piece) ≡ text ++ take at piece
    front_is = ap (λ (n : ℕ). take n (text ++ piece)) place_is ∙ take-append-add text piece at

    front_long : length (text ++ take at piece) ≡ place
    front_long = omega (arith, length-append text (take at piece), length-take at piece, below, place_is)

    front_ends : reading_from kinds.Stanza (text ++ take at piece) ≡ Ended new
    front_ends = ap (reading_from kinds.Stanza) (sym front_is) ∙ front_read kinds.Stanza (text ++ piece) place b new stop

    front_within : length (text ++ take at piece) ≤ 1000000
    front_within = omega (arith, front_long, place_is, below, within)

    front_on : (more : List ℕ) → take place ((text ++ piece) ++ more) ≡ text ++ take at piece
    front_on more = take-append-le place (text ++ piece) more (omega (arith, place_is, below, length-append text piece)) ∙ front_is

    refusal_on : (more : List ℕ) → stopped_refusal ((text ++ piece) ++ more) place b new ≡ refusal_after (last_bytes (tail ++ take at piece)) (len + at) b new
    refusal_on more =
        let whole = (text ++ piece) ++ more in
        let tails : last_bytes (take place whole) ≡ last_bytes (tail ++ take at piece) =
        ap last_bytes (front_on more) ∙ sym (last_append text (take at piece)) ∙ ap (λ (xs : List ℕ). last_bytes (xs ++ take at piece)) (sym read.tail_is) in
        stopped_is whole place b new
        ∙ same_refusal (take place whole) (last_bytes (tail ++ take at piece)) place b new (sym (section_start_same (take place whole)) ∙ ap ends_in_section_start tails)
        ∙ ap (λ (n : ℕ). refusal_after (last_bytes (tail ++ take at piece)) n b new) there

    before_by : (c : Bool) → is_complete new ≡ c → (l : Option CutRefusal) → limit_refusal new ≡ l →
        IsFound (if c then found_within l at else Refused (refusal_after (last_bytes (tail ++ take at piece)) (len + at) b new)) cutter text piece
    before_by false e l f = λ more.
        subst (BeginsNone ((text ++ piece) ++ more)) (refusal_on more)
        (wrong_is ((text ++ piece) ++ more) place b new (stop_on (text ++ piece) more place b new stop) e (omega (arith, place_is, below, within)))
    before_by true e None f = (omega (arith, below), whole_is (text ++ take at piece) new front_ends e front_within f)
    before_by true e (Some refusal) f = λ more.
        limit_on (text ++ take at piece) new front_ends e front_within ((text ++ piece) ++ more) place
        (omega (arith, place_is, below, length-append text piece, length-append (text ++ piece) more)) (front_on more) refusal f

  pub stopped_found : (s new : State) (tail : List ℕ) (len at b : ℕ) (r : Reading) → IsRead kinds.Stanza text s tail len → reading len s piece ≡ r → ReadsPiece r len piece (Some (at, b)) new →
      IsFound (found_before (last_bytes (tail ++ take at piece)) len at b new) cutter text piece
  stopped_found s new tail len at b (Ended t) read e h = absurd h
  stopped_found s new tail len at b (Stopped place c t) read e h =
      before_by s new tail len at b place read
      (read_more text 0 len (first_state kinds.Stanza StanzaStart) s piece (omega (arith, read.len_is)) read.read ∙ e ∙ ap (λ (x : ℕ). Stopped place x t) h.1 ∙ ap (Stopped place b) (sym h.3))
      h.0 h.2 (is_complete new) refl (limit_refusal new) refl

-- A piece that goes on after the longest stanza.

module _ (text piece : List ℕ) (cutter : StanzaCutter) (room : ℕ) (is : length text + room ≡ 1000000) (over : room < length piece) where
  front_same : (more : List ℕ) → take 1000000 ((text ++ piece) ++ more) ≡ text ++ take room piece
  front_same more =
      ap (λ (xs : List ℕ). take 1000000 xs) (append_assoc text piece more)
      ∙ ap (λ (n : ℕ). take n (text ++ (piece ++ more))) (sym is)
      ∙ take-append-add text (piece ++ more) room
      ∙ ap (λ (xs : List ℕ). text ++ xs) (take-append-le room piece more (omega (arith, over)))

  -- no element ended in the room that was left
  pub over_more : HasBegun cutter (text ++ take room piece) → (more : List ℕ) → BeginsNone ((text ++ piece) ++ more) TooLong
  unfolding HasBegun
  over_more f more =
      BeginsNone.goes_on (omega (arith, is, over, length-append text piece, length-append (text ++ piece) more))
      (subst IsBeginning (sym (front_same more)) (begun_is (text ++ take room piece) (state_of cutter.reader) f.read.read f.unended f.within))

  pub over_whole : (count : ℕ) → (count ≤ length (take room piece)) × IsStanza (text ++ take count (take room piece)) → (count ≤ length piece) × IsStanza (text ++ take count piece)
  over_whole count h =
      let below : count ≤ room = omega (arith, h.0, length-take room piece) in
      (omega (arith, below, over), subst (λ (xs : List ℕ). IsStanza (text ++ xs)) (take-take count room piece below) h.1)

  pub over_refused : (refusal : CutRefusal) → ((more : List ℕ) → BeginsNone ((text ++ take room piece) ++ more) refusal) → (more : List ℕ) → BeginsNone ((text ++ piece) ++ more) refusal
  over_refused refusal h more =
      subst (λ (xs : List ℕ). BeginsNone xs refusal)
      (append_assoc text (take room piece) (drop room piece ++ more)
      ∙ ap (λ (xs : List ℕ). text ++ xs) (sym (append_assoc (take room piece) (drop room piece) more) ∙ ap (λ (xs : List ℕ). xs ++ more) (take-append-drop room piece))
      ∙ sym (append_assoc text piece more))
      (h (drop room piece ++ more))

-- what is found is told
pub found_told : (text piece : List ℕ) (refusal : CutRefusal) → ((more : List ℕ) → BeginsNone ((text ++ piece) ++ more) refusal) → BeginsNone (text ++ piece) refusal
found_told text piece refusal h = subst (λ (xs : List ℕ). BeginsNone xs refusal) (append-nil (text ++ piece)) (h [])

pub open_told : (text : List ℕ) (cutter : StanzaCutter) → HasBegun cutter text → IsBeginning text
unfolding HasBegun
open_told text cutter f = begun_is text (state_of cutter.reader) f.read.read f.unended f.within
