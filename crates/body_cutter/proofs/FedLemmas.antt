-- A text that comes in pieces.
use Rattle.std.proofs.Common.{◌≡◌, ◌∙◌, ◌+◌, ◌<◌, ◌≤◌, ℕ, Bool, true, false, List, [], ◌∷◌, ◌++◌, length, take, drop, refl, sym, ap, subst, arith, length-append, append_assoc, ◌&&◌, ◌||◌}
use Rattle.std.specs.Prelude.{Option, None, Some, Result, Err, min, is_some, ◌==◌, if◌then◌else◌}
use Rattle.std.specs.Str.{is_utf8}
use Rattle.std.proofs.Math.Seq.{take-append-add, take-append_seam}
use Rattle.std.proofs.lemmas.List.{take-append-drop, take-append-le}
use Rattle.std.proofs.lemmas.Bool.{lt-ltb, le-ltb}
use Rattle.body_cutter.specs.declared.place.Place.{Place}
use Rattle.body_cutter.specs.declared.place.Wide.{Wide}
use Rattle.body_cutter.specs.declared.place.Wide.TheVariants.{Whole}
use Rattle.body_cutter.specs.declared.place.Kind.{Kind}
use Rattle.body_cutter.specs.declared.place.Kind.TheVariants as kinds
use Rattle.body_cutter.specs.declared.place.Move.{Move}
use Rattle.body_cutter.specs.declared.feeding.Progress.{Progress}
use Rattle.body_cutter.specs.declared.feeding.Progress.TheVariants.{Alive, Refused}
use Rattle.body_cutter.specs.declared.parts.Cut.{Cut}
use Rattle.body_cutter.specs.declared.parts.CutRefusal.{CutRefusal}
use Rattle.body_cutter.specs.declared.parts.CutRefusal.TheVariants.{TooLong, NotUtf8, NotBody, Forbidden, Malformed}
use Rattle.body_cutter.specs.Chars.{is_whole, wide_next}
use Rattle.body_cutter.specs.Reader.{State, acted, first_state, moved, next_move, placed, step}
use Rattle.body_cutter.specs.Refusal.{Reading, Ended, Stopped, reading, ended_refusal, ends_in_section_start, is_opened, is_before_body, is_forbidden, read_answer, refusal_or, stopped_refusal, text_answer}
use Rattle.body_cutter.specs.Utf8.{is_utf8_end, rest_with, utf8_rest}
use Rattle.body_cutter.specs.Ends.{last_bytes}
use Rattle.body_cutter.specs.Feeding.{ReadsPiece, reading_from, start_of, longest_of, refusal_after, refusal_with, end_answer, IsRead, IsRefused, HasCome}
use Rattle.body_cutter.specs.Reading.{cut_of}
use Rattle.body_cutter.proofs.ReadingLemmas.{text_within}
use Rattle.body_cutter.proofs.Stops.{stops}
use Rattle.body_cutter.proofs.CompletionViable.{read_before}
use Rattle.body_cutter.proofs.Utf8Pieces.{utf8_goes, rest_append, utf8_is}
use Rattle.body_cutter.proofs.EndLemmas.{last_append, section_start_same}

abbrev onward : Option State → ℕ → ℕ → State → List ℕ → Reading
onward o at x s text = elim o [ None ↦ Stopped at x s | Some next ↦ reading (at + 1) next text ]

ended_same : {s t : State} → Ended s ≡ Ended t → s ≡ t
ended_same h = cc

never_ended : {P : Type 0} {at b : ℕ} {s t : State} → Stopped at b s ≡ Ended t → P
never_ended h = absurd (cc)

-- what follows is read from where the text led
pub read_more : (front : List ℕ) (at place : ℕ) (s t : State) (more : List ℕ) → at + length front ≡ place → reading at s front ≡ Ended t → reading at s (front ++ more) ≡ reading place t more
unfolding reading
read_more [] at place s t more p h = ap (λ (n : ℕ). reading n s more) (omega (arith, p)) ∙ ap (λ (u : State). reading place u more) (ended_same h)
read_more (x ∷ front) at place s t more p h = by (step s at x) (λ next k. read_more front (at + 1) place next t more (omega (arith, p)) k) h
  where
    by : (o : Option State) → ((next : State) → reading (at + 1) next front ≡ Ended t → reading (at + 1) next (front ++ more) ≡ reading place t more) → onward o at x s front ≡ Ended t → onward o at x s (front ++ more) ≡ reading place t more
    by None ih h = never_ended h
    by (Some next) ih h = ih next h

some_state : {s t : State} → Some s ≡ Some t → s ≡ t
some_state h = cc

none_state : {P : Type 0} {t : State} → None ≡ Some t → P
none_state h = absurd (cc)

placed_wide : (w : Wide) (move : Move) (o : Option State) (next : State) → placed w move o ≡ Some next → w ≡ next.wide
placed_wide w move None next h = none_state h
placed_wide w move (Some s) next h = ap (λ (t : State). t.wide) (some_state h)

-- a step goes on with the character
wide_step : (s : State) (at b : ℕ) (next : State) → step s at b ≡ Some next → wide_next s.wide b ≡ Some next.wide
unfolding step
wide_step s at b next h = by (wide_next s.wide b) (next_move s b) h
  where
    by : (o : Option Wide) (move : Option Move) → moved o move s at b ≡ Some next → o ≡ Some next.wide
    by None move h = none_state h
    by (Some w) None h = none_state h
    by (Some w) (Some move) h = ap Some (placed_wide w move (acted move.act s at b) next h)

-- a text that is read is UTF-8 up to what is left of its last character
pub wide_along : (text : List ℕ) (at : ℕ) (s t : State) → reading at s text ≡ Ended t → utf8_rest s.wide text ≡ Some t.wide
unfolding reading utf8_rest
wide_along [] at s t h = ap (λ (u : State). Some u.wide) (ended_same h)
wide_along (b ∷ text) at s t h = by (step s at b) refl (λ next k. wide_along text (at + 1) next t k) h
  where
    by : (o : Option State) → step s at b ≡ o → ((next : State) → reading (at + 1) next text ≡ Ended t → utf8_rest next.wide text ≡ Some t.wide) → onward o at b s text ≡ Ended t → utf8_rest s.wide (b ∷ text) ≡ Some t.wide
    by None e ih h = never_ended h
    by (Some next) e ih h =
        ap (λ (o : Option Wide). elim o [ None ↦ None | Some w ↦ utf8_rest w text ]) (utf8_goes s.wide b next.wide (wide_step s at b next e)) ∙ ih next h

-- a text that is read with a piece more
pub read_on : (kind : Kind) (text : List ℕ) (s t : State) (tail : List ℕ) (len : ℕ) (piece : List ℕ) → IsRead kind text s tail len → reading len s piece ≡ Ended t → IsRead kind (text ++ piece) t (last_bytes (tail ++ piece)) (len + length piece)
read_on kind text s t tail len piece r h =
    record {
      read = read_more text 0 len (first_state kind (start_of kind)) s piece (omega (arith, r.len_is)) r.read ∙ h;
      tail_is = ap (λ (xs : List ℕ). last_bytes (xs ++ piece)) r.tail_is ∙ last_append text piece;
      len_is = omega (arith, r.len_is, length-append text piece);
    }

-- what is before the byte at which a reading stops is read to its end
pub front_read : (kind : Kind) (text : List ℕ) (at b : ℕ) (t : State) → reading_from kind text ≡ Stopped at b t → reading_from kind (take at text) ≡ Ended t
front_read kind text at b t h =
    let k = stops text 0 (first_state kind (start_of kind)) at b t h in
    let len : length k.0 ≡ at = omega (arith, k.3) in
    let front : take at text ≡ k.0 = ap (λ (n : ℕ). take n text) (sym len) ∙ ap (take (length k.0)) k.2 ∙ take-append_seam k.0 (b ∷ k.1) in
    ap (reading_from kind) front ∙ read_before b t [] k.0 0 at (first_state kind (start_of kind)) k.3 (k.4 [])

front_wide : (kind : Kind) (text : List ℕ) (at b : ℕ) (t : State) → reading_from kind text ≡ Stopped at b t → utf8_rest Whole (take at text) ≡ Some t.wide
unfolding first_state
front_wide kind text at b t h = wide_along (take at text) 0 (first_state kind (start_of kind)) t (front_read kind text at b t h)

same_forbidden : (before other : List ℕ) (s : State) (b : ℕ) → ends_in_section_start before ≡ ends_in_section_start other → is_forbidden before s b ≡ is_forbidden other s b
unfolding is_forbidden
same_forbidden before other s b e = ap (λ (t : Bool). is_some s.reference || ((is_opened s.place && (b == 63 || b == 33)) || t)) e

pub same_refusal : (before other : List ℕ) (at b : ℕ) (s : State) → ends_in_section_start before ≡ ends_in_section_start other → refusal_after before at b s ≡ refusal_after other at b s
same_refusal before other at b s e = ap (λ (t : Bool). if is_before_body s.place then NotBody else if t then Forbidden at else Malformed at) (same_forbidden before other s b e)

pub stopped_is : (text : List ℕ) (at b : ℕ) (s : State) → stopped_refusal text at b s ≡ refusal_after (take at text) at b s
unfolding stopped_refusal
stopped_is text at b s = refl

-- a text that is read up to a byte of the next piece
pub refused_on : (kind : Kind) (text : List ℕ) (s t : State) (tail : List ℕ) (len : ℕ) (piece : List ℕ) (at b k : ℕ) → IsRead kind text s tail len → reading len s piece ≡ Stopped at b t → at ≡ len + k →
    IsRefused kind (text ++ piece) (refusal_after (last_bytes (tail ++ take k piece)) (len + k) b t) (utf8_rest t.wide (drop k piece))
refused_on kind text s t tail len piece at b k r h p =
    let stopped : reading_from kind (text ++ piece) ≡ Stopped at b t = read_more text 0 len (first_state kind (start_of kind)) s piece (omega (arith, r.len_is)) r.read ∙ h in
    let place : at ≡ length text + k = omega (arith, p, r.len_is) in
    let front : take at (text ++ piece) ≡ text ++ take k piece = ap (λ (n : ℕ). take n (text ++ piece)) place ∙ take-append-add text piece k in
    let whole : text ++ piece ≡ take at (text ++ piece) ++ drop k piece =
    ap (λ (xs : List ℕ). text ++ xs) (sym (take-append-drop k piece)) ∙ sym (append_assoc text (take k piece) (drop k piece)) ∙ ap (λ (xs : List ℕ). xs ++ drop k piece) (sym front) in
    let tails : last_bytes (tail ++ take k piece) ≡ last_bytes (take at (text ++ piece)) =
    ap (λ (xs : List ℕ). last_bytes (xs ++ take k piece)) r.tail_is ∙ last_append text (take k piece) ∙ ap last_bytes (sym front) in
    record {
      at = at;
      b = b;
      end = t;
      stopped = stopped;
      refusal_is =
          ap (λ (n : ℕ). refusal_after (last_bytes (tail ++ take k piece)) n b t) (sym p)
          ∙ same_refusal (last_bytes (tail ++ take k piece)) (take at (text ++ piece)) at b t (ap ends_in_section_start tails ∙ section_start_same (take at (text ++ piece)))
          ∙ sym (stopped_is (text ++ piece) at b t);
      rest_is =
          sym (ap (utf8_rest Whole) whole ∙ rest_append (take at (text ++ piece)) Whole (drop k piece) ∙ ap (λ (o : Option Wide). rest_with o (drop k piece)) (front_wide kind (text ++ piece) at b t stopped));
    }

-- a text that is refused stays so
pub refused_more : (kind : Kind) (text : List ℕ) (refusal : CutRefusal) (rest : Option Wide) (piece : List ℕ) → IsRefused kind text refusal rest → IsRefused kind (text ++ piece) refusal (rest_with rest piece)
refused_more kind text refusal rest piece r =
    let k = stops text 0 (first_state kind (start_of kind)) r.at r.b r.end r.stopped in
    let within : r.at ≤ length text = omega (arith, k.3, ap length k.2, length-append k.0 (r.b ∷ k.1)) in
    record {
      at = r.at;
      b = r.b;
      end = r.end;
      stopped = ap (reading_from kind) (ap (λ (xs : List ℕ). xs ++ piece) k.2 ∙ append_assoc k.0 (r.b ∷ k.1) piece) ∙ k.4 (k.1 ++ piece);
      refusal_is =
          r.refusal_is
          ∙ stopped_is text r.at r.b r.end
          ∙ ap (λ (xs : List ℕ). refusal_after xs r.at r.b r.end) (sym (take-append-le r.at text piece within))
          ∙ sym (stopped_is (text ++ piece) r.at r.b r.end);
      rest_is = ap (λ (o : Option Wide). rest_with o piece) r.rest_is ∙ sym (rest_append text Whole piece);
    }

-- what a text gives, by its length and by its UTF-8
pub text_long : (kind : Kind) (place : Place) (longest : ℕ) (u : Bool) (text : List ℕ) → longest < length text → text_answer kind place longest u text ≡ Err TooLong
unfolding text_answer
text_long kind place longest u text over = rw (lt-ltb longest (length text) over) refl

text_garbled : (kind : Kind) (place : Place) (longest : ℕ) (u : Bool) (text : List ℕ) → length text ≤ longest → u ≡ false → text_answer kind place longest u text ≡ Err NotUtf8
unfolding text_answer
text_garbled kind place longest u text within e = rw (le-ltb longest (length text) within, e) refl

pub long_answer : (kind : Kind) (text : List ℕ) (len : ℕ) → len ≡ min (length text) 18446744073709551615 → longest_of kind < len → text_answer kind (start_of kind) (longest_of kind) (is_utf8 text) text ≡ Err TooLong
long_answer kind text len e over = text_long kind (start_of kind) (longest_of kind) (is_utf8 text) text (omega (arith, e, over))

module _ (kind : Kind) (text : List ℕ) (within : length text ≤ longest_of kind) where
  abbrev whole_answer : Result Cut CutRefusal
  whole_answer = text_answer kind (start_of kind) (longest_of kind) (is_utf8 text) text

  by_end : (t : Bool) (answer : Result Cut CutRefusal) → is_utf8 text ≡ t → read_answer text (reading_from kind text) ≡ answer → whole_answer ≡ (if t then answer else Err NotUtf8)
  by_end true answer e h = text_within kind (start_of kind) (longest_of kind) (is_utf8 text) text answer within e h
  by_end false answer e h = text_garbled kind (start_of kind) (longest_of kind) (is_utf8 text) text within e

  read_gives : (s : State) → read_answer text (Ended s) ≡ refusal_or (ended_refusal (length text) s) (cut_of s)
  unfolding read_answer
  read_gives s = refl

  stop_gives : (at b : ℕ) (s : State) → read_answer text (Stopped at b s) ≡ Err (stopped_refusal text at b s)
  unfolding read_answer
  stop_gives at b s = refl

  pub end_gives : (s : State) (tail : List ℕ) (len : ℕ) → IsRead kind text s tail len → whole_answer ≡ end_answer len s
  unfolding first_state
  end_gives s tail len r =
      by_end (is_whole s.wide) (refusal_or (ended_refusal len s) (cut_of s))
      (utf8_is text ∙ ap is_utf8_end (wide_along text 0 (first_state kind (start_of kind)) s r.read))
      (ap (read_answer text) r.read ∙ read_gives s ∙ ap (λ (n : ℕ). refusal_or (ended_refusal n s) (cut_of s)) (sym r.len_is))

  chosen : (t : Bool) (refusal : CutRefusal) → let r : Result Cut CutRefusal = Err (if t then refusal else NotUtf8) in (if t then Err refusal else Err NotUtf8) ≡ r
  chosen true refusal = refl
  chosen false refusal = refl

  pub refusal_gives : (refusal : CutRefusal) (rest : Option Wide) → IsRefused kind text refusal rest → whole_answer ≡ Err (refusal_with refusal rest)
  refusal_gives refusal rest r =
      by_end (is_utf8_end rest) (Err refusal) (utf8_is text ∙ ap is_utf8_end (sym r.rest_is)) (ap (read_answer text) r.stopped ∙ stop_gives r.at r.b r.end ∙ ap Err (sym r.refusal_is))
      ∙ chosen (is_utf8_end rest) refusal

-- what has come, by how far it was read
pub come_alive : (kind : Kind) (text : List ℕ) (progress : Progress) (s : State) (tail : List ℕ) (len : ℕ) → progress ≡ Alive → HasCome kind text progress s tail len → IsRead kind text s tail len
come_alive kind text progress s tail len e h = subst (λ (p : Progress). HasCome kind text p s tail len) e h

pub alive_come : (kind : Kind) (text : List ℕ) (progress : Progress) (s : State) (tail : List ℕ) (len : ℕ) → progress ≡ Alive → IsRead kind text s tail len → HasCome kind text progress s tail len
alive_come kind text progress s tail len e h = subst (λ (p : Progress). HasCome kind text p s tail len) (sym e) h

pub come_refused : (kind : Kind) (text : List ℕ) (progress : Progress) (s : State) (tail : List ℕ) (len : ℕ) (refusal : CutRefusal) (rest : Option Wide) → progress ≡ Refused refusal rest → HasCome kind text progress s tail len → IsRefused kind text refusal rest
come_refused kind text progress s tail len refusal rest e h = subst (λ (p : Progress). HasCome kind text p s tail len) e h

-- nothing has come
pub read_none : (kind : Kind) (s : State) (tail : List ℕ) → s ≡ first_state kind (start_of kind) → tail ≡ [] → IsRead kind [] s tail 0
unfolding reading
read_none kind s tail e f = record { read = ap Ended (sym e); tail_is = f; len_is = refl }

longest_small : (kind : Kind) → longest_of kind ≤ 1048576
longest_small kinds.Body = omega arith
longest_small kinds.Stanza = omega arith

-- a count that isn't above the limit is that of the text
pub within_longest : (kind : Kind) (text : List ℕ) (len : ℕ) → len ≡ min (length text) 18446744073709551615 → len ≤ longest_of kind → length text ≤ longest_of kind
within_longest kind text len e within = omega (arith, e, within, longest_small kind)

-- a piece that is read to its end, and one that is read up to a byte
pub piece_read : (kind : Kind) (text : List ℕ) (s new : State) (tail : List ℕ) (len : ℕ) (piece : List ℕ) (r : Reading) → IsRead kind text s tail len → reading len s piece ≡ r → ReadsPiece r len piece None new →
    IsRead kind (text ++ piece) new (last_bytes (tail ++ piece)) (len + length piece)
piece_read kind text s new tail len piece (Ended t) read e h = read_on kind text s new tail len piece read (e ∙ ap Ended (sym h))
piece_read kind text s new tail len piece (Stopped at b t) read e h = absurd h

pub piece_refused : (kind : Kind) (text : List ℕ) (s new : State) (tail : List ℕ) (len : ℕ) (piece : List ℕ) (at b : ℕ) (r : Reading) → IsRead kind text s tail len → reading len s piece ≡ r → ReadsPiece r len piece (Some (at, b)) new →
    IsRefused kind (text ++ piece) (refusal_after (last_bytes (tail ++ take at piece)) (len + at) b new) (utf8_rest new.wide (drop at piece))
piece_refused kind text s new tail len piece at b (Ended t) read e h = absurd h
piece_refused kind text s new tail len piece at b (Stopped place c t) read e h =
    refused_on kind text s new tail len piece place b at read (e ∙ ap (λ (x : ℕ). Stopped place x t) h.1 ∙ ap (Stopped place b) (sym h.3)) h.0
