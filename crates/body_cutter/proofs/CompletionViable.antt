-- Viable prefixes, and the places of refusals.
use Rattle.std.proofs.Common.{◌≡◌, ◌∙◌, ◌+◌, ◌<◌, ◌≤◌, ℕ, true, List, [], ◌∷◌, ◌++◌, length, take, drop, refl, sym, ap, subst, arith, append_assoc, append-nil}
use Rattle.std.specs.Prelude.{◌↔◌, Option, None, Some}
use Rattle.std.proofs.Math.Seq.{take-append_seam}
use Rattle.std.proofs.lemmas.List.{take-append-drop, take-take, length-append}
use Rattle.body_cutter.specs.declared.place.Place.TheVariants.{Start, StanzaStart}
use Rattle.body_cutter.specs.declared.place.Wide.TheVariants.{Whole}
use Rattle.body_cutter.specs.declared.place.Kind.TheVariants as kinds
use Rattle.body_cutter.specs.Chars.{ends_whole}
use Rattle.body_cutter.specs.Reader.{State, step, first_state}
use Rattle.body_cutter.specs.Refusal.{Reading, Ended, Stopped, reading, is_accepted}
use Rattle.body_cutter.specs.BodyText.{IsBodyText, IsElementText}
use Rattle.body_cutter.specs.Completion.{completion}
use Rattle.body_cutter.specs.Viable.{IsViable, IsLongestViable, has_state}
use Rattle.body_cutter.proofs.Stops.{stops, never_on}
use Rattle.body_cutter.proofs.Leads.{ctl, both}
use Rattle.body_cutter.proofs.Readings.{body_is_read, stanza_is_read}
use Rattle.body_cutter.proofs.Product.{splits}
use Rattle.body_cutter.proofs.Sound as sound
use Rattle.body_cutter.proofs.Utf8Allowed.{whole_is_utf8}
use Rattle.body_cutter.proofs.CompletionRuns.{completed, body_stands, stanza_stands}

-- what the reader accepts is in the grammar
pub body_accepted : (text : List ℕ) → is_accepted (reading 0 (first_state kinds.Body Start) text) ≡ true → IsBodyText text
unfolding first_state
body_accepted text h =
    let x = both (ends_whole Whole text) _ (sym (splits text 0 (first_state kinds.Body Start)) ∙ h) in
    ((whole_is_utf8 text x.0, x.0), sound.completes kinds.Body text (ctl Start [] [] []) x.1 refl refl)

pub stanza_accepted : (text : List ℕ) → is_accepted (reading 0 (first_state kinds.Stanza StanzaStart) text) ≡ true → IsElementText text
unfolding first_state
stanza_accepted text h =
    let x = both (ends_whole Whole text) _ (sym (splits text 0 (first_state kinds.Stanza StanzaStart)) ∙ h) in
    ((whole_is_utf8 text x.0, x.0), sound.completes kinds.Stanza text (ctl StanzaStart [] [] []) x.1 refl)

-- what completes the state completes the text
pub body_completed : (front : List ℕ) (s : State) → reading 0 (first_state kinds.Body Start) front ≡ Ended s → IsBodyText (front ++ completion s)
body_completed front s h = body_accepted (front ++ completion s) (completed kinds.Body (first_state kinds.Body Start) s front body_stands h)

pub stanza_completed : (front : List ℕ) (s : State) → reading 0 (first_state kinds.Stanza StanzaStart) front ≡ Ended s → IsElementText (front ++ completion s)
stanza_completed front s h = stanza_accepted (front ++ completion s) (completed kinds.Stanza (first_state kinds.Stanza StanzaStart) s front stanza_stands h)

-- where a reading stops, it has read all before that place
module _ (b : ℕ) (end : State) (more : List ℕ) where
  stopped_at : {at b x : ℕ} {s t : State} {place : ℕ} → Stopped at x s ≡ Stopped place b t → (at ≡ place) × (s ≡ t)
  stopped_at h = (cc, cc)

  here : (at place : ℕ) (s : State) (o : Option State) → at ≡ place → elim o [ None ↦ Stopped at b s | Some next ↦ reading (at + 1) next more ] ≡ Stopped place b end → Ended s ≡ Ended end
  here at place s None p h = ap Ended (stopped_at h).1
  here at place s (Some next) p h = let k = stops more (at + 1) next place b end h in absurd (omega (arith, k.3, p))

  later : (x : ℕ) (front : List ℕ) (at place : ℕ) (s : State) (o : Option State) → at + length (x ∷ front) ≡ place →
      ((next : State) → reading (at + 1) next (front ++ b ∷ more) ≡ Stopped place b end → reading (at + 1) next front ≡ Ended end) →
      elim o [ None ↦ Stopped at x s | Some next ↦ reading (at + 1) next (front ++ b ∷ more) ] ≡ Stopped place b end →
      elim o [ None ↦ Stopped at x s | Some next ↦ reading (at + 1) next front ] ≡ Ended end
  later x front at place s None p ih h = absurd (omega (arith, (stopped_at h).0, p))
  later x front at place s (Some next) p ih h = ih next h

  pub read_before : (front : List ℕ) (at place : ℕ) (s : State) → at + length front ≡ place → reading at s (front ++ b ∷ more) ≡ Stopped place b end → reading at s front ≡ Ended end
  unfolding reading
  read_before [] at place s p h = here at place s (step s at b) (omega (arith, p)) h
  read_before (x ∷ front) at place s p h = later x front at place s (step s at x) p (λ next k. read_before front (at + 1) place next (omega (arith, p)) k) h

take_all : (xs : List ℕ) → take (length xs) xs ≡ xs
take_all xs = ap (take (length xs)) (sym (append-nil xs)) ∙ take-append_seam xs []

-- a longer front of a text is the shorter one and more
longer_front : (n k : ℕ) (text : List ℕ) → k < n → n ≤ length text → (rest : List ℕ) × (take n text ≡ take (k + 1) text ++ rest)
longer_front n k text below within = (drop (k + 1) (take n text), sym (take-append-drop (k + 1) (take n text)) ∙ ap (λ (xs : List ℕ). xs ++ drop (k + 1) (take n text)) (take-take (k + 1) n text (omega (arith, below))))

-- for the texts P that the reader takes from a start
module _ (P : List ℕ → Type 0) (start : State) (takes : (text : List ℕ) → P text → is_accepted (reading 0 start text) ≡ true) (completes : (front : List ℕ) (s : State) → reading 0 start front ≡ Ended s → P (front ++ completion s)) where
  state_by : (front : List ℕ) (r : Reading) → reading 0 start front ≡ r → has_state r ≡ true → IsViable P front
  state_by front (Ended s) e h = (completion s, completes front s e)
  state_by front (Stopped at b s) e h = absurd (cc)

  never_stops : (front more : List ℕ) (r : Reading) → reading 0 start front ≡ r → P (front ++ more) → has_state r ≡ true
  never_stops front more (Ended s) e p = refl
  never_stops front more (Stopped at b s) e p =
      let same : take (at + 1) front ++ (drop (at + 1) front ++ more) ≡ front ++ more = sym (append_assoc (take (at + 1) front) (drop (at + 1) front) more) ∙ ap (λ (xs : List ℕ). xs ++ more) (take-append-drop (at + 1) front) in
      absurd (never_on front start at b s e (drop (at + 1) front ++ more) (ap (λ (xs : List ℕ). is_accepted (reading 0 start xs)) same ∙ takes (front ++ more) p))

  -- a prefix is viable exactly where the reader has a state after it
  pub viable_is : (front : List ℕ) → IsViable P front ↔ (has_state (reading 0 start front) ≡ true)
  viable_is front = (λ v. never_stops front v.0 (reading 0 start front) refl v.1, λ h. state_by front (reading 0 start front) refl h)

  -- where the reader stops, the longest viable prefix ends
  pub stopped_longest : (text : List ℕ) (at b : ℕ) (s : State) → reading 0 start text ≡ Stopped at b s → IsLongestViable P at text
  stopped_longest text at b s h =
      let k = stops text 0 start at b s h in
      let len : length k.0 ≡ at = omega (arith, k.3) in
      let front : take at text ≡ k.0 = ap (λ (n : ℕ). take n text) (sym len) ∙ ap (take (length k.0)) k.2 ∙ take-append_seam k.0 (b ∷ k.1) in
      record {
        within = omega (arith, len, ap length k.2, length-append k.0 (b ∷ k.1));
        viable = subst (λ (xs : List ℕ). IsViable P xs) (sym front) (completion s, completes k.0 s (read_before b s [] k.0 0 at start k.3 (k.4 [])));
        longest = λ n below within v.
            let f = longer_front n at text below within in
            never_on text start at b s h (f.0 ++ v.0) (ap (λ (xs : List ℕ). is_accepted (reading 0 start xs)) (sym (append_assoc (take (at + 1) text) f.0 v.0) ∙ ap (λ (xs : List ℕ). xs ++ v.0) (sym f.1)) ∙ takes (take n text ++ v.0) v.1);
      }

  -- a text that is read to its end is its own longest viable prefix
  pub ended_longest : (text : List ℕ) (s : State) → reading 0 start text ≡ Ended s → IsLongestViable P (length text) text
  ended_longest text s h =
      record {
        within = omega arith;
        viable = subst (λ (xs : List ℕ). IsViable P xs) (sym (take_all text)) (completion s, completes text s h);
        longest = λ n below within v. absurd (omega (arith, below, within));
      }

-- for a body, and for a stanza
pub body_viable : (front : List ℕ) → IsViable IsBodyText front ↔ (has_state (reading 0 (first_state kinds.Body Start) front) ≡ true)
body_viable = viable_is IsBodyText (first_state kinds.Body Start) body_is_read body_completed

pub stanza_viable : (front : List ℕ) → IsViable IsElementText front ↔ (has_state (reading 0 (first_state kinds.Stanza StanzaStart) front) ≡ true)
stanza_viable = viable_is IsElementText (first_state kinds.Stanza StanzaStart) stanza_is_read stanza_completed
