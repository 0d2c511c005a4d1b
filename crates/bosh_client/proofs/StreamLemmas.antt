-- The streams of a client after one more item, and when it is to end.
use Rattle.std.proofs.Common.{◌≡◌, ℕ, ◌<◌, Bool, true, false, ◌||◌, List, [], ◌∷◌, ◌++◌, length, refl, ◌∙◌, ap, arith}
use Rattle.std.specs.Prelude.{◌==◌, nat_lt, if◌then◌else◌}
use Rattle.std.specs.List.{list_any}
use Rattle.std.proofs.lemmas.Bool.Decides.{nat_tests}
use Rattle.std.proofs.lemmas.List.Elements.{All-cons, All-nil}
use Rattle.std.proofs.lemmas.List.Folds.{list_any-append}
use Rattle.bosh_types.specs.Limits.{most_streams}
use Rattle.stream_names.specs.PlainStreams.{AreSound, PlainStreams, after_open, begun, with_closed, with_next}
use Rattle.stream_names.specs.Streams.{is_among}
use Rattle.stream_names.proofs.Numbers.{among, among_all, sound_next, sound_without}
use Rattle.bosh_client.specs.declared.outgoing.Outgoing.{Outgoing}
use Rattle.bosh_client.specs.declared.outgoing.Outgoing.TheVariants.{Stanza, Restart, Pause, Add, Close, Terminate}
use Rattle.bosh_client.specs.Machine.{has_stream, is_over}
use Rattle.bosh_client.specs.Outgoing.{is_terminate, streams_after, streams_with}
use Rattle.bosh_client.specs.PlainClient.{PlainClient, has_ended, is_closing, streams}

-- The streams.

pub streams-append : (s : PlainStreams) (items : List Outgoing) (item : Outgoing) → streams_after s (items ++ item ∷ []) ≡ streams_with (streams_after s items) item
streams-append s [] item = refl
streams-append s (x ∷ xs) item = streams-append (streams_with s x) xs item

sound_open : (s : PlainStreams) → AreSound s → AreSound (after_open s)
sound_open s sound = by (nat_lt s.opened most_streams) refl
  where
    by : (b : Bool) → nat_lt s.opened most_streams ≡ b → AreSound (if b then with_next s else s)
    by true is = sound_next s sound (grind (arith, nat_tests, is))
    by false is = sound

sound_with : (s : PlainStreams) (item : Outgoing) → AreSound s → AreSound (streams_with s item)
sound_with s (Stanza on bytes) sound = sound
sound_with s Restart sound = sound
sound_with s (Pause seconds) sound = sound
sound_with s (Add to) sound = sound_open s sound
sound_with s (Close stream) sound = sound_without s stream sound
sound_with s Terminate sound = sound

sound_after : (s : PlainStreams) (items : List Outgoing) → AreSound s → AreSound (streams_after s items)
sound_after s [] sound = sound
sound_after s (x ∷ xs) sound = sound_after (streams_with s x) xs (sound_with s x sound)

sound_begun : AreSound begun
sound_begun = record {
  some = omega arith;
  few = omega arith;
  opened_once = All-cons (λ (stream : ℕ). stream < 1) 0 [] (omega arith) (All-nil (λ (stream : ℕ). stream < 1));
}

pub streams_sound : (c : PlainClient) → AreSound (streams c)
streams_sound c = sound_after begun c.accepted sound_begun

-- a stream that the client has is one of eight
pub stream_small : (c : PlainClient) (stream : ℕ) → has_stream c stream ≡ true → stream < most_streams
stream_small c stream has =
    let sound = streams_sound c in
    let lower : stream < (streams c).opened = among_all (λ (n : ℕ). n < (streams c).opened) (streams c).running stream sound.opened_once has in
    omega (arith, lower, sound.few)

-- Whether the client is to end.

either : (a b : Bool) → (a || b) ≡ false → (a ≡ false) × (b ≡ false)
either true b is = absurd (cc)
either false b is = (refl, is)

or_false : (b : Bool) → (b || false) ≡ b
or_false true = refl
or_false false = refl

or_true : (b : Bool) → (b || true) ≡ true
or_true true = refl
or_true false = refl

abbrev with_item : PlainClient → Outgoing → PlainClient
with_item c item = record c { accepted = c.accepted ++ item ∷ [] }

closing_with : (c : PlainClient) (item : Outgoing) → is_closing (with_item c item) ≡ ((list_any is_terminate c.accepted || is_terminate item) || (length (streams_with (streams c) item).running == 0))
closing_with c item =
    ap (λ b. b || (length (streams (with_item c item)).running == 0))
    (list_any-append is_terminate c.accepted (item ∷ []) ∙ ap (λ b. list_any is_terminate c.accepted || b) (or_false (is_terminate item)))
    ∙ ap (λ (s : PlainStreams). (list_any is_terminate c.accepted || is_terminate item) || (length s.running == 0)) (streams-append begun c.accepted item)

-- what neither ends the session nor changes its streams
pub closing_stays : (c : PlainClient) (item : Outgoing) → is_terminate item ≡ false → streams_with (streams c) item ≡ streams c → is_closing (with_item c item) ≡ is_closing c
closing_stays c item stays same =
    closing_with c item
    ∙ ap (λ (s : PlainStreams). (list_any is_terminate c.accepted || is_terminate item) || (length s.running == 0)) same
    ∙ ap (λ b. b || (length (streams c).running == 0)) (ap (λ b. list_any is_terminate c.accepted || b) stays ∙ or_false (list_any is_terminate c.accepted))

pub closing_terminate : (c : PlainClient) → is_closing (with_item c Terminate) ≡ true
closing_terminate c = closing_with c Terminate ∙ ap (λ b. b || (length (streams c).running == 0)) (or_true (list_any is_terminate c.accepted))

-- of a client that isn't over no stream is the last but an open one
pub goes_on_open : (c : PlainClient) → is_over c ≡ false → is_closing c ≡ false
goes_on_open c on = (either (has_ended c) (is_closing c) on).1

no_terminate : (c : PlainClient) → is_over c ≡ false → list_any is_terminate c.accepted ≡ false
no_terminate c on = (either (list_any is_terminate c.accepted) (length (streams c).running == 0) (goes_on_open c on)).0

pub closing_close : (c : PlainClient) (stream : ℕ) → is_over c ≡ false → is_closing (with_item c (Close stream)) ≡ (length (with_closed (streams c) stream).running == 0)
closing_close c stream on =
    closing_with c (Close stream) ∙ ap (λ b. (b || false) || (length (with_closed (streams c) stream).running == 0)) (no_terminate c on)

not_empty : (xs : List ℕ) (n : ℕ) → is_among xs n ≡ true → (length xs == 0) ≡ false
not_empty [] n is = absurd (cc)
not_empty (x ∷ xs) n is = grind (arith, nat_tests)

open_some : (s : PlainStreams) → nat_lt s.opened most_streams ≡ true → (length (after_open s).running == 0) ≡ false
open_some s room =
    let small : s.opened < most_streams = grind (arith, nat_tests, room) in
    let same : (s.opened == s.opened) ≡ true = grind (arith, nat_tests) in
    let has : is_among (with_next s).running s.opened ≡ true =
    among (λ other. is_among s.running other || (other == s.opened)) s.opened small ∙ ap (λ b. is_among s.running s.opened || b) same ∙ or_true (is_among s.running s.opened) in
    ap (λ b. length (if b then with_next s else s).running == 0) room ∙ not_empty (with_next s).running s.opened has

pub closing_add : (c : PlainClient) (to : List ℕ) → is_over c ≡ false → nat_lt (streams c).opened most_streams ≡ true → is_closing (with_item c (Add to)) ≡ false
closing_add c to on room =
    closing_with c (Add to) ∙ ap (λ b. (b || false) || (length (after_open (streams c)).running == 0)) (no_terminate c on) ∙ open_some (streams c) room
