-- What is read as an entry is written as its content.
use Rattle.std.proofs.Common.{◌≡◌, ◌⊎◌, inl, inr, ⊎_elim, ℕ, zero, suc, ◌+◌, ◌<◌, ◌≤◌, ◌^◌, ◌==◌, Bool, true, false, List, [], ◌∷◌, ◌++◌, Option, Some, None, if◌then◌else◌, length, take, drop, get_or, refl, sym, ◌∙◌, ap, subst, arith, append_assoc, length-append, take-append-drop}
use Rattle.std.specs.Prelude.{nat_lt}
use Rattle.std.specs.Int.{from_be_bytes, w16, w32, w64}
use Rattle.std.specs.List.{AllByRecursion}
use Rattle.std.proofs.lemmas.Bool.{ltb-false, ltb-true}
use Rattle.std.proofs.lemmas.Bool.Decides.{nat_tests}
use Rattle.std.proofs.lemmas.List.{append-nil, length-take-le}
use Rattle.std.proofs.lemmas.Nat.{be_bytes_2, be_bytes_4, be_bytes_8}
use Rattle.bosh_types.specs.declared.ending.Closing.{Closing}
use Rattle.bosh_types.specs.declared.ending.Closing.TheVariants as closings
use Rattle.bosh_types.specs.Limits.{most_streams}
use Rattle.session_journal.specs.declared.entry.Entered.{Entered}
use Rattle.session_journal.specs.declared.entry.Entered.TheVariants as stored
use Rattle.session_journal.specs.declared.entry.Limited.{Limited}
use Rattle.session_journal.specs.declared.entry.Limited.TheVariants as limits
use Rattle.journal_store.specs.Contents.{number2, number8, all_framed, texts_bytes, closing_byte, limited_kind, rules_version, kind_of, moment_of, fields_of, content_of, HasLengths, HasRanges, HasContent}
use Rattle.journal_store.specs.declared.reading.SessionEntry.{SessionEntry}
use Rattle.journal_store.specs.declared.reading.Kind.{Kind}
use Rattle.journal_store.specs.declared.reading.Kind.TheVariants as kinds
use Rattle.journal_store.specs.Found.{IsBytes, Takes}
use Rattle.journal_store.specs.Reading.{◌>>=◌, byte_at, number2_at, number4_at, number8_at, text_at, texts_at, greeting_at, whole, stream_in, closing_in, limited_in, kind_in, without_moment, open_at, arrive_at, collect_at, back_at, back_closed_at, limit_at, call_at, entry_at}
use Rattle.journal_store.specs.Records.{HasLength, number4, framed}

take_bytes : (n : ℕ) (bytes : List ℕ) → IsBytes bytes → IsBytes (take n bytes)
take_bytes zero bytes fits i = omega arith
take_bytes (suc n) [] fits i = omega arith
take_bytes (suc n) (b ∷ bytes) fits zero = fits 0
take_bytes (suc n) (b ∷ bytes) fits (suc i) = take_bytes n bytes (λ j. fits (suc j)) i

drop_bytes : (n : ℕ) (bytes : List ℕ) → IsBytes bytes → IsBytes (drop n bytes)
drop_bytes zero bytes fits i = fits i
drop_bytes (suc n) [] fits i = omega arith
drop_bytes (suc n) (b ∷ bytes) fits i = drop_bytes n bytes (λ j. fits (suc j)) i

same_some : {A : Type 0} (a b : A) → Some a ≡ Some b → a ≡ b
same_some a b is = cc

none_some : {A : Type 0} (b : A) → None ≡ Some b → ⊥
none_some b is = cc

bind_some : {A B : Type 0} (o : Option A) (f : A → Option B) (y : B) → (o >>= f) ≡ Some y → (a : A) × (o ≡ Some a) × (f a ≡ Some y)
bind_some None f y is = absurd (none_some y is)
bind_some (Some a) f y is = (a, refl, is)

abbrev unless : {X : Type 0} → Bool → X → Option X
unless t x = if t then None else Some x

unless_some : {X : Type 0} (t : Bool) (x y : X) → unless t x ≡ Some y → (t ≡ false) × (x ≡ y)
unless_some true x y is = absurd (none_some y is)
unless_some false x y is = (refl, same_some x y is)

if_some : {X : Type 0} (t : Bool) (o : Option X) (y : X) → (if t then o else None) ≡ Some y → (t ≡ true) × (o ≡ Some y)
if_some true o y is = (refl, is)
if_some false o y is = absurd (none_some y is)

found_by : (count : ℕ) (bytes : List ℕ) (value : List ℕ → ℕ) (p : ℕ × List ℕ) → unless {X = ℕ × List ℕ} (nat_lt (length bytes) count) (value (take count bytes), drop count bytes) ≡ Some p
    → (count ≤ length bytes) × (p.0 ≡ value (take count bytes)) × (p.1 ≡ drop count bytes)
found_by count bytes value p is =
    let pair : ℕ × List ℕ = (value (take count bytes), drop count bytes) in
    let found = unless_some (nat_lt (length bytes) count) pair p is in
    (ltb-false (length bytes) count found.0, ap (λ (q : ℕ × List ℕ). q.0) (sym found.1), ap (λ (q : ℕ × List ℕ). q.1) (sym found.1))

takes_front : (count : ℕ) (bytes front rest : List ℕ) → IsBytes bytes → front ≡ take count bytes → rest ≡ drop count bytes → Takes bytes front rest
takes_front count bytes front rest fits is is' = record {
  split = sym (take-append-drop count bytes) ∙ (λ i. sym is i ++ sym is' i);
  behind = subst IsBytes (sym is') (drop_bytes count bytes fits);
}

number4_found : (bytes : List ℕ) (p : ℕ × List ℕ) → IsBytes bytes → number4_at bytes ≡ Some p → Takes bytes (number4 p.0) p.1 × (p.0 < 2 ^ 32)
unfolding number4
number4_found bytes p fits is =
    let found = found_by 4 bytes (λ l. from_be_bytes w32 l) p is in
    let front : IsBytes (take 4 bytes) = take_bytes 4 bytes fits in (
      takes_front 4 bytes (number4 p.0) p.1 fits (be_bytes_4 (take 4 bytes) p.0 (length-take-le 4 bytes found.0) front found.1) found.2,
      omega (arith, found.1, front 0, front 1, front 2, front 3),
    )

number2_found : (bytes : List ℕ) (p : ℕ × List ℕ) → IsBytes bytes → number2_at bytes ≡ Some p → Takes bytes (number2 p.0) p.1 × (p.0 < 2 ^ 16)
unfolding number2
number2_found bytes p fits is =
    let found = found_by 2 bytes (λ l. from_be_bytes w16 l) p is in
    let front : IsBytes (take 2 bytes) = take_bytes 2 bytes fits in (
      takes_front 2 bytes (number2 p.0) p.1 fits (be_bytes_2 (take 2 bytes) p.0 (length-take-le 2 bytes found.0) front found.1) found.2,
      omega (arith, found.1, front 0, front 1),
    )

number8_found : (bytes : List ℕ) (p : ℕ × List ℕ) → IsBytes bytes → number8_at bytes ≡ Some p → Takes bytes (number8 p.0) p.1 × (p.0 < 2 ^ 64)
unfolding number8
number8_found bytes p fits is =
    let found = found_by 8 bytes (λ l. from_be_bytes w64 l) p is in
    let front : IsBytes (take 8 bytes) = take_bytes 8 bytes fits in (
      takes_front 8 bytes (number8 p.0) p.1 fits (be_bytes_8 (take 8 bytes) p.0 (length-take-le 8 bytes found.0) front found.1) found.2,
      omega (arith, found.1, front 0, front 1, front 2, front 3, front 4, front 5, front 6, front 7),
    )

pub text_found : (bytes : List ℕ) (p : List ℕ × List ℕ) → IsBytes bytes → text_at bytes ≡ Some p → Takes bytes (framed p.0) p.1 × HasLength p.0
unfolding text_at
text_found bytes p fits is =
    let cut : ℕ × List ℕ → Option (List ℕ × List ℕ) = λ n. unless {X = List ℕ × List ℕ} (nat_lt (length n.1) n.0) (take n.0 n.1, drop n.0 n.1) in
    let head = bind_some (number4_at bytes) cut p is in
    let number = number4_found bytes head.0 fits head.1 in
    let pair : List ℕ × List ℕ = (take head.0.0 head.0.1, drop head.0.0 head.0.1) in
    let body = unless_some (nat_lt (length head.0.1) head.0.0) pair p head.2 in
    let room : head.0.0 ≤ length head.0.1 = ltb-false (length head.0.1) head.0.0 body.0 in
    let text : p.0 ≡ take head.0.0 head.0.1 = ap (λ (q : List ℕ × List ℕ). q.0) (sym body.1) in
    let rest : p.1 ≡ drop head.0.0 head.0.1 = ap (λ (q : List ℕ × List ℕ). q.1) (sym body.1) in
    let size : length p.0 ≡ head.0.0 = ap length text ∙ length-take-le head.0.0 head.0.1 room in
    let behind = takes_front head.0.0 head.0.1 p.0 p.1 number.0.behind text rest in (
      record {
        split =
            number.0.split ∙ ap (λ (l : List ℕ). number4 head.0.0 ++ l) behind.split ∙ sym (append_assoc (number4 head.0.0) p.0 p.1)
            ∙ ap (λ (n : ℕ). number4 n ++ p.0 ++ p.1) (sym size);
        behind = behind.behind;
      },
      omega (arith, size, number.1),
    )

abbrev onto : List ℕ → List (List ℕ) × List ℕ → Option (List (List ℕ) × List ℕ)
onto text texts = Some (text ∷ texts.0, texts.1)

texts_found : (count : ℕ) (bytes : List ℕ) (p : List (List ℕ) × List ℕ) → IsBytes bytes → texts_at count bytes ≡ Some p → Takes bytes (all_framed p.0) p.1 × (length p.0 ≡ count) × AllByRecursion HasLength p.0
unfolding texts_at
texts_found zero bytes p fits is =
    let same : ([], bytes) ≡ p = same_some ([], bytes) p is in
    subst (λ (q : List (List ℕ) × List ℕ). Takes bytes (all_framed q.0) q.1 × (length q.0 ≡ 0) × AllByRecursion HasLength q.0) same (record { split = refl; behind = fits }, refl, tt)
texts_found (suc count) bytes p fits is =
    let first = bind_some (text_at bytes) (λ (t : List ℕ × List ℕ). texts_at count t.1 >>= onto t.0) p is in
    let text = text_found bytes first.0 fits first.1 in
    let others = bind_some (texts_at count first.0.1) (onto first.0.0) p first.2 in
    let texts = texts_found count first.0.1 others.0 text.0.behind others.1 in
    let same = same_some (first.0.0 ∷ others.0.0, others.0.1) p others.2 in
    subst (λ (q : List (List ℕ) × List ℕ). Takes bytes (all_framed q.0) q.1 × (length q.0 ≡ suc count) × AllByRecursion HasLength q.0) same (
      record {
        split = text.0.split ∙ ap (λ (l : List ℕ). framed first.0.0 ++ l) texts.0.split ∙ sym (append_assoc (framed first.0.0) (all_framed others.0.0) others.0.1);
        behind = texts.0.behind;
      },
      ap suc texts.1,
      (text.1, texts.2),
    )

greeting_found : (bytes : List ℕ) (p : List (List ℕ) × List ℕ) → IsBytes bytes → greeting_at bytes ≡ Some p → Takes bytes (texts_bytes p.0) p.1 × (length p.0 < 2 ^ 32) × AllByRecursion HasLength p.0
unfolding greeting_at texts_bytes
greeting_found bytes p fits is =
    let head = bind_some (number4_at bytes) (λ (n : ℕ × List ℕ). texts_at n.0 n.1) p is in
    let number = number4_found bytes head.0 fits head.1 in
    let texts = texts_found head.0.0 head.0.1 p number.0.behind head.2 in (
      record {
        split =
            number.0.split ∙ ap (λ (l : List ℕ). number4 head.0.0 ++ l) texts.0.split ∙ sym (append_assoc (number4 head.0.0) (all_framed p.0) p.1)
            ∙ ap (λ (n : ℕ). number4 n ++ all_framed p.0 ++ p.1) (sym texts.1);
        behind = texts.0.behind;
      },
      omega (arith, texts.1, number.1),
      texts.2,
    )

-- where no byte is left the rest is empty
whole_found : {X : Type 0} (x y : X) (rest : List ℕ) → whole x rest ≡ Some y → (rest ≡ []) × (x ≡ y)
whole_found x y rest is =
    let found = if_some (length rest == 0) (Some x) y is in
    let none : length rest ≡ 0 = grind (arith, nat_tests) in
    (empty rest none, same_some x y found.1)
  where
    empty : (l : List ℕ) → length l ≡ 0 → l ≡ []
    empty [] none = refl
    empty (b ∷ l) none = absurd (omega arith)

-- the last field ends the bytes
ends_at : (bytes front rest : List ℕ) → Takes bytes front rest → rest ≡ [] → bytes ≡ front
ends_at bytes front rest takes none = takes.split ∙ ap (λ (l : List ℕ). front ++ l) none ∙ append-nil front

chosen : {X : Type 0} (t : Bool) (x y : X) (o : Option X) → (if t then Some x else o) ≡ Some y → ((t ≡ true) × (x ≡ y)) ⊎ (o ≡ Some y)
chosen true x y o is = inl (refl, same_some x y is)
chosen false x y o is = inr is

is_number : (byte n : ℕ) → (byte == n) ≡ true → byte ≡ n
is_number byte n yet = grind (arith, nat_tests)

by_choice : {X : Type 0} (spell : X → ℕ) (byte n : ℕ) (x y : X) (o : Option X) → spell x ≡ n → (o ≡ Some y → byte ≡ spell y) → (if byte == n then Some x else o) ≡ Some y → byte ≡ spell y
by_choice spell byte n x y o here others is =
    ⊎_elim (λ this. is_number byte n this.0 ∙ sym here ∙ ap spell this.1) others (chosen (byte == n) x y o is)

closing_found : (byte : ℕ) (closing : Closing) → closing_in byte ≡ Some closing → byte ≡ closing_byte closing
closing_found byte closing is =
    by_choice closing_byte byte 0 closings.Plain closing _ refl
    (by_choice closing_byte byte 1 closings.RemoteConnectionFailed closing _ refl
    (by_choice closing_byte byte 2 closings.RemoteStreamError closing _ refl
    (by_choice closing_byte byte 3 closings.SystemShutdown closing None refl (λ never. absurd (none_some closing never))))) is

limited_found : (byte : ℕ) (kind : Limited) → limited_in byte ≡ Some kind → byte ≡ limited_kind kind
limited_found byte kind is =
    by_choice limited_kind byte 1 limits.Arrival kind _ refl
    (by_choice limited_kind byte 3 limits.ServerStanza kind _ refl
    (by_choice limited_kind byte 4 limits.ServerClosing kind _ refl
    (by_choice limited_kind byte 5 limits.Time kind None refl (λ never. absurd (none_some kind never))))) is

-- the number of a kind
abbrev pub number_of_kind : Kind → ℕ
number_of_kind kinds.Open = 8
number_of_kind kinds.Arrive = 1
number_of_kind kinds.Collect = 2
number_of_kind kinds.Back = 3
number_of_kind kinds.BackClosed = 4
number_of_kind kinds.Tick = 5
number_of_kind kinds.TakeInward = 6
number_of_kind kinds.Limit = 7

kind_found : (byte : ℕ) (kind : Kind) → kind_in byte ≡ Some kind → byte ≡ number_of_kind kind
kind_found byte kind is =
    by_choice number_of_kind byte 1 kinds.Arrive kind _ refl
    (by_choice number_of_kind byte 2 kinds.Collect kind _ refl
    (by_choice number_of_kind byte 3 kinds.Back kind _ refl
    (by_choice number_of_kind byte 4 kinds.BackClosed kind _ refl
    (by_choice number_of_kind byte 5 kinds.Tick kind _ refl
    (by_choice number_of_kind byte 6 kinds.TakeInward kind _ refl
    (by_choice number_of_kind byte 7 kinds.Limit kind _ refl
    (by_choice number_of_kind byte 8 kinds.Open kind None refl (λ never. absurd (none_some kind never))))))))) is

byte_found : (bytes : List ℕ) (p : ℕ × List ℕ) → IsBytes bytes → byte_at bytes ≡ Some p → Takes bytes (p.0 ∷ []) p.1
byte_found [] p fits is = absurd (none_some p is)
byte_found (byte ∷ bytes) p fits is =
    subst (λ (q : ℕ × List ℕ). Takes (byte ∷ bytes) (q.0 ∷ []) q.1) (same_some (byte, bytes) p is) (record { split = refl; behind = λ i. fits (suc i) })

stream_found : (number stream : ℕ) → stream_in number ≡ Some stream → (number ≡ stream) × (stream < most_streams)
stream_found number stream is =
    let found = if_some (nat_lt number most_streams) (Some number) stream is in
    let same = same_some number stream found.1 in
    let few : number < most_streams = ltb-true number most_streams found.0 in
    (same, omega (arith, same, few))

-- two fields, one after the other
two : (bytes first second rest rest' : List ℕ) → Takes bytes first rest → Takes rest second rest' → Takes bytes (first ++ second) rest'
two bytes first second rest rest' takes takes' = record {
  split = takes.split ∙ ap (λ (l : List ℕ). first ++ l) takes'.split ∙ sym (append_assoc first second rest');
  behind = takes'.behind;
}

-- the bytes are the fields of a call of this kind at this moment
record IsCall (kind : Kind) (now : ℕ) (bytes : List ℕ) (call : Entered) : Type 0 where
  kind_is : kind_of call ≡ number_of_kind kind
  now_is : moment_of call ≡ now
  fields : bytes ≡ fields_of call
  lengths : HasLengths call
  ranges : HasRanges call

arrive_found : (now : ℕ) (bytes : List ℕ) (call : Entered) → IsBytes bytes → now < 2 ^ 64 → arrive_at now bytes ≡ Some call → IsCall kinds.Arrive now bytes call
unfolding arrive_at
arrive_found now bytes call fits small is =
    let body = bind_some (text_at bytes) (λ (b : List ℕ × List ℕ). whole (stored.Arrive b.0 now) b.1) call is in
    let text = text_found bytes body.0 fits body.1 in
    let last = whole_found (stored.Arrive body.0.0 now) call body.0.1 body.2 in
    subst (λ (k : Entered). IsCall kinds.Arrive now bytes k) last.1
    (record { kind_is = refl; now_is = refl; fields = ends_at bytes (framed body.0.0) body.0.1 text.0 last.0; lengths = text.1; ranges = small })

collect_found : (now : ℕ) (bytes : List ℕ) (call : Entered) → IsBytes bytes → without_moment now (collect_at bytes) ≡ Some call → IsCall kinds.Collect now bytes call
unfolding collect_at
collect_found now bytes call fits is =
    let none = if_some (now == 0) (collect_at bytes) call is in
    let ticket = bind_some (number4_at bytes) (λ (t : ℕ × List ℕ). whole (stored.Collect t.0) t.1) call none.1 in
    let number = number4_found bytes ticket.0 fits ticket.1 in
    let last = whole_found (stored.Collect ticket.0.0) call ticket.0.1 ticket.2 in
    subst (λ (k : Entered). IsCall kinds.Collect now bytes k) last.1
    (record { kind_is = refl; now_is = sym (is_number now 0 none.0); fields = ends_at bytes (number4 ticket.0.0) ticket.0.1 number.0 last.0; lengths = tt; ranges = number.1 })

back_found : (now : ℕ) (bytes : List ℕ) (call : Entered) → IsBytes bytes → now < 2 ^ 64 → back_at now bytes ≡ Some call → IsCall kinds.Back now bytes call
unfolding back_at
back_found now bytes call fits small is =
    let ending : ℕ → List ℕ × List ℕ → Option Entered = λ s t. whole (stored.Back s t.0 now) t.1 in
    let first = bind_some (number2_at bytes) (λ (n : ℕ × List ℕ). stream_in n.0 >>= (λ s. text_at n.1 >>= ending s)) call is in
    let number = number2_found bytes first.0 fits first.1 in
    let second = bind_some (stream_in first.0.0) (λ (s : ℕ). text_at first.0.1 >>= ending s) call first.2 in
    let stream = stream_found first.0.0 second.0 second.1 in
    let third = bind_some (text_at first.0.1) (ending second.0) call second.2 in
    let text = text_found first.0.1 third.0 number.0.behind third.1 in
    let last = whole_found (stored.Back second.0 third.0.0 now) call third.0.1 third.2 in
    let all = two bytes (number2 first.0.0) (framed third.0.0) first.0.1 third.0.1 number.0 text.0 in
    subst (λ (k : Entered). IsCall kinds.Back now bytes k) last.1
    (
    record {
      kind_is = refl;
      now_is = refl;
      fields = ends_at bytes (number2 first.0.0 ++ framed third.0.0) third.0.1 all last.0 ∙ ap (λ (n : ℕ). number2 n ++ framed third.0.0) stream.0;
      lengths = text.1;
      ranges = (stream.1, small);
    }
    )

back_closed_found : (now : ℕ) (bytes : List ℕ) (call : Entered) → IsBytes bytes → now < 2 ^ 64 → back_closed_at now bytes ≡ Some call → IsCall kinds.BackClosed now bytes call
unfolding back_closed_at
back_closed_found now bytes call fits small is =
    let ending : ℕ → List ℕ → Closing → Option Entered = λ s rest c. whole (stored.BackClosed s c now) rest in
    let first = bind_some (number2_at bytes) (λ (n : ℕ × List ℕ). stream_in n.0 >>= (λ s. byte_at n.1 >>= (λ b. closing_in b.0 >>= ending s b.1))) call is in
    let number = number2_found bytes first.0 fits first.1 in
    let second = bind_some (stream_in first.0.0) (λ (s : ℕ). byte_at first.0.1 >>= (λ b. closing_in b.0 >>= ending s b.1)) call first.2 in
    let stream = stream_found first.0.0 second.0 second.1 in
    let third = bind_some (byte_at first.0.1) (λ (b : ℕ × List ℕ). closing_in b.0 >>= ending second.0 b.1) call second.2 in
    let byte = byte_found first.0.1 third.0 number.0.behind third.1 in
    let fourth = bind_some (closing_in third.0.0) (ending second.0 third.0.1) call third.2 in
    let closing = closing_found third.0.0 fourth.0 fourth.1 in
    let last = whole_found (stored.BackClosed second.0 fourth.0 now) call third.0.1 fourth.2 in
    let all = two bytes (number2 first.0.0) (third.0.0 ∷ []) first.0.1 third.0.1 number.0 byte in
    subst (λ (k : Entered). IsCall kinds.BackClosed now bytes k) last.1
    (
    record {
      kind_is = refl;
      now_is = refl;
      fields =
          ends_at bytes (number2 first.0.0 ++ third.0.0 ∷ []) third.0.1 all last.0
          ∙ (λ i. number2 (stream.0 i) ++ closing i ∷ []);
      lengths = tt;
      ranges = (stream.1, small);
    }
    )

limit_found : (now : ℕ) (bytes : List ℕ) (call : Entered) → IsBytes bytes → now < 2 ^ 64 → limit_at now bytes ≡ Some call → IsCall kinds.Limit now bytes call
unfolding limit_at
limit_found now bytes call fits small is =
    let ending : Limited → ℕ × List ℕ → Option Entered = λ k n. whole (stored.Limit k n.0 now) n.1 in
    let first = bind_some (byte_at bytes) (λ (b : ℕ × List ℕ). limited_in b.0 >>= (λ k. number8_at b.1 >>= ending k)) call is in
    let byte = byte_found bytes first.0 fits first.1 in
    let second = bind_some (limited_in first.0.0) (λ (k : Limited). number8_at first.0.1 >>= ending k) call first.2 in
    let kind = limited_found first.0.0 second.0 second.1 in
    let third = bind_some (number8_at first.0.1) (ending second.0) call second.2 in
    let cost = number8_found first.0.1 third.0 byte.behind third.1 in
    let last = whole_found (stored.Limit second.0 third.0.0 now) call third.0.1 third.2 in
    let all = two bytes (first.0.0 ∷ []) (number8 third.0.0) first.0.1 third.0.1 byte cost.0 in
    subst (λ (k : Entered). IsCall kinds.Limit now bytes k) last.1
    (
    record {
      kind_is = refl;
      now_is = refl;
      fields = ends_at bytes (first.0.0 ∷ [] ++ number8 third.0.0) third.0.1 all last.0 ∙ ap (λ (n : ℕ). n ∷ number8 third.0.0) kind;
      lengths = tt;
      ranges = (cost.1, small);
    }
    )

-- The fields of an opening, one after the other: each lemma has those before its own as they were read.

abbrev version_and_limit : ℕ → List ℕ
version_and_limit l = number2 rules_version ++ number8 l

body_found : (now l w : ℕ) (s h : List ℕ) (g : List (List ℕ)) (bytes rest : List ℕ) (call : Entered)
    → Takes bytes (version_and_limit l ++ number4 w ++ framed s ++ framed h ++ texts_bytes g) rest
    → (HasLength s × HasLength h × (length g < 2 ^ 32) × AllByRecursion HasLength g) → (now < 2 ^ 64) × (l < 2 ^ 64) × (w < 2 ^ 32)
    → (text_at rest >>= (λ b. whole (stored.Open s h g b.0 now l w) b.1)) ≡ Some call → IsCall kinds.Open now bytes call
body_found now l w s h g bytes rest call takes lengths ranges is =
    let read = bind_some (text_at rest) (λ (b : List ℕ × List ℕ). whole (stored.Open s h g b.0 now l w) b.1) call is in
    let body = text_found rest read.0 takes.behind read.1 in
    let last = whole_found (stored.Open s h g read.0.0 now l w) call read.0.1 read.2 in
    let all = two bytes (version_and_limit l ++ number4 w ++ framed s ++ framed h ++ texts_bytes g) (framed read.0.0) rest read.0.1 takes body.0 in
    subst (λ (k : Entered). IsCall kinds.Open now bytes k) last.1
    (
    record {
      kind_is = refl;
      now_is = refl;
      fields = ends_at bytes (version_and_limit l ++ number4 w ++ framed s ++ framed h ++ texts_bytes g ++ framed read.0.0) read.0.1 all last.0;
      lengths = (lengths.0, lengths.1, lengths.2, lengths.3, body.1);
      ranges = ranges;
    }
    )

behind_host : (now l w : ℕ) (s h : List ℕ) (bytes rest : List ℕ) (call : Entered) → Takes bytes (version_and_limit l ++ number4 w ++ framed s ++ framed h) rest
    → HasLength s × HasLength h → (now < 2 ^ 64) × (l < 2 ^ 64) × (w < 2 ^ 32)
    → (greeting_at rest >>= (λ g. text_at g.1 >>= (λ b. whole (stored.Open s h g.0 b.0 now l w) b.1))) ≡ Some call → IsCall kinds.Open now bytes call
behind_host now l w s h bytes rest call takes lengths ranges is =
    let read = bind_some (greeting_at rest) (λ (g : List (List ℕ) × List ℕ). text_at g.1 >>= (λ b. whole (stored.Open s h g.0 b.0 now l w) b.1)) call is in
    let greeting = greeting_found rest read.0 takes.behind read.1 in
    body_found now l w s h read.0.0 bytes read.0.1 call
    (two bytes (version_and_limit l ++ number4 w ++ framed s ++ framed h) (texts_bytes read.0.0) rest read.0.1 takes greeting.0) (lengths.0, lengths.1, greeting.1, greeting.2) ranges read.2

behind_sid : (now l w : ℕ) (s : List ℕ) (bytes rest : List ℕ) (call : Entered) → Takes bytes (version_and_limit l ++ number4 w ++ framed s) rest
    → HasLength s → (now < 2 ^ 64) × (l < 2 ^ 64) × (w < 2 ^ 32)
    → (text_at rest >>= (λ h. greeting_at h.1 >>= (λ g. text_at g.1 >>= (λ b. whole (stored.Open s h.0 g.0 b.0 now l w) b.1)))) ≡ Some call → IsCall kinds.Open now bytes call
behind_sid now l w s bytes rest call takes lengths ranges is =
    let read = bind_some (text_at rest) (λ (h : List ℕ × List ℕ). greeting_at h.1 >>= (λ g. text_at g.1 >>= (λ b. whole (stored.Open s h.0 g.0 b.0 now l w) b.1))) call is in
    let host = text_found rest read.0 takes.behind read.1 in
    behind_host now l w s read.0.0 bytes read.0.1 call
    (two bytes (version_and_limit l ++ number4 w ++ framed s) (framed read.0.0) rest read.0.1 takes host.0) (lengths, host.1) ranges read.2

behind_waits : (now l w : ℕ) (bytes rest : List ℕ) (call : Entered) → Takes bytes (version_and_limit l ++ number4 w) rest → (now < 2 ^ 64) × (l < 2 ^ 64) × (w < 2 ^ 32)
    → (text_at rest >>= (λ s. text_at s.1 >>= (λ h. greeting_at h.1 >>= (λ g. text_at g.1 >>= (λ b. whole (stored.Open s.0 h.0 g.0 b.0 now l w) b.1))))) ≡ Some call
    → IsCall kinds.Open now bytes call
behind_waits now l w bytes rest call takes ranges is =
    let read = bind_some (text_at rest) (λ (s : List ℕ × List ℕ). text_at s.1 >>= (λ h. greeting_at h.1 >>= (λ g. text_at g.1 >>= (λ b. whole (stored.Open s.0 h.0 g.0 b.0 now l w) b.1)))) call is in
    let sid = text_found rest read.0 takes.behind read.1 in
    behind_sid now l w read.0.0 bytes read.0.1 call (two bytes (version_and_limit l ++ number4 w) (framed read.0.0) rest read.0.1 takes sid.0) sid.1 ranges read.2

behind_limit : (now l : ℕ) (bytes rest : List ℕ) (call : Entered) → Takes bytes (version_and_limit l) rest → (now < 2 ^ 64) × (l < 2 ^ 64)
    → (number4_at rest >>= (λ w. text_at w.1 >>= (λ s. text_at s.1 >>= (λ h. greeting_at h.1 >>= (λ g. text_at g.1 >>= (λ b. whole (stored.Open s.0 h.0 g.0 b.0 now l w.0) b.1)))))) ≡ Some call
    → IsCall kinds.Open now bytes call
behind_limit now l bytes rest call takes ranges is =
    let read = bind_some (number4_at rest) (λ (w : ℕ × List ℕ). text_at w.1 >>= (λ s. text_at s.1 >>= (λ h. greeting_at h.1 >>= (λ g. text_at g.1 >>= (λ b. whole (stored.Open s.0 h.0 g.0 b.0 now l w.0) b.1))))) call is in
    let waits = number4_found rest read.0 takes.behind read.1 in
    behind_waits now l read.0.0 bytes read.0.1 call (two bytes (version_and_limit l) (number4 read.0.0) rest read.0.1 takes waits.0) (ranges.0, ranges.1, waits.1) read.2

abbrev by_limit : ℕ → ℕ × List ℕ → Option Entered
by_limit now l = number4_at l.1 >>= (λ w. text_at w.1 >>= (λ s. text_at s.1 >>= (λ h. greeting_at h.1 >>= (λ g. text_at g.1 >>= (λ b. whole (stored.Open s.0 h.0 g.0 b.0 now l.0 w.0) b.1)))))

open_found : (now : ℕ) (bytes : List ℕ) (call : Entered) → IsBytes bytes → now < 2 ^ 64 → open_at now bytes ≡ Some call → IsCall kinds.Open now bytes call
unfolding open_at
open_found now bytes call fits small is =
    let first = bind_some (number2_at bytes) (λ (v : ℕ × List ℕ). (if v.0 == rules_version then number8_at v.1 else None) >>= by_limit now) call is in
    let version = number2_found bytes first.0 fits first.1 in
    let second = bind_some (if first.0.0 == rules_version then number8_at first.0.1 else None) (by_limit now) call first.2 in
    let right = if_some (first.0.0 == rules_version) (number8_at first.0.1) second.0 second.1 in
    let limit = number8_found first.0.1 second.0 version.0.behind right.1 in
    let both = two bytes (number2 first.0.0) (number8 second.0.0) first.0.1 second.0.1 version.0 limit.0 in
    behind_limit now second.0.0 bytes second.0.1 call
    (subst (λ (n : ℕ). Takes bytes (number2 n ++ number8 second.0.0) second.0.1) (is_number first.0.0 rules_version right.0) both) (small, limit.1) second.2

tick_found : (now : ℕ) (bytes : List ℕ) (call : Entered) → now < 2 ^ 64 → whole (stored.Tick now) bytes ≡ Some call → IsCall kinds.Tick now bytes call
tick_found now bytes call small is =
    let last = whole_found (stored.Tick now) call bytes is in
    subst (λ (k : Entered). IsCall kinds.Tick now bytes k) last.1 (record { kind_is = refl; now_is = refl; fields = last.0; lengths = tt; ranges = small })

take_inward_found : (now : ℕ) (bytes : List ℕ) (call : Entered) → without_moment now (whole stored.TakeInward bytes) ≡ Some call → IsCall kinds.TakeInward now bytes call
take_inward_found now bytes call is =
    let none = if_some (now == 0) (whole stored.TakeInward bytes) call is in
    let last = whole_found stored.TakeInward call bytes none.1 in
    subst (λ (k : Entered). IsCall kinds.TakeInward now bytes k) last.1 (record { kind_is = refl; now_is = sym (is_number now 0 none.0); fields = last.0; lengths = tt; ranges = tt })

call_found : (kind : Kind) (now : ℕ) (bytes : List ℕ) (call : Entered) → IsBytes bytes → now < 2 ^ 64 → call_at kind now bytes ≡ Some call → IsCall kind now bytes call
call_found kinds.Open now bytes call fits small is = open_found now bytes call fits small is
call_found kinds.Arrive now bytes call fits small is = arrive_found now bytes call fits small is
call_found kinds.Collect now bytes call fits small is = collect_found now bytes call fits is
call_found kinds.Back now bytes call fits small is = back_found now bytes call fits small is
call_found kinds.BackClosed now bytes call fits small is = back_closed_found now bytes call fits small is
call_found kinds.Tick now bytes call fits small is = tick_found now bytes call small is
call_found kinds.TakeInward now bytes call fits small is = take_inward_found now bytes call is
call_found kinds.Limit now bytes call fits small is = limit_found now bytes call fits small is

-- what is read as an entry is its content
pub entry_found : (bytes : List ℕ) (read : SessionEntry) → IsBytes bytes → entry_at bytes ≡ Some read → (bytes ≡ content_of read.session read.entry) × HasContent read.session read.entry
unfolding entry_at content_of
entry_found bytes read fits is =
    let made : ℕ → ℕ → Entered → Option SessionEntry = λ s c k. Some (record { session = s; entry = record { caller = c; call = k } }) in
    let by_now : ℕ → ℕ → Kind → ℕ × List ℕ → Option SessionEntry = λ s c k n. call_at k n.0 n.1 >>= made s c in
    let by_kind : ℕ → ℕ → List ℕ → Kind → Option SessionEntry = λ s c rest k. number8_at rest >>= by_now s c k in
    let by_byte : ℕ → ℕ → ℕ × List ℕ → Option SessionEntry = λ s c b. kind_in b.0 >>= by_kind s c b.1 in
    let by_caller : ℕ → ℕ × List ℕ → Option SessionEntry = λ s c. byte_at c.1 >>= by_byte s c.0 in
    let first = bind_some (number4_at bytes) (λ (s : ℕ × List ℕ). number4_at s.1 >>= by_caller s.0) read is in
    let session = number4_found bytes first.0 fits first.1 in
    let second = bind_some (number4_at first.0.1) (by_caller first.0.0) read first.2 in
    let caller = number4_found first.0.1 second.0 session.0.behind second.1 in
    let third = bind_some (byte_at second.0.1) (by_byte first.0.0 second.0.0) read second.2 in
    let byte = byte_found second.0.1 third.0 caller.0.behind third.1 in
    let fourth = bind_some (kind_in third.0.0) (by_kind first.0.0 second.0.0 third.0.1) read third.2 in
    let kind = kind_found third.0.0 fourth.0 fourth.1 in
    let fifth = bind_some (number8_at third.0.1) (by_now first.0.0 second.0.0 fourth.0) read fourth.2 in
    let now = number8_found third.0.1 fifth.0 byte.behind fifth.1 in
    let sixth = bind_some (call_at fourth.0 fifth.0.0 fifth.0.1) (made first.0.0 second.0.0) read fifth.2 in
    let call = call_found fourth.0 fifth.0.0 fifth.0.1 sixth.0 now.0.behind now.1 sixth.1 in
    let a = two bytes (number4 first.0.0) (number4 second.0.0) first.0.1 second.0.1 session.0 caller.0 in
    let b = two bytes (number4 first.0.0 ++ number4 second.0.0) (third.0.0 ∷ []) second.0.1 third.0.1 a byte in
    let c = two bytes (number4 first.0.0 ++ number4 second.0.0 ++ third.0.0 ∷ []) (number8 fifth.0.0) third.0.1 fifth.0.1 b now.0 in
    subst (λ (r : SessionEntry). (bytes ≡ content_of r.session r.entry) × HasContent r.session r.entry) (same_some (record { session = first.0.0; entry = record { caller = second.0.0; call = sixth.0 } }) read sixth.2) (
      c.split
          ∙ ap (λ (n : ℕ). number4 first.0.0 ++ number4 second.0.0 ++ n ∷ [] ++ number8 fifth.0.0 ++ fifth.0.1) (kind ∙ sym call.kind_is)
          ∙ ap (λ (n : ℕ). number4 first.0.0 ++ number4 second.0.0 ++ kind_of sixth.0 ∷ [] ++ number8 n ++ fifth.0.1) (sym call.now_is)
          ∙ ap (λ (l : List ℕ). number4 first.0.0 ++ number4 second.0.0 ++ kind_of sixth.0 ∷ [] ++ number8 (moment_of sixth.0) ++ l) call.fields,
      record { session_fits = session.1; caller = caller.1; lengths = call.lengths; ranges = call.ranges },
    )
