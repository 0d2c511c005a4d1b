-- What is written as the content of an entry is read as that entry.
use Rattle.std.proofs.Common.{◌≡◌, ℕ, ◌<◌, ◌≤◌, ◌^◌, ◌==◌, Bool, List, [], ◌∷◌, ◌++◌, Option, Some, None, if◌then◌else◌, length, take, drop, refl, sym, ◌∙◌, ap, arith, append_assoc, length-append}
use Rattle.std.specs.Prelude.{nat_lt}
use Rattle.std.specs.Int.{from_be_bytes, w16, w32, w64}
use Rattle.std.specs.List.{AllByRecursion}
use Rattle.std.proofs.lemmas.Bool.{le-ltb, lt-ltb}
use Rattle.std.proofs.lemmas.List.{append-nil, take_at, drop_at}
use Rattle.std.proofs.lemmas.Nat.{from_be_bytes-to_be_bytes_2, from_be_bytes-to_be_bytes_8}
use Rattle.bosh_types.specs.Limits.{most_streams}
use Rattle.bosh_types.specs.declared.ending.Closing.{Closing}
use Rattle.bosh_types.specs.declared.ending.Closing.TheVariants as closings
use Rattle.session_journal.specs.declared.entry.Entered.{Entered}
use Rattle.session_journal.specs.declared.entry.Entered.TheVariants as stored
use Rattle.session_journal.specs.declared.entry.Entry.{Entry}
use Rattle.session_journal.specs.declared.entry.Limited.{Limited}
use Rattle.session_journal.specs.declared.entry.Limited.TheVariants as limits
use Rattle.journal_store.specs.Contents.{rules_version, number2, number8, all_framed, texts_bytes, closing_byte, limited_kind, kind_of, moment_of, fields_of, content_of, HasLengths, HasRanges, HasContent}
use Rattle.journal_store.specs.Reading.{◌>>=◌, byte_at, number2_at, number4_at, number8_at, text_at, texts_at, greeting_at, stream_in, whole, closing_in, limited_in, kind_in, open_at, arrive_at, collect_at, back_at, back_closed_at, limit_at, call_at, entry_at}
use Rattle.journal_store.specs.Records.{HasLength, number4, framed}
use Rattle.journal_store.specs.declared.reading.Kind.{Kind}
use Rattle.journal_store.specs.declared.reading.Kind.TheVariants as kinds
use Rattle.journal_store.specs.declared.reading.SessionEntry.{SessionEntry}
use Rattle.journal_store.proofs.Numbers.{length-number4, read-number4}

abbrev pair_of : {X Y : Type 0} → X → Y → Option (X × Y)
pair_of x y = Some (x, y)

abbrev unless : {X Y : Type 0} → Bool → X → Y → Option (X × Y)
unless t x y = if t then None else pair_of x y

same_pair : {X Y : Type 0} (x x' : X) (y y' : Y) → x ≡ x' → y ≡ y' → pair_of x y ≡ pair_of x' y'
same_pair x x' y y' same same' = λ i. pair_of (same i) (same' i)

-- a number, and the bytes after it
read_again : (count : ℕ) (front rest : List ℕ) (value : List ℕ → ℕ) (n : ℕ) → length front ≡ count → value front ≡ n
    → unless (nat_lt (length (front ++ rest)) count) (value (take count (front ++ rest))) (drop count (front ++ rest)) ≡ pair_of n rest
read_again count front rest value n size is =
    let bytes = front ++ rest in
    let long : count ≤ length (front ++ rest) = omega (arith, length-append front rest, size) in
    let number : value (take count (front ++ rest)) ≡ n = ap value (take_at front rest count size) ∙ is in
    let behind : drop count (front ++ rest) ≡ rest = drop_at front rest count size in
    ap (λ (t : Bool). unless t (value (take count bytes)) (drop count bytes)) (le-ltb (length bytes) count long) ∙ same_pair (value (take count bytes)) n (drop count bytes) rest number behind

number4_again : (n : ℕ) (rest : List ℕ) → n < 2 ^ 32 → number4_at (number4 n ++ rest) ≡ Some (n, rest)
number4_again n rest small = read_again 4 (number4 n) rest (λ l. from_be_bytes w32 l) n (length-number4 n) (read-number4 n small)

number2_again : (n : ℕ) (rest : List ℕ) → n < 2 ^ 16 → number2_at (number2 n ++ rest) ≡ Some (n, rest)
unfolding number2
number2_again n rest small = read_again 2 (number2 n) rest (λ l. from_be_bytes w16 l) n refl (from_be_bytes-to_be_bytes_2 n small)

number8_again : (n : ℕ) (rest : List ℕ) → n < 2 ^ 64 → number8_at (number8 n ++ rest) ≡ Some (n, rest)
unfolding number8
number8_again n rest small = read_again 8 (number8 n) rest (λ l. from_be_bytes w64 l) n refl (from_be_bytes-to_be_bytes_8 n small)

text_again : (text rest : List ℕ) → HasLength text → text_at (framed text ++ rest) ≡ Some (text, rest)
unfolding text_at
text_again text rest fits =
    let cut : ℕ × List ℕ → Option (List ℕ × List ℕ) = λ n. unless (nat_lt (length n.1) n.0) (take n.0 n.1) (drop n.0 n.1) in
    let long : length text ≤ length (text ++ rest) = omega (arith, length-append text rest) in
    let front : take (length text) (text ++ rest) ≡ text = take_at text rest (length text) refl in
    let behind : drop (length text) (text ++ rest) ≡ rest = drop_at text rest (length text) refl in
    ap (λ (l : List ℕ). number4_at l >>= cut) (append_assoc (number4 (length text)) text rest)
    ∙ ap (λ (read : Option (ℕ × List ℕ)). read >>= cut) (number4_again (length text) (text ++ rest) fits)
    ∙ ap (λ (t : Bool). unless t (take (length text) (text ++ rest)) (drop (length text) (text ++ rest))) (le-ltb (length (text ++ rest)) (length text) long)
    ∙ same_pair (take (length text) (text ++ rest)) text (drop (length text) (text ++ rest)) rest front behind

texts_again : (texts : List (List ℕ)) (rest : List ℕ) → AllByRecursion HasLength texts → texts_at (length texts) (all_framed texts ++ rest) ≡ Some (texts, rest)
unfolding texts_at
texts_again [] rest fits = refl
texts_again (text ∷ texts) rest fits =
    ap (λ (l : List ℕ). text_at l >>= (λ t. texts_at (length texts) t.1 >>= (λ ts. pair_of (t.0 ∷ ts.0) ts.1))) (append_assoc (framed text) (all_framed texts) rest)
    ∙ ap (λ (read : Option (List ℕ × List ℕ)). read >>= (λ t. texts_at (length texts) t.1 >>= (λ ts. pair_of (t.0 ∷ ts.0) ts.1))) (text_again text (all_framed texts ++ rest) fits.0)
    ∙ ap (λ (read : Option (List (List ℕ) × List ℕ)). read >>= (λ ts. pair_of (text ∷ ts.0) ts.1)) (texts_again texts rest fits.1)

greeting_again : (texts : List (List ℕ)) (rest : List ℕ) → length texts < 2 ^ 32 → AllByRecursion HasLength texts → greeting_at (texts_bytes texts ++ rest) ≡ Some (texts, rest)
unfolding greeting_at texts_bytes
greeting_again texts rest few fits =
    ap (λ (l : List ℕ). number4_at l >>= (λ n. texts_at n.0 n.1)) (append_assoc (number4 (length texts)) (all_framed texts) rest)
    ∙ ap (λ (read : Option (ℕ × List ℕ)). read >>= (λ n. texts_at n.0 n.1)) (number4_again (length texts) (all_framed texts ++ rest) few)
    ∙ texts_again texts rest fits

closing_again : (closing : Closing) → closing_in (closing_byte closing) ≡ Some closing
closing_again closings.Plain = refl
closing_again closings.RemoteConnectionFailed = refl
closing_again closings.RemoteStreamError = refl
closing_again closings.SystemShutdown = refl

limited_again : (kind : Limited) → limited_in (limited_kind kind) ≡ Some kind
limited_again limits.Arrival = refl
limited_again limits.ServerStanza = refl
limited_again limits.ServerClosing = refl
limited_again limits.Time = refl

stream_again : (stream : ℕ) → stream < most_streams → stream_in stream ≡ Some stream
stream_again stream few = ap (λ (t : Bool). if t then Some stream else None) (lt-ltb stream most_streams few)

arrive_again : (body : List ℕ) (now : ℕ) → HasLength body → arrive_at now (framed body) ≡ Some (stored.Arrive body now)
unfolding arrive_at
arrive_again body now fits =
    ap (λ (l : List ℕ). text_at l >>= (λ b. whole (stored.Arrive b.0 now) b.1)) (sym (append-nil (framed body)))
    ∙ ap (λ (read : Option (List ℕ × List ℕ)). read >>= (λ b. whole (stored.Arrive b.0 now) b.1)) (text_again body [] fits)

collect_again : (ticket : ℕ) → ticket < 2 ^ 32 → collect_at (number4 ticket) ≡ Some (stored.Collect ticket)
unfolding collect_at
collect_again ticket small =
    ap (λ (l : List ℕ). number4_at l >>= (λ t. whole (stored.Collect t.0) t.1)) (sym (append-nil (number4 ticket)))
    ∙ ap (λ (read : Option (ℕ × List ℕ)). read >>= (λ t. whole (stored.Collect t.0) t.1)) (number4_again ticket [] small)

back_again : (stream : ℕ) (stanza : List ℕ) (now : ℕ) → stream < most_streams → HasLength stanza → back_at now (number2 stream ++ framed stanza) ≡ Some (stored.Back stream stanza now)
unfolding back_at
back_again stream stanza now few fits =
    let last : ℕ → List ℕ × List ℕ → Option Entered = λ s t. whole (stored.Back s t.0 now) t.1 in
    ap (λ (read : Option (ℕ × List ℕ)). read >>= (λ n. stream_in n.0 >>= (λ s. text_at n.1 >>= last s))) (number2_again stream (framed stanza) (omega (arith, few)))
    ∙ ap (λ (read : Option ℕ). read >>= (λ s. text_at (framed stanza) >>= last s)) (stream_again stream few)
    ∙ ap (λ (l : List ℕ). text_at l >>= last stream) (sym (append-nil (framed stanza)))
    ∙ ap (λ (read : Option (List ℕ × List ℕ)). read >>= last stream) (text_again stanza [] fits)

back_closed_again : (stream : ℕ) (closing : Closing) (now : ℕ) → stream < most_streams → back_closed_at now (number2 stream ++ closing_byte closing ∷ []) ≡ Some (stored.BackClosed stream closing now)
unfolding back_closed_at
back_closed_again stream closing now few =
    let last : ℕ → List ℕ → Closing → Option Entered = λ s rest c. whole (stored.BackClosed s c now) rest in
    ap (λ (read : Option (ℕ × List ℕ)). read >>= (λ n. stream_in n.0 >>= (λ s. byte_at n.1 >>= (λ b. closing_in b.0 >>= last s b.1)))) (number2_again stream (closing_byte closing ∷ []) (omega (arith, few)))
    ∙ ap (λ (read : Option ℕ). read >>= (λ s. closing_in (closing_byte closing) >>= last s [])) (stream_again stream few)
    ∙ ap (λ (read : Option Closing). read >>= last stream []) (closing_again closing)

limit_again : (kind : Limited) (cost now : ℕ) → cost < 2 ^ 64 → limit_at now (limited_kind kind ∷ number8 cost) ≡ Some (stored.Limit kind cost now)
unfolding limit_at
limit_again kind cost now small =
    let last : Limited → ℕ × List ℕ → Option Entered = λ k n. whole (stored.Limit k n.0 now) n.1 in
    ap (λ (read : Option Limited). read >>= (λ k. number8_at (number8 cost) >>= last k)) (limited_again kind)
    ∙ ap (λ (l : List ℕ). number8_at l >>= last kind) (sym (append-nil (number8 cost)))
    ∙ ap (λ (read : Option (ℕ × List ℕ)). read >>= last kind) (number8_again cost [] small)

seven : (a b c d e f g : List ℕ) → (((((a ++ b) ++ c) ++ d) ++ e) ++ f) ++ g ≡ a ++ (b ++ (c ++ (d ++ (e ++ (f ++ (g ++ []))))))
seven a b c d e f g = simp (append_assoc, append-nil)

open_again : (sid host : List ℕ) (greeting : List (List ℕ)) (body : List ℕ) (now limit gap_waits : ℕ) → HasLengths (stored.Open sid host greeting body now limit gap_waits) → limit < 2 ^ 64 → gap_waits < 2 ^ 32
    → open_at now (fields_of (stored.Open sid host greeting body now limit gap_waits)) ≡ Some (stored.Open sid host greeting body now limit gap_waits)
unfolding open_at
open_again sid host greeting body now limit gap_waits fits small few =
    let by_body : ℕ × List ℕ → ℕ × List ℕ → List ℕ × List ℕ → List ℕ × List ℕ → List (List ℕ) × List ℕ → List ℕ × List ℕ → Option Entered = λ l w s h g b. whole (stored.Open s.0 h.0 g.0 b.0 now l.0 w.0) b.1 in
    let after_host = texts_bytes greeting ++ (framed body ++ []) in
    let after_sid = framed host ++ after_host in
    let after_waits = framed sid ++ after_sid in
    let after_limit = number4 gap_waits ++ after_waits in
    let after_version = number8 limit ++ after_limit in
    ap (λ (l : List ℕ). open_at now l) (seven (number2 rules_version) (number8 limit) (number4 gap_waits) (framed sid) (framed host) (texts_bytes greeting) (framed body))
    ∙ ap (λ (read : Option (ℕ × List ℕ)). read >>= (λ v. (if v.0 == rules_version then number8_at v.1 else None) >>= (λ l. number4_at l.1 >>= (λ w. text_at w.1 >>= (λ s. text_at s.1 >>= (λ h. greeting_at h.1 >>= (λ g. text_at g.1 >>= by_body l w s h g)))))))
    (number2_again rules_version after_version (omega arith))
    ∙ ap (λ (read : Option (ℕ × List ℕ)). read >>= (λ l. number4_at l.1 >>= (λ w. text_at w.1 >>= (λ s. text_at s.1 >>= (λ h. greeting_at h.1 >>= (λ g. text_at g.1 >>= by_body l w s h g)))))) (number8_again limit after_limit small)
    ∙ ap (λ (read : Option (ℕ × List ℕ)). read >>= (λ w. text_at w.1 >>= (λ s. text_at s.1 >>= (λ h. greeting_at h.1 >>= (λ g. text_at g.1 >>= by_body (limit, after_limit) w s h g))))) (number4_again gap_waits after_waits few)
    ∙ ap (λ (read : Option (List ℕ × List ℕ)). read >>= (λ s. text_at s.1 >>= (λ h. greeting_at h.1 >>= (λ g. text_at g.1 >>= by_body (limit, after_limit) (gap_waits, after_waits) s h g)))) (text_again sid after_sid fits.0)
    ∙ ap (λ (read : Option (List ℕ × List ℕ)). read >>= (λ h. greeting_at h.1 >>= (λ g. text_at g.1 >>= by_body (limit, after_limit) (gap_waits, after_waits) (sid, after_sid) h g))) (text_again host after_host fits.1)
    ∙ ap (λ (read : Option (List (List ℕ) × List ℕ)). read >>= (λ g. text_at g.1 >>= by_body (limit, after_limit) (gap_waits, after_waits) (sid, after_sid) (host, after_host) g)) (greeting_again greeting (framed body ++ []) fits.2 fits.3)
    ∙ ap (λ (read : Option (List ℕ × List ℕ)). read >>= by_body (limit, after_limit) (gap_waits, after_waits) (sid, after_sid) (host, after_host) (greeting, framed body ++ [])) (text_again body [] fits.4)

-- each kind of call is read as it was written
call_again : (call : Entered) → HasLengths call → HasRanges call → (kind : Kind) × (kind_in (kind_of call) ≡ Some kind) × (call_at kind (moment_of call) (fields_of call) ≡ Some call)
call_again (stored.Open sid host greeting body now limit gap_waits) fits ranges = (kinds.Open, refl, open_again sid host greeting body now limit gap_waits fits ranges.1 ranges.2)
call_again (stored.Arrive body now) fits ranges = (kinds.Arrive, refl, arrive_again body now fits)
call_again (stored.Collect ticket) fits ranges = (kinds.Collect, refl, collect_again ticket ranges)
call_again (stored.Back stream stanza now) fits ranges = (kinds.Back, refl, back_again stream stanza now ranges.0 fits)
call_again (stored.BackClosed stream closing now) fits ranges = (kinds.BackClosed, refl, back_closed_again stream closing now ranges.0)
call_again (stored.Tick now) fits ranges = (kinds.Tick, refl, refl)
call_again stored.TakeInward fits ranges = (kinds.TakeInward, refl, refl)
call_again (stored.Limit kind cost now) fits ranges = (kinds.Limit, refl, limit_again kind cost now ranges.0)

moment_small : (call : Entered) → HasRanges call → moment_of call < 2 ^ 64
moment_small (stored.Open sid host greeting body now limit gap_waits) ranges = ranges.0
moment_small (stored.Arrive body now) ranges = ranges
moment_small (stored.Collect ticket) ranges = omega arith
moment_small (stored.Back stream stanza now) ranges = ranges.1
moment_small (stored.BackClosed stream closing now) ranges = ranges.1
moment_small (stored.Tick now) ranges = ranges
moment_small stored.TakeInward ranges = omega arith
moment_small (stored.Limit kind cost now) ranges = ranges.1

five_parts : (a b c d e : List ℕ) → (((a ++ b) ++ c) ++ d) ++ e ≡ a ++ (b ++ (c ++ (d ++ e)))
five_parts a b c d e = simp append_assoc

pub entry_again : (session : ℕ) (e : Entry) → HasContent session e → entry_at (content_of session e) ≡ Some (record { session = session; entry = e })
unfolding entry_at content_of
entry_again session e fits =
    let call = call_again e.call fits.lengths fits.ranges in
    let made : ℕ → ℕ → Entered → Option SessionEntry = λ s c k. Some (record { session = s; entry = record { caller = c; call = k } }) in
    let after_byte = number8 (moment_of e.call) ++ fields_of e.call in
    let after_caller = kind_of e.call ∷ after_byte in
    ap (λ (l : List ℕ). entry_at l) (five_parts (number4 session) (number4 e.caller) (kind_of e.call ∷ []) (number8 (moment_of e.call)) (fields_of e.call))
    ∙ ap (λ (read : Option (ℕ × List ℕ)). read >>= (λ s. number4_at s.1 >>= (λ c. byte_at c.1 >>= (λ b. kind_in b.0 >>= (λ k. number8_at b.1 >>= (λ n. call_at k n.0 n.1 >>= made s.0 c.0))))))
    (number4_again session (number4 e.caller ++ after_caller) fits.session_fits)
    ∙ ap (λ (read : Option (ℕ × List ℕ)). read >>= (λ c. byte_at c.1 >>= (λ b. kind_in b.0 >>= (λ k. number8_at b.1 >>= (λ n. call_at k n.0 n.1 >>= made session c.0))))) (number4_again e.caller after_caller fits.caller)
    ∙ ap (λ (read : Option Kind). read >>= (λ k. number8_at after_byte >>= (λ n. call_at k n.0 n.1 >>= made session e.caller))) call.1
    ∙ ap (λ (read : Option (ℕ × List ℕ)). read >>= (λ n. call_at call.0 n.0 n.1 >>= made session e.caller)) (number8_again (moment_of e.call) (fields_of e.call) (moment_small e.call fits.ranges))
    ∙ ap (λ (read : Option Entered). read >>= made session e.caller) call.2
