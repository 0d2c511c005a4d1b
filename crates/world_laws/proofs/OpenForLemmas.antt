-- What a client sends to one stream alone is for one that it has: it was added, or is the first, and wasn't closed.
use Rattle.std.proofs.Common.{◌≡◌, ℕ, true, List, [], ◌∷◌, ◌++◌, refl, sym, ap, subst}
use Rattle.std.specs.Prelude.{IfSome, ⊤}
use Rattle.stream_names.specs.PlainStreams.{PlainStreams}
use Rattle.stream_names.specs.Streams.{is_among}
use Rattle.bosh_client.specs.declared.outgoing.Outgoing.{Outgoing}
use Rattle.bosh_client.specs.Outgoing.{stream_of, streams_after, streams_with}

abbrev pub IsForOpen : PlainStreams → Outgoing → Type 0
IsForOpen streams item = IfSome (stream_of item) (λ stream. is_among streams.running stream ≡ true)

-- each of these is so once all before it were made
abbrev pub AreForOpen : PlainStreams → List Outgoing → Type 0
AreForOpen streams [] = ⊤
AreForOpen streams (item ∷ items) = IsForOpen streams item × AreForOpen (streams_with streams item) items

pub after-append : (streams : PlainStreams) (xs ys : List Outgoing) → streams_after streams (xs ++ ys) ≡ streams_after (streams_after streams xs) ys
after-append streams [] ys = refl
after-append streams (x ∷ xs) ys = after-append (streams_with streams x) xs ys

pub open_push : (streams : PlainStreams) (items : List Outgoing) (item : Outgoing) → AreForOpen streams items → IsForOpen (streams_after streams items) item → AreForOpen streams (items ++ item ∷ [])
open_push streams [] item are is = (is, tt)
open_push streams (first ∷ items) item are is = (are.0, open_push (streams_with streams first) items item are.1 is)

pub open_rest : (streams : PlainStreams) (xs ys : List Outgoing) → AreForOpen streams (xs ++ ys) → AreForOpen (streams_after streams xs) ys
open_rest streams [] ys are = are
open_rest streams (x ∷ xs) ys are = open_rest (streams_with streams x) xs ys are.1

pub open_front : (streams : PlainStreams) (xs ys : List Outgoing) → AreForOpen streams (xs ++ ys) → AreForOpen streams xs
open_front streams [] ys are = tt
open_front streams (x ∷ xs) ys are = (are.0, open_front (streams_with streams x) xs ys are.1)
