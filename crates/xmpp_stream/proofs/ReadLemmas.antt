-- What each call keeps of what was read on a wire.
use Rattle.std.proofs.Common.{◌≡◌, ◌∙◌, ℕ, List, [], ◌++◌, refl, sym, ap, subst, append_assoc, append-nil, ◌≤◌, ◌+◌, length, take, arith, length-append}
use Rattle.std.specs.Prelude.{Option, None, Some, IfNone, IfSome}
use Rattle.std.proofs.lemmas.List.{length-take}
use Rattle.std.specs.Io.KnownBytes.{Consumes, IsAtEnd, Keeps}
use Rattle.xmpp_stream.specs.declared.stream_cutter.StreamCutter.{StreamCutter}
use Rattle.xmpp_stream.specs.declared.incoming.Came.{Came}
use Rattle.xmpp_stream.specs.declared.incoming.Came.TheVariants as came
use Rattle.xmpp_stream.specs.Cut.{GivesNext, IsCut}
use Rattle.xmpp_stream.specs.Wire.{Comes, ComesNext, Incoming, IsRead, Stays, Steps, TakesAtLeast, WasTaken}

consumes_none : (start : Option (List ℕ)) → Consumes start start []
consumes_none None = tt
consumes_none (Some xs) = refl

consumes_more : (start old new : Option (List ℕ)) (xs ys : List ℕ) → Consumes start old xs → Consumes old new ys → Consumes start new (xs ++ ys)
consumes_more None old new xs ys a b = tt
consumes_more (Some s) None new xs ys a b = absurd a
consumes_more (Some s) (Some o) None xs ys a b = absurd b
consumes_more (Some s) (Some o) (Some n) xs ys a b = a ∙ ap (λ (t : List ℕ). xs ++ t) b ∙ sym (append_assoc xs ys n)

consumes_kept : (start old new : Option (List ℕ)) (xs : List ℕ) → Consumes start old xs → Keeps old new → Consumes start new xs
consumes_kept None old new xs a k = tt
consumes_kept (Some s) None new xs a k = absurd a
consumes_kept (Some s) (Some o) None xs a k = absurd k
consumes_kept (Some s) (Some o) (Some n) xs a k = a ∙ ap (λ (t : List ℕ). xs ++ t) (sym k)

all_taken : (start old : Option (List ℕ)) (xs : List ℕ) → Consumes start old xs → IsAtEnd old → IfSome start (λ bytes. bytes ≡ xs)
all_taken None old xs a e = tt
all_taken (Some s) None xs a e = absurd a
all_taken (Some s) (Some o) xs a e = a ∙ ap (λ (t : List ℕ). xs ++ t) e ∙ append-nil xs

-- bytes that are taken one after the other
pub took_none : (old : Option (List ℕ)) → TakesAtLeast 0 old old
took_none old = record { bytes = []; many = omega arith; consumes = consumes_none old }

pub took_more : (a b c : Option (List ℕ)) (n : ℕ) → TakesAtLeast n a b → TakesAtLeast 1 b c → TakesAtLeast (n + 1) a c
took_more a b c n x y = record {
  bytes = x.bytes ++ y.bytes;
  many = omega (arith, length-append x.bytes y.bytes, x.many, y.many);
  consumes = consumes_more a b c x.bytes y.bytes x.consumes y.consumes;
}

pub took_all : (a b : Option (List ℕ)) (n m : ℕ) → m ≤ n → TakesAtLeast n a b → TakesAtLeast m a b
took_all a b n m below x = record { bytes = x.bytes; many = omega (arith, x.many, below); consumes = x.consumes }

pub took_piece : (a b : Option (List ℕ)) (room : List ℕ) (n : ℕ) → 1 ≤ n → n ≤ length room → Consumes a b (take n room) → TakesAtLeast 1 a b
took_piece a b room n some within k = record { bytes = take n room; many = omega (arith, length-take n room, some, within); consumes = k }

-- nothing was taken yet
pub read_first : (start : Option (List ℕ)) (incoming : Incoming) → incoming.waiting ≡ [] → IsCut incoming.cutter [] [] → IsRead start start incoming []
read_first start incoming w c = record { fed = []; consumes = subst (Consumes start start) (sym w) (consumes_none start); cut = c }

module _ {start left : Option (List ℕ)} {old : Incoming} {elements : List (List ℕ)} (h : IsRead start left old elements) where
  -- what was taken is fed
  pub read_fed : (new : Incoming) → new.waiting ≡ [] → IsCut new.cutter (h.fed ++ old.waiting) elements → IsRead start left new elements
  read_fed new w c = record {
    fed = h.fed ++ old.waiting;
    consumes = subst (Consumes start left) (sym (append-nil (h.fed ++ old.waiting)) ∙ ap (λ (t : List ℕ). (h.fed ++ old.waiting) ++ t) (sym w)) h.consumes;
    cut = c;
  }

  -- the cutter stands for the same
  pub read_same : (new : Incoming) → new.waiting ≡ old.waiting → IsCut new.cutter h.fed elements → IsRead start left new elements
  read_same new w c = record { fed = h.fed; consumes = subst (λ (t : List ℕ). Consumes start left (h.fed ++ t)) (sym w) h.consumes; cut = c }

  -- the link has what it had
  pub read_on : (after : Option (List ℕ)) → Keeps left after → IsRead start after old elements
  read_on after k = record { fed = h.fed; consumes = consumes_kept start left after (h.fed ++ old.waiting) h.consumes k; cut = h.cut }

  -- no byte waits to be fed
  module _ (w : old.waiting ≡ []) where
    whole : Consumes start left h.fed
    whole = subst (Consumes start left) (ap (λ (t : List ℕ). h.fed ++ t) w ∙ append-nil h.fed) h.consumes

    pub read_was : (P : List ℕ → Type 0) → P h.fed → WasTaken start left P
    read_was P p = record { taken = h.fed; consumes = whole; holds = p }

    -- the next element
    pub read_next : (text : List ℕ) (new : Incoming) → new.waiting ≡ [] → GivesNext text new.cutter h.fed elements → ComesNext text start left new elements
    read_next text new n g = record {
      element = g.element;
      text_is = g.text_is;
      read = record { fed = h.fed; consumes = subst (λ (t : List ℕ). Consumes start left (h.fed ++ t)) (w ∙ sym n) h.consumes; cut = g.cut };
    }

    -- a piece is taken
    pub read_more : (after : Option (List ℕ)) (new : Incoming) → new.cutter ≡ old.cutter → Consumes left after new.waiting → IsRead start after new elements
    read_more after new c t = record {
      fed = h.fed;
      consumes = consumes_more start left after h.fed new.waiting whole t;
      cut = subst (λ (x : StreamCutter). IsCut x h.fed elements) (sym c) h.cut;
    }

    -- none is
    pub read_kept : (after : Option (List ℕ)) (new : Incoming) → new.cutter ≡ old.cutter → new.waiting ≡ [] → Keeps left after → IsRead start after new elements
    read_kept after new c n k = record {
      fed = h.fed;
      consumes = subst (λ (t : List ℕ). Consumes start after (h.fed ++ t)) (sym n) (subst (Consumes start after) (sym (append-nil h.fed)) (consumes_kept start left after h.fed whole k));
      cut = subst (λ (x : StreamCutter). IsCut x h.fed elements) (sym c) h.cut;
    }

    pub read_stays : (what : Came) (after : Option (List ℕ)) (new : Incoming) → new.cutter ≡ old.cutter → new.waiting ≡ [] → Stays what left after → Comes what start after new elements
    read_stays (came.Item text) after new c n k = absurd k
    read_stays (came.Closed error) after new c n k = absurd k
    read_stays (came.Broken place) after new c n k = absurd k
    read_stays came.NotYet after new c n k = read_kept after new c n k
    read_stays came.Busy after new c n k = absurd k
    read_stays came.End after new c n k =
        (read_kept after new c n k.0, record { taken = h.fed; consumes = consumes_kept start left after h.fed whole k.0; holds = all_taken start left h.fed whole k.1 })
    read_stays came.Failed after new c n k = read_kept after new c n k

    pub taken_steps : (after : Option (List ℕ)) (new : Incoming) → new.cutter ≡ old.cutter → (r : Option Came) → IfNone r (Consumes left after new.waiting) → IfSome r (λ what. Stays what left after × (new.waiting ≡ [])) → Steps r start after new elements
    taken_steps after new c None n s = read_more after new c n
    taken_steps after new c (Some what) n s = read_stays what after new c s.1 s.0
