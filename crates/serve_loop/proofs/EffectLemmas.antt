-- What was added for a request, as one call of a session follows the other.
use Rattle.std.proofs.Common.{◌≡◌, ◌≢◌, ℕ, true, cond, List, [], ◌∷◌, ◌++◌, Option, Some, None, ◌⊎◌, refl, sym, ◌∙◌, ap, subst, append_assoc, append-nil, inl, inr}
use Rattle.std.specs.BTreeMap.{IsUnchanged, is_at}
use Rattle.std.specs.Map.{lookup}
use Rattle.std.specs.Ordering.{nat_cmp}
use Rattle.std.specs.Prelude.{OnErr, OnOk, Result, Ok, Err, bytes_eq}
use Rattle.std.specs.Option.{option_to_list}
use Rattle.std.proofs.lemmas.Slice.Eq.{bytes_eq-Decides}
use Rattle.std.specs.Arc.{arc_value}
use Rattle.parked_gate.specs.Histories.{Appends, StartsWith}
use Rattle.parked_gate.specs.Passes.{Calls, GateId, Grows, Known, Looks, gate_of, known}
use Rattle.session_journal.specs.declared.entry.Entry as journal
use Rattle.session_table.specs.declared.entry.Entry as table
use Rattle.session_table.specs.declared.handle.SessionHandle.{SessionHandle}
use Rattle.session_table.specs.declared.purse.Purse.{Purse}
use Rattle.session_table.specs.Handles.{IsOfSame}
use Rattle.session_table.specs.History.{live_at}
use Rattle.session_table.specs.Keeping.{session_of}
use Rattle.session_table.specs.Purses.{Comes, IsFound, KeepsLive, OthersStay, Sessions, StaysOrComes, WasAsked, held, own_entries}
use Rattle.serve_loop.specs.Effects.{AddsNothing, CallsOne, ComesBy, DropsRemoved, FindsAtMost, GoesOn, IsLast, IsNew}

pub others_on : (number : ℕ) (a b c : Sessions) → OthersStay number a b → OthersStay number b c → OthersStay number a c
others_on number a b c first then_ other apart = then_ other apart ∙ first other apart

-- a handle of the session of this name made its entries
pub own_is : (sid : List ℕ) (x : SessionHandle) → x.sid ≡ sid → own_entries sid (Some x) ≡ (known x.pass).mine
own_is sid x named = ap (λ b. cond b (known x.pass).mine []) ((bytes_eq-Decides x.sid sid).1 named)

-- what is known of the directory, which is as it was
pub grows_to : (old now after : Purse) → Grows (known old.directory) (known now.directory) → after.directory ≡ now.directory → Grows (known old.directory) (known after.directory)
grows_to old now after grows is = subst (λ p. Grows (known old.directory) (known p)) (sym is) grows

-- ---- a handle goes on from another

pub starts_on : {A : Type 0} (xs ys zs : List A) → StartsWith ys xs → StartsWith zs ys → StartsWith zs xs
starts_on xs ys zs (more, is) (rest, later) = (more ++ rest, later ∙ (ap (λ l. l ++ rest) is ∙ append_assoc xs more rest))

pub starts_after : {E : Type 0} (caller_of : E → ℕ) (number : ℕ) (seen before after : List E) (made : Option E) → StartsWith before seen → Appends caller_of number before made after → StartsWith after seen
starts_after caller_of number seen before after None (rest, is) same = (rest, same ∙ is)
starts_after caller_of number seen before after (Some e) (rest, is) added = (rest ++ e ∷ [], added.0 ∙ (ap (λ l. l ++ e ∷ []) is ∙ append_assoc seen rest (e ∷ [])))

pub goes_still : (x : SessionHandle) → GoesOn x x
goes_still x = record { of_same = record { sid = refl; number = refl; gate = refl }; pass_number = refl; seen = ([], sym (append-nil (known x.pass).seen)) }

pub goes_call : {Says : List journal.Entry → Option journal.Entry → Type 0} (x y : SessionHandle) → IsOfSame x y → (known y.pass).number ≡ (known x.pass).number
    → Calls (λ e. e.caller) Says (known x.pass) (known y.pass) → GoesOn x y
goes_call x y of_same pass_number call = record {
  of_same = of_same;
  pass_number = pass_number;
  seen = starts_after (λ (e : journal.Entry). e.caller) (known x.pass).number (known x.pass).seen call.before (known y.pass).seen call.made call.begins call.seen;
}

pub goes_look : {Says : List journal.Entry → Type 0} (x y : SessionHandle) → IsOfSame x y → (known y.pass).number ≡ (known x.pass).number → Looks Says (known x.pass) (known y.pass) → GoesOn x y
goes_look x y of_same pass_number look = record { of_same = of_same; pass_number = pass_number; seen = look.begins }

pub goes_further : (x y z : SessionHandle) → GoesOn x y → GoesOn y z → GoesOn x z
goes_further x y z first later = record {
  of_same = record {
    sid = later.of_same.sid ∙ first.of_same.sid;
    number = later.of_same.number ∙ first.of_same.number;
    gate = later.of_same.gate ∙ first.of_same.gate;
  };
  pass_number = later.pass_number ∙ first.pass_number;
  seen = starts_on (known x.pass).seen (known y.pass).seen (known z.pass).seen first.seen later.seen;
}

pub same_session : (x y : SessionHandle) → IsOfSame x y → session_of y ≡ session_of x
same_session x y is =
    ap (λ t. record { sid = t; number = y.number; gate = gate_of (arc_value y.gate) }) is.sid
    ∙ (ap (λ n. record { sid = x.sid; number = n; gate = gate_of (arc_value y.gate) }) is.number
    ∙ ap (λ (g : GateId). record { sid = x.sid; number = x.number; gate = g }) is.gate)

-- a new one that goes on has come the same way
comes_further : (k : Known table.Entry) (number : ℕ) (before : Option SessionHandle) (x z : SessionHandle) → ComesBy k number before x → GoesOn x z → ComesBy k number before z
comes_further k number before x z (inl (first, was, on)) further = inl (first, was, goes_further first x z on further)
comes_further k number before x z (inr new) further = inr (record {
  none = λ other was same. new.none other was (same ∙ further.of_same.sid);
  numbered = further.of_same.number ∙ new.numbered;
  live = ap (live_at k.seen) further.of_same.sid ∙ (new.live ∙ ap Some (sym (same_session x z further.of_same)));
})

-- and so it has where the directory stays
comes_beside : (old now after : Purse) (number : ℕ) (z : SessionHandle) → after.directory ≡ now.directory → ComesBy (known now.directory) number (held old.sessions number) z
    → ComesBy (known after.directory) number (held old.sessions number) z
comes_beside old now after number z same comes = subst (λ p. ComesBy (known p) number (held old.sessions number) z) (sym same) comes

some_same : {A : Type 0} (x y : A) → Some x ≡ Some y → x ≡ y
some_same x y same = cc

-- ---- what was called

-- a session was found, called, and is held so, or was let go
pub calls_one : (old now after : Purse) (number : ℕ) (sid : List ℕ) (x z : SessionHandle) (made : List journal.Entry) → FindsAtMost old now number sid → GoesOn x z
    → held now.sessions number ≡ Some x → x.sid ≡ sid → z.sid ≡ sid → (known z.pass).mine ≡ (known x.pass).mine ++ made
    → IsLast after.sessions number z → OthersStay number now.sessions after.sessions → after.directory ≡ now.directory → CallsOne old after number z made
calls_one old now after number sid x z made found on is x_named z_named mine last others directory = record {
  comes = comes_beside old now after number z directory (comes_further (known now.directory) number (held old.sessions number) x z (found.comes x is) on);
  mine = mine ∙ ap (λ (l : List journal.Entry). l ++ made)
      (sym (own_is sid x x_named) ∙ (ap (own_entries sid) (sym is) ∙ (found.own ∙ ap (λ s. own_entries s (held old.sessions number)) (sym z_named))));
  last = last;
  others = others_on number old.sessions now.sessions after.sessions found.others others;
  directory = grows_to old now after found.directory directory;
}

-- the session is called once more
pub calls_on : (old now after : Purse) (number : ℕ) (x z : SessionHandle) (was made : List journal.Entry) → CallsOne old now number x was → GoesOn x z
    → z.sid ≡ x.sid → (known z.pass).mine ≡ (known x.pass).mine ++ made
    → IsLast after.sessions number z → OthersStay number now.sessions after.sessions → after.directory ≡ now.directory → CallsOne old after number z (was ++ made)
calls_on old now after number x z was made called on named mine last others directory = record {
  comes = comes_beside old now after number z directory (comes_further (known now.directory) number (held old.sessions number) x z called.comes on);
  mine = mine ∙ (ap (λ (l : List journal.Entry). l ++ made) called.mine
      ∙ (append_assoc (own_entries x.sid (held old.sessions number)) was made ∙ ap (λ s. own_entries s (held old.sessions number) ++ (was ++ made)) (sym named)));
  last = last;
  others = others_on number old.sessions now.sessions after.sessions called.others others;
  directory = grows_to old now after called.directory directory;
}

-- where nothing was done, nothing was added
pub grows_none : (k : Known table.Entry) → Grows k k
grows_none k = record { number = refl; begins = ([], sym (append-nil k.seen)); mine = refl; earlier = []; learnt = sym (append-nil k.learnt) }

pub unchanged_one : (old new : Sessions) (number : ℕ) → IsUnchanged old new → held new number ≡ held old number
unchanged_one old new number same = ap (lookup (is_at (nat_cmp number))) same

pub adds_nothing : (old new : Purse) → IsUnchanged old.sessions new.sessions → Grows (known old.directory) (known new.directory) → AddsNothing old new
adds_nothing old new same grows = (
  0,
  [],
  record {
    comes = λ x is. inl (x, sym (unchanged_one old.sessions new.sessions 0 same) ∙ is, goes_still x);
    own = ap (own_entries []) (unchanged_one old.sessions new.sessions 0 same);
    others = λ other apart. unchanged_one old.sessions new.sessions other same;
    directory = grows;
  },
)

pub adds_nothing_same : (old new : Purse) → new ≡ old → AddsNothing old new
adds_nothing_same old new same =
    subst (AddsNothing old) (sym same)
    (0, [], record { comes = λ x is. inl (x, is, goes_still x); own = refl; others = λ other apart. refl; directory = grows_none (known old.directory) })

-- a handle that was found is the one that was held, or is new
found_comes : (k : Known table.Entry) (old new : Sessions) (number : ℕ) (sid : List ℕ) (x : SessionHandle) → x.sid ≡ sid → held new number ≡ Some x → StaysOrComes k.seen old new number sid
    → ComesBy k number (held old number) x
found_comes k old new number sid x named is (inl same) = inl (x, sym same ∙ is, goes_still x)
found_comes k old new number sid x named is (inr came) =
    let it : came.handle ≡ x = some_same came.handle x (sym came.is ∙ is) in
    inr (record {
      none = λ other was same. came.none other was (same ∙ named);
      numbered = ap (λ (h : SessionHandle). h.number) (sym it) ∙ came.numbered;
      live = ap (live_at k.seen) named ∙ (came.live ∙ ap (λ (h : SessionHandle). Some (session_of h)) it);
    })

pub finds_at_most : (old new : Purse) (number : ℕ) (sid : List ℕ) → IsFound old.sessions new.sessions number sid
    → StaysOrComes (known new.directory).seen old.sessions new.sessions number sid → Grows (known old.directory) (known new.directory) → FindsAtMost old new number sid
finds_at_most old new number sid found kept grows = record {
  comes = λ x is. found_comes (known new.directory) old.sessions new.sessions number sid x
      (subst (λ (h : SessionHandle). h.sid ≡ sid) (some_same found.holds.handle x (sym found.holds.is ∙ is)) found.holds.named) is kept;
  own = found.own;
  others = found.others;
  directory = grows;
}

-- a session that was found was called, and made nothing
pub called_for_nothing : (old now after : Purse) (number : ℕ) (sid : List ℕ) (x y : SessionHandle) → FindsAtMost old now number sid → GoesOn x y → held now.sessions number ≡ Some x
    → held after.sessions number ≡ Some y → y.sid ≡ x.sid → (known y.pass).mine ≡ (known x.pass).mine → OthersStay number now.sessions after.sessions
    → after.directory ≡ now.directory → AddsNothing old after
called_for_nothing old now after number sid x y found on was is named mine others directory = (
  number,
  sid,
  record {
    comes = λ h there. subst (ComesBy (known after.directory) number (held old.sessions number)) (some_same y h (sym is ∙ there))
        (comes_beside old now after number y directory (comes_further (known now.directory) number (held old.sessions number) x y (found.comes x was) on));
    own = ap (own_entries sid) is ∙ (same_own ∙ (ap (own_entries sid) (sym was) ∙ found.own));
    others = others_on number old.sessions now.sessions after.sessions found.others others;
    directory = grows_to old now after found.directory directory;
  },
)
  where
    same_own : own_entries sid (Some y) ≡ own_entries sid (Some x)
    same_own = ap (λ s. cond (bytes_eq s sid) (known y.pass).mine []) named ∙ ap (λ (l : List journal.Entry). cond (bytes_eq x.sid sid) l []) mine

-- the first look at the directory
pub drops_removed : {E : Type 0} (old new : Purse) (r : Result (Unit {0}) E) → Grows (known old.directory) (known new.directory)
    → WasAsked (known old.directory) (known new.directory)
    → OnOk r (KeepsLive (known new.directory).seen old.sessions new.sessions) → OnErr r (IsUnchanged old.sessions new.sessions) → DropsRemoved old new
drops_removed old new (Ok done) grows asked live kept = record { directory = grows; asked = asked; sessions = inl live }
drops_removed old new (Err error) grows asked live kept = record { directory = grows; asked = asked; sessions = inr kept }
