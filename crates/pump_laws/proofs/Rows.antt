-- What a wrong pump would leave is refused: an item that is passed twice, left out, out of order, on another wire, or by the spare; a stanza that
-- is given twice or lost.
use Rattle.std.proofs.Common.{◌≡◌, ◌≢◌, ℕ, List, [], ◌∷◌, ◌++◌, Option, Some, None, length, refl, sym, ap, subst, arith}
use Rattle.bosh_types.specs.declared.inward.Inward.{Inward}
use Rattle.bosh_types.specs.declared.inward.Inward.TheVariants.{Close, Item, Open, Restart}
use Rattle.std.specs.Prelude.{IfSome}
use Rattle.xmpp_backend.specs.Told.{on_wire}
use Rattle.session_pump.specs.Ends.{End, Ends}
use Rattle.session_pump.specs.declared.line.Stage.TheVariants as stages
use Rattle.pump_laws.specs.CallsMade.{carried}
use Rattle.pump_laws.specs.Handing.{GaveOf, IsIdle, ToldFor, gave_nothing, gave_these}
use Rattle.pump_laws.specs.InTurn.{Every, IsNothing}
use Rattle.pump_laws.specs.Passing.{PassedOf, is_no_more, is_open, isnt_opened}

abbrev first : Inward
first = Item 0 (49 ∷ [])

abbrev second : Inward
second = Restart 0

abbrev telling : List (ℕ × Inward) → End
telling passed = record {
  told = Some (record { opened = (8, 97 ∷ []) ∷ []; passed = passed; given = []; closed = []; held = [] });
  counts = record { faults = 0; idle = 0; answers = 0 };
}

-- a host whose back end was passed this, with a spare that was passed that
abbrev host : List (ℕ × Inward) → List (ℕ × Inward) → Ends
host passed by_spare = record { name = 97 ∷ []; standing = telling passed; spares = telling by_spare ∷ []; used = 0; failures = 0 }

-- on an open wire only the whole of what was taken is right, without the kept item
refuses : (all kept : List Inward) (passed : List (ℕ × Inward)) → (all ≡ on_wire 8 passed ++ kept → ⊥)
    → PassedOf 8 all (stages.Opened 0) kept (host passed []) → ⊥
refuses all kept passed wrong (isnt_opened is nothing whole) = absurd (cc)
refuses all kept passed wrong (is_open is spares says) = wrong says
refuses all kept passed wrong (is_no_more opened before one) = absurd (omega (arith, before 0 refl))

more_than : (xs ys : List Inward) → xs ≡ ys → length xs ≢ length ys → ⊥
more_than xs ys same apart = apart (ap length same)

-- an item that is passed twice
pub not_twice : PassedOf 8 (first ∷ []) (stages.Opened 0) [] (host ((8, first) ∷ (8, first) ∷ []) []) → ⊥
not_twice = refuses (first ∷ []) [] ((8, first) ∷ (8, first) ∷ []) (λ same. more_than (first ∷ []) (first ∷ first ∷ []) same (λ e. cc))

-- one that is left out
pub not_without_one : PassedOf 8 (first ∷ second ∷ []) (stages.Opened 0) [] (host ((8, second) ∷ []) []) → ⊥
not_without_one = refuses (first ∷ second ∷ []) [] ((8, second) ∷ []) (λ same. more_than (first ∷ second ∷ []) (second ∷ []) same (λ e. cc))

-- one that was passed and is kept all the same
pub not_kept_too : PassedOf 8 (first ∷ []) (stages.Opened 0) (first ∷ []) (host ((8, first) ∷ []) []) → ⊥
not_kept_too = refuses (first ∷ []) (first ∷ []) ((8, first) ∷ []) (λ same. more_than (first ∷ []) (first ∷ first ∷ []) same (λ e. cc))

-- on another wire
pub not_on_another : PassedOf 8 (first ∷ []) (stages.Opened 0) [] (host ((16, first) ∷ []) []) → ⊥
not_on_another = refuses (first ∷ []) [] ((16, first) ∷ []) (λ same. more_than (first ∷ []) [] same (λ e. cc))

-- in another order
pub not_turned_round : PassedOf 8 (first ∷ second ∷ []) (stages.Opened 0) [] (host ((8, second) ∷ (8, first) ∷ []) []) → ⊥
not_turned_round = refuses (first ∷ second ∷ []) [] ((8, second) ∷ (8, first) ∷ []) (λ same. absurd (cc))

heads : {A : Type 0} (x y : A) (xs ys : List A) → x ∷ xs ≡ y ∷ ys → x ≡ y
heads x y xs ys same = cc

tails : {A : Type 0} (x y : A) (xs ys : List A) → x ∷ xs ≡ y ∷ ys → xs ≡ ys
tails x y xs ys same = cc

something : (item : Inward) → item ∷ [] ≡ [] → ⊥
something item is = cc

-- and the spare goes on where the one before it failed
pub not_by_the_spare : PassedOf 8 (first ∷ second ∷ []) stages.Lost [] (host ((8, first) ∷ []) ((8, second) ∷ [])) → ⊥
not_by_the_spare (isnt_opened is nothing whole) = absurd (cc)
not_by_the_spare (is_open is spares says) = absurd (cc)
not_by_the_spare (is_no_more opened before one) = by one.earlier one.are one.none_earlier one.none_later
  where
    by : (earlier : List (Option (List Inward))) → Some (first ∷ []) ∷ Some (second ∷ []) ∷ [] ≡ earlier ++ one.one ∷ one.later → Every IsNothing earlier → Every IsNothing one.later → ⊥
    by [] are none_earlier none_later = something second (subst (Every IsNothing) (sym (tails _ _ _ _ are)) none_later).0
    by (x ∷ xs) are none_earlier none_later = something first (subst IsNothing (sym (heads _ _ _ _ are)) none_earlier.0)

-- ---- what is given

abbrev gave : List (List ℕ) → Option ToldFor
gave stanzas = Some (record { opened = 8 ∷ []; stanzas = stanzas })

busy : (a b : ToldFor) → Some a ≡ Some b → a.opened ≡ b.opened
busy a b same = cc

not_idle : (stanzas : List (List ℕ)) → IsIdle (gave stanzas) → ⊥
not_idle stanzas idle = some_wire 8 (busy (record { opened = 8 ∷ []; stanzas = stanzas }) (record { opened = []; stanzas = [] }) idle)
  where
    some_wire : (wire : ℕ) → wire ∷ [] ≡ [] → ⊥
    some_wire wire is = cc

-- once a wire is open, what the session was given and what is kept is what polls gave
gives_refuses : (all stanzas : List (List ℕ)) → (stanzas ≡ all ++ ([] ++ []) → ⊥) → GaveOf 8 all (stages.Opened 0) None None (gave stanzas ∷ []) → ⊥
gives_refuses all stanzas wrong (gave_nothing is idle none owes nobody) = absurd (cc)
gives_refuses all stanzas wrong (gave_these opened one) = by one.earlier one.one one.later one.are one.idle_earlier one.says
  where
    by : (earlier : List (Option ToldFor)) (o : Option ToldFor) (later : List (Option ToldFor)) → gave stanzas ∷ [] ≡ earlier ++ o ∷ later → Every IsIdle earlier
        → IfSome o (λ told. told.stanzas ≡ all ++ ([] ++ [])) → ⊥
    by [] o later are idle says = wrong (subst (λ x. IfSome x (λ told. told.stanzas ≡ all ++ ([] ++ []))) (sym (heads _ _ _ _ are)) says)
    by (z ∷ zs) o later are idle says = not_idle stanzas (subst IsIdle (sym (heads _ _ _ _ are)) idle.0)

more_stanzas : (xs ys : List (List ℕ)) → xs ≡ ys → length xs ≢ length ys → ⊥
more_stanzas xs ys same apart = apart (ap length same)

-- a stanza that is given to the session twice
pub not_given_twice : GaveOf 8 ((60 ∷ []) ∷ (60 ∷ []) ∷ []) (stages.Opened 0) None None (gave ((60 ∷ []) ∷ []) ∷ []) → ⊥
not_given_twice =
    gives_refuses ((60 ∷ []) ∷ (60 ∷ []) ∷ []) ((60 ∷ []) ∷ []) (λ same. more_stanzas ((60 ∷ []) ∷ []) ((60 ∷ []) ∷ (60 ∷ []) ∷ []) same (λ e. cc))

-- and one that is lost
pub not_lost : GaveOf 8 [] (stages.Opened 0) None None (gave ((60 ∷ []) ∷ []) ∷ []) → ⊥
not_lost = gives_refuses [] ((60 ∷ []) ∷ []) (λ same. more_stanzas ((60 ∷ []) ∷ []) [] same (λ e. cc))

-- ---- what is taken for each stream

abbrev both : List Inward
both = first ∷ Item 1 (50 ∷ []) ∷ Open 1 (97 ∷ []) ∷ Item 0 (51 ∷ []) ∷ Item 1 (51 ∷ []) ∷ Restart 1 ∷ Close 1 ∷ Item 0 (52 ∷ []) ∷ []

-- of stream 0 all its stanzas
zeroth_has_its_own : carried 0 both ≡ first ∷ Item 0 (51 ∷ []) ∷ Item 0 (52 ∷ []) ∷ []
zeroth_has_its_own = refl

-- of another stream those since it was opened, and neither its opening nor its closing
next_has_its_own : carried 1 both ≡ Item 1 (51 ∷ []) ∷ Restart 1 ∷ []
next_has_its_own = refl

-- and of one that wasn't opened none
unopened_has_none : carried 2 both ≡ []
unopened_has_none = refl

-- a stanza of stream 1 on the wire of stream 0
pub not_of_another_stream : PassedOf 8 (carried 0 both) (stages.Opened 0) [] (host ((8, first) ∷ (8, Item 0 (51 ∷ [])) ∷ (8, Item 1 (51 ∷ [])) ∷ (8, Item 0 (52 ∷ [])) ∷ []) []) → ⊥
not_of_another_stream =
    refuses (carried 0 both) [] ((8, first) ∷ (8, Item 0 (51 ∷ [])) ∷ (8, Item 1 (51 ∷ [])) ∷ (8, Item 0 (52 ∷ [])) ∷ [])
    (λ same. more_than (carried 0 both) (first ∷ Item 0 (51 ∷ []) ∷ Item 1 (51 ∷ []) ∷ Item 0 (52 ∷ []) ∷ []) same (λ e. cc))
