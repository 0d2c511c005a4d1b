-- What a session holds once one more copy was processed.
use Rattle.std.proofs.Common.{◌≡◌, ℕ, suc, zero, ◌+◌, ◌≤◌, ◌==◌, Bool, false, List, [], ◌∷◌, ◌++◌, map, length, drop, refl, sym, ◌∙◌, ap, ap₂, arith, append_assoc, add-one, length-append}
use Rattle.std.proofs.lemmas.Bool.Decides.{nat_tests}
use Rattle.pause_rules.specs.declared.mark.Mark.{Mark}
use Rattle.session_core.specs.declared.held.HeldRequest.{HeldRequest}
use Rattle.session_core.specs.declared.copy.RequestCopy.{RequestCopy}
use Rattle.session_core.specs.Copy.{id_of, is_poll}
use Rattle.session_core.specs.Processed.{Processed, copies_of, items_of, items_of_all}
use Rattle.session_core.specs.Rules.{mark_of}
use Rattle.session_core.specs.StandsFor.{AreFrom, HoldsRun, HoldsLast, HoldsInward, held_of}
use Rattle.session_core.specs.State.{Answered, last_from}

module _ {X : Type 0} where
  pub last_from-push : (first : X) (xs : List X) (x : X) → last_from first (xs ++ x ∷ []) ≡ x
  last_from-push first [] x = refl
  last_from-push first (y ∷ ys) x = last_from-push y ys x

  pub AreFrom-push : (id : X → ℕ) (rid : ℕ) (xs : List X) (x : X) → AreFrom id rid xs → id x ≡ rid + length xs → AreFrom id rid (xs ++ x ∷ [])
  AreFrom-push id rid [] x are is = (omega (arith, is), tt)
  AreFrom-push id rid (y ∷ ys) x are is =
      let next : id x ≡ rid + 1 + length ys = omega (arith, is, add-one (length ys)) in
      (are.0, AreFrom-push id (rid + 1) ys x are.1 next)

  -- one more stands last in what is left
  pub drop-push : (n : ℕ) (xs : List X) (x : X) → n ≤ length xs → drop n (xs ++ x ∷ []) ≡ drop n xs ++ x ∷ []
  drop-push zero xs x within = refl
  drop-push (suc n) [] x within = absurd (omega arith)
  drop-push (suc n) (y ∷ ys) x within = drop-push n ys x (omega arith)

pub map-push : {X Y : Type 0} (f : X → Y) (xs : List X) (x : X) → map f (xs ++ x ∷ []) ≡ map f xs ++ f x ∷ []
map-push f [] x = refl
map-push f (y ∷ ys) x = ap (λ rest. f y ∷ rest) (map-push f ys x)

pub length-push : {X : Type 0} (xs : List X) (x : X) → length (xs ++ x ∷ []) ≡ length xs + 1
length-push xs x = length-append xs (x ∷ [])

pub items_of_all-push : (copies : List Processed) (copy : Processed) → items_of_all (copies ++ copy ∷ []) ≡ items_of_all copies ++ items_of copy
items_of_all-push [] copy = append-end (items_of copy)
  where
    append-end : {X : Type 0} (xs : List X) → xs ++ [] ≡ xs
    append-end [] = refl
    append-end (x ∷ xs) = ap (λ rest. x ∷ rest) (append-end xs)
items_of_all-push (first ∷ copies) copy =
    ap (λ rest. items_of first ++ rest) (items_of_all-push copies copy) ∙ sym (append_assoc (items_of first) (items_of_all copies) (items_of copy))

pub drop-append_within : {X : Type 0} (n : ℕ) (xs ys : List X) → n ≤ length xs → drop n (xs ++ ys) ≡ drop n xs ++ ys
drop-append_within zero xs ys within = refl
drop-append_within (suc n) [] ys within = absurd (omega arith)
drop-append_within (suc n) (x ∷ xs) ys within = drop-append_within n xs ys (omega arith)

module _ {last answered : ℕ} {held : List HeldRequest} {creation : RequestCopy} {processed : List Processed} {answers : List Answered} where
  pub run-push : (copy : Processed) → HoldsRun last answered held creation processed answers → id_of copy.copy ≡ last + 1
      → HoldsRun (id_of copy.copy) answered (held ++ held_of copy ∷ []) creation (processed ++ copy ∷ []) answers
  run-push copy h next = record {
    last_is = omega (arith, next, h.last_is, length-push processed copy);
    answered_is = h.answered_is;
    within = omega (arith, h.within, length-push processed copy);
    held_is =
        ap (λ requests. requests ++ held_of copy ∷ []) h.held_is
        ∙ sym (map-push held_of (drop (length answers) processed) copy)
        ∙ ap (map held_of) (sym (drop-push (length answers) processed copy h.within));
    ids = AreFrom-push (λ one. id_of one.copy) (id_of creation + 1) processed copy h.ids (omega (arith, next, h.last_is));
  }

pub latest-push : {latest : Mark} {last_given : ℕ} {bare : Bool} {creation : RequestCopy} {processed : List Processed} {created : Answered} {answers : List Answered} (copy : Processed)
    → HoldsLast latest last_given bare creation processed created answers
    → HoldsLast (mark_of copy.copy) last_given bare creation (processed ++ copy ∷ []) created answers
latest-push {creation = creation} {processed = processed} copy h = record {
  latest_is =
      let same : last_from creation (copies_of (processed ++ copy ∷ [])) ≡ copy.copy =
      ap (last_from creation) (map-push (λ one. one.copy) processed copy) ∙ last_from-push creation (copies_of processed) copy.copy in
      let some : (length (processed ++ copy ∷ []) == 0) ≡ false = grind (arith, nat_tests, length-push processed copy) in
      ap₂ (λ (c : RequestCopy) (b : Bool). record { arrived = c.arrived; empty = is_poll c; creation = b; bare = false }) (sym same) (sym some);
  given_is = h.given_is;
  bare_is = h.bare_is;
}

pub inward-push : {queue : List _} {passed : ℕ} {run : List Processed} (copy : Processed) → HoldsInward queue passed run
    → HoldsInward (queue ++ items_of copy) passed (run ++ copy ∷ [])
inward-push {passed = passed} {run = run} copy h = record {
  queue_is =
      ap (λ items. items ++ items_of copy) h.queue_is
      ∙ sym (drop-append_within passed (items_of_all run) (items_of copy) h.within)
      ∙ ap (drop passed) (sym (items_of_all-push run copy));
  within =
      let all : length (items_of_all (run ++ copy ∷ [])) ≡ length (items_of_all run) + length (items_of copy) =
      ap length (items_of_all-push run copy) ∙ length-append (items_of_all run) (items_of copy) in
      omega (arith, h.within, all);
}
