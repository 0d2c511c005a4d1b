use Rattle.std.proofs.Common.{◌∙◌, ◌≡◌, ◌+◌, ◌∷◌, ap, sym, subst, List, ℕ, Bool, arith, true, false}
use Rattle.std.specs.Prelude.{slice_get, slice_index_or}
use Rattle.stream_names.specs.Streams.{is_among}
use Rattle.stream_names.proofs.Numbers.{canonical_of, from, from_all, from_end, from_skipped, from_taken, mark_read, place_after, some_new}
use Rattle.stream_names.proofs.set.StreamSet.nth.Goals as goal
use Rattle.stream_names.proofs.set.StreamSet.nth.Goals.{then-self-from+else-before-eq0, else-self-from}

pub loop-number-init : goal.loop-number-init
loop-number-init c =
    ap (λ (xs : List ℕ). slice_get xs c.args.place) (from_all (is_among c.args.self.now) ∙ canonical_of c.self.inside.marks c.args.self.now c.self.view_is)

pub loop-number-preserved : goal.loop-number-preserved
loop-number-preserved c =
    let f : ℕ → Bool = is_among c.args.self.now in
    let n : ℕ = c.loop-number.number in
    let here : slice_index_or c.self.inside.marks c.from.result false ≡ f n =
    ap (λ (k : ℕ). slice_index_or c.self.inside.marks k false) c.from.ensures ∙ mark_read c.self.inside.marks c.args.self.now n c.self.view_is c.loop-number-test.true in
    elim c.if-self-from.branch [
      | then-self-from+else-before-eq0 w ↦
          ap (slice_get (from f (n + 1))) w.before-is ∙ sym (place_after (from f (n + 1)) n c.loop-number.before w.if-before-eq0.false)
          ∙ sym (ap (λ (xs : List ℕ). slice_get xs c.loop-number.before) (from_taken f n c.loop-number-test.true (sym here ∙ w.if-self-from.true))) ∙ c.loop-number.invariant
      | else-self-from w ↦
          ap (slice_get (from f (n + 1))) w.before-is
          ∙ sym (ap (λ (xs : List ℕ). slice_get xs c.loop-number.before) (from_skipped f n c.loop-number-test.true (sym here ∙ w.if-self-from.false))) ∙ c.loop-number.invariant
    ]

pub returns-then-before-eq0 : goal.returns-then-before-eq0
returns-then-before-eq0 c =
    let f : ℕ → Bool = is_among c.args.self.now in
    let n : ℕ = c.loop-number.number in
    let here : slice_index_or c.self.inside.marks c.from.result false ≡ f n =
    ap (λ (k : ℕ). slice_index_or c.self.inside.marks k false) c.from.ensures ∙ mark_read c.self.inside.marks c.args.self.now n c.self.view_is c.loop-number-test.true in
    let taken = from_taken f n c.loop-number-test.true (sym here ∙ c.if-self-from.true) in
    some_new c.new.result n c.new.ensures c.loop-number-test.true
    ∙ sym (ap (λ (xs : List ℕ). slice_get xs c.loop-number.before) taken ∙ ap (slice_get (n ∷ from f (n + 1))) c.if-before-eq0.true) ∙ c.loop-number.invariant

pub returns : goal.returns
returns c =
    ap (λ (xs : List ℕ). slice_get xs c.loop-number.before) (sym (from_end (is_among c.args.self.now) c.loop-number.number c.loop-number-test.false)) ∙ c.loop-number.invariant
