-- What is kept in a room.
use Rattle.std.proofs.Common.{◌≡◌, ℕ, ◌+◌, ◌-◌, ◌≤◌, List, ◌++◌, length, take, drop, slice_range, sym, ◌∙◌, ap, ap₂, arith, take-add, drop-drop, length-take}
use Rattle.std.proofs.lemmas.List.{drop-take}

-- what is kept in a room whose front stayed
pub range_stays : (old new : List ℕ) (start end : ℕ) → start ≤ end → take end new ≡ take end old → slice_range new start end ≡ slice_range old start end
range_stays old new start end ordered same = sym (parts new) ∙ ap (drop start) same ∙ parts old
  where
    parts : (xs : List ℕ) → drop start (take end xs) ≡ slice_range xs start end
    parts xs = let size : end ≡ start + (end - start) = omega (arith, ordered) in ap (λ n. drop start (take n xs)) size ∙ drop-take start (end - start) xs

-- more stands behind it
pub range_more : (old new : List ℕ) (start end n : ℕ) → start ≤ end → take end new ≡ take end old → slice_range new start (end + n) ≡ slice_range old start end ++ take n (drop end new)
range_more old new start end n ordered same = parts new ∙ ap (λ kept. kept ++ take n (drop end new)) (range_stays old new start end ordered same)
  where
    parts : (xs : List ℕ) → slice_range xs start (end + n) ≡ slice_range xs start end ++ take n (drop end xs)
    parts xs =
        let size : end + n - start ≡ (end - start) + n = omega (arith, ordered) in
        let at : start + (end - start) ≡ end = omega (arith, ordered) in
        ap (λ m. take m (drop start xs)) size ∙ take-add (end - start) n (drop start xs)
        ∙ ap (λ l. slice_range xs start end ++ take n l) (drop-drop (end - start) start xs ∙ ap (λ m. drop m xs) at)

-- what is kept without its front
pub range_passed : (xs : List ℕ) (start end n : ℕ) → n ≤ length (slice_range xs start end) → slice_range xs (start + n) end ≡ drop n (slice_range xs start end)
range_passed xs start end n within =
    let fits : n ≤ end - start = omega (arith, within, length-take (end - start) (drop start xs)) in
    let less : end - (start + n) ≡ (end - start) - n = omega arith in
    let parts : end - start ≡ n + ((end - start) - n) = omega (arith, fits) in
    ap₂ (λ m l. take m l) less (sym (drop-drop n start xs)) ∙ sym (ap (λ m. drop n (take m (drop start xs))) parts ∙ drop-take n ((end - start) - n) (drop start xs))
