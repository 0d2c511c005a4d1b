use Rattle.std.proofs.Common.{◌≡◌, suc, ◌+◌, ◌≤◌, [], ◌∷◌, ◌++◌, Some, length, take, arith, sym, ◌∙◌, ap, length-append}
use Rattle.std.specs.List.{slice_get}
use Rattle.std.specs.Option.{option_copied}
use Rattle.reply_keep.proofs.Ring.{keep_all, length-take_le, take_one_more}
use Rattle.reply_keep.proofs.keep.copy_places.Goals as goal

pub each-preserved : goal.each-preserved
each-preserved c =
    let places = c.args.places.now.items in
    let copy = c.in_ok-copy_in-in-Some.field-0 in
    let copied = c.each.copies.items in
    let got : slice_get places c.each.index ≡ Some c.in-Some.place.now = sym c.get.ensures ∙ ap option_copied c.in-Some.is in
    let room : length (copied ++ copy ∷ []) ≤ c.each.copies.capacity =
    omega (arith, length-append copied (copy ∷ []), ap length c.each.invariant.0, length-take_le c.each.index places, c.each.invariant.1, c.requires, c.len-index-end.ensures.len, c.each-test.true) in
    let more : c.push_back.new.self.items ≡ copied ++ copy ∷ [] =
    ap (λ ring. ring.items) c.push_back.ensures.items ∙ keep_all c.each.copies.capacity (copied ++ copy ∷ []) room in
    let next : suc c.each.index ≡ c.each.index + 1 = omega arith in (
      more ∙ ap (λ l. l ++ copy ∷ []) c.each.invariant.0 ∙ ap (λ x. take c.each.index places ++ x ∷ []) c.in_ok-copy_in-in-Some.ensures
          ∙ sym (take_one_more places c.each.index c.in-Some.place.now got) ∙ ap (λ n. take n places) next,
      ap (λ ring. ring.capacity) c.push_back.ensures.items ∙ c.each.invariant.1,
    )
