use Rattle.std.proofs.Common.{◌≡◌, ◌∷◌, [], ◌++◌, ◌+◌, ◌<◌, ◌∙◌, ap, sym, subst, arith, refl, length}
use Rattle.std.proofs.lemmas.List.{length-append}
use Rattle.xmpp_backend.specs.Dues.{IsSound, bytes_of, held_by, place_on}
use Rattle.xmpp_backend.proofs.DuesLemmas.{dues, dues_same, kept_place, sound_kept}
use Rattle.xmpp_backend.proofs.dues.Dues.keep.Goals as goal

pub invariant_of-self : goal.invariant_of-self
invariant_of-self c =
    let room : 0 < c.self.inside.reserved = subst (λ s. 0 < s.room) (sym c.self.view_is) c.requires.room in
    let lengths = length-append c.self.inside.kept.items (c.new.result ∷ []) in
    let place = kept_place c.args.wire c.requires.place.0 (dues c.self.inside.wires (held_by [] c.self.inside.asked.items) c.self.inside.owed.items c.self.inside.kept.items) (ap (λ s. place_on c.args.wire c.requires.place.0 s.dues) c.self.view_is ∙ c.requires.place.1) in (
      subst (IsSound c.keep_one.new.holds)
          (sym (dues_same _ _ _ _ _ _ _ _ refl refl refl c.push_back_reserved.ensures.items))
          (sound_kept c.args.wire _ _ _ _ c.new.result c.self.invariant.0 (ap (λ due. due.0) c.new.ensures) (c.len.ensures ∙ sym (ap (λ due. bytes_of due.1) c.new.ensures))
          place.0 place.1 c.keep_one.ensures.kept c.keep_one.ensures.others),
      rw c.push_back_reserved.ensures.items (omega (arith, lengths, c.self.invariant.1, room)),
      rw (c.push_back_reserved.ensures.items, c.push_back_reserved.ensures.capacity) (omega (arith, lengths, c.self.invariant.2, room)),
    )
