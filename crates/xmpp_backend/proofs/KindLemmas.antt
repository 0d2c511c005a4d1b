-- What the kinds owe are stanzas, and what they tell of an item that was passed.
use Rattle.std.proofs.Common.{◌≡◌, ℕ, List, [], ◌∷◌, length, Some, true, false, refl, ap, ◌∙◌, if◌then◌else◌}
use Rattle.body_cutter.proofs.Rows.{cuts_compute}
use Rattle.body_cutter.specs.Cutting.{is_stanza}
use Rattle.bosh_types.specs.declared.inward.Inward.{Inward}
use Rattle.xmpp_backend.specs.Dues.{Dues, OwedText, owes, owes_all, place_on, put_at}
use Rattle.xmpp_backend.specs.Kinds.{features}
use Rattle.xmpp_backend.specs.Owing.{Owing, passed_for, told_of}
use Rattle.xmpp_backend.specs.Told.{passed_too, told_with}
use Rattle.xmpp_backend.specs.declared.hold.Place.{Place}
use Rattle.xmpp_backend.specs.declared.hold.Place.TheVariants as places

pub features-stanza : is_stanza features ≡ true
unfolding cuts_compute features
features-stanza = refl

-- what is put on wires holds none of them, and resumes none
put_held : (place : Place) (wire : ℕ) (text : List ℕ) (d : Dues) → (put_at place wire text d).held ≡ d.held
put_held places.Nowhere wire text d = refl
put_held places.Owed wire text d = refl
put_held places.Kept wire text d = refl
put_held places.Refused wire text d = refl

owes_held : (stanzas : List OwedText) (d : Dues) → (owes_all stanzas d).held ≡ d.held
owes_held [] d = refl
owes_held (stanza ∷ stanzas) d = owes_held stanzas (owes stanza d) ∙ put_held (place_on stanza.0 (length stanza.1) d) stanza.0 stanza.1 d

pub passed_told : (old new : Owing) (wire : ℕ) (item : Inward) (stanzas : List OwedText) → new ≡ passed_for wire item stanzas old
    → Some (told_of new) ≡ Some (passed_too wire item (told_of old))
passed_told old new wire item stanzas is =
    ap (λ owing. Some (told_of owing)) is ∙ ap (λ held. Some (told_with held (passed_for wire item stanzas old).done)) (owes_held stanzas old.dues)
