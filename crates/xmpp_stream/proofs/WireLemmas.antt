-- What each call keeps of what was written on a wire.
use Rattle.std.proofs.Common.{◌≡◌, ◌≤◌, ◌∙◌, ℕ, Bool, true, false, List, [], ◌∷◌, ◌++◌, length, take, drop, refl, sym, ap, subst, append_assoc, append-nil}
use Rattle.std.specs.Prelude.{Option, None, Some}
use Rattle.std.specs.Io.KnownBytes.{Appends, Keeps}
use Rattle.std.proofs.lemmas.List.{take-append-drop}
use Rattle.bosh_ports.specs.Sink.{Gives}
use Rattle.bosh_ports.specs.declared.sink.Gave.{Gave}
use Rattle.bosh_ports.specs.declared.sink.Gave.TheVariants.{Wrote, Failed}
use Rattle.bosh_types.specs.declared.inward.Inward.{Inward}
use Rattle.xmpp_stream.specs.Text.{end_tag, end_text, header, item_text, items_text, stream_text}
use Rattle.xmpp_stream.specs.Wire.{IsWritten, Outgoing}

appends_none : (start : Option (List ℕ)) → Appends start start []
appends_none None = tt
appends_none (Some xs) = sym (append-nil xs)

appends_more : (start old new : Option (List ℕ)) (out more : List ℕ) → Appends start old out → Appends old new more → Appends start new (out ++ more)
appends_more None old new out more a b = tt
appends_more (Some xs) None new out more a b = absurd a
appends_more (Some xs) (Some ys) None out more a b = absurd b
appends_more (Some xs) (Some ys) (Some zs) out more a b = b ∙ ap (λ (t : List ℕ). t ++ more) a ∙ append_assoc xs out more

appends_kept : (start old new : Option (List ℕ)) (out : List ℕ) → Appends start old out → Keeps old new → Appends start new out
appends_kept None old new out a k = tt
appends_kept (Some xs) None new out a k = absurd a
appends_kept (Some xs) (Some ys) None out a k = absurd k
appends_kept (Some xs) (Some ys) (Some zs) out a k = k ∙ a

items_more : (to : List ℕ) (passed : List Inward) (item : Inward) → items_text to (passed ++ item ∷ []) ≡ items_text to passed ++ item_text to item
items_more to [] item = append-nil (item_text to item)
items_more to (first ∷ passed) item =
    ap (λ (t : List ℕ). item_text to first ++ t) (items_more to passed item) ∙ sym (append_assoc (item_text to first) (items_text to passed) (item_text to item))

-- the text of a stream that isn't closed
open_text : (to : List ℕ) (passed : List Inward) (closed : Bool) → closed ≡ false → stream_text to passed closed ≡ header to ++ items_text to passed
open_text to passed closed e =
    ap (λ (b : Bool). header to ++ (items_text to passed ++ end_text b)) e ∙ ap (λ (t : List ℕ). header to ++ t) (append-nil (items_text to passed))

-- a header is owed
pub written_first : (start : Option (List ℕ)) (to : List ℕ) (outgoing : Outgoing) → outgoing.to ≡ to → outgoing.owed ≡ header to → outgoing.closed ≡ false → IsWritten start start outgoing []
written_first start to outgoing t o c = record {
  out = [];
  appends = appends_none start;
  text = o ∙ ap header (sym t) ∙ sym (append-nil (header outgoing.to)) ∙ sym (open_text outgoing.to [] outgoing.closed c);
}

module _ {start given : Option (List ℕ)} {old : Outgoing} {passed : List Inward} (h : IsWritten start given old passed) where
  -- what is put to what is owed
  longer : (more : List ℕ) → old.closed ≡ false → h.out ++ (old.owed ++ more) ≡ (header old.to ++ items_text old.to passed) ++ more
  longer more c = sym (append_assoc h.out old.owed more) ∙ ap (λ (t : List ℕ). t ++ more) (h.text ∙ open_text old.to passed old.closed c)

  pub written_item : (item : Inward) (new : Outgoing) → old.closed ≡ false → new ≡ record old { owed = old.owed ++ item_text old.to item } → IsWritten start given new (passed ++ item ∷ [])
  written_item item new c is = subst (λ (o : Outgoing). IsWritten start given o (passed ++ item ∷ [])) (sym is) (record {
    out = h.out;
    appends = h.appends;
    text = longer (item_text old.to item) c ∙ append_assoc (header old.to) (items_text old.to passed) (item_text old.to item)
        ∙ ap (λ (t : List ℕ). header old.to ++ t) (sym (items_more old.to passed item)) ∙ sym (open_text old.to (passed ++ item ∷ []) old.closed c);
  })

  pub written_end : (new : Outgoing) → old.closed ≡ false → new ≡ record { to = old.to; owed = old.owed ++ end_tag; closed = true } → IsWritten start given new passed
  written_end new c is = subst (λ (o : Outgoing). IsWritten start given o passed) (sym is) (record {
    out = h.out;
    appends = h.appends;
    text = longer end_tag c ∙ append_assoc (header old.to) (items_text old.to passed) end_tag;
  })

  -- some of what is owed is given
  pub written_out : (after : Option (List ℕ)) (n : ℕ) (new : Outgoing) → Appends given after (take n old.owed) → new ≡ record old { owed = drop n old.owed } → IsWritten start after new passed
  written_out after n new a is = subst (λ (o : Outgoing). IsWritten start after o passed) (sym is) (record {
    out = h.out ++ take n old.owed;
    appends = appends_more start given after h.out (take n old.owed) h.appends a;
    text = append_assoc h.out (take n old.owed) (drop n old.owed) ∙ ap (λ (t : List ℕ). h.out ++ t) (take-append-drop n old.owed) ∙ h.text;
  })

  pub written_kept : (after : Option (List ℕ)) → Keeps given after → IsWritten start after old passed
  written_kept after k = record { out = h.out; appends = appends_kept start given after h.out h.appends k; text = h.text }

pub keeps_on : (a b c : Option (List ℕ)) → Keeps a b → Keeps b c → Keeps a c
keeps_on None b c x y = tt
keeps_on (Some a) None c x y = absurd x
keeps_on (Some a) (Some b) None x y = absurd y
keeps_on (Some a) (Some b) (Some c) x y = y ∙ x

pub keeps_same : (a : Option (List ℕ)) → Keeps a a
keeps_same None = tt
keeps_same (Some a) = refl

-- what a link took, by its answer
pub gave_wrote : (old new : Option (List ℕ)) (bytes : List ℕ) (gave : Gave) (count : ℕ) → gave ≡ Wrote count → Gives old new bytes gave → (1 ≤ count) × (count ≤ length bytes) × Appends old new (take count bytes)
gave_wrote old new bytes gave count e h = subst (λ (g : Gave). Gives old new bytes g) e h

pub gave_failed : (old new : Option (List ℕ)) (bytes : List ℕ) (gave : Gave) → gave ≡ Failed → Gives old new bytes gave → Keeps old new
gave_failed old new bytes gave e h = subst (λ (g : Gave). Gives old new bytes g) e h
