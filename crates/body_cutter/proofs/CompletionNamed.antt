-- Where the name of the body is ended, the reader has left the places before the body; and what a refusal tells of this.
use Rattle.std.proofs.Common.{◌≡◌, ◌∙◌, ◌+◌, ℕ, Bool, true, false, ◌||◌, List, [], ◌∷◌, refl, sym, ap, subst}
use Rattle.std.specs.Prelude.{◌↔◌, Option, None, Some, ◌==◌}
use Rattle.std.proofs.lemmas.Bool.{eqb-true}
use Rattle.body_cutter.specs.declared.place.Place.TheVariants.{Start, StanzaStart, Declaration, Prolog, BodyWord, Content as InContent, TagSpace, TagSlash}
use Rattle.body_cutter.specs.declared.place.Wide.{Wide}
use Rattle.body_cutter.specs.declared.place.Kind.{Kind}
use Rattle.body_cutter.specs.declared.place.Kind.TheVariants as kinds
use Rattle.body_cutter.specs.Chars.{is_space, is_char_byte, is_plain, wide_next}
use Rattle.body_cutter.specs.Tables.{start_next, first_next, declaration_word_next, xml_letter, declaration_next, prolog_next, body_word_next, body_letter, name_ended}
use Rattle.body_cutter.specs.Reader.{State, step, moved, next_move, place_next, move_of, first_state}
use Rattle.body_cutter.specs.Refusal.{Ended, Stopped, reading, is_before_body}
use Rattle.body_cutter.specs.Grammar.{Spaces, DeclarationRest, ends_declaration}
use Rattle.body_cutter.specs.Viable.{SpacedName, NamesBody, Anything, ends_name}
use Rattle.body_cutter.proofs.Control.{Control, control_of, advance, done}
use Rattle.body_cutter.proofs.Product.{Steps, step_follows}
use Rattle.body_cutter.proofs.Leads.{ctl}
use Rattle.body_cutter.proofs.Taken.{space_differs}
use Rattle.body_cutter.proofs.CompletionNames.{lands, lands_on, names_rest}
use Rattle.body_cutter.proofs.CompletionLater.{stays_later}

-- where the text leads, the places before the body are left
record Passes (kind : Kind) (c : Control) (text : List ℕ) : Type 0 where
  is : (d : Control) → lands kind c text ≡ Some d → is_before_body d.place ≡ false

some_same : {c d : Control} → Some c ≡ Some d → c ≡ d
some_same h = cc

none_some : {P : Type 0} {d : Control} → None ≡ Some d → P
none_some h = absurd (cc)

pass_by : (kind : Kind) (o : Option Control) (text : List ℕ) (d : Control) → ((next : Control) → o ≡ Some next → (e : Control) → lands kind next text ≡ Some e → is_before_body e.place ≡ false) → lands_on kind o text ≡ Some d → is_before_body d.place ≡ false
pass_by kind None text d k h = none_some h
pass_by kind (Some next) text d k h = k next refl d h

later_passes : (kind : Kind) (text : List ℕ) (c : Control) → is_before_body c.place ≡ false → (d : Control) → lands kind c text ≡ Some d → is_before_body d.place ≡ false
unfolding lands
later_passes kind [] c l d h = subst (λ (x : Control). is_before_body x.place ≡ false) (some_same h) l
later_passes kind (b ∷ text) c l d h = pass_by kind (advance kind c b) text d (λ next e. later_passes kind text next (stays_later kind c next b l e)) h

later : {kind : Kind} {c : Control} {text : List ℕ} → is_before_body c.place ≡ false → Passes kind c text
later {kind} {c} {text} l = record { is = later_passes kind text c l }

by_byte : {kind : Kind} {c next : Control} {b : ℕ} {text : List ℕ} → advance kind c b ≡ Some next → Passes kind next text → Passes kind c (b ∷ text)
unfolding lands
by_byte {kind} {c} {next} {b} {text} e t = record { is = λ d h. t.is d (sym (ap (λ (o : Option Control). lands_on kind o text) e) ∙ h) }

spaces_pass : {kind : Kind} {c : Control} {text rest : List ℕ} → ((b : ℕ) → is_space b ≡ true → advance kind c b ≡ Some c) → Spaces text rest → Passes kind c rest → Passes kind c text
spaces_pass stays Spaces.none t = t
spaces_pass stays (Spaces.more e s) t = by_byte (stays _ e) (spaces_pass stays s t)

abbrev body : List ℕ
body = 98 ∷ 111 ∷ 100 ∷ 121 ∷ []

name_passes : (b : ℕ) (text : List ℕ) (s t u : Bool) → (b == 47) ≡ s → (b == 62) ≡ t → is_space b ≡ u → (u || (s || t)) ≡ true → Passes kinds.Body (ctl (BodyWord 4) [] body []) (b ∷ text)
unfolding advance move_of place_next body_word_next name_ended done is_before_body
name_passes b text true t u e f g h = by_byte {next = ctl TagSlash (body ∷ []) [] []} (rw e refl) (later refl)
name_passes b text false true u e f g h = by_byte {next = ctl (InContent 0) (body ∷ []) [] []} (rw (e, f) refl) (later refl)
name_passes b text false false true e f g h = by_byte {next = ctl TagSpace (body ∷ []) [] []} (rw (e, f, g) refl) (later refl)
name_passes b text false false false e f g h = absurd (cc)

ended_passes : (b : ℕ) (text : List ℕ) → ends_name b ≡ true → Passes kinds.Body (ctl (BodyWord 4) [] body []) (b ∷ text)
ended_passes b text h = name_passes b text (b == 47) (b == 62) (is_space b) refl refl refl h

prolog_passes : {text inner : List ℕ} → Spaces text (60 ∷ 98 ∷ 111 ∷ 100 ∷ 121 ∷ inner) → Passes kinds.Body (ctl (BodyWord 4) [] body []) inner → Passes kinds.Body (ctl Prolog [] [] []) text
unfolding advance move_of place_next prolog_next body_word_next body_letter done is_space
prolog_passes s t = spaces_pass (λ b e. rw (space_differs b 60 e refl, e) refl) s (by_byte refl (by_byte refl (by_byte refl (by_byte refl (by_byte refl t)))))

start_passes : {text inner : List ℕ} → Spaces text (60 ∷ 98 ∷ 111 ∷ 100 ∷ 121 ∷ inner) → Passes kinds.Body (ctl (BodyWord 4) [] body []) inner → Passes kinds.Body (ctl Start [] [] []) text
unfolding advance move_of place_next start_next first_next body_word_next body_letter done is_space
start_passes Spaces.none t = by_byte refl (by_byte refl (by_byte refl (by_byte refl (by_byte refl t))))
start_passes (Spaces.more {b = b} e s) t = by_byte {next = ctl Prolog [] [] []} (rw (space_differs b 60 e refl, e) refl) (prolog_passes s t)

-- a text that a `?` may stand before
abbrev Marked : Bool → List ℕ → Type 0
Marked true text = ends_declaration (63 ∷ text) ≡ false
Marked false text = Unit {0}

mark_more : (b : ℕ) (text : List ℕ) (t : Bool) → (b == 63) ≡ t → ends_declaration (b ∷ text) ≡ false → Marked t text
mark_more b text true e f = subst (λ (x : ℕ). ends_declaration (x ∷ text) ≡ false) (eqb-true b 63 e) f
mark_more b text false e f = tt

no_mark_end : (b : ℕ) (text : List ℕ) (t : Bool) → (b == 62) ≡ t → ends_declaration (63 ∷ b ∷ text) ≡ false → t ≡ false
no_mark_end b text true e f = subst (λ (x : ℕ). ends_declaration (63 ∷ x ∷ text) ≡ false) (eqb-true b 62 e) f
no_mark_end b text false e f = refl

declaration_passes : {text rest : List ℕ} → DeclarationRest text rest → Passes kinds.Body (ctl Prolog [] [] []) rest → (after_mark : Bool) → Marked after_mark text → Passes kinds.Body (ctl (Declaration after_mark) [] [] []) text
unfolding advance move_of place_next declaration_next done is_char_byte is_plain
declaration_passes DeclarationRest.ends t true m = by_byte refl (by_byte refl t)
declaration_passes DeclarationRest.ends t false m = by_byte refl (by_byte refl t)
declaration_passes (DeclarationRest.char {b = b} {text = text} c e d) t true m =
    by_byte {next = ctl (Declaration (b == 63)) [] [] []} (rw (no_mark_end b text (b == 62) refl m, c) refl) (declaration_passes d t (b == 63) (mark_more b text (b == 63) refl e))
declaration_passes (DeclarationRest.char {b = b} {text = text} c e d) t false m =
    by_byte {next = ctl (Declaration (b == 63)) [] [] []} (rw c refl) (declaration_passes d t (b == 63) (mark_more b text (b == 63) refl e))

names_pass : {text : List ℕ} → NamesBody text → Passes kinds.Body (ctl Start [] [] []) text
unfolding advance move_of place_next start_next first_next declaration_word_next xml_letter done
names_pass (NamesBody.plain (SpacedName.named {b = b} {rest = rest} s n)) = start_passes s (ended_passes b rest n)
names_pass (NamesBody.declared e d (SpacedName.named {b = b} {rest = rest} s n)) =
    by_byte refl (by_byte refl (by_byte refl (by_byte refl (by_byte refl (by_byte {next = ctl (Declaration false) [] [] []} (rw e refl)
    (declaration_passes d (prolog_passes s (ended_passes b rest n)) false tt))))))

-- a reading is a run of its control
module _ (kind : Kind) where
  run_after : (v : Wide) (o : Option Control) (next t : State) (text : List ℕ) → Steps (Some next) o v kind → (next.kind ≡ kind → lands kind (control_of next) text ≡ Some (control_of t)) → lands_on kind o text ≡ Some (control_of t)
  run_after v None next t text h k = absurd h
  run_after v (Some c) next t text h k = sym (ap (λ (x : Control). lands kind x text) h.0) ∙ k h.1

  run_step : (s next t : State) (at b : ℕ) (text : List ℕ) (w : Option Wide) → wide_next s.wide b ≡ w → s.kind ≡ kind → step s at b ≡ Some next → (next.kind ≡ kind → lands kind (control_of next) text ≡ Some (control_of t)) → lands_on kind (advance kind (control_of s) b) text ≡ Some (control_of t)
  unfolding step
  run_step s next t at b text None e same h k = absurd (never (sym (ap (λ (o : Option Wide). moved o (next_move s b) s at b) e) ∙ h))
    where
      never : {x : State} → None ≡ Some x → ⊥
      never h = cc
  run_step s next t at b text (Some v) e same h k =
      let P : Option State → Type 0 = λ o. Steps o (advance kind (control_of s) b) v kind in
      run_after v (advance kind (control_of s) b) next t text (subst P h (subst (λ (x : Kind). Steps (step s at b) (advance x (control_of s) b) v x) same (step_follows v s at b e))) k

  run_by : (s t : State) (at b : ℕ) (text : List ℕ) (o : Option State) → s.kind ≡ kind → step s at b ≡ o → ((next : State) → next.kind ≡ kind → reading (at + 1) next text ≡ Ended t → lands kind (control_of next) text ≡ Some (control_of t)) →
      elim o [ None ↦ Stopped at b s | Some next ↦ reading (at + 1) next text ] ≡ Ended t → lands_on kind (advance kind (control_of s) b) text ≡ Some (control_of t)
  run_by s t at b text None same e ih h = absurd (cc)
  run_by s t at b text (Some next) same e ih h = run_step s next t at b text (wide_next s.wide b) refl same e (λ k. ih next k h)

  runs : (text : List ℕ) (at : ℕ) (s t : State) → s.kind ≡ kind → reading at s text ≡ Ended t → lands kind (control_of s) text ≡ Some (control_of t)
  unfolding reading lands
  runs [] at s t same h = ap (λ (x : State). Some (control_of x)) (ended_same h)
    where
      ended_same : Ended s ≡ Ended t → s ≡ t
      ended_same h = cc
  runs (b ∷ text) at s t same h = run_by s t at b text (step s at b) same refl (λ next k g. runs text (at + 1) next t k g) h

-- a stanza has no places before it
stanza_later : (front : List ℕ) (e : Control) → lands kinds.Stanza (ctl StanzaStart [] [] []) front ≡ Some e → is_before_body e.place ≡ false
unfolding is_before_body
stanza_later front e h = later_passes kinds.Stanza front (ctl StanzaStart [] [] []) refl e h

-- a run has left the places before the body exactly where the name is ended
pub body_lands : (front : List ℕ) (e : Control) → lands kinds.Body (ctl Start [] [] []) front ≡ Some e → (is_before_body e.place ≡ false) ↔ NamesBody front
body_lands front e h = (λ l. names_rest kinds.Body e l front (ctl Start [] [] []) h, λ n. (names_pass n).is e h)

pub stanza_lands : (front : List ℕ) (e : Control) → lands kinds.Stanza (ctl StanzaStart [] [] []) front ≡ Some e → (is_before_body e.place ≡ false) ↔ Anything front
stanza_lands front e h = (λ _. tt, λ _. stanza_later front e h)

-- so does a reading
pub body_runs : (front : List ℕ) (s : State) → reading 0 (first_state kinds.Body Start) front ≡ Ended s → lands kinds.Body (ctl Start [] [] []) front ≡ Some (control_of s)
unfolding first_state
body_runs front s h = runs kinds.Body front 0 (first_state kinds.Body Start) s refl h

pub stanza_runs : (front : List ℕ) (s : State) → reading 0 (first_state kinds.Stanza StanzaStart) front ≡ Ended s → lands kinds.Stanza (ctl StanzaStart [] [] []) front ≡ Some (control_of s)
unfolding first_state
stanza_runs front s h = runs kinds.Stanza front 0 (first_state kinds.Stanza StanzaStart) s refl h
