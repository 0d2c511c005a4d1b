-- What completes a state completes the text that was read to it.
use Rattle.std.proofs.Common.{◌≡◌, ◌∙◌, ◌+◌, ℕ, true, List, [], ◌∷◌, ◌++◌, refl, sym, ap, subst}
use Rattle.std.specs.Prelude.{Option, None, Some}
use Rattle.std.proofs.lemmas.Bool.{and_from}
use Rattle.body_cutter.specs.declared.place.Place.{Place}
use Rattle.body_cutter.specs.declared.place.Place.TheVariants.{Start, StanzaStart}
use Rattle.body_cutter.specs.declared.place.Wide.{Wide}
use Rattle.body_cutter.specs.declared.place.Wide.TheVariants.{Whole}
use Rattle.body_cutter.specs.declared.place.Kind.{Kind}
use Rattle.body_cutter.specs.declared.place.Kind.TheVariants as kinds
use Rattle.body_cutter.specs.declared.place.Reference.{Reference}
use Rattle.body_cutter.specs.Chars.{wide_next, ends_whole}
use Rattle.body_cutter.specs.Reader.{State, step, moved, next_move, first_state}
use Rattle.body_cutter.specs.Refusal.{Reading, Ended, Stopped, reading, is_accepted}
use Rattle.body_cutter.specs.Completion.{completion, reference_rest}
use Rattle.body_cutter.proofs.Control.{Control, control_of, advance, accepts}
use Rattle.body_cutter.proofs.Product.{Steps, step_follows, splits}
use Rattle.body_cutter.proofs.SoundReferences.{in_reference}
use Rattle.body_cutter.proofs.CompletionTools.{Finishes, AllWhole}
use Rattle.body_cutter.proofs.CompletionReferences.{reference_finishes}
use Rattle.body_cutter.proofs.CompletionStates.{Sound, Here, InReference}
use Rattle.body_cutter.proofs.CompletionPlaces.{place_finishes, rest_at}
use Rattle.body_cutter.proofs.CompletionKept.{Kept}
use Rattle.body_cutter.proofs.CompletionNumbers.{state_keeps}

-- what holds of the reader's state
pub record Stands (kind : Kind) (s : State) : Type 0 where
  pub sound : Sound s.kind (control_of s) s.wide
  pub same : s.kind ≡ kind

after : (kind : Kind) (v : Wide) (next : State) (o : Option Control) → Kept kind v o → Steps (Some next) o v kind → Stands kind next
after kind v next None k s = absurd s
after kind v next (Some c) k s =
    record {
      sound = subst (λ (x : Wide). Sound next.kind (control_of next) x) (sym s.2) (subst (λ (x : Kind). Sound x (control_of next) v) (sym s.1) (subst (λ (x : Control). Sound kind x v) (sym s.0) k));
      same = s.1;
    }

step_by : (s next : State) (at b : ℕ) (o : Option Wide) → wide_next s.wide b ≡ o → Sound s.kind (control_of s) s.wide → step s at b ≡ Some next → Stands s.kind next
unfolding step
step_by s next at b None e h t = absurd (never (sym (ap (λ (o : Option Wide). moved o (next_move s b) s at b) e) ∙ t))
  where
    never : {x : State} → None ≡ Some x → ⊥
    never h = cc
step_by s next at b (Some v) e h t =
    let P : Option State → Type 0 = λ o. Steps o (advance s.kind (control_of s) b) v s.kind in
    after s.kind v next (advance s.kind (control_of s) b) (state_keeps s.kind s.wide v (control_of s) b h e) (subst P t (step_follows v s at b e))

pub stands_on : (kind : Kind) (s next : State) (at b : ℕ) → Stands kind s → step s at b ≡ Some next → Stands kind next
stands_on kind s next at b h t = let r = step_by s next at b (wide_next s.wide b) refl h.sound t in record { sound = r.sound; same = r.same ∙ h.same }

stopped_ended : {P : Type 0} {at b : ℕ} {s t : State} → Stopped at b s ≡ Ended t → P
stopped_ended h = absurd (cc)

ended_same : {s t : State} → Ended s ≡ Ended t → s ≡ t
ended_same h = cc

-- what a step makes of a reading
abbrev onward : Option State → ℕ → ℕ → State → List ℕ → Reading
onward o at b s text = elim o [ None ↦ Stopped at b s | Some next ↦ reading (at + 1) next text ]

-- what was read to a state is read on from it, and the state stands
abbrev Reaches : Kind → List ℕ → ℕ → State → State → Type 0
Reaches kind front at s t = Stands kind t × ((more : List ℕ) → (n : ℕ) × (reading at s (front ++ more) ≡ reading n t more))

reaches_by : (kind : Kind) (front : List ℕ) (at b : ℕ) (s t : State) (o : Option State) → Stands kind s → step s at b ≡ o → ((next : State) → Stands kind next → reading (at + 1) next front ≡ Ended t → Reaches kind front (at + 1) next t) → onward o at b s front ≡ Ended t → Reaches kind (b ∷ front) at s t
unfolding reading
reaches_by kind front at b s t None h e ih r = stopped_ended r
reaches_by kind front at b s t (Some next) h e ih r =
    let k = ih next (stands_on kind s next at b h e) r in
    (k.0, λ more. let m = k.1 more in (m.0, ap (λ (o : Option State). onward o at b s (front ++ more)) e ∙ m.1))

pub reaches : (kind : Kind) (front : List ℕ) (at : ℕ) (s t : State) → Stands kind s → reading at s front ≡ Ended t → Reaches kind front at s t
unfolding reading
reaches kind [] at s t h r =
    let e = ended_same r in
    (subst (λ (x : State). Stands kind x) e h, λ more. (at, ap (λ (x : State). reading at x more) e))
reaches kind (b ∷ front) at s t h r = reaches_by kind front at b s t (step s at b) h refl (λ next k q. reaches kind front (at + 1) next t k q) r

-- what completes a state
by_reference : (place : Place) (o : Option Reference) (kind : Kind) (w : Wide) (elements : List (List ℕ)) (name : List ℕ) (seen : List (List ℕ)) → AllWhole elements → Here place kind w elements name → InReference o w →
    Finishes kind (record { place = place; reference = o; elements = elements; name = name; seen = seen }) w (reference_rest o ++ rest_at place w elements seen)
unfolding reference_rest
by_reference place None kind w elements name seen a h r = place_finishes place kind w elements name seen a h
by_reference place (Some reference) kind w elements name seen a h r =
    subst (λ (x : Wide). Finishes kind (in_reference place reference elements name seen) x (reference_rest (Some reference) ++ rest_at place x elements seen)) (sym r.0)
    (reference_finishes kind place elements name seen (place_finishes place kind Whole elements name seen a (subst (λ (x : Wide). Here place kind x elements name) r.0 h)) reference r.1)

completion_finishes : (s : State) → Sound s.kind (control_of s) s.wide → Finishes s.kind (control_of s) s.wide (completion s)
unfolding completion
completion_finishes s h = by_reference s.place s.reference s.kind s.wide s.elements s.name s.seen h.names h.here h.reference

-- what was read to a state is accepted with what completes the state
pub completed : (kind : Kind) (start t : State) (front : List ℕ) → Stands kind start → reading 0 start front ≡ Ended t → is_accepted (reading 0 start (front ++ completion t)) ≡ true
completed kind start t front h r =
    let k = reaches kind front 0 start t h r in
    let m = k.1 (completion t) in
    let f = completion_finishes t k.0.sound in
    ap is_accepted m.1 ∙ splits (completion t) m.0 t ∙ and_from (ends_whole t.wide (completion t)) (accepts t.kind (control_of t) (completion t)) f.whole.is f.taken.is

-- the first states
pub body_stands : Stands kinds.Body (first_state kinds.Body Start)
unfolding first_state
body_stands = record { sound = record { names = tt; here = (refl, refl); reference = tt }; same = refl }

pub stanza_stands : Stands kinds.Stanza (first_state kinds.Stanza StanzaStart)
unfolding first_state
stanza_stands = record { sound = record { names = tt; here = refl; reference = tt }; same = refl }
