-- Back ends that are exchanged, and what of what they tell stays.
use Rattle.std.proofs.Common.{◌≡◌, ◌≤◌, ◌<◌, ◌+◌, ◌-◌, ◌^◌, ℕ, zero, suc, Bool, true, false, cond, List, [], ◌∷◌, ◌++◌, map, take, drop, set, Option, Some, None, IfSome, refl, sym, ◌∙◌, ap, subst, append_assoc, ltb-false, arith}
use Rattle.std.specs.Prelude.{slice_get, nat_lt, option_map}
use Rattle.std.proofs.Math.Seq.{drop-cons}
use Rattle.std.proofs.lemmas.List.{map-append, take-append-drop, take_more_set}
use Rattle.std.proofs.lemmas.Option.{get_or_from_slice_get, slice_get_within}
use Rattle.bosh_types.specs.declared.inward.Inward.{Inward}
use Rattle.xmpp_backend.specs.Counts.{counted_on}
use Rattle.xmpp_backend.specs.Told.{Becomes, Told, on_wire}
use Rattle.session_pump.specs.Ends.{End, Ends, HasFailed, exchanged, exchanged_for, telling}
use Rattle.session_pump.specs.declared.line.Stage.{Stage}
use Rattle.session_pump.specs.declared.line.Stage.TheVariants as stages
use Rattle.pump_laws.specs.InTurn.{Begins, Every, IsNothing, OneWas, in_turn, passed_in_turn, passed_on}
use Rattle.pump_laws.specs.Passing.{CanFail, PassedOf, is_no_more, is_open, isnt_opened}

-- ---- lists

pub every_append : {A : Type 0} (P : A → Type 0) (xs ys : List A) → Every P xs → Every P ys → Every P (xs ++ ys)
every_append P [] ys of_xs of_ys = of_ys
every_append P (x ∷ xs) ys of_xs of_ys = (of_xs.0, every_append P xs ys of_xs.1 of_ys)

pub every_first : {A : Type 0} (P : A → Type 0) (xs ys : List A) → Every P (xs ++ ys) → Every P xs
every_first P [] ys of_all = tt
every_first P (x ∷ xs) ys of_all = (of_all.0, every_first P xs ys of_all.1)

pub every_last : {A : Type 0} (P : A → Type 0) (xs ys : List A) → Every P (xs ++ ys) → Every P ys
every_last P [] ys of_all = of_all
every_last P (x ∷ xs) ys of_all = every_last P xs ys of_all.1

pub every_mapped : {A B : Type 0} (P : B → Type 0) (f : A → B) (xs : List A) → Every (λ x. P (f x)) xs → Every P (map f xs)
every_mapped P f [] of_all = tt
every_mapped P f (x ∷ xs) of_all = (of_all.0, every_mapped P f xs of_all.1)

pub every_unmapped : {A B : Type 0} (P : B → Type 0) (f : A → B) (xs : List A) → Every P (map f xs) → Every (λ x. P (f x)) xs
every_unmapped P f [] of_all = tt
every_unmapped P f (x ∷ xs) of_all = (of_all.0, every_unmapped P f xs of_all.1)

drop-set-next : {A : Type 0} (xs : List A) (i : ℕ) (y : A) → drop (suc i) (set xs i y) ≡ drop (suc i) xs
drop-set-next [] i y = refl
drop-set-next (x ∷ xs) zero y = refl
drop-set-next (x ∷ xs) (suc i) y = drop-set-next xs i y

drop-set_next : {A : Type 0} (xs : List A) (i n : ℕ) (y : A) → suc i ≡ n → drop n (set xs i y) ≡ drop n xs
drop-set_next xs i n y is = subst (λ k. drop k (set xs i y) ≡ drop k xs) is (drop-set-next xs i y)

dropped : {A : Type 0} (xs : List A) (i n : ℕ) (x : A) → suc i ≡ n → slice_get xs i ≡ Some x → drop i xs ≡ x ∷ drop n xs
dropped xs i n x is there =
    drop-cons xs i x (slice_get_within xs i x there)
    ∙ (ap (λ y. y ∷ drop (suc i) xs) (get_or_from_slice_get xs i x x there) ∙ ap (λ k. x ∷ drop k xs) is)

-- ---- one takes the place of another

to_spare : (e : Ends) (spare : End) → slice_get e.spares e.used ≡ Some spare → in_turn (exchanged_for (Some spare) e) ≡ in_turn e
to_spare e spare is =
    let next : suc e.used ≡ e.used + 1 = omega arith in
    ap (λ xs. xs ++ spare ∷ drop (e.used + 1) (set e.spares e.used e.standing)) (take_more_set e.spares e.used e.standing (slice_get_within e.spares e.used spare is))
    ∙ (ap (λ xs. (take e.used e.spares ++ e.standing ∷ []) ++ spare ∷ xs) (drop-set_next e.spares e.used (e.used + 1) e.standing next)
    ∙ (append_assoc (take e.used e.spares) (e.standing ∷ []) (spare ∷ drop (e.used + 1) e.spares)
    ∙ ap (λ xs. take e.used e.spares ++ e.standing ∷ xs) (sym (dropped e.spares e.used (e.used + 1) spare next is))))

-- the same back ends stand or stood there, in the same order
pub exchanged_in_turn : (e : Ends) → in_turn (exchanged e) ≡ in_turn e
exchanged_in_turn e = by (slice_get e.spares e.used) refl
  where
    by : (o : Option End) → slice_get e.spares e.used ≡ o → in_turn (exchanged_for o e) ≡ in_turn e
    by None is = refl
    by (Some spare) is = to_spare e spare is

pub exchanged_failures : (e : Ends) → (exchanged e).failures ≡ counted_on e.failures
exchanged_failures e = by (slice_get e.spares e.used)
  where
    by : (o : Option End) → (exchanged_for o e).failures ≡ counted_on e.failures
    by None = refl
    by (Some spare) = refl

-- ---- what a call does to what is told on another wire

-- nothing of this wire, or the one that stands there was exchanged
pub data Drift (wire : ℕ) (e : Ends) : Ends → Type 0 where
  stays : (standing : End) → passed_on wire standing ≡ passed_on wire e.standing → Drift wire e (record e { standing = standing })
  exchanges : Drift wire e (exchanged e)

pub data Drifts (wire : ℕ) (e : Ends) : Ends → Type 0 where
  no_drift : Drifts wire e e
  drifts_on : {f g : Ends} → Drifts wire e f → Drift wire f g → Drifts wire e g

same_sheet : (wire : ℕ) (e : Ends) (standing : End) → passed_on wire standing ≡ passed_on wire e.standing
    → passed_in_turn wire (record e { standing = standing }) ≡ passed_in_turn wire e
same_sheet wire e standing same =
    map-append (passed_on wire) (take e.used e.spares) (standing ∷ drop e.used e.spares)
    ∙ (ap (λ x. map (passed_on wire) (take e.used e.spares) ++ x ∷ map (passed_on wire) (drop e.used e.spares)) same
    ∙ sym (map-append (passed_on wire) (take e.used e.spares) (e.standing ∷ drop e.used e.spares)))

drift_sheet : (wire : ℕ) (e f : Ends) → Drift wire e f → passed_in_turn wire f ≡ passed_in_turn wire e
drift_sheet wire e f (stays standing same) = same_sheet wire e standing same
drift_sheet wire e f exchanges = ap (map (passed_on wire)) (exchanged_in_turn e)

pub counted_few : (n m : ℕ) → m ≡ counted_on n → m < 2 ^ 64 - 1 → m ≡ n + 1
counted_few n m is few = by (nat_lt n (2 ^ 64 - 1)) refl is
  where
    by : (b : Bool) → nat_lt n (2 ^ 64 - 1) ≡ b → m ≡ cond b (n + 1) n → m ≡ n + 1
    by true below is = is
    by false above is = absurd (omega (arith, ltb-false n (2 ^ 64 - 1) above, is, few))

pub drift_few : (wire : ℕ) (e f : Ends) → Drift wire e f → CanFail f → CanFail e
drift_few wire e f (stays standing same) few = few
drift_few wire e f exchanges few = omega (arith, few, counted_few e.failures (exchanged e).failures (exchanged_failures e) few)

drift_only_rises : (wire : ℕ) (e f : Ends) → Drift wire e f → CanFail f → e.failures ≤ f.failures
drift_only_rises wire e f (stays standing same) few = omega arith
drift_only_rises wire e f exchanges few = omega (arith, counted_few e.failures (exchanged e).failures (exchanged_failures e) few)

-- ---- what was passed on this wire stays

-- where one was passed, and what stands there was exchanged, another one may stand there, which was passed nothing
pub is_one : (wire : ℕ) (all : List Inward) (kept : List Inward) (e : Ends) → Every (λ end. IsNothing (passed_on wire end)) e.spares
    → IfSome (passed_on wire e.standing) (λ passed. all ≡ passed ++ kept)
    → OneWas (λ passed. Begins passed all) (passed_in_turn wire e)
is_one wire all kept e spares says =
    let split : Every (λ (end : End). IsNothing (passed_on wire end)) (take e.used e.spares ++ drop e.used e.spares) =
    subst (λ xs. Every (λ (end : End). IsNothing (passed_on wire end)) xs) (sym (take-append-drop e.used e.spares)) spares in
    record {
      earlier = map (passed_on wire) (take e.used e.spares);
      one = passed_on wire e.standing;
      later = map (passed_on wire) (drop e.used e.spares);
      are = map-append (passed_on wire) (take e.used e.spares) (e.standing ∷ drop e.used e.spares);
      none_earlier = every_mapped IsNothing (passed_on wire) (take e.used e.spares) (every_first _ (take e.used e.spares) (drop e.used e.spares) split);
      none_later = every_mapped IsNothing (passed_on wire) (drop e.used e.spares) (every_last _ (take e.used e.spares) (drop e.used e.spares) split);
      says = begins (passed_on wire e.standing) says;
    }
  where
    begins : (o : Option (List Inward)) → IfSome o (λ passed. all ≡ passed ++ kept) → IfSome o (λ passed. Begins passed all)
    begins None says = tt
    begins (Some passed) says = (kept, says)

pub standing_nothing : (wire : ℕ) (e : Ends) → Every IsNothing (passed_in_turn wire e) → IsNothing (passed_on wire e.standing)
standing_nothing wire e none =
    (every_last _ (take e.used e.spares) (e.standing ∷ drop e.used e.spares) (every_unmapped IsNothing (passed_on wire) (in_turn e) none)).0

pub spares_nothing : (wire : ℕ) (e : Ends) → Every IsNothing (passed_in_turn wire e) → Every (λ end. IsNothing (passed_on wire end)) e.spares
spares_nothing wire e none =
    let all : Every (λ (end : End). IsNothing (passed_on wire end)) (in_turn e) = every_unmapped IsNothing (passed_on wire) (in_turn e) none in
    subst (λ xs. Every (λ (end : End). IsNothing (passed_on wire end)) xs) (take-append-drop e.used e.spares)
    (every_append _ (take e.used e.spares) (drop e.used e.spares) (every_first _ (take e.used e.spares) (e.standing ∷ drop e.used e.spares) all)
    (every_last _ (take e.used e.spares) (e.standing ∷ drop e.used e.spares) all).1)

pub drift_nothing : (wire : ℕ) (e f : Ends) → Drift wire e f → Every IsNothing (passed_in_turn wire e) → Every IsNothing (passed_in_turn wire f)
drift_nothing wire e f drift none = subst (Every IsNothing) (sym (drift_sheet wire e f drift)) none

pub one_still : (wire : ℕ) (e f : Ends) → Drift wire e f → (Says : List Inward → Type 0) → OneWas Says (passed_in_turn wire e) → OneWas Says (passed_in_turn wire f)
one_still wire e f drift Says one = subst (OneWas Says) (sym (drift_sheet wire e f drift)) one

pub some_number : (stage : Stage) (on other : ℕ) → stage ≡ stages.Opened on → stage ≡ stages.Opened other → on ≡ other
some_number stage on other is also = cc

pub not_both : (stage : Stage) (on : ℕ) → stage ≡ stages.Unopened → stage ≡ stages.Opened on → ⊥
not_both stage on is also = cc

pub drift_passed : (wire : ℕ) (all : List Inward) (stage : Stage) (kept : List Inward) (e f : Ends) → Drift wire e f → CanFail f
    → PassedOf wire all stage kept e → PassedOf wire all stage kept f
drift_passed wire all stage kept e f drift few (isnt_opened is none whole) = isnt_opened is (drift_nothing wire e f drift none) whole
drift_passed wire all stage kept e f (stays standing same) few (is_open is spares says) =
    is_open is spares (subst (λ o. IfSome o (λ passed. all ≡ passed ++ kept)) (sym same) says)
drift_passed wire all stage kept e f exchanges few (is_open is spares says) =
    is_no_more (λ unopened. not_both stage e.failures unopened is)
    (λ on at. omega (arith, some_number stage on e.failures at is, counted_few e.failures (exchanged e).failures (exchanged_failures e) few))
    (one_still wire e (exchanged e) exchanges _ (is_one wire all kept e spares says))
drift_passed wire all stage kept e f drift few (is_no_more opened before one) =
    is_no_more opened (λ on at. omega (arith, before on at, drift_only_rises wire e f drift few)) (one_still wire e f drift _ one)

-- and where a back end failed, or several did

pub drifts_nothing : (wire : ℕ) (e f : Ends) → Drifts wire e f → Every IsNothing (passed_in_turn wire e) → Every IsNothing (passed_in_turn wire f)
drifts_nothing wire e f no_drift none = none
drifts_nothing wire e f (drifts_on {f = g} drifts drift) none = drift_nothing wire g f drift (drifts_nothing wire e g drifts none)

pub drifts_few : (wire : ℕ) (e f : Ends) → Drifts wire e f → CanFail f → CanFail e
drifts_few wire e f no_drift few = few
drifts_few wire e f (drifts_on {f = g} drifts drift) few = drifts_few wire e g drifts (drift_few wire g f drift few)

pub drifts_one : (wire : ℕ) (e f : Ends) → Drifts wire e f → (Says : List Inward → Type 0) → OneWas Says (passed_in_turn wire e) → OneWas Says (passed_in_turn wire f)
drifts_one wire e f no_drift Says one = one
drifts_one wire e f (drifts_on {f = g} drifts drift) Says one = one_still wire g f drift Says (drifts_one wire e g drifts Says one)

pub drifts_passed : (wire : ℕ) (all : List Inward) (stage : Stage) (kept : List Inward) (e f : Ends) → Drifts wire e f → CanFail f
    → PassedOf wire all stage kept e → PassedOf wire all stage kept f
drifts_passed wire all stage kept e f no_drift few passed = passed
drifts_passed wire all stage kept e f (drifts_on {f = g} drifts drift) few passed =
    drift_passed wire all stage kept g f drift few (drifts_passed wire all stage kept e g drifts (drift_few wire g f drift few) passed)

pub drifts_then : {wire : ℕ} {e f g : Ends} → Drifts wire e f → Drifts wire f g → Drifts wire e g
drifts_then first no_drift = first
drifts_then first (drifts_on rest drift) = drifts_on (drifts_then first rest) drift

-- what is told becomes this, and of this wire that is as before
pub became_still : (wire : ℕ) (old new : Option Told) (change : Told → Told) → ((told : Told) → on_wire wire (change told).passed ≡ on_wire wire told.passed)
    → Becomes old new change → option_map (λ (told : Told). on_wire wire told.passed) new ≡ option_map (λ (told : Told). on_wire wire told.passed) old
became_still wire None new change same is = ap (option_map (λ (told : Told). on_wire wire told.passed)) is
became_still wire (Some told) new change same is = ap (option_map (λ (told : Told). on_wire wire told.passed)) is ∙ ap Some (same told)

pub tells_still : (wire : ℕ) (e : Ends) (told : Option Told) (change : Told → Told) → ((t : Told) → on_wire wire (change t).passed ≡ on_wire wire t.passed)
    → Becomes e.standing.told told change → Drift wire e (telling told e)
tells_still wire e told change same is =
    stays (record e.standing { told = told }) (became_still wire e.standing.told told change same is)

pub failed_drifts : (wire : ℕ) (e f : Ends) → HasFailed e f → Drifts wire e f
failed_drifts wire e f h =
    subst (Drifts wire e) (sym h.others)
    (drifts_on (drifts_on no_drift (stays h.failed (became_still wire e.standing.told h.failed.told (λ told. told) (λ told. refl) h.told))) exchanges)

pub failed_more : (e f : Ends) → HasFailed e f → CanFail f → f.failures ≡ e.failures + 1
failed_more e f h few =
    counted_few e.failures f.failures (ap (λ (g : Ends). g.failures) h.others ∙ exchanged_failures (record e { standing = h.failed })) few
