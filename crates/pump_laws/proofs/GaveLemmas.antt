-- What back ends gave on a wire, and what of that stays.
use Rattle.std.proofs.Common.{◌≡◌, ◌≢◌, ℕ, zero, suc, Bool, true, false, cond, List, [], ◌∷◌, ◌++◌, map, filter, take, drop, Option, Some, None, IfSome, refl, sym, ◌∙◌, ap, subst, append_assoc, append-nil, arith, ne_eqb, true≢false}
use Rattle.std.specs.Prelude.{Contains, ◌==◌, option_map, option_to_list}
use Rattle.std.specs.List.{cons_option}
use Rattle.std.proofs.lemmas.List.{map-append}
use Rattle.std.proofs.lemmas.List.Elements.{filter-append, filter_map-append}
use Rattle.xmpp_backend.specs.Told.{Becomes, Told, WasOpened, given_too, opened_too, wires_of}
use Rattle.xmpp_backend.specs.declared.backend.Given.{Given}
use Rattle.session_pump.specs.Ends.{End, Ends, HasFailed}
use Rattle.session_pump.specs.declared.line.Owing.{Owing}
use Rattle.session_pump.specs.declared.line.Stage.{Stage}
use Rattle.session_pump.specs.declared.line.Stage.TheVariants as stages
use Rattle.pump_laws.specs.Handing.{GaveOf, IsIdle, KeepsNone, ToldFor, is_of, gave_nothing, gave_these, stanza_for, stanza_in, stanzas_kept, stanzas_owed, told_by, told_for, told_in_turn}
use Rattle.pump_laws.specs.InTurn.{Every}
use Rattle.pump_laws.proofs.BenchLemmas.{every_first, every_last, exchanged_in_turn}
use Rattle.pump_laws.proofs.CallLemmas.{is_itself}

-- ---- the one that stands there tells something else

abbrev pub front : ℕ → Ends → List (Option ToldFor)
front n e = map (told_for n) (take e.used e.spares)

abbrev pub rear : ℕ → Ends → List (Option ToldFor)
rear n e = map (told_for n) (drop e.used e.spares)

pub told_split : (n : ℕ) (e : Ends) (standing : End) → told_in_turn n (record e { standing = standing }) ≡ front n e ++ told_for n standing ∷ rear n e
told_split n e standing = map-append (told_for n) (take e.used e.spares) (standing ∷ drop e.used e.spares)

pub stands_told : (n : ℕ) (e : Ends) (standing : End) → told_for n standing ≡ told_for n e.standing → told_in_turn n (record e { standing = standing }) ≡ told_in_turn n e
stands_told n e standing same = told_split n e standing ∙ (ap (λ x. front n e ++ x ∷ rear n e) same ∙ sym (told_split n e e.standing))

pub became_told : (n : ℕ) (old new : Option Told) (change : Told → Told) → ((told : Told) → told_by n (change told) ≡ told_by n told) → Becomes old new change
    → option_map (told_by n) new ≡ option_map (told_by n) old
became_told n None new change same is = ap (option_map (told_by n)) is
became_told n (Some told) new change same is = ap (option_map (told_by n)) is ∙ ap Some (same told)

pub failed_told : (n : ℕ) (e f : Ends) → HasFailed e f → told_in_turn n f ≡ told_in_turn n e
failed_told n e f h =
    ap (told_in_turn n) h.others
    ∙ (ap (map (told_for n)) (exchanged_in_turn (record e { standing = h.failed }))
    ∙ stands_told n e h.failed (became_told n e.standing.told h.failed.told (λ told. told) (λ told. refl) h.told))

-- ---- wires that are opened

opened_more : (n wire : ℕ) (to : List ℕ) (told : Told) → (told_by n (opened_too wire to told)).opened
    ≡ (told_by n told).opened ++ cond (wire == n) (wire ∷ []) []
opened_more n wire to told =
    ap (filter (λ w. w == n)) (map-append (λ (opening : ℕ × List ℕ). opening.0) told.opened ((wire, to) ∷ []))
    ∙ filter-append (λ w. w == n) (wires_of told.opened) (wire ∷ [])

pub opened_elsewhere : (n wire : ℕ) (to : List ℕ) (told : Told) → wire ≢ n → told_by n (opened_too wire to told) ≡ told_by n told
opened_elsewhere n wire to told apart =
    ap (λ xs. record { opened = xs; stanzas = (told_by n told).stanzas })
    (opened_more n wire to told ∙ (ap (λ b. (told_by n told).opened ++ cond b (wire ∷ []) []) (ne_eqb wire n apart) ∙ append-nil (told_by n told).opened))

-- ---- stanzas that are given

given_more : (n wire : ℕ) (what : Given) (told : Told) → (told_by n (given_too wire what told)).stanzas ≡ (told_by n told).stanzas ++ cons_option (stanza_for n (wire, what)) []
given_more n wire what told = filter_map-append (stanza_for n) told.given ((wire, what) ∷ [])

pub given_elsewhere : (n wire : ℕ) (what : Given) (told : Told) → wire ≢ n → told_by n (given_too wire what told) ≡ told_by n told
given_elsewhere n wire what told apart =
    ap (λ xs. record { opened = (told_by n told).opened; stanzas = xs })
    (given_more n wire what told
    ∙ (ap (λ b. (told_by n told).stanzas ++ cons_option (cond b (stanza_in what) None) []) (ne_eqb wire n apart) ∙ append-nil (told_by n told).stanzas))

given_here : (n wire : ℕ) (what : Given) (told : Told) → wire ≡ n
    → (told_by n (given_too wire what told)).stanzas ≡ (told_by n told).stanzas ++ option_to_list (stanza_in what)
given_here n wire what told same =
    given_more n wire what told
    ∙ (ap (λ b. (told_by n told).stanzas ++ cons_option (cond b (stanza_in what) None) []) (ap (λ k. k == n) same ∙ is_itself n)
    ∙ ap (λ xs. (told_by n told).stanzas ++ xs) (as_list (stanza_in what)))
  where
    as_list : (o : Option (List ℕ)) → cons_option o [] ≡ option_to_list o
    as_list None = refl
    as_list (Some x) = refl

-- a wire of the session was opened at it, so it isn't idle
contains_kept : (p : ℕ → Bool) (xs : List ℕ) (x : ℕ) → Contains xs x → p x ≡ true → filter p xs ≡ [] → ⊥
contains_kept p [] x is says none = absurd (omega (arith, is.1))
contains_kept p (y ∷ ys) x (zero, in_it, here) says none = by (p y) (ap p here ∙ says) none
  where
    by : (b : Bool) → b ≡ true → cond b (y ∷ filter p ys) (filter p ys) ≡ [] → ⊥
    by true is empty = cc
    by false is empty = cc
contains_kept p (y ∷ ys) x (suc k, in_it, there) says none = by (p y) none (λ rest. contains_kept p ys x (k, omega (arith, in_it), there) says rest)
  where
    by : (b : Bool) → cond b (y ∷ filter p ys) (filter p ys) ≡ [] → (filter p ys ≡ [] → ⊥) → ⊥
    by true empty next = cc
    by false empty next = next empty

pub isnt_idle : (n wire : ℕ) (end : End) → wire ≡ n → WasOpened end.told wire → IsIdle (told_for n end) → ⊥
isnt_idle n wire end same opened idle = by end.told opened idle
  where
    some_opened : (a b : ToldFor) → Some a ≡ Some b → a.opened ≡ b.opened
    some_opened a b e = cc

    by : (o : Option Told) → WasOpened o wire → IsIdle (option_map (told_by n) o) → ⊥
    by None opened idle = cc
    by (Some told) opened idle =
        contains_kept (λ w. w == n) (wires_of told.opened) wire opened (ap (λ k. k == n) same ∙ is_itself n)
        (some_opened (told_by n told) (record { opened = []; stanzas = [] }) idle)

-- ---- where all others are idle, one that isn't is the one

pub record IsThere (xs ys earlier later : List (Option ToldFor)) (x one : Option ToldFor) : Type 0 where
  pub before : xs ≡ earlier
  pub here : x ≡ one
  pub after : ys ≡ later

head_is : {A : Type 0} (x y : A) (xs ys : List A) → x ∷ xs ≡ y ∷ ys → x ≡ y
head_is x y xs ys e = cc

tail_is : {A : Type 0} (x y : A) (xs ys : List A) → x ∷ xs ≡ y ∷ ys → xs ≡ ys
tail_is x y xs ys e = cc

pub is_there : (xs ys earlier later : List (Option ToldFor)) (x one : Option ToldFor) → xs ++ x ∷ ys ≡ earlier ++ one ∷ later → (IsIdle x → ⊥) → Every IsIdle earlier → Every IsIdle later
    → IsThere xs ys earlier later x one
is_there [] ys [] later x one are busy idle_earlier idle_later = record { before = refl; here = head_is x one ys later are; after = tail_is x one ys later are }
is_there [] ys (z ∷ zs) later x one are busy idle_earlier idle_later =
    absurd (busy (subst IsIdle (sym (head_is x z ys (zs ++ one ∷ later) are)) idle_earlier.0))
is_there (w ∷ ws) ys [] later x one are busy idle_earlier idle_later =
    absurd (busy (every_last IsIdle ws (x ∷ ys) (subst (Every IsIdle) (sym (tail_is w one (ws ++ x ∷ ys) later are)) idle_later)).0)
is_there (w ∷ ws) ys (z ∷ zs) later x one are busy idle_earlier idle_later =
    let r : IsThere ws ys zs later x one = is_there ws ys zs later x one (tail_is w z (ws ++ x ∷ ys) (zs ++ one ∷ later) are) busy idle_earlier.1 idle_later in
    record { before = ap (λ q. q ∷ ws) (head_is w z (ws ++ x ∷ ys) (zs ++ one ∷ later) are) ∙ ap (λ qs. z ∷ qs) r.before; here = r.here; after = r.after }

-- the one that stands there gave a stanza for this session, which is kept now where nothing was
pub gave_more : (n wire : ℕ) (what : Given) (all : List (List ℕ)) (stage : Stage) (owed : Option Owing) (kept : Owing) (e : Ends) (standing : End) → wire ≡ n
    → WasOpened e.standing.told wire → Becomes e.standing.told standing.told (given_too wire what) → is_of n kept ≡ true → kept.given ≡ what
    → GaveOf n all stage owed None (told_in_turn n e) → GaveOf n all stage owed (Some kept) (told_in_turn n (record e { standing = standing }))
gave_more n wire what all stage owed kept e standing same opened becomes number is (gave_nothing unopened idle none owes keeps) =
    absurd (isnt_idle n wire e.standing same opened (every_last IsIdle (front n e) (told_for n e.standing ∷ rear n e) (subst (Every IsIdle) (told_split n e e.standing) idle)).0)
gave_more n wire what all stage owed kept e standing same opened becomes number is (gave_these later one) =
    let r : IsThere (front n e) (rear n e) one.earlier one.later (told_for n e.standing) one.one =
    is_there (front n e) (rear n e) one.earlier one.later (told_for n e.standing) one.one (sym (told_split n e e.standing) ∙ one.are)
    (isnt_idle n wire e.standing same opened) one.idle_earlier one.idle_later in
    gave_these later (record {
      earlier = front n e;
      one = told_for n standing;
      later = rear n e;
      are = told_split n e standing;
      idle_earlier = subst (Every IsIdle) (sym r.before) one.idle_earlier;
      idle_later = subst (Every IsIdle) (sym r.after) one.idle_later;
      says = by e.standing.told standing.told becomes (subst (λ o. IfSome o (λ told. told.stanzas ≡ all ++ (stanzas_owed owed ++ []))) (sym r.here) one.says);
    })
  where
    kept_so : stanzas_kept n (Some kept) ≡ option_to_list (stanza_in what)
    kept_so = ap (λ b. cond b (option_to_list (stanza_in kept.given)) []) number ∙ ap (λ g. option_to_list (stanza_in g)) is

    by : (old new : Option Told) → Becomes old new (given_too wire what) → IfSome (option_map (told_by n) old) (λ told. told.stanzas ≡ all ++ (stanzas_owed owed ++ []))
        → IfSome (option_map (told_by n) new) (λ told. told.stanzas ≡ all ++ (stanzas_owed owed ++ stanzas_kept n (Some kept)))
    by None new becomes says = subst (λ o. IfSome (option_map (told_by n) o) (λ told. told.stanzas ≡ all ++ (stanzas_owed owed ++ stanzas_kept n (Some kept)))) (sym becomes) tt
    by (Some told) new becomes says =
        subst (λ o. IfSome (option_map (told_by n) o) (λ told. told.stanzas ≡ all ++ (stanzas_owed owed ++ stanzas_kept n (Some kept)))) (sym becomes)
        (given_here n wire what told same
        ∙ (ap (λ xs. xs ++ option_to_list (stanza_in what)) (says ∙ ap (λ xs. all ++ xs) (append-nil (stanzas_owed owed)))
        ∙ (append_assoc all (stanzas_owed owed) (option_to_list (stanza_in what)) ∙ ap (λ xs. all ++ (stanzas_owed owed ++ xs)) (sym kept_so))))

-- the wire is opened at the one that stands there
pub gave_opened : (n : ℕ) (all : List (List ℕ)) (stage later : Stage) (owed kept : Option Owing) (e : Ends) (standing : End) (change : Told → Told)
    → ((told : Told) → (told_by n (change told)).stanzas ≡ (told_by n told).stanzas) → stage ≡ stages.Unopened → later ≢ stages.Unopened
    → Becomes e.standing.told standing.told change → GaveOf n all stage owed kept (told_in_turn n e) → GaveOf n all later owed kept (told_in_turn n (record e { standing = standing }))
gave_opened n all stage later owed kept e standing change same unopened opened becomes (gave_these was one) = absurd (was unopened)
gave_opened n all stage later owed kept e standing change same unopened opened becomes (gave_nothing is idle none owes keeps) =
    let split : Every IsIdle (front n e ++ told_for n e.standing ∷ rear n e) = subst (Every IsIdle) (told_split n e e.standing) idle in
    gave_these opened (record {
      earlier = front n e;
      one = told_for n standing;
      later = rear n e;
      are = told_split n e standing;
      idle_earlier = every_first IsIdle (front n e) (told_for n e.standing ∷ rear n e) split;
      idle_later = (every_last IsIdle (front n e) (told_for n e.standing ∷ rear n e) split).1;
      says = by e.standing.told standing.told becomes (every_last IsIdle (front n e) (told_for n e.standing ∷ rear n e) split).0;
    })
  where
    kept_none : (o : Option Owing) → KeepsNone n o → stanzas_kept n o ≡ []
    kept_none None keeps = refl
    kept_none (Some owing) keeps = ap (λ b. cond b (option_to_list (stanza_in owing.given)) []) keeps

    nothing : all ++ (stanzas_owed owed ++ stanzas_kept n kept) ≡ []
    nothing = ap (λ xs. xs ++ (stanzas_owed owed ++ stanzas_kept n kept)) none ∙ (ap (λ o. stanzas_owed o ++ stanzas_kept n kept) owes ∙ kept_none kept keeps)

    some_stanzas : (a b : ToldFor) → Some a ≡ Some b → a.stanzas ≡ b.stanzas
    some_stanzas a b e = cc

    by : (old new : Option Told) → Becomes old new change → IsIdle (option_map (told_by n) old)
        → IfSome (option_map (told_by n) new) (λ told. told.stanzas ≡ all ++ (stanzas_owed owed ++ stanzas_kept n kept))
    by None new becomes idle = cc
    by (Some told) new becomes idle =
        subst (λ o. IfSome (option_map (told_by n) o) (λ told. told.stanzas ≡ all ++ (stanzas_owed owed ++ stanzas_kept n kept))) (sym becomes)
        (same told ∙ (some_stanzas (told_by n told) (record { opened = []; stanzas = [] }) idle ∙ sym nothing))

-- ---- what becomes of what is kept

pub gave_as : (n : ℕ) (all more : List (List ℕ)) (stage later : Stage) (owed owes kept keeps : Option Owing) (told : List (Option ToldFor)) → later ≢ stages.Unopened
    → all ++ (stanzas_owed owed ++ stanzas_kept n kept) ≡ more ++ (stanzas_owed owes ++ stanzas_kept n keeps) → stage ≢ stages.Unopened
    → GaveOf n all stage owed kept told → GaveOf n more later owes keeps told
gave_as n all more stage later owed owes kept keeps told opened same was (gave_nothing unopened idle none nothing nobody) = absurd (was unopened)
gave_as n all more stage later owed owes kept keeps told opened same was (gave_these is one) = gave_these opened (record {
  earlier = one.earlier;
  one = one.one;
  later = one.later;
  are = one.are;
  idle_earlier = one.idle_earlier;
  idle_later = one.idle_later;
  says = by one.one one.says;
})
  where
    by : (o : Option ToldFor) → IfSome o (λ told. told.stanzas ≡ all ++ (stanzas_owed owed ++ stanzas_kept n kept))
        → IfSome o (λ told. told.stanzas ≡ more ++ (stanzas_owed owes ++ stanzas_kept n keeps))
    by None says = tt
    by (Some told) says = says ∙ same

-- a session for which something is owed or kept had its wire opened
pub owed_opened : (n : ℕ) (all : List (List ℕ)) (stage : Stage) (owing : Owing) (kept : Option Owing) (told : List (Option ToldFor)) → GaveOf n all stage (Some owing) kept told → stage ≢ stages.Unopened
owed_opened n all stage owing kept told (gave_nothing unopened idle none owes keeps) = absurd (some_isnt owing owes)
  where
    some_isnt : (x : Owing) → Some x ≡ None → ⊥
    some_isnt x e = cc
owed_opened n all stage owing kept told (gave_these opened one) = opened

pub kept_opened : (n : ℕ) (all : List (List ℕ)) (stage : Stage) (owed : Option Owing) (owing : Owing) (told : List (Option ToldFor)) → is_of n owing ≡ true
    → GaveOf n all stage owed (Some owing) told → stage ≢ stages.Unopened
kept_opened n all stage owed owing told same (gave_nothing unopened idle none owes keeps) = absurd (true≢false (sym same ∙ keeps))
kept_opened n all stage owed owing told same (gave_these opened one) = opened

pub kept_for : (n : ℕ) (owing : Owing) → is_of n owing ≡ true → stanzas_kept n (Some owing) ≡ option_to_list (stanza_in owing.given)
kept_for n owing same = ap (λ b. cond b (option_to_list (stanza_in owing.given)) []) same

pub kept_for_other : (n : ℕ) (owing : Owing) → is_of n owing ≡ false → stanzas_kept n (Some owing) ≡ []
kept_for_other n owing apart = ap (λ b. cond b (option_to_list (stanza_in owing.given)) []) apart
