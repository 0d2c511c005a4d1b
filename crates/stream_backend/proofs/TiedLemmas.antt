-- What a back end tells stays tied to its lines.
use Rattle.std.proofs.Common.{◌≡◌, ◌≢◌, ◌<◌, ◌≤◌, ◌+◌, ◌⊎◌, ◌∙◌, ◌==◌, inl, inr, ℕ, Bool, true, false, List, [], ◌∷◌, ◌++◌, length, map, filter, get_or, refl, sym, ap, subst, arith, append-nil, append_assoc, ne_eqb}
use Rattle.std.specs.Prelude.{All, Contains, if◌then◌else◌}
use Rattle.std.proofs.lemmas.Bool.{cases_eq, eq-eqb}
use Rattle.std.proofs.lemmas.List.{map-append}
use Rattle.std.proofs.lemmas.List.Elements.{Contains-append_left, Contains-push, filter-append}
use Rattle.bosh_types.specs.declared.ending.Closing.{Closing}
use Rattle.bosh_types.specs.declared.inward.Inward.{Inward}
use Rattle.xmpp_backend.specs.Told.{Told, closed_too, given_too, has_wire, held_too, on_wire, opened_too, passed_too, resumed_too, wires_of}
use Rattle.xmpp_backend.specs.declared.backend.Given.{Given}
use Rattle.xmpp_backend.specs.declared.backend.Given.TheVariants as given
use Rattle.xmpp_backend.proofs.DuesLemmas.{with_other, with_same, without_other, without_same}
use Rattle.xmpp_backend.proofs.OpenedLemmas.{wires_and}
use Rattle.stream_backend.specs.declared.looking.Look.{Look}
use Rattle.stream_backend.specs.declared.looking.Look.TheVariants as looks
use Rattle.stream_backend.specs.declared.stage.Stage.{Stage}
use Rattle.stream_backend.specs.declared.stage.Stage.TheVariants as stages
use Rattle.server_ports.specs.Counts as ports
use Rattle.server_ports.specs.Counts.{HasFailed, added}
use Rattle.stream_backend.specs.Begins.{IsWatched}
use Rattle.stream_backend.specs.Flow.{Flow, Stays, passed_on}
use Rattle.stream_backend.specs.Lines.{IsSameLine, Line, StageTells, Tells}
use Rattle.stream_backend.specs.Serving.{AreApart, BeginsIn, ClosesLine, HoldsLine, IsCalm, IsServing, IsTied, IsTiedFlow, IsTiedStage, OnWire, PassesLine, ResumesLine, TellsOn}
use Rattle.stream_backend.specs.Stages.{IsStage, OwesTooMuch, StageCloses, StagePasses}

module _ {A : Type 0} where
  alone_here : (w : ℕ) (x : A) → on_wire w ((w, x) ∷ []) ≡ x ∷ []
  alone_here w x = subst (λ (b : Bool). map (λ (e : ℕ × A). e.1) (if b then (w, x) ∷ [] else []) ≡ x ∷ []) (sym (eq-eqb w w refl)) refl

  alone_beside : (v w : ℕ) (x : A) → v ≢ w → on_wire v ((w, x) ∷ []) ≡ []
  alone_beside v w x apart = subst (λ (b : Bool). map (λ (e : ℕ × A). e.1) (if b then (w, x) ∷ [] else []) ≡ []) (sym (ne_eqb w v (λ e. apart (sym e)))) refl

  -- one more on a wire, and on another
  both_on : (v : ℕ) (xs ys : List (ℕ × A)) → on_wire v (xs ++ ys) ≡ on_wire v xs ++ on_wire v ys
  both_on v xs ys =
      ap (map (λ (e : ℕ × A). e.1)) (filter-append (λ (e : ℕ × A). e.0 == v) xs ys)
      ∙ map-append (λ (e : ℕ × A). e.1) (filter (λ (e : ℕ × A). e.0 == v) xs) (filter (λ (e : ℕ × A). e.0 == v) ys)

  pub on_here : (w : ℕ) (xs : List (ℕ × A)) (x : A) → on_wire w (xs ++ (w, x) ∷ []) ≡ on_wire w xs ++ x ∷ []
  on_here w xs x = both_on w xs ((w, x) ∷ []) ∙ ap (λ (ys : List A). on_wire w xs ++ ys) (alone_here w x)

  pub on_beside : (v w : ℕ) (xs : List (ℕ × A)) (x : A) → v ≢ w → on_wire v (xs ++ (w, x) ∷ []) ≡ on_wire v xs
  on_beside v w xs x apart = both_on v xs ((w, x) ∷ []) ∙ ap (λ (ys : List A). on_wire v xs ++ ys) (alone_beside v w x apart) ∙ append-nil (on_wire v xs)

-- a stage with what is tied to it
abbrev IsTiedIn : Told → Told → ℕ → Stage Flow → Type 0
IsTiedIn told before wire stage = IsStage stage × IsTiedStage told before wire stage

tied_in : (told : Told) (line : Line) → IsTied told line → IsTiedIn told line.before line.wire line.stage
tied_in told line t = (t.stage, t.stream)

-- a line of the same wire
tied_to : (told : Told) (old new : Line) → new.wire ≡ old.wire → new.before ≡ old.before → Contains (wires_of told.opened) old.wire → new.held ≡ has_wire old.wire told.held → IsTiedIn told old.before old.wire new.stage → IsTied told new
tied_to told old new w b o h k = record {
  opened = subst (λ (v : ℕ). Contains (wires_of told.opened) v) (sym w) o;
  held = h ∙ ap (λ (v : ℕ). has_wire v told.held) (sym w);
  stage = k.0;
  stream = subst (λ (v : ℕ). IsTiedStage told new.before v new.stage) (sym w) (subst (λ (t : Told). IsTiedStage told t old.wire new.stage) (sym b) k.1);
}

-- what is tied to an open stream that goes on
flow_stays : (told before : Told) (wire : ℕ) (f g : Flow) → Stays f g → IsTiedFlow told before wire f → IsTiedFlow told before wire g
flow_stays told before wire f g s t = record {
  passed = t.passed ∙ ap (λ (xs : List Inward). on_wire wire before.passed ++ xs) (sym s.on.same.passed);
  given = t.given ∙ ap (λ (xs : List (List ℕ)). on_wire wire before.given ++ map (λ (x : List ℕ). given.Stanza x) xs) (sym s.came);
}

module _ (told before : Told) (wire : ℕ) where
  into : (stage new : Stage Flow) → new ≡ stage → IsTiedIn told before wire stage → IsTiedIn told before wire new
  into stage new e k = subst (IsTiedIn told before wire) (sym e) k

  stage_rests : (held : Bool) (old new : Stage Flow) → IsTiedIn told before wire old → StageTells looks.Nothing held old new → IsTiedIn told before wire new
  stage_rests held (stages.Open f) new k (inl t) = into (stages.Open t.0) new t.1 (t.2.on.closed ∙ k.0, flow_stays told before wire f t.0 t.2 k.1)
  stage_rests held (stages.Open f) new k (inr t) = into stages.Failed new t.0 (tt, tt)
  stage_rests held (stages.Leaving f until) new k (inl t) = into (stages.Leaving t.0 until) new t.1 (t.2.closed ∙ k.0, tt)
  stage_rests held (stages.Leaving f until) new k (inr e) = into stages.Over new e (tt, tt)
  stage_rests held stages.Failed new k t = into stages.Failed new t.1 (tt, tt)
  stage_rests held stages.Over new k t = into stages.Over new t.1 (tt, tt)

  stage_wants : (held : Bool) (old new : Stage Flow) → IsTiedIn told before wire old → StageTells looks.NoMemory held old new → IsTiedIn told before wire new
  stage_wants held (stages.Open f) new k t = into (stages.Open t.0) new t.1 (t.2.on.closed ∙ k.0, flow_stays told before wire f t.0 t.2 k.1)
  stage_wants held (stages.Leaving f until) new k t = absurd t
  stage_wants held stages.Failed new k t = absurd t
  stage_wants held stages.Over new k t = absurd (cc)

-- a stanza was given
stage_gives : (told before : Told) (wire : ℕ) (text : List ℕ) (held : Bool) (old new : Stage Flow) → IsTiedIn told before wire old → StageTells (looks.Item text) held old new
    → IsTiedIn (given_too wire (given.Stanza text) told) before wire new
stage_gives told before wire text held (stages.Open f) new k t =
    into (given_too wire (given.Stanza text) told) before wire (stages.Open t.1.0) new t.1.1 (
      t.1.2.on.closed ∙ k.0,
      record {
        passed = k.1.passed ∙ ap (λ (xs : List Inward). on_wire wire before.passed ++ xs) (sym t.1.2.on.same.passed);
        given = on_here wire told.given (given.Stanza text) ∙ ap (λ (xs : List Given). xs ++ given.Stanza text ∷ []) k.1.given
            ∙ append_assoc (on_wire wire before.given) (map (λ (x : List ℕ). given.Stanza x) f.came) (given.Stanza text ∷ [])
            ∙ ap (λ (xs : List Given). on_wire wire before.given ++ xs) (sym (map-append (λ (x : List ℕ). given.Stanza x) f.came (text ∷ [])))
            ∙ ap (λ (xs : List (List ℕ)). on_wire wire before.given ++ map (λ (x : List ℕ). given.Stanza x) xs) (sym t.1.2.came);
      },
    )
stage_gives told before wire text held (stages.Leaving f until) new k t = absurd t
stage_gives told before wire text held stages.Failed new k t = absurd t
stage_gives told before wire text held stages.Over new k t = absurd (cc)

-- the stream of a wire was told to be closed
stage_ends : (told told' before : Told) (wire : ℕ) (closing : Closing) (held : Bool) (old new : Stage Flow) → StageTells (looks.Closed closing) held old new → IsTiedIn told' before wire new
stage_ends told told' before wire closing held (stages.Open f) new (h, inl t) = into told' before wire (stages.Leaving t.0 t.1) new t.2 (t.3.closed, tt)
stage_ends told told' before wire closing held (stages.Open f) new (h, inr t) = into told' before wire stages.Over new t.1 (tt, tt)
stage_ends told told' before wire closing held (stages.Leaving f until) new t = absurd t
stage_ends told told' before wire closing held stages.Failed new t = into told' before wire stages.Over new t.2 (tt, tt)
stage_ends told told' before wire closing held stages.Over new t = absurd (cc)

-- an item was passed
stage_passes : (told before : Told) (wire : ℕ) (item : Inward) (old new : Stage Flow) → IsTiedIn told before wire old → StagePasses item old new → IsTiedIn (passed_too wire item told) before wire new
stage_passes told before wire item (stages.Open f) new k t =
    into (passed_too wire item told) before wire (stages.Open (passed_on t.0 item f)) new t.1 (
      k.0,
      record {
        passed = on_here wire told.passed item ∙ ap (λ (xs : List Inward). xs ++ item ∷ []) k.1.passed ∙ append_assoc (on_wire wire before.passed) f.passed (item ∷ []);
        given = k.1.given;
      },
    )
stage_passes told before wire item (stages.Leaving f until) new k t = into (passed_too wire item told) before wire (stages.Leaving f until) new t (k.0, tt)
stage_passes told before wire item stages.Failed new k t = into (passed_too wire item told) before wire stages.Failed new t (tt, tt)
stage_passes told before wire item stages.Over new k t = into (passed_too wire item told) before wire stages.Over new t (tt, tt)

stage_closes : (told told' before : Told) (wire now : ℕ) (old new : Stage Flow) → IsTiedIn told before wire old → StageCloses now old new → IsTiedIn told' before wire new
stage_closes told told' before wire now (stages.Open f) new k t = into told' before wire _ new t.1 (refl, tt)
stage_closes told told' before wire now (stages.Leaving f until) new k t = into told' before wire (stages.Leaving f until) new t (k.0, tt)
stage_closes told told' before wire now stages.Failed new k t = into told' before wire stages.Over new t (tt, tt)
stage_closes told told' before wire now stages.Over new k t = into told' before wire stages.Over new t (tt, tt)

-- what is told of other wires stays
pub record Beside (wire : ℕ) (told told' : Told) : Type 0 where
  pub opened : (v : ℕ) → Contains (wires_of told.opened) v → Contains (wires_of told'.opened) v
  pub passed : (v : ℕ) → v ≢ wire → on_wire v told'.passed ≡ on_wire v told.passed
  pub given : (v : ℕ) → v ≢ wire → on_wire v told'.given ≡ on_wire v told.given
  pub held : (v : ℕ) → v ≢ wire → has_wire v told'.held ≡ has_wire v told.held

stage_beside : (wire : ℕ) (told told' before : Told) (v : ℕ) → v ≢ wire → Beside wire told told' → (stage : Stage Flow) → IsTiedStage told before v stage → IsTiedStage told' before v stage
stage_beside wire told told' before v apart b (stages.Open f) t = record { passed = b.passed v apart ∙ t.passed; given = b.given v apart ∙ t.given }
stage_beside wire told told' before v apart b (stages.Leaving f until) t = tt
stage_beside wire told told' before v apart b stages.Failed t = tt
stage_beside wire told told' before v apart b stages.Over t = tt

pub tied_beside : (wire : ℕ) (told told' : Told) (line : Line) → Beside wire told told' → line.wire ≢ wire → IsTied told line → IsTied told' line
tied_beside wire told told' line b apart t = record {
  opened = b.opened line.wire t.opened;
  held = t.held ∙ sym (b.held line.wire apart);
  stage = t.stage;
  stream = stage_beside wire told told' line.before line.wire apart b line.stage t.stream;
}

pub given_beside : (wire : ℕ) (what : Given) (told : Told) → Beside wire told (given_too wire what told)
given_beside wire what told = record { opened = λ v k. k; passed = λ v a. refl; given = λ v a. on_beside v wire told.given what a; held = λ v a. refl }

passed_beside : (wire : ℕ) (item : Inward) (told : Told) → Beside wire told (passed_too wire item told)
passed_beside wire item told = record { opened = λ v k. k; passed = λ v a. on_beside v wire told.passed item a; given = λ v a. refl; held = λ v a. refl }

closed_beside : (wire : ℕ) (told : Told) → Beside wire told (closed_too wire told)
closed_beside wire told = record { opened = λ v k. k; passed = λ v a. refl; given = λ v a. refl; held = λ v a. without_other v wire a told.held }

held_beside : (wire : ℕ) (told : Told) → Beside wire told (held_too wire told)
held_beside wire told = record { opened = λ v k. k; passed = λ v a. refl; given = λ v a. refl; held = λ v a. with_other v wire a told.held }

resumed_beside : (wire : ℕ) (told : Told) → Beside wire told (resumed_too wire told)
resumed_beside wire told = record { opened = λ v k. k; passed = λ v a. refl; given = λ v a. refl; held = λ v a. without_other v wire a told.held }

opened_beside : (wire : ℕ) (name : List ℕ) (told : Told) → Beside wire told (opened_too wire name told)
opened_beside wire name told = record { opened = λ v k. subst (λ (ws : List ℕ). Contains ws v) (sym (wires_and told.opened wire name)) (Contains-append_left (wires_of told.opened) (wire ∷ []) v k); passed = λ v a. refl; given = λ v a. refl; held = λ v a. without_other v wire a told.held }

-- ---- whole lists

-- the lines are those of the same wires
apart_still : (xs ys : List Line) → length ys ≡ length xs → ((k : ℕ) (d : Line) → k < length xs → (get_or ys k d).wire ≡ (get_or xs k d).wire) → AreApart xs → AreApart ys
apart_still xs ys count same apart = λ j k d nj nk e.
    apart j k d (omega (arith, nj, count)) (omega (arith, nk, count)) (sym (same j d (omega (arith, nj, count))) ∙ e ∙ same k d (omega (arith, nk, count)))

module _ (wire : ℕ) (R : Line → Line → Type 0) (told told' : Told) (xs ys : List Line) (h : IsServing told xs) (o : OnWire wire R xs ys) (b : Beside wire told told')
    (keeps : (old new : Line) → R old new → new.wire ≡ old.wire) (ties : (old new : Line) → old.wire ≡ wire → R old new → IsTied told old → IsTied told' new) where
  line_on : (k : ℕ) (d : Line) → k < length xs → IsTied told' (get_or ys k d) × ((get_or ys k d).wire ≡ (get_or xs k d).wire)
  line_on k d n = by_wire (cases_eq (get_or xs k d).wire wire)
    where
      by_wire : ((get_or xs k d).wire ≡ wire) ⊎ ((get_or xs k d).wire ≡ wire → ⊥) → IsTied told' (get_or ys k d) × ((get_or ys k d).wire ≡ (get_or xs k d).wire)
      by_wire (inl e) = (ties (get_or xs k d) (get_or ys k d) e (o.here k d n e) (h.tied k d n), keeps (get_or xs k d) (get_or ys k d) (o.here k d n e))
      by_wire (inr a) =
          (subst (IsTied told') (sym (o.others k d n a)) (tied_beside wire told told' (get_or xs k d) b a (h.tied k d n)), ap (λ (t : Line). t.wire) (o.others k d n a))

  serving_on : IsServing told' ys
  serving_on = record {
    tied = λ k d n. (line_on k d (omega (arith, n, o.count))).0;
    apart = apart_still xs ys o.count (λ k d n. (line_on k d n).1) h.apart;
  }

pub serving_passed : (wire : ℕ) (item : Inward) (told : Told) (xs ys : List Line) → IsServing told xs → OnWire wire (PassesLine item) xs ys → IsServing (passed_too wire item told) ys
serving_passed wire item told xs ys h o =
    serving_on wire (PassesLine item) told (passed_too wire item told) xs ys h o (passed_beside wire item told) (λ old new r. ap (λ (t : Line). t.wire) r.others) ties
  where
    stage_of : (old new : Line) → old.wire ≡ wire → PassesLine item old new → IsTied told old → IsTiedIn (passed_too wire item told) old.before old.wire new.stage
    stage_of old new e r t = by_limit r.passed.2
      where
        after : IsTiedIn (passed_too wire item told) old.before old.wire r.passed.0
        after = subst (λ (w : ℕ). IsTiedIn (passed_too w item told) old.before old.wire r.passed.0) e (stage_passes told old.before old.wire item old.stage r.passed.0 (tied_in told old t) r.passed.1)

        by_limit : ((new.stage ≡ r.passed.0) × (OwesTooMuch r.passed.0 → ⊥)) ⊎ ((new.stage ≡ stages.Failed) × OwesTooMuch r.passed.0) → IsTiedIn (passed_too wire item told) old.before old.wire new.stage
        by_limit (inl s) = into (passed_too wire item told) old.before old.wire r.passed.0 new.stage s.0 after
        by_limit (inr s) = into (passed_too wire item told) old.before old.wire stages.Failed new.stage s.0 (tt, tt)

    ties : (old new : Line) → old.wire ≡ wire → PassesLine item old new → IsTied told old → IsTied (passed_too wire item told) new
    ties old new e r t =
        tied_to (passed_too wire item told) old new (ap (λ (l : Line). l.wire) r.others) (ap (λ (l : Line). l.before) r.others) t.opened (ap (λ (l : Line). l.held) r.others ∙ t.held) (stage_of old new e r t)

pub serving_closed : (wire now : ℕ) (told : Told) (xs ys : List Line) → IsServing told xs → OnWire wire (ClosesLine now) xs ys → IsServing (closed_too wire told) ys
serving_closed wire now told xs ys h o =
    serving_on wire (ClosesLine now) told (closed_too wire told) xs ys h o (closed_beside wire told) (λ old new r. ap (λ (t : Line). t.wire) r.others) ties
  where
    ties : (old new : Line) → old.wire ≡ wire → ClosesLine now old new → IsTied told old → IsTied (closed_too wire told) new
    ties old new e r t =
        tied_to (closed_too wire told) old new (ap (λ (l : Line). l.wire) r.others) (ap (λ (l : Line). l.before) r.others) t.opened
        (ap (λ (l : Line). l.held) r.others ∙ sym (without_same wire told.held) ∙ ap (λ (v : ℕ). has_wire v (closed_too wire told).held) (sym e))
        (stage_closes told (closed_too wire told) old.before old.wire now old.stage new.stage (tied_in told old t) r.stage)

-- the same stage, where nothing was passed or given
stage_same : (told told' before : Told) (wire : ℕ) (old new : Stage Flow) → on_wire wire told'.passed ≡ on_wire wire told.passed → on_wire wire told'.given ≡ on_wire wire told.given → new ≡ old → IsTiedIn told before wire old → IsTiedIn told' before wire new
stage_same told told' before wire (stages.Open f) new p g e k = into told' before wire (stages.Open f) new e (k.0, record { passed = p ∙ k.1.passed; given = g ∙ k.1.given })
stage_same told told' before wire (stages.Leaving f until) new p g e k = into told' before wire (stages.Leaving f until) new e (k.0, tt)
stage_same told told' before wire stages.Failed new p g e k = into told' before wire stages.Failed new e (tt, tt)
stage_same told told' before wire stages.Over new p g e k = into told' before wire stages.Over new e (tt, tt)

pub serving_held : (wire : ℕ) (told : Told) (xs ys : List Line) → IsServing told xs → OnWire wire HoldsLine xs ys → IsServing (held_too wire told) ys
serving_held wire told xs ys h o =
    serving_on wire HoldsLine told (held_too wire told) xs ys h o (held_beside wire told) (λ old new r. ap (λ (t : Line). t.wire) r) ties
  where
    ties : (old new : Line) → old.wire ≡ wire → HoldsLine old new → IsTied told old → IsTied (held_too wire told) new
    ties old new e r t =
        tied_to (held_too wire told) old new (ap (λ (l : Line). l.wire) r) (ap (λ (l : Line). l.before) r) t.opened
        (ap (λ (l : Line). l.held) r ∙ sym (with_same wire told.held) ∙ ap (λ (v : ℕ). has_wire v (held_too wire told).held) (sym e))
        (stage_same told (held_too wire told) old.before old.wire old.stage new.stage refl refl (ap (λ (l : Line). l.stage) r) (tied_in told old t))

pub serving_resumed : (wire : ℕ) (told : Told) (xs ys : List Line) → IsServing told xs → OnWire wire ResumesLine xs ys → IsServing (resumed_too wire told) ys
serving_resumed wire told xs ys h o =
    serving_on wire ResumesLine told (resumed_too wire told) xs ys h o (resumed_beside wire told) (λ old new r. ap (λ (t : Line). t.wire) r) ties
  where
    ties : (old new : Line) → old.wire ≡ wire → ResumesLine old new → IsTied told old → IsTied (resumed_too wire told) new
    ties old new e r t =
        tied_to (resumed_too wire told) old new (ap (λ (l : Line). l.wire) r) (ap (λ (l : Line). l.before) r) t.opened
        (ap (λ (l : Line). l.held) r ∙ sym (without_same wire told.held) ∙ ap (λ (v : ℕ). has_wire v (resumed_too wire told).held) (sym e))
        (stage_same told (resumed_too wire told) old.before old.wire old.stage new.stage refl refl (ap (λ (l : Line). l.stage) r) (tied_in told old t))

-- ---- a poll

tied_rests : (told : Told) (old new : Line) → Tells looks.Nothing old new → IsTied told old → IsTied told new
tied_rests told old new r t =
    tied_to told old new r.same.wire r.same.before t.opened (r.same.held ∙ t.held) (stage_rests told old.before old.wire old.held old.stage new.stage (tied_in told old t) r.stage)

tied_calm : (told : Told) (old new : Line) → IsCalm old new → IsTied told old → IsTied told new
tied_calm told old new (inl e) t =
    tied_to told old new (ap (λ (l : Line). l.wire) e) (ap (λ (l : Line). l.before) e) t.opened (ap (λ (l : Line). l.held) e ∙ t.held)
    (stage_same told told old.before old.wire old.stage new.stage refl refl (ap (λ (l : Line). l.stage) e) (tied_in told old t))
tied_calm told old new (inr r) t = tied_rests told old new r t

calm_wire : (old new : Line) → IsCalm old new → new.wire ≡ old.wire
calm_wire old new (inl e) = ap (λ (l : Line). l.wire) e
calm_wire old new (inr r) = r.same.wire

pub serving_still : (told : Told) (xs ys : List Line) → IsServing told xs → length ys ≡ length xs → ((k : ℕ) (d : Line) → k < length xs → IsCalm (get_or xs k d) (get_or ys k d)) → IsServing told ys
serving_still told xs ys h count calm = record {
  tied = λ k d n. tied_calm told (get_or xs k d) (get_or ys k d) (calm k d (omega (arith, n, count))) (h.tied k d (omega (arith, n, count)));
  apart = apart_still xs ys count (λ k d n. calm_wire (get_or xs k d) (get_or ys k d) (calm k d n)) h.apart;
}

module _ (wire : ℕ) (look : Look) (told told' : Told) (xs ys : List Line) (h : IsServing told xs) (o : TellsOn wire look xs ys) (b : Beside wire told told')
    (ties : (old new : Line) → old.wire ≡ wire → Tells look old new → IsTied told old → IsTied told' new) where
  line_told : (k : ℕ) (d : Line) → k < length xs → IsTied told' (get_or ys k d) × ((get_or ys k d).wire ≡ (get_or xs k d).wire)
  line_told k d n = by_place (cases_eq k o.at)
    where
      here : (k : ℕ) → k ≡ o.at → IsTied told' (get_or ys k d) × ((get_or ys k d).wire ≡ (get_or xs k d).wire)
      here k e = subst (λ (j : ℕ). IsTied told' (get_or ys j d) × ((get_or ys j d).wire ≡ (get_or xs j d).wire)) (sym e)
          (ties (get_or xs o.at d) (get_or ys o.at d) (o.wire_is d) (o.tells d) (h.tied o.at d o.there), (o.tells d).same.wire)

      by_place : (k ≡ o.at) ⊎ (k ≡ o.at → ⊥) → IsTied told' (get_or ys k d) × ((get_or ys k d).wire ≡ (get_or xs k d).wire)
      by_place (inl e) = here k e
      by_place (inr a) =
          let c = o.others k d n a in
          let w = calm_wire (get_or xs k d) (get_or ys k d) c in
          (tied_beside wire told told' (get_or ys k d) b (λ e. a (h.apart k o.at d n o.there (sym w ∙ e ∙ sym (o.wire_is d)))) (tied_calm told (get_or xs k d) (get_or ys k d) c (h.tied k d n)), w)

  serving_told : IsServing told' ys
  serving_told = record {
    tied = λ k d n. (line_told k d (omega (arith, n, o.count))).0;
    apart = apart_still xs ys o.count (λ k d n. (line_told k d n).1) h.apart;
  }

pub serving_gave : (wire : ℕ) (text : List ℕ) (told : Told) (xs ys : List Line) → IsServing told xs → TellsOn wire (looks.Item text) xs ys → IsServing (given_too wire (given.Stanza text) told) ys
serving_gave wire text told xs ys h o = serving_told wire (looks.Item text) told (given_too wire (given.Stanza text) told) xs ys h o (given_beside wire (given.Stanza text) told) ties
  where
    ties : (old new : Line) → old.wire ≡ wire → Tells (looks.Item text) old new → IsTied told old → IsTied (given_too wire (given.Stanza text) told) new
    ties old new e r t =
        tied_to (given_too wire (given.Stanza text) told) old new r.same.wire r.same.before t.opened (r.same.held ∙ t.held)
        (subst (λ (w : ℕ). IsTiedIn (given_too w (given.Stanza text) told) old.before old.wire new.stage) e (stage_gives told old.before old.wire text old.held old.stage new.stage (tied_in told old t) r.stage))

pub serving_ended : (wire : ℕ) (closing : Closing) (told : Told) (xs ys : List Line) → IsServing told xs → TellsOn wire (looks.Closed closing) xs ys → IsServing (given_too wire (given.Closed closing) told) ys
serving_ended wire closing told xs ys h o = serving_told wire (looks.Closed closing) told (given_too wire (given.Closed closing) told) xs ys h o (given_beside wire (given.Closed closing) told) ties
  where
    ties : (old new : Line) → old.wire ≡ wire → Tells (looks.Closed closing) old new → IsTied told old → IsTied (given_too wire (given.Closed closing) told) new
    ties old new e r t =
        tied_to (given_too wire (given.Closed closing) told) old new r.same.wire r.same.before t.opened (r.same.held ∙ t.held)
        (stage_ends told (given_too wire (given.Closed closing) told) old.before old.wire closing old.held old.stage new.stage r.stage)

pub serving_wants : (wire : ℕ) (told : Told) (xs ys : List Line) → IsServing told xs → TellsOn wire looks.NoMemory xs ys → IsServing told ys
serving_wants wire told xs ys h o =
    serving_told wire looks.NoMemory told told xs ys h o (record { opened = λ v k. k; passed = λ v a. refl; given = λ v a. refl; held = λ v a. refl }) ties
  where
    ties : (old new : Line) → old.wire ≡ wire → Tells looks.NoMemory old new → IsTied told old → IsTied told new
    ties old new e r t =
        tied_to told old new r.same.wire r.same.before t.opened (r.same.held ∙ t.held) (stage_wants told old.before old.wire old.held old.stage new.stage (tied_in told old t) r.stage)

-- ---- a wire is opened

stage_begins : (wire : ℕ) (to name : List ℕ) (told : Told) (stage : Stage Flow) → IsWatched to stage → IsTiedIn (opened_too wire name told) told wire stage
stage_begins wire to name told (stages.Open f) k = (
  k.open_,
  record {
    passed = sym (append-nil (on_wire wire told.passed)) ∙ ap (λ (xs : List Inward). on_wire wire told.passed ++ xs) (sym k.passed);
    given = sym (append-nil (on_wire wire told.given)) ∙ ap (λ (xs : List (List ℕ)). on_wire wire told.given ++ map (λ (x : List ℕ). given.Stanza x) xs) (sym k.came);
  },
)
stage_begins wire to name told (stages.Leaving f until) k = absurd k
stage_begins wire to name told stages.Failed k = (tt, tt)
stage_begins wire to name told stages.Over k = absurd k

pub serving_opened : (wire : ℕ) (name : List ℕ) (told : Told) (to : List ℕ) (net net' : ports.Counts) (xs ys : List Line) → IsServing told xs → BeginsIn wire told to net net' xs ys → IsServing (opened_too wire name told) ys
serving_opened wire name told to net net' xs ys h o = record { tied = λ k d n. tied_at k d n (cases_eq k o.at); apart = λ j k d nj nk e. apart_at j k d nj nk e (cases_eq j o.at) (cases_eq k o.at) }
  where
    stage_new : (s : Stage Flow) → (IsWatched to s × (net'.dialled ≡ added o.begins.mid.dialled 1)) ⊎ ((s ≡ stages.Failed) × HasFailed o.begins.mid net') → IsTiedIn (opened_too wire name told) told wire s
    stage_new s (inl k) = stage_begins wire to name told s k.0
    stage_new s (inr k) = into (opened_too wire name told) told wire stages.Failed s k.0 (tt, tt)

    line_new : IsTied (opened_too wire name told) o.line
    line_new =
        let e = o.begins.begins.is in
        tied_to (opened_too wire name told) (record { wire = wire; stage = o.line.stage; held = false; noisy = true; before = told }) o.line (ap (λ (l : Line). l.wire) e) (ap (λ (l : Line). l.before) e) (subst (λ (ws : List ℕ). Contains ws wire) (sym (wires_and told.opened wire name)) (Contains-push (wires_of told.opened) wire))
        (ap (λ (l : Line). l.held) e ∙ sym (without_same wire told.held)) (stage_new o.line.stage o.begins.begins.begins.is)

    wire_new : (d : Line) → (get_or ys o.at d).wire ≡ wire
    wire_new d = ap (λ (l : Line). l.wire) (o.line_is d) ∙ ap (λ (l : Line). l.wire) o.begins.begins.is

    other_wire : (k : ℕ) (d : Line) → k < length ys → k ≢ o.at → (get_or ys k d).wire ≢ wire
    other_wire k d n a e = o.apart k d (o.known k n a) a (sym (ap (λ (l : Line). l.wire) (o.others k d n a)) ∙ e)

    tied_at : (k : ℕ) (d : Line) → k < length ys → (k ≡ o.at) ⊎ (k ≡ o.at → ⊥) → IsTied (opened_too wire name told) (get_or ys k d)
    tied_at k d n (inl e) = subst (λ (j : ℕ). IsTied (opened_too wire name told) (get_or ys j d)) (sym e) (subst (IsTied (opened_too wire name told)) (sym (o.line_is d)) line_new)
    tied_at k d n (inr a) =
        subst (IsTied (opened_too wire name told)) (sym (o.others k d n a)) (tied_beside wire told (opened_too wire name told) (get_or xs k d) (opened_beside wire name told) (o.apart k d (o.known k n a) a) (h.tied k d (o.known k n a)))

    apart_at : (j k : ℕ) (d : Line) → j < length ys → k < length ys → (get_or ys j d).wire ≡ (get_or ys k d).wire → (j ≡ o.at) ⊎ (j ≡ o.at → ⊥) → (k ≡ o.at) ⊎ (k ≡ o.at → ⊥) → j ≡ k
    apart_at j k d nj nk e (inl x) (inl y) = x ∙ sym y
    apart_at j k d nj nk e (inl x) (inr y) = absurd (other_wire k d nk y (sym e ∙ ap (λ (i : ℕ). (get_or ys i d).wire) x ∙ wire_new d))
    apart_at j k d nj nk e (inr x) (inl y) = absurd (other_wire j d nj x (e ∙ ap (λ (i : ℕ). (get_or ys i d).wire) y ∙ wire_new d))
    apart_at j k d nj nk e (inr x) (inr y) =
        h.apart j k d (o.known j nj x) (o.known k nk y) (ap (λ (l : Line). l.wire) (sym (o.others j d nj x)) ∙ e ∙ ap (λ (l : Line). l.wire) (o.others k d nk y))

-- no wire was opened
pub serving_none : (told : Told) (xs : List Line) → xs ≡ [] → IsServing told xs
serving_none told xs e = record {
  tied = λ k d n. absurd (none k n);
  apart = λ j k d nj nk w. absurd (none j nj);
}
  where
    none : (k : ℕ) → k < length xs → ⊥
    none k n = omega (arith, n, ap length e)
