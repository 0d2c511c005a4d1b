-- What looks at lines tell.
use Rattle.std.proofs.Common.{◌≡◌, ◌≢◌, ◌⊎◌, ◌≤◌, ◌<◌, ◌+◌, ◌∙◌, inl, inr, ℕ, Bool, List, length, get_or, refl, sym, ap, subst, arith}
use Rattle.std.proofs.lemmas.Bool.{cases_lt}
use Rattle.stream_backend.specs.declared.stage.Stage.{Stage}
use Rattle.stream_backend.specs.declared.stage.Stage.TheVariants as stages
use Rattle.stream_backend.specs.declared.stage.Found.{Found}
use Rattle.stream_backend.specs.declared.stage.Found.TheVariants as found
use Rattle.stream_backend.specs.declared.looking.Look.{Look}
use Rattle.stream_backend.specs.declared.looking.Look.TheVariants as looks
use Rattle.stream_backend.specs.Flow.{Flow}
use Rattle.stream_backend.specs.Lines.{AreStill, FindsLine, IsStill, Line, Sees, StageTells, Tells, WantsLine}
use Rattle.stream_backend.specs.Serving.{AllStill, SeesOne}
use Rattle.stream_backend.specs.Stages.{Finds, Wants}

busy_stage : (held : Bool) (old new : Stage Flow) → Finds found.Busy held old new → StageTells looks.Nothing held old new
busy_stage held (stages.Open flow) new f = inl (f.0, f.1, f.2.0)
busy_stage held (stages.Leaving flow until) new f = inl f
busy_stage held stages.Failed new f = absurd f.1
busy_stage held stages.Over new f = absurd (not_quiet f.1)
  where
    not_quiet : found.Busy ≡ found.Quiet → ⊥
    not_quiet e = cc

busy_still : (old new : Line) (stage : Stage Flow) → old.stage ≡ stage → Finds found.Busy old.held stage new.stage → IsStill old new
busy_still old new (stages.Open flow) e f = IsStill.busy flow f.0 e f.1 f.2.1
busy_still old new (stages.Leaving flow until) e f = IsStill.leaving f.0 until f.1
busy_still old new stages.Failed e f = absurd f.1
busy_still old new stages.Over e f = IsStill.over f.0

-- much was taken of it
pub tells_busy : (old new : Line) (what : Found) → what ≡ found.Busy → FindsLine what old new → Tells looks.Nothing old new
tells_busy old new what e h =
    let f : Finds found.Busy old.held old.stage new.stage = subst (λ (w : Found). Finds w old.held old.stage new.stage) e h.stage in
    record { same = h.same; stage = busy_stage old.held old.stage new.stage f; still = λ _. busy_still old new old.stage refl f }

wants_stage : (held : Bool) (old new : Stage Flow) → Wants old new → StageTells looks.NoMemory held old new
wants_stage held (stages.Open flow) new w = w
wants_stage held (stages.Leaving flow until) new w = absurd w
wants_stage held stages.Failed new w = absurd w
wants_stage held stages.Over new w = absurd w

-- there was no memory to look at it
pub tells_want : (old new : Line) → WantsLine old new → Tells looks.NoMemory old new
tells_want old new w = record { same = w.same; stage = wants_stage old.held old.stage new.stage w.stage; still = λ e. absurd (cc) }

-- nothing was looked at
pub still_none : (at : ℕ) (xs : List Line) → AreStill at at xs xs
still_none at xs = record { count = refl; looked = λ k d low high. absurd (omega arith); others = λ k d o. refl }

module _ (x y z : List Line) where
  -- one more
  pub still_more : (from at : ℕ) → from ≤ at → AreStill from at x y → AreStill at (at + 1) y z → AreStill from (at + 1) x z
  still_more from at low a b = record {
    count = b.count ∙ a.count;
    looked = λ k d l h n. by_place k d l h n (cases_lt k at);
    others = λ k d o. b.others k d (outer k o) ∙ a.others k d (inner k o);
  }
    where
      by_place : (k : ℕ) (d : Line) → from ≤ k → k < at + 1 → k < length x → (k < at) ⊎ (at ≤ k) → Tells looks.Nothing (get_or x k d) (get_or z k d)
      by_place k d l h n (inl s) = subst (λ (t : Line). Tells looks.Nothing (get_or x k d) t) (sym (b.others k d (inl s))) (a.looked k d l s n)
      by_place k d l h n (inr s) = subst (λ (t : Line). Tells looks.Nothing t (get_or z k d)) (a.others k d (inr s)) (b.looked k d s h (omega (arith, n, a.count)))

      outer : (k : ℕ) → (k < from) ⊎ (at + 1 ≤ k) → (k < at) ⊎ (at + 1 ≤ k)
      outer k (inl s) = inl (omega arith)
      outer k (inr s) = inr s

      inner : (k : ℕ) → (k < from) ⊎ (at + 1 ≤ k) → (k < from) ⊎ (at ≤ k)
      inner k (inl s) = inl s
      inner k (inr s) = inr (omega arith)

  -- and then one has something to tell
  pub sees_more : (from at : ℕ) (look : Look) (wire : ℕ) → from ≤ at → AreStill from at x y → Sees at at look wire y z → Sees from at look wire x z
  sees_more from at look wire low a b = record {
    count = b.count ∙ a.count;
    here = omega (arith, b.here, a.count);
    wire_is = λ d. ap (λ (t : Line). t.wire) (sym (a.others at d (inr (omega arith)))) ∙ b.wire_is d;
    tells = λ d. subst (λ (t : Line). Tells look t (get_or z at d)) (a.others at d (inr (omega arith))) (b.tells d);
    looked = λ k d l h. subst (λ (t : Line). Tells looks.Nothing (get_or x k d) t) (sym (b.others k d (inl h))) (a.looked k d l h (omega (arith, h, b.here, a.count)));
    others = λ k d o. b.others k d (outer k o) ∙ a.others k d (inner k o);
  }
    where
      outer : (k : ℕ) → (k < from) ⊎ (at < k) → (k < at) ⊎ (at < k)
      outer k (inl s) = inl (omega arith)
      outer k (inr s) = inr s

      inner : (k : ℕ) → (k < from) ⊎ (at < k) → (k < from) ⊎ (at ≤ k)
      inner k (inl s) = inl s
      inner k (inr s) = inr (omega arith)

  -- those after a place and then those up to it
  pub still_round : (from len : ℕ) → len ≡ length x → AreStill from len x y → AreStill 0 from y z → AllStill x z
  still_round from len all a b = record { count = b.count ∙ a.count; each = λ k d n. by_place k d n (cases_lt k from) }
    where
      by_place : (k : ℕ) (d : Line) → k < length x → (k < from) ⊎ (from ≤ k) → Tells looks.Nothing (get_or x k d) (get_or z k d)
      by_place k d n (inl s) = subst (λ (t : Line). Tells looks.Nothing t (get_or z k d)) (a.others k d (inl s)) (b.looked k d (omega arith) s (omega (arith, n, a.count)))
      by_place k d n (inr s) = subst (λ (t : Line). Tells looks.Nothing (get_or x k d) t) (sym (b.others k d (inr s))) (a.looked k d s (omega (arith, all, n)) n)

  pub sees_round : (from at len : ℕ) (look : Look) (wire : ℕ) → len ≡ length x → at < from → AreStill from len x y → Sees 0 at look wire y z → SeesOne at look wire x z
  sees_round from at len look wire all below a b = record {
    count = b.count ∙ a.count;
    there = omega (arith, b.here, a.count);
    wire_is = λ d. ap (λ (t : Line). t.wire) (sym (a.others at d (inl below))) ∙ b.wire_is d;
    tells = λ d. subst (λ (t : Line). Tells look t (get_or z at d)) (a.others at d (inl below)) (b.tells d);
    others = λ k d n apart. by_place k d n apart (cases_lt k at) (cases_lt k from);
  }
    where
      by_place : (k : ℕ) (d : Line) → k < length x → k ≢ at → (k < at) ⊎ (at ≤ k) → (k < from) ⊎ (from ≤ k) → (get_or z k d ≡ get_or x k d) ⊎ Tells looks.Nothing (get_or x k d) (get_or z k d)
      by_place k d n apart (inl s) f = inr (subst (λ (t : Line). Tells looks.Nothing t (get_or z k d)) (a.others k d (inl (omega arith))) (b.looked k d (omega arith) s))
      by_place k d n apart (inr s) (inl f) = inl (b.others k d (inr (later k apart s)) ∙ a.others k d (inl f))
        where
          later : (k : ℕ) → k ≢ at → at ≤ k → at < k
          later k apart s = grind (arith, apart)
      by_place k d n apart (inr s) (inr f) = inr (subst (λ (t : Line). Tells looks.Nothing (get_or x k d) t) (sym (b.others k d (inr (omega arith)))) (a.looked k d f (omega (arith, all, n)) n))

-- one of the first has something to tell
pub sees_first : (x y : List Line) (from at : ℕ) (look : Look) (wire : ℕ) → Sees from at look wire x y → SeesOne at look wire x y
sees_first x y from at look wire b = record {
  count = b.count;
  there = b.here;
  wire_is = b.wire_is;
  tells = b.tells;
  others = λ k d n apart. by_place k d apart (cases_lt k from) (cases_lt k at);
}
  where
    by_place : (k : ℕ) (d : Line) → k ≢ at → (k < from) ⊎ (from ≤ k) → (k < at) ⊎ (at ≤ k) → (get_or y k d ≡ get_or x k d) ⊎ Tells looks.Nothing (get_or x k d) (get_or y k d)
    by_place k d apart (inl f) s = inl (b.others k d (inl f))
    by_place k d apart (inr f) (inl s) = inr (b.looked k d f s)
    by_place k d apart (inr f) (inr s) = inl (b.others k d (inr (later k apart s)))
      where
        later : (k : ℕ) → k ≢ at → at ≤ k → at < k
        later k apart s = grind (arith, apart)
