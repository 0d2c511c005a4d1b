-- The lines of a connection, each with what its worker kept before it and after it.
use Rattle.std.proofs.Common.{◌≡◌, ◌⊎◌, ℕ, List, [], ◌∷◌, ◌++◌, All, refl, sym, subst, inl, inr}
use Rattle.std.proofs.lemmas.List.Elements.{All-head, All-tail}
use Rattle.bosh_http.specs.declared.refusal.HttpRefusal.{HttpRefusal}
use Rattle.parked_gate.specs.Passes.{known}
use Rattle.session_table.specs.declared.purse.Purse.{Purse}
use Rattle.serve_loop.specs.declared.trail.Evidence.TheVariants as evidence
use Rattle.serve_loop.specs.declared.trail.Traced.{Traced}
use Rattle.serve_loop.specs.declared.trail.TrailLine.TheVariants as lines
use Rattle.serve_loop.specs.Connections.{Exchange, Follows, TellsTruth, lines_of}
use Rattle.serve_loop.specs.Trail.{IsTrueOf, Setting}
use Rattle.trail_laws.proofs.ChainLemmas.{Chain, Grew, Steps, grew_on}
use Rattle.trail_laws.proofs.StepLemmas.{quiet, same_directory, step_by}

-- the line is true of a request
pub record Answers (site : Setting) (old : Purse) (t : Traced) (new : Purse) : Type 0 where
  pub body : List ℕ
  pub text : List ℕ
  pub true_of : IsTrueOf site body text old new t.line t.evidence

-- what came was no request, which the line says; nothing was called for it
pub record Refuses (old : Purse) (t : Traced) (new : Purse) : Type 0 where
  pub refusal : HttpRefusal
  pub is : t ≡ record { line = lines.Http refusal; evidence = evidence.Request }
  pub same : new ≡ old

abbrev pub IsStep : Setting → Purse → Traced → Purse → Type 0
IsStep site old t new = Answers site old t new ⊎ Refuses old t new

-- lines, one after the other
abbrev pub Walks : Setting → Purse → List Traced → Purse → Type 0
Walks site p [] q = q ≡ p
Walks site p (t ∷ ts) q = (next : Purse) × IsStep site p t next × Walks site next ts q

steps_of : (site : Setting) (p q : Purse) (t : Traced) → IsStep site p t q → Steps site.limits (known p.directory) t (known q.directory)
steps_of site p q t (inl a) = step_by site a.body a.text p q t.line t.evidence a.true_of
steps_of site p q t (inr r) =
    subst (λ (l : Traced). Steps site.limits (known p.directory) l (known q.directory)) (sym r.is)
    (quiet site.limits (known p.directory) (known q.directory) (record { line = lines.Http r.refusal; evidence = evidence.Request }) refl refl refl (same_directory p q r.same))

pub chain_of : (site : Setting) (p q : Purse) (ts : List Traced) → Walks site p ts q → Chain site.limits (known p.directory) ts (known q.directory)
chain_of site p q [] same = same_directory p q same
chain_of site p q (t ∷ ts) (next, step, rest) = (known next.directory, steps_of site p next t step, chain_of site next q ts rest)

pub step_grew : (site : Setting) (p q : Purse) (t : Traced) → IsStep site p t q → Grew (known p.directory) (known q.directory)
step_grew site p q t step = (steps_of site p q t step).grew

pub walk_grew : (site : Setting) (p q : Purse) (ts : List Traced) → Walks site p ts q → Grew (known p.directory) (known q.directory)
walk_grew site p q [] same = same_directory p q same
walk_grew site p q (t ∷ ts) (next, step, rest) = grew_on (known p.directory) (known next.directory) (known q.directory) (step_grew site p next t step) (walk_grew site next q ts rest)

pub walk_more : (site : Setting) (p mid q : Purse) (ts : List Traced) (t : Traced) → Walks site p ts mid → IsStep site mid t q → Walks site p (ts ++ t ∷ []) q
walk_more site p mid q [] t same step = (q, subst (λ from. IsStep site from t q) same step, refl)
walk_more site p mid q (x ∷ xs) t (next, first, rest) step = (next, first, walk_more site next mid q xs t rest step)

-- the lines of the exchanges
pub walk_of : (site : Setting) (es : List Exchange) (first last : Purse) → All (TellsTruth site) es → Follows first es last → Walks site first (lines_of es) last
walk_of site [] first last all is = is
walk_of site (e ∷ es) first last all (before, later) = (
  e.after,
  subst (λ from. IsStep site from e.traced e.after) before (inl (record { body = e.body; text = e.text; true_of = All-head (TellsTruth site) e es all })),
  walk_of site es e.after last (All-tail (TellsTruth site) e es all) later,
)
