-- From a last call's result to what is answered.
use Rattle.std.proofs.Common.{◌≡◌, ℕ, List, Result, Ok, Err, sym, subst}
use Rattle.std.specs.Prelude.{IfOk, OnErr}
use Rattle.session_table.specs.declared.purse.Purse.{Purse}
use Rattle.serve_loop.specs.declared.answering.Answering.{Answering}
use Rattle.serve_loop.specs.declared.answering.Answering.TheVariants.{Now}
use Rattle.serve_loop.specs.declared.trail.Evidence.{Evidence}
use Rattle.serve_loop.specs.declared.trail.Traced.{Traced}
use Rattle.serve_loop.specs.declared.trail.TrailLine.{TrailLine}
use Rattle.serve_loop.specs.Answering.{Adds, Answers, Tells}
use Rattle.serve_loop.specs.Trail.{Setting}

pub answers_from : {E : Type 0} (r : Result Answering E) (site : Setting) (body text : List ℕ) (old new : List Traced) (before after : Purse) (P : Type 0)
    → IfOk r (λ answering. answering ≡ Now text) → IfOk r (λ _. P) → (P → Tells site body text old new before after) → IfOk r (Answers site body old new before after)
answers_from (Ok answering) site body text old new before after P is so tells = subst (Answers site body old new before after) (sym is) (tells so)
answers_from (Err error) site body text old new before after P is so tells = is

-- what is so for want of memory
pub on_err : {T E : Type 0} (r : Result T E) (P : Type 0) → P → OnErr r P
on_err (Ok x) P so = tt
on_err (Err error) P so = so

pub on_err_as : {T E : Type 0} (r : Result T E) (P Q : Type 0) → (P → Q) → OnErr r P → OnErr r Q
on_err_as (Ok x) P Q by so = tt
on_err_as (Err error) P Q by so = by so

-- two facts of one result
pub both_ok : {T E : Type 0} (r : Result T E) (P Q : Type 0) → IfOk r (λ _. P) → IfOk r (λ _. Q) → IfOk r (λ _. P × Q)
both_ok (Ok x) P Q p q = (p, q)
both_ok (Err error) P Q p q = p

-- what shows in one way, shows in another
pub shown_as : (old new : List Traced) (line : TrailLine) (Shows Tells : Evidence → Type 0) → ((by : Evidence) → Shows by → Tells by) → Adds old new line Shows → Adds old new line Tells
shown_as old new line Shows Tells by adds = record { by = adds.by; grew = adds.grew; shows = by adds.by adds.shows }
