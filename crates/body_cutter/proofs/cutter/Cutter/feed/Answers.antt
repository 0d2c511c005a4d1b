use Rattle.std.specs.Prelude.{Result, Ok, Err, OnErr}
use Rattle.body_cutter.specs.declared.place.Kind.TheVariants as kinds
use Rattle.body_cutter.specs.Feeding.{StandsFor}
use Rattle.body_cutter.proofs.CompletionViable.{body_viable}
use Rattle.body_cutter.proofs.cutter.Cutter.feed.Goals as goal

on_err : {A E : Type 0} (r : Result A E) (P Q : Type 0) → (P → Q) → OnErr r P → OnErr r Q
on_err (Ok x) P Q f h = h
on_err (Err e) P Q f h = f h

pub returns-clause-fed : goal.returns-clause-fed
unfolding StandsFor
returns-clause-fed c = λ text f. c.feed.ensures.fed kinds.Body text f

pub returns-clause-unfed : goal.returns-clause-unfed
unfolding StandsFor
returns-clause-unfed c = λ text f. c.feed.ensures.unfed kinds.Body text f

pub returns-clause-viable : goal.returns-clause-viable
unfolding StandsFor
returns-clause-viable c = λ text f. on_err c.feed.result _ _ (λ e. (body_viable text).1 e) (c.feed.ensures.alive kinds.Body text f)
