use Rattle.std.proofs.Common.{sym, ap, ◌∙◌, refl, inl}
use Rattle.parked_gate.specs.Passes.{known}
use Rattle.serve_loop.specs.Asked.{asked_of}
use Rattle.serve_loop.specs.Trail.{refusal_text}
use Rattle.serve_loop.proofs.AnswersLemmas.{answers_from, on_err, on_err_as}
use Rattle.serve_loop.proofs.DrawingLemmas.{draws_none, draws_still}
use Rattle.serve_loop.proofs.EffectLemmas.{adds_nothing_same}
use Rattle.serve_loop.proofs.TellingLemmas.{tells_nothing}
use Rattle.serve_loop.proofs.worker.Worker.answer.Goals as goal

pub create-requires-clause-asks : goal.create-requires-clause-asks
create-requires-clause-asks g c = ap (λ b. asked_of c.args.site.now.hosts.now b) (sym c.as_slice.ensures) ∙ sym c.in_ok-asked.ensures ∙ c.in-Creation.is

pub serve-requires-clause-asks : goal.serve-requires-clause-asks
serve-requires-clause-asks g c = ap (λ b. asked_of c.args.site.now.hosts.now b) (sym c.as_slice.ensures) ∙ sym c.in_ok-asked.ensures ∙ c.in-Later.is

pub returns-in-Nothing-clause-answers : goal.returns-in-Nothing-clause-answers
returns-in-Nothing-clause-answers g c =
    let asks = ap (λ b. asked_of c.args.site.now.hosts.now b) (sym c.as_slice.ensures) ∙ sym c.in_ok-asked.ensures ∙ c.in-Nothing.is in
    answers_from c.refuse.result _ c.args.body (refusal_text c.in-Nothing.condition) _ _ _ _ _ c.refuse.ensures.text c.refuse.ensures.line
    (λ adds. tells_nothing _ c.args.body _ _ _ _ c.in-Nothing.condition asks refl adds)

pub returns-in-Nothing-clause-lost : goal.returns-in-Nothing-clause-lost
returns-in-Nothing-clause-lost g c = on_err _ _ (inl (adds_nothing_same _ _ refl))

pub returns-in-Later-clause-lost : goal.returns-in-Later-clause-lost
returns-in-Later-clause-lost g c = on_err_as c.serve.result _ _ (λ none. inl none) c.serve.ensures.lost

pub returns-in_err-asked-clause-lost : goal.returns-in_err-asked-clause-lost
returns-in_err-asked-clause-lost g c = on_err _ _ (inl (adds_nothing_same _ _ refl))

pub returns-in-Nothing-clause-drawn : goal.returns-in-Nothing-clause-drawn
returns-in-Nothing-clause-drawn g c = draws_still (g.M.Names.drawn c.args.tools.now.names) (known c.args.self.now.purse.directory)

pub returns-in-Later-clause-drawn : goal.returns-in-Later-clause-drawn
returns-in-Later-clause-drawn g c =
    draws_none (g.M.Names.drawn c.args.tools.now.names) (g.M.Names.drawn c.serve.new.tools.names) (known c.args.self.now.purse.directory) (known c.serve.new.self.purse.directory)
    (ap g.M.Names.drawn c.serve.ensures.names) c.serve.ensures.grows

pub returns-in_err-asked-clause-drawn : goal.returns-in_err-asked-clause-drawn
returns-in_err-asked-clause-drawn g c = draws_still (g.M.Names.drawn c.args.tools.now.names) (known c.args.self.now.purse.directory)
