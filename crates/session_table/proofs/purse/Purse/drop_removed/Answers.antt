use Rattle.std.proofs.Common.{◌∙◌, rules}
use Rattle.std.proofs.lemmas.Map.Made.{filter_same_pairs}
use Rattle.parked_gate.specs.Passes.{known}
use Rattle.session_table.proofs.PassLemmas.{grows_by_look}
use Rattle.session_table.proofs.PurseLemmas.{keeps_live}
use Rattle.session_table.proofs.purse.Purse.drop_removed.Goals as goal

pub returns-in_err-live-clause-grows : goal.returns-in_err-live-clause-grows
returns-in_err-live-clause-grows g c = grows_by_look _ _ _ c.look.ensures.number c.look.ensures.looked

pub returns-clause-grows : goal.returns-clause-grows
returns-clause-grows g c = grows_by_look _ _ _ c.look.ensures.number c.look.ensures.looked

pub returns-in_err-live-clause-asked : goal.returns-in_err-live-clause-asked
returns-in_err-live-clause-asked g c = (c.look.ensures.looked.earlier, c.look.ensures.looked.learnt)

pub returns-clause-asked : goal.returns-clause-asked
returns-clause-asked g c = (c.look.ensures.looked.earlier, c.look.ensures.looked.learnt)

pub returns-clause-live : goal.returns-clause-live
returns-clause-live g c =
    keeps_live (known c.look.new.pass).seen c.as_slice-live.result.now c.args.self.now.sessions c.retain.new.self (c.as_slice-live.ensures ∙ c.in_ok-live.ensures.looked.says)
    (filter_same_pairs _ _ _ (λ k v b w f' t. search rules) _ _ c.retain.ensures.filtered)
