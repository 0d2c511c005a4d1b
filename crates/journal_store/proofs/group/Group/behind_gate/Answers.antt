use Rattle.std.proofs.Common.{◌∷◌, ◌++◌, [], ℕ, List, ◌∙◌, ap, subst}
use Rattle.journal_store.specs.Group.{AreRecords}
use Rattle.journal_store.proofs.GroupLemmas as lemmas
use Rattle.journal_store.proofs.group.Group.behind_gate.Goals as goal

pub returns-clause-behind : goal.returns-clause-behind
returns-clause-behind c =
    lemmas.behind_gate c.deref.result.now c.args.self.now (c.deref.ensures.value ∙ c.self.invariant.1 ∙ ap (λ (l : List ℕ). l ++ 0 ∷ []) c.self.view_is)
    (subst AreRecords c.self.view_is c.self.invariant.0) c.requires
