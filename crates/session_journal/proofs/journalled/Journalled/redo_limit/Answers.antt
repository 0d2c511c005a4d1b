use Rattle.std.proofs.Common.{◌≡◌, ◌∷◌, [], ◌++◌, refl, ap, subst, ◌∙◌}
use Rattle.parked_gate.specs.Histories.{Appends}
use Rattle.session_journal.specs.declared.entry.Entered.TheVariants as stored
use Rattle.session_journal.specs.declared.entry.Entry.{Entry}
use Rattle.session_journal.specs.Redoing.{may_limit}
use Rattle.session_journal.specs.Stored.{After}
use Rattle.session_journal.specs.Storing.{by_caller}
use Rattle.session_journal.proofs.RedoneLemmas.{foreign_limit, legal_limit}
use Rattle.session_journal.proofs.journalled.Journalled.redo_limit.Goals as goal

pub returns-then-not-may_limit-clause-redoes : goal.returns-then-not-may_limit-clause-redoes
returns-then-not-may_limit-clause-redoes c = (
  refl,
  foreign_limit c.args.self.now c.args.caller c.args.kind c.args.cost c.args.now c.may_limit.result
      (subst (λ l. After l (λ s. c.may_limit.result ≡ may_limit s c.args.kind c.args.cost c.args.now)) ((c.self.invariant).0 ∙ c.self.view_is) c.may_limit.ensures)
      c.if-not-may_limit.true,
)

pub returns-clause-redoes : goal.returns-clause-redoes
returns-clause-redoes c =
    let entry : Entry = record { caller = c.args.caller; call = stored.Limit c.args.kind c.args.cost c.args.now } in
    let adds = subst (λ o. Appends (λ e. e.caller) c.args.caller c.make_room.new.entries.items (by_caller c.args.caller o) c.store.new.entries.items) c.in_ok-entered.ensures.entry c.store.ensures.items in (
      adds.0 ∙ ap (λ l. l ++ entry ∷ []) (c.make_room.ensures.items ∙ c.self.view_is),
      legal_limit c.args.self.now c.args.caller c.args.kind c.args.cost c.args.now c.may_limit.result
          (subst (λ l. After l (λ s. c.may_limit.result ≡ may_limit s c.args.kind c.args.cost c.args.now)) ((c.self.invariant).0 ∙ c.self.view_is) c.may_limit.ensures)
          c.if-not-may_limit.false,
    )
