use Rattle.std.proofs.Common.{◌∙◌, [], Some, ap, refl, subst, sym}
use Rattle.body_writer.specs.Answer.{answer_text}
use Rattle.session_attrs.specs.Terms.{terms_of}
use Rattle.session_core.specs.Journal.{IsOpening}
use Rattle.session_core.specs.Machine.{created_parts}
use Rattle.session_core.specs.declared.opening.Opening.{Opening}
use Rattle.session_journal.specs.Stored.{IsJournalOf}
use Rattle.two_ends.specs.declared.world.World.{World}
use Rattle.two_ends.specs.Worlds.{IsPlainStep}
use Rattle.world_laws.specs.Manager.{opens}
use Rattle.world_laws.specs.Steps.{name, opening, turns}
use Rattle.two_ends.proofs.OpenLemmas.{may_open, opened_turn}
use Rattle.two_ends.proofs.TellLemmas.{turned_step}
use Rattle.two_ends.proofs.TurnLemmas.{IfOk-from}
use Rattle.two_ends.proofs.world.World.create.Goals as goal

pub open-requires : goal.open-requires
open-requires c =
    let site = c.args.self.now.site in
    subst IsOpening (sym c.in_ok-opening.ensures)
    (may_open site.host site.greeting c.args.request.now c.args.creation c.args.body.now c.args.body.now name (terms_of c.args.creation) c.args.self.now.moment
    site.served c.requires.read c.requires.kind refl refl refl)

pub returns : goal.returns
returns c =
    let next : World = record c.args.self.now { manager = Some c.in_ok-manager.manager; written = c.see_all.new.written } in
    IfOk-from c.see_all.result _ _ (λ news sees w is.
    let turn = opens (opening w c.args.request.now c.args.body.now c.args.creation) in
    let is_turn = opened_turn c.args.self.now w is.rest c.args.request.now c.args.creation c.args.body.now c.args.body.now name (terms_of c.args.creation) c.in_ok-session.session c.in_ok-session.answer
    c.in_ok-manager.told.items c.in_ok-manager.manager refl refl refl
    (subst (λ (o : Opening). IsJournalOf c.in_ok-session.session (record { opening = o; entries = [] })) c.in_ok-opening.ensures c.in_ok-session.ensures.journal)
    (c.in_ok-session.ensures.text ∙ ap (λ (o : Opening). answer_text (created_parts o)) c.in_ok-opening.ensures) c.in_ok-manager.ensures in
    subst (λ items. IsPlainStep news next (turns w items turn)) c.new.ensures.items
    (turned_step c.args.self.now next w is.rest c.in_ok-manager.told.items c.in_ok-manager.manager turn is_turn c.new.result.items news sees refl refl refl refl refl refl)) c.see_all.ensures
