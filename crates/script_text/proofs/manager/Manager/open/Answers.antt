use Rattle.std.proofs.Common.{◌∙◌, [], ◌∷◌, refl, ap, sym, subst, arith}
use Rattle.bosh_types.specs.declared.hosts.HostName.{HostName}
use Rattle.body_writer.specs.Answer.{answer_text}
use Rattle.session_core.specs.Journal.{IsOpening}
use Rattle.session_core.specs.Machine.{created_parts}
use Rattle.session_journal.specs.Stored.{IsJournalOf}
use Rattle.script_text.specs.declared.report.ReportLine.TheVariants.{Out}
use Rattle.script_text.specs.Live.{refused_first, told}
use Rattle.script_text.specs.Manager.{opened_live, opening_by}
use Rattle.script_text.specs.Stands.{IsTurn}
use Rattle.script_text.proofs.LiveLemmas.{IfOk-from, unrefused}
use Rattle.script_text.proofs.OpeningLemmas.{one_host, opens}
use Rattle.script_text.proofs.manager.Manager.open.Goals as goal

pub open-requires : goal.open-requires
open-requires c =
    subst IsOpening (sym c.in_ok-opening.ensures)
    (opens c.at-host.result.now c.args.number c.args.self.now.moment c.args.post.now.body _ _ c.args.post.now.request c.args.creation.now _ c.at-host.ensures.good (omega (arith, c.requires.few)) (omega (arith, c.requires.few))
    refl refl c.requires.read c.requires.creation refl)

pub returns : goal.returns
returns c = IfOk-from c.told.result _ _ (λ turned it host at.
    let o = opening_by host c.args.number c.args.post.now.body c.args.post.now.request c.args.creation.now c.args.self.now.moment in
    let is =
    c.in_ok-opening.ensures
    ∙ ap (λ (h : HostName). opening_by h c.args.number c.args.post.now.body c.args.post.now.request c.args.creation.now c.args.self.now.moment)
    (one_host c.args.self.now.hosts c.args.place _ host c.at-host.ensures.host at) in
    let s = opened_live c.args.number o in
    let turn = told s (Out c.args.post.now.conn (answer_text (created_parts o)) ∷ []) in
    unrefused turned turn (subst (λ l. IsTurn turned (refused_first l turn)) c.new-2.ensures.items
    (subst (λ b. IsTurn turned (refused_first c.new-2.result.items (told s (Out c.args.post.now.conn b ∷ [])))) (c.in_ok-session.ensures.text ∙ ap (λ p. answer_text (created_parts p)) is)
    (it s (record { number = refl; journal = subst (λ p. IsJournalOf c.in_ok-session.session (record { opening = p; entries = [] })) is c.in_ok-session.ensures.journal; parked = c.new.ensures.items }))))) c.told.ensures
