use Rattle.std.proofs.Common.{refl, sym, subst, inl}
use Rattle.std.specs.Prelude.{OnErr}
use Rattle.bosh_types.specs.declared.condition.Condition.TheVariants.{UndefinedCondition}
use Rattle.parked_gate.specs.Passes.{known}
use Rattle.session_table.specs.declared.purse.Purse.{Purse}
use Rattle.serve_loop.specs.Answering.{IsLost, Tells}
use Rattle.serve_loop.specs.Trail.{refusal_text, setting}
use Rattle.serve_loop.proofs.AnswersLemmas.{answers_from, on_err}
use Rattle.serve_loop.proofs.AskedLemmas.{asks_creation, read_from}
use Rattle.serve_loop.specs.Drawing.{OpensAsDrawn}
use Rattle.serve_loop.proofs.DrawingLemmas.{draws_none, draws_one, draws_told, draws_unused}
use Rattle.serve_loop.proofs.EffectLemmas.{adds_nothing_same, grows_none}
use Rattle.serve_loop.proofs.OpeningLemmas.{full_lost, open_lost, opened_lost}
use Rattle.serve_loop.proofs.TellingLemmas.{openings_spent, table_full, tells_full, tells_opened}
use Rattle.serve_loop.proofs.worker.Worker.create.Goals as goal

pub opening_at-requires-clause-read : goal.opening_at-requires-clause-read
opening_at-requires-clause-read g c = read_from _ _ (asks_creation _ _ _ _ c.requires.asks).read

pub opening_at-requires-clause-creation : goal.opening_at-requires-clause-creation
opening_at-requires-clause-creation g c = (asks_creation _ _ _ _ c.requires.asks).creation

pub returns-in-TableFull-clause-answers : goal.returns-in-TableFull-clause-answers
returns-in-TableFull-clause-answers g c =
    let site = setting c.args.site.now.hosts.now c.args.site.now.limits (g.C.Clock.moment c.args.site.now.clock.now) in
    let call = table_full c.in_ok-opening.opening site.limits c.open.new.self.sessions (known c.args.self.now.purse.directory) (known c.open.new.self.directory)
    (c.in_ok-opening.ensures.is site c.now-at.ensures refl).limits_are (rw c.in-TableFull.is at c.in_ok-new.ensures.opened) in
    answers_from c.no_room.result site c.args.body (refusal_text UndefinedCondition) _ _ _ _ _ c.no_room.ensures.text c.no_room.ensures.line
    (λ adds. subst (λ (p : Purse). Tells site c.args.body (refusal_text UndefinedCondition) c.args.self.now.trail c.no_room.new.self.trail c.args.self.now.purse p) (sym c.no_room.ensures.purse)
    (tells_full site c.args.body c.args.request c.args.place _ _ _ _ c.requires.asks call (rw c.in-TableFull.is at c.in_ok-new.ensures.others) adds))

pub returns-in-TableFull-clause-lost : goal.returns-in-TableFull-clause-lost
returns-in-TableFull-clause-lost g c =
    let site = setting c.args.site.now.hosts.now c.args.site.now.limits (g.C.Clock.moment c.args.site.now.clock.now) in
    let call = table_full c.in_ok-opening.opening site.limits c.open.new.self.sessions (known c.args.self.now.purse.directory) (known c.open.new.self.directory)
    (c.in_ok-opening.ensures.is site c.now-at.ensures refl).limits_are (rw c.in-TableFull.is at c.in_ok-new.ensures.opened) in
    subst (λ (p : Purse). OnErr c.no_room.result (IsLost site c.args.body c.args.self.now.purse p)) (sym c.no_room.ensures.purse)
    (on_err _ _ (full_lost site c.args.body c.args.request c.args.place c.host_at-host.result.now c.in_ok-opening.opening c.requires.asks c.host_at-host.ensures.host
    (c.in_ok-opening.ensures.is site c.now-at.ensures refl) c.args.self.now.purse c.open.new.self (rw c.in-TableFull.is at c.in_ok-new.ensures.others) call))

pub returns-in-OpeningsSpent-clause-answers : goal.returns-in-OpeningsSpent-clause-answers
returns-in-OpeningsSpent-clause-answers g c =
    let site = setting c.args.site.now.hosts.now c.args.site.now.limits (g.C.Clock.moment c.args.site.now.clock.now) in
    let call = openings_spent c.in_ok-opening.opening site.limits c.open.new.self.sessions (known c.args.self.now.purse.directory) (known c.open.new.self.directory)
    (c.in_ok-opening.ensures.is site c.now-at.ensures refl).limits_are (rw c.in-OpeningsSpent.is at c.in_ok-new.ensures.opened) in
    answers_from c.no_room-in-OpeningsSpent.result site c.args.body (refusal_text UndefinedCondition) _ _ _ _ _ c.no_room-in-OpeningsSpent.ensures.text c.no_room-in-OpeningsSpent.ensures.line
    (λ adds. subst (λ (p : Purse). Tells site c.args.body (refusal_text UndefinedCondition) c.args.self.now.trail c.no_room-in-OpeningsSpent.new.self.trail c.args.self.now.purse p) (sym c.no_room-in-OpeningsSpent.ensures.purse)
    (tells_full site c.args.body c.args.request c.args.place _ _ _ _ c.requires.asks call (rw c.in-OpeningsSpent.is at c.in_ok-new.ensures.others) adds))

pub returns-in-OpeningsSpent-clause-lost : goal.returns-in-OpeningsSpent-clause-lost
returns-in-OpeningsSpent-clause-lost g c =
    let site = setting c.args.site.now.hosts.now c.args.site.now.limits (g.C.Clock.moment c.args.site.now.clock.now) in
    let call = openings_spent c.in_ok-opening.opening site.limits c.open.new.self.sessions (known c.args.self.now.purse.directory) (known c.open.new.self.directory)
    (c.in_ok-opening.ensures.is site c.now-at.ensures refl).limits_are (rw c.in-OpeningsSpent.is at c.in_ok-new.ensures.opened) in
    subst (λ (p : Purse). OnErr c.no_room-in-OpeningsSpent.result (IsLost site c.args.body c.args.self.now.purse p)) (sym c.no_room-in-OpeningsSpent.ensures.purse)
    (on_err _ _ (full_lost site c.args.body c.args.request c.args.place c.host_at-host.result.now c.in_ok-opening.opening c.requires.asks c.host_at-host.ensures.host
    (c.in_ok-opening.ensures.is site c.now-at.ensures refl) c.args.self.now.purse c.open.new.self (rw c.in-OpeningsSpent.is at c.in_ok-new.ensures.others) call))

pub returns-in_ok-open-in-Opened-clause-answers : goal.returns-in_ok-open-in-Opened-clause-answers
returns-in_ok-open-in-Opened-clause-answers g c =
    let site = setting c.args.site.now.hosts.now c.args.site.now.limits (g.C.Clock.moment c.args.site.now.clock.now) in
    tells_opened site c.args.body c.in-Opened.answer c.args.request c.args.place c.host_at-host.result.now c.in_ok-opening.opening c.in-Opened.number
    c.args.self.now.purse c.open.new.self _ _ c.session_of.result.now c.requires.asks c.host_at-host.ensures.host (c.in_ok-opening.ensures.is site c.now-at.ensures refl)
    c.session_of.ensures (rw c.in-Opened.is at c.in_ok-new.ensures.others) (rw c.in-Opened.is at c.in_ok-new.ensures.opened) c.in_ok-open-in-Opened.ensures.line

pub returns-in_err-open-in-Opened-clause-lost : goal.returns-in_err-open-in-Opened-clause-lost
returns-in_err-open-in-Opened-clause-lost g c =
    let site = setting c.args.site.now.hosts.now c.args.site.now.limits (g.C.Clock.moment c.args.site.now.clock.now) in
    on_err _ _ (opened_lost site c.args.body c.args.request c.args.place c.host_at-host.result.now c.in_ok-opening.opening c.requires.asks c.host_at-host.ensures.host
    (c.in_ok-opening.ensures.is site c.now-at.ensures refl) c.args.self.now.purse c.open.new.self c.in-Opened.number c.in-Opened.answer (rw c.in-Opened.is at c.in_ok-new.ensures.others)
    (rw c.in-Opened.is at c.in_ok-new.ensures.opened))

pub returns-in_err-new-clause-lost : goal.returns-in_err-new-clause-lost
returns-in_err-new-clause-lost g c =
    let site = setting c.args.site.now.hosts.now c.args.site.now.limits (g.C.Clock.moment c.args.site.now.clock.now) in
    on_err _ _ (open_lost site c.args.body c.args.request c.args.place c.host_at-host.result.now c.in_ok-opening.opening c.requires.asks c.host_at-host.ensures.host
    (c.in_ok-opening.ensures.is site c.now-at.ensures refl) c.args.self.now.purse c.open.new.self c.in_err-new.ensures.err.0 c.in_err-new.ensures.err.1)

pub returns-in_err-opening-clause-lost : goal.returns-in_err-opening-clause-lost
returns-in_err-opening-clause-lost g c = on_err _ _ (inl (adds_nothing_same _ _ refl))

pub returns-in_err-name-clause-lost : goal.returns-in_err-name-clause-lost
returns-in_err-name-clause-lost g c = on_err _ _ (inl (adds_nothing_same _ _ refl))

pub returns-in_err-name-clause-drawn : goal.returns-in_err-name-clause-drawn
returns-in_err-name-clause-drawn g c = draws_none (g.M.Names.drawn c.args.tools.now.names) (g.M.Names.drawn c.name.new.self) (known c.args.self.now.purse.directory) (known c.args.self.now.purse.directory) c.in_err-name.ensures.drawn (grows_none (known c.args.self.now.purse.directory))

pub returns-in_err-opening-clause-drawn : goal.returns-in_err-opening-clause-drawn
returns-in_err-opening-clause-drawn g c = draws_unused (g.M.Names.drawn c.args.tools.now.names) (g.M.Names.drawn c.name.new.self) c.in_ok-name.name (known c.args.self.now.purse.directory) c.in_ok-name.ensures.drawn

pub returns-in_err-new-clause-drawn : goal.returns-in_err-new-clause-drawn
returns-in_err-new-clause-drawn g c =
    draws_one (g.M.Names.drawn c.args.tools.now.names) (g.M.Names.drawn c.name.new.self) c.in_ok-name.name c.in_ok-opening.opening (known c.args.self.now.purse.directory) (known c.open.new.self.directory)
    c.in_ok-name.ensures.drawn c.in_ok-opening.ensures.name c.in_err-new.ensures.err.1

pub returns-in_ok-open-in-Opened-clause-drawn : goal.returns-in_ok-open-in-Opened-clause-drawn
returns-in_ok-open-in-Opened-clause-drawn g c =
    draws_told (g.M.Names.drawn c.args.tools.now.names) (g.M.Names.drawn c.name.new.self) c.in_ok-name.name c.in_ok-opening.opening _ c.open.new.self.sessions (known c.args.self.now.purse.directory) (known c.open.new.self.directory)
    c.in_ok-name.ensures.drawn c.in_ok-opening.ensures.name c.in_ok-new.ensures.opened

pub returns-in_err-open-in-Opened-clause-drawn : goal.returns-in_err-open-in-Opened-clause-drawn
returns-in_err-open-in-Opened-clause-drawn g c =
    draws_told (g.M.Names.drawn c.args.tools.now.names) (g.M.Names.drawn c.name.new.self) c.in_ok-name.name c.in_ok-opening.opening _ c.open.new.self.sessions (known c.args.self.now.purse.directory) (known c.open.new.self.directory)
    c.in_ok-name.ensures.drawn c.in_ok-opening.ensures.name c.in_ok-new.ensures.opened

pub returns-in-TableFull-clause-drawn : goal.returns-in-TableFull-clause-drawn
returns-in-TableFull-clause-drawn g c =
    subst (λ (p : Purse). OpensAsDrawn (g.M.Names.drawn c.args.tools.now.names) (g.M.Names.drawn c.name.new.self) (known c.args.self.now.purse.directory) (known p.directory)) (sym c.no_room.ensures.purse)
    (draws_told (g.M.Names.drawn c.args.tools.now.names) (g.M.Names.drawn c.name.new.self) c.in_ok-name.name c.in_ok-opening.opening _ c.open.new.self.sessions (known c.args.self.now.purse.directory) (known c.open.new.self.directory)
    c.in_ok-name.ensures.drawn c.in_ok-opening.ensures.name c.in_ok-new.ensures.opened)

pub returns-in-OpeningsSpent-clause-drawn : goal.returns-in-OpeningsSpent-clause-drawn
returns-in-OpeningsSpent-clause-drawn g c =
    subst (λ (p : Purse). OpensAsDrawn (g.M.Names.drawn c.args.tools.now.names) (g.M.Names.drawn c.name.new.self) (known c.args.self.now.purse.directory) (known p.directory)) (sym c.no_room-in-OpeningsSpent.ensures.purse)
    (draws_told (g.M.Names.drawn c.args.tools.now.names) (g.M.Names.drawn c.name.new.self) c.in_ok-name.name c.in_ok-opening.opening _ c.open.new.self.sessions (known c.args.self.now.purse.directory) (known c.open.new.self.directory)
    c.in_ok-name.ensures.drawn c.in_ok-opening.ensures.name c.in_ok-new.ensures.opened)
