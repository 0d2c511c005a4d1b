use Rattle.std.proofs.Common.{◌≡◌, None, Some, ap, subst, sym}
use Rattle.std.specs.Option.{option_map}
use Rattle.session_table.specs.History.{live_at}
use Rattle.session_table.specs.Sessions.{OpenedSession}
use Rattle.session_table.proofs.KeepingLemmas.{found_nowhere, names_apart, names_same, number_apart, number_here, number_none}
use Rattle.session_table.proofs.directory.Directory.number_of.Goals as goal

pub returns-in_default : goal.returns-in_default
returns-in_default c =
    subst (λ l. None ≡ option_map (λ (s : OpenedSession). s.number) (live_at l c.args.sid.now)) c.self.view_is
    (sym (ap (option_map (λ (s : OpenedSession). s.number)) (found_nowhere c.self.inside.sessions.entries c.self.inside.entries c.self.inside.openings c.self.invariant c.args.sid.now c.number_in.result c.in_default.is c.number_in.ensures)))

pub returns-in_default-get : goal.returns-in_default-get
returns-in_default-get c =
    subst (λ l. None ≡ option_map (λ (s : OpenedSession). s.number) (live_at l c.args.sid.now)) c.self.view_is
    (number_none c.self.inside.sessions.entries c.self.inside.entries c.self.inside.openings c.self.invariant c.args.sid.now c.in-Some.number c.number_in.result c.in-Some.is c.number_in.ensures (sym c.in_default-get.ensures.value))

pub returns-then-eq : goal.returns-then-eq
returns-then-eq c =
    subst (λ l. Some c.in-Some.number ≡ option_map (λ (s : OpenedSession). s.number) (live_at l c.args.sid.now)) c.self.view_is
    (number_here c.self.inside.sessions.entries c.self.inside.entries c.self.inside.openings c.self.invariant c.args.sid.now c.in-Some.number c.number_in.result c.in-Some.is c.number_in.ensures c.in-Some-get.session.now
    (sym c.in-Some-get.ensures.value) (names_same c.as_slice.result.now c.in-Some-get.session.now.sid c.args.sid.now c.eq.result c.as_slice.ensures c.eq.ensures c.if-eq.true))

pub returns : goal.returns
returns c =
    subst (λ l. None ≡ option_map (λ (s : OpenedSession). s.number) (live_at l c.args.sid.now)) c.self.view_is
    (number_apart c.self.inside.sessions.entries c.self.inside.entries c.self.inside.openings c.self.invariant c.args.sid.now c.in-Some.number c.number_in.result c.in-Some.is c.number_in.ensures c.in-Some-get.session.now
    (sym c.in-Some-get.ensures.value) (names_apart c.as_slice.result.now c.in-Some-get.session.now.sid c.args.sid.now c.eq.result c.as_slice.ensures c.eq.ensures c.if-eq.false))
