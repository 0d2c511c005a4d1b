use Rattle.std.proofs.Common.{refl, rules}
use Rattle.session_pump.specs.Hosts.{facts_of}
use Rattle.session_pump.specs.Sides.{line_facts}
use Rattle.session_pump.proofs.ListLemmas.{got_read}
use Rattle.session_pump.proofs.MovesLemmas.{opened_there}
use Rattle.session_pump.proofs.PassingLemmas.{dropped_hostless, dropped_unmet, it_is_of, it_passes, no_host, no_host_there, pass_lifted}
use Rattle.session_pump.proofs.passing.pass_kept.Goals as goal

pub returns-in_default-clause-moves : goal.returns-in_default-clause-moves
returns-in_default-clause-moves g c moment known = dropped_unmet known _ _ _ c.in_default.is c.requires.passes

pub returns-in_default-host-clause-moves : goal.returns-in_default-host-clause-moves
returns-in_default-host-clause-moves g c moment known =
    dropped_hostless known _ _ _ _ c.in-Some-get_mut.side.now c.in-Some.is c.requires.passes (got_read c.args.line.now.sides.items c.args.line.now.sides.items _ c.in-Some-get_mut.side.now refl (search rules) (search rules)) c.requires.opened (no_host _ c.in-Some-get_mut.side.now c.in_default-host.is)

pub returns-in_default-get_mut-2-clause-moves : goal.returns-in_default-get_mut-2-clause-moves
returns-in_default-get_mut-2-clause-moves g c moment known =
    dropped_hostless known _ _ _ _ c.in-Some-get_mut.side.now c.in-Some.is c.requires.passes (got_read c.args.line.now.sides.items c.args.line.now.sides.items _ c.in-Some-get_mut.side.now refl (search rules) (search rules)) c.requires.opened
    (no_host_there (facts_of g.E.Backend.told g.E.Backend.counts) _ c.in-Some-get_mut.side.now _ c.in-Some-host.is (search rules))

pub pass_on-requires-clause-opened : goal.pass_on-requires-clause-opened
pass_on-requires-clause-opened g c = c.requires.opened c.in-Some.place _ (got_read c.args.line.now.sides.items c.args.line.now.sides.items c.in-Some.place c.in-Some-get_mut.side.now refl (search rules) (search rules))

pub pass_on-requires-clause-passes : goal.pass_on-requires-clause-passes
pass_on-requires-clause-passes g c = it_passes (line_facts c.args.line.now) c.args.place _ c.requires.passes c.in-Some-kept.is

pub pass_on-requires-clause-stream : goal.pass_on-requires-clause-stream
pass_on-requires-clause-stream g c = it_is_of (line_facts c.args.line.now) c.args.place _ _ _ c.requires.passes c.in-Some-kept.is c.in-Some.is (got_read c.args.line.now.sides.items c.args.line.now.sides.items _ c.in-Some-get_mut.side.now refl (search rules) (search rules))

pub returns-in_err-pass_on-clause-moves : goal.returns-in_err-pass_on-clause-moves
returns-in_err-pass_on-clause-moves g c moment known =
    pass_lifted (facts_of g.E.Backend.told g.E.Backend.counts) _ _ _ _ _ _ c.in-Some-get_mut-2.stand.now _ known _ _ _ c.in-Some-kept.is c.in-Some-kept.is (got_read c.args.line.now.sides.items c.args.line.now.sides.items _ c.in-Some-get_mut.side.now refl (search rules) (search rules)) c.in-Some-host.is (got_read c.args.hosts.now.stands.items c.args.hosts.now.stands.items _ c.in-Some-get_mut-2.stand.now refl (search rules) (search rules)) c.in_err-pass_on.ensures.kept
    (c.in_err-pass_on.ensures.moves moment known)

pub returns-clause-moves : goal.returns-clause-moves
returns-clause-moves g c moment known =
    pass_lifted (facts_of g.E.Backend.told g.E.Backend.counts) _ _ _ _ _ _ c.in-Some-get_mut-2.stand.now _ known _ _ _ refl c.in-Some-kept.is (got_read c.args.line.now.sides.items c.args.line.now.sides.items _ c.in-Some-get_mut.side.now refl (search rules) (search rules)) c.in-Some-host.is (got_read c.args.hosts.now.stands.items c.args.hosts.now.stands.items _ c.in-Some-get_mut-2.stand.now refl (search rules) (search rules)) c.in_ok-pass_on.ensures.kept
    (c.in_ok-pass_on.ensures.moves moment known)

pub returns-in_err-pass_on-clause-opened : goal.returns-in_err-pass_on-clause-opened
returns-in_err-pass_on-clause-opened g c = opened_there _ _ _ c.requires.opened c.in_err-pass_on.ensures.opened

pub returns-clause-opened : goal.returns-clause-opened
returns-clause-opened g c = opened_there _ _ _ c.requires.opened c.in_ok-pass_on.ensures.opened
