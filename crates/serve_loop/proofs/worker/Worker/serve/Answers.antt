use Rattle.std.proofs.Common.{refl, subst}
use Rattle.parked_gate.specs.Passes.{known}
use Rattle.session_table.specs.Purses.{Holds, IsFound, StaysOrComes}
use Rattle.serve_loop.proofs.AnswersLemmas.{answers_from, on_err}
use Rattle.serve_loop.proofs.AskedLemmas.{asks_later}
use Rattle.serve_loop.proofs.EffectLemmas.{adds_nothing, adds_nothing_same, finds_at_most, grows_none, grows_to}
use Rattle.serve_loop.proofs.TellingLemmas.{unknown_told}
use Rattle.serve_loop.proofs.worker.Worker.serve.Goals as goal

pub named_by-requires : goal.named_by-requires
named_by-requires g c = (asks_later _ _ _ c.requires.asks).1

pub arrive-requires-clause-held : goal.arrive-requires-clause-held
arrive-requires-clause-held g c =
    let found = rw c.in-Some.is at c.in_ok-found.ensures.found in
    subst (Holds _ _) c.as_slice.ensures found.holds

pub arrive-requires-clause-names : goal.arrive-requires-clause-names
arrive-requires-clause-names g c = record { read = (asks_later _ _ _ c.requires.asks).0; named = c.in_ok-sid.ensures }

pub returns-in-Some-clause-answers : goal.returns-in-Some-clause-answers
returns-in-Some-clause-answers g c =
    let found = rw c.in-Some.is at c.in_ok-found.ensures.found in
    c.arrive.ensures.answers c.args.self.now.purse
    (finds_at_most c.args.self.now.purse c.find.new.self c.in-Some.number _ (subst (IsFound _ _ _) c.as_slice.ensures found)
    (subst (StaysOrComes _ _ _ _) c.as_slice.ensures (rw c.in-Some.is at c.in_ok-found.ensures.kept)) c.in_ok-found.ensures.grows)

pub returns-in-Some-clause-lost : goal.returns-in-Some-clause-lost
returns-in-Some-clause-lost g c =
    let found = rw c.in-Some.is at c.in_ok-found.ensures.found in
    c.arrive.ensures.lost c.args.self.now.purse
    (finds_at_most c.args.self.now.purse c.find.new.self c.in-Some.number _ (subst (IsFound _ _ _) c.as_slice.ensures found)
    (subst (StaysOrComes _ _ _ _) c.as_slice.ensures (rw c.in-Some.is at c.in_ok-found.ensures.kept)) c.in_ok-found.ensures.grows)

pub returns-in-None-clause-answers : goal.returns-in-None-clause-answers
returns-in-None-clause-answers g c =
    let asked = rw c.in-None.is at c.in_ok-found.ensures.unknown in
    answers_from c.unknown.result _ _ _ _ _ _ _ _ c.unknown.ensures.text c.unknown.ensures.line
    (λ adds. unknown_told _ _ _ _ c.args.request _ _ _ _ _ (record { read = (asks_later _ _ _ c.requires.asks).0; named = c.in_ok-sid.ensures }) c.as_slice.ensures asked.1 asked.0 c.evidence_of-evidence.ensures adds)

pub returns-in-None-clause-lost : goal.returns-in-None-clause-lost
returns-in-None-clause-lost g c =
    let asked = rw c.in-None.is at c.in_ok-found.ensures.unknown in
    on_err _ _ (adds_nothing c.args.self.now.purse c.find.new.self asked.0 c.in_ok-found.ensures.grows)

pub returns-in_err-found-clause-lost : goal.returns-in_err-found-clause-lost
returns-in_err-found-clause-lost g c = on_err _ _ (adds_nothing c.args.self.now.purse c.find.new.self c.in_err-found.ensures.err c.in_err-found.ensures.grows)

pub returns-in_err-sid-clause-lost : goal.returns-in_err-sid-clause-lost
returns-in_err-sid-clause-lost g c = on_err _ _ (adds_nothing_same _ _ refl)

pub returns-in-Some-clause-grows : goal.returns-in-Some-clause-grows
returns-in-Some-clause-grows g c = grows_to c.args.self.now.purse c.find.new.self c.arrive.new.self.purse c.in_ok-found.ensures.grows c.arrive.ensures.directory

pub returns-in_err-sid-clause-grows : goal.returns-in_err-sid-clause-grows
returns-in_err-sid-clause-grows g c = grows_none (known c.args.self.now.purse.directory)
