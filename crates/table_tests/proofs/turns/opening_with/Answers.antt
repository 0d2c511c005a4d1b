use Rattle.std.proofs.Common.{sym, subst}
use Rattle.session_core.specs.Journal.{IsReadFrom}
use Rattle.table_tests.proofs.TestOpening.{IsHost, empty_may_greet, is_either, is_name}
use Rattle.table_tests.proofs.turns.opening_with.Goals as goal

pub returns : goal.returns
returns c = record {
  name = is_name _ c.in_ok-text.ensures;
  read = subst (λ b. IsReadFrom b c.args.request) (sym c.in_ok-shared-2.ensures) c.requires.read;
  creation = c.requires.creation;
  host = subst IsHost (sym c.in_ok-shared.ensures) (is_either _ c.requires.host);
  greeting = empty_may_greet _ c.no_stanzas.ensures;
}
