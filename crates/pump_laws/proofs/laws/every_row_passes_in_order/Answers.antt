use Rattle.pump_laws.proofs.RowLemmas.{row_hands, row_passes}
use Rattle.pump_laws.proofs.laws.every_row_passes_in_order.Goals as goal

pub returns : goal.returns
returns c = record { passes = row_passes; gives = row_hands }
