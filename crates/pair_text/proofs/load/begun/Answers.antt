use Rattle.std.proofs.Common.{◌≡◌, refl, subst, sym}
use Rattle.bosh_types.specs.Rid.{IsRid}
use Rattle.pair_text.specs.Load.{beginning, begun}
use Rattle.pair_text.specs.Loads.{IsLoad}
use Rattle.pair_text.proofs.LoadLemmas.{first_is_id}
use Rattle.pair_text.proofs.load.begun.Goals as goal

pub new_world-requires : goal.new_world-requires
new_world-requires c = subst IsRid (sym c.first_id-first.ensures) (first_is_id c.args.word)

pub returns : goal.returns
returns c =
    let start : IsLoad (record { world = c.in_ok-new_world.field-0; copies = 0; puts = 0; gives = 0 }) (beginning c.first_id-first.result) =
    record { world = c.in_ok-new_world.ensures; copies = refl; puts = refl; gives = refl } in
    subst (λ f. IsLoad c.begin.new.self (begun f)) c.first_id-first.ensures (c.in_ok-begin.ensures _ start)
