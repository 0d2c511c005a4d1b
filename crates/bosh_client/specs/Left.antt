-- How many payloads a client has that were not handed out.
use Rattle.std.specs.Prelude.{ℕ, ◌+◌, List, [], ◌∷◌, length}
use Rattle.bosh_client.specs.declared.client.Client.{Client}
use Rattle.bosh_client.specs.declared.exchanges.Slot.{Slot}
use Rattle.bosh_client.specs.declared.exchanges.Slot.TheVariants.{Answered, Open}

abbrev pub left_of : List Slot → ℕ
left_of [] = 0
left_of (Open body ∷ slots) = left_of slots
left_of (Answered payloads terminal ∷ slots) = length payloads + left_of slots

abbrev pub left_in : Client → ℕ
left_in c = length c.inbox + left_of c.exchanges.slots
