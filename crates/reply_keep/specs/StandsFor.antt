-- Which plain keeps a keep stands for.
use Rattle.std.specs.Prelude.{◌≡◌, ℕ, ◌-◌, ◌<◌, ◌≤◌, List, Option, None, length, slice_index_or, unwrap_or}
use Rattle.bosh_types.specs.ById.{at_id}
use Rattle.bosh_types.specs.declared.kept.KeptAnswer.{KeptAnswer}
use Rattle.reply_keep.specs.declared.keep.Keep.{Keep}
use Rattle.reply_keep.specs.PlainKeep.{PlainKeep, last_id, kept_at}

-- the places have the kept answers, that of the last id first; nothing was put for a later id, and no later one is
-- acknowledged
pub record Holds (last : Option ℕ) (places : List (Option KeptAnswer)) (plain : PlainKeep) : Type 0 where
  pub last_is : unwrap_or last 0 ≡ last_id plain.put
  pub room : length places ≡ plain.size
  pub within : plain.acknowledged ≤ last_id plain.put
  pub none_later : (rid : ℕ) → last_id plain.put < rid → at_id plain.put rid ≡ None
  pub each : (below : ℕ) → slice_index_or places below None ≡ kept_at plain (last_id plain.put - below)

-- a keep stands for each plain keep whose kept answers it holds
unfoldable pub StandsFor : Keep → PlainKeep → Type 0
StandsFor keep plain = Holds keep.last keep.answers.items plain
