-- What a reading gives.
use Rattle.std.proofs.Common.{◌≡◌, ◌≤◌, ℕ, Bool, true, List, length}
use Rattle.std.proofs.lemmas.Bool.{le-ltb}
use Rattle.body_cutter.specs.declared.place.Place.{Place}
use Rattle.body_cutter.specs.declared.place.Kind.{Kind}
use Rattle.std.specs.Prelude.{Result}
use Rattle.body_cutter.specs.declared.parts.Cut.{Cut}
use Rattle.body_cutter.specs.declared.parts.CutRefusal.{CutRefusal}
use Rattle.body_cutter.specs.Reader.{first_state}
use Rattle.body_cutter.specs.Refusal.{reading, text_answer, read_answer}

-- a text that isn't too long, and is UTF-8, gives what its reading gives
pub text_within : (kind : Kind) (place : Place) (longest : ℕ) (u : Bool) (text : List ℕ) (x : Result Cut CutRefusal) → length text ≤ longest → u ≡ true → read_answer text (reading 0 (first_state kind place) text) ≡ x → text_answer kind place longest u text ≡ x
unfolding text_answer
text_within kind place longest u text x within e h = rw (le-ltb longest (length text) within, e) h
