-- Where an arriving copy belongs, XEP-0124 sections 11 and 14.
use Rattle.std.specs.Prelude.{ℕ, ◌+◌, Bool, ◌||◌, nat_lt, nat_le, is_some, if◌then◌else◌}
use Rattle.rid_window.specs.PlainWindow.{reach}
use Rattle.session_core.specs.declared.copy.RequestCopy.{RequestCopy}
use Rattle.session_core.specs.declared.place.Place.{Place}
use Rattle.session_core.specs.declared.place.Place.TheVariants as places
use Rattle.session_core.specs.Copy.{id_of, is_extra}
use Rattle.session_core.specs.State.{PlainSession, last_of, answered_of, standing_at}

abbrev pub is_above : PlainSession → RequestCopy → Bool
is_above s copy = nat_lt (last_of s + reach s.terms.requests (is_extra copy)) (id_of copy)

abbrev pub is_open : PlainSession → ℕ → Bool
is_open s rid = nat_le rid (last_of s) || is_some (standing_at s rid)

abbrev pub place_of : PlainSession → RequestCopy → Place
place_of s copy =
    if nat_le (id_of copy) (answered_of s) then places.Answered
    else if is_open s (id_of copy) then places.Open
    else if is_above s copy then places.Above
    else places.New
