-- What a session that has ended still does.
use Rattle.std.proofs.Common.{◌≡◌, Bool, true, false, Some, refl}
use Rattle.session_core.specs.Journal.{Entered, after_entry, MayEnter}
use Rattle.session_core.specs.State.{PlainSession, is_over}
use Rattle.session_laws.proofs.Steps.{entry-by}

both_ways : (b : Bool) → b ≡ true → b ≡ false → ⊥
both_ways true over on = cc
both_ways false over on = cc

-- only what was collected and what was passed on is another
pub ended_stays : (s : PlainSession) (entered : Entered) → MayEnter s entered → is_over s ≡ true
    → after_entry s entered ≡ record s { tickets = (after_entry s entered).tickets; passed = (after_entry s entered).passed }
ended_stays s entered may over = entry-by s (λ e u. u ≡ record s { tickets = u.tickets; passed = u.passed }) (record {
  arrives = λ request body now allowed on room. absurd (both_ways (is_over s) over on);
  backs = λ stream stanza now allowed on room. absurd (both_ways (is_over s) over on);
  closes = λ stream closing now on room. absurd (both_ways (is_over s) over on);
  ticks = λ now on due room. absurd (both_ways (is_over s) over on);
  collects = λ index ticket is. refl;
  takes = λ item is. refl;
  limits = λ kind cost now on full. absurd (both_ways (is_over s) over on);
}) entered may
