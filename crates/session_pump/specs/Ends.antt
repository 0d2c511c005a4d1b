-- The back ends of a host, and what a call of the one that stands behind it does to them.
use Rattle.std.specs.Prelude.{◌≡◌, ◌+◌, ℕ, List, Option, None, Some, false, map, slice_get, slice_set}
use Rattle.xmpp_backend.specs.Counts.{Counts, Fails, counted_on}
use Rattle.xmpp_backend.specs.Told.{IsUnheld, Told, Becomes, WasOpened, given_too}
use Rattle.xmpp_backend.specs.declared.backend.Given.{Given}
use Rattle.xmpp_backend.specs.declared.backend.Given.TheVariants as given
use Rattle.xmpp_backend.specs.declared.backend.Passed.{Passed}
use Rattle.xmpp_backend.specs.declared.backend.Passed.TheVariants as passed
use Rattle.xmpp_backend.specs.declared.backend.Polled.{Polled}
use Rattle.xmpp_backend.specs.declared.backend.Polled.TheVariants as polled
use Rattle.session_pump.specs.declared.hosts.Host.{Host}
use Rattle.session_pump.specs.declared.hosts.Stand.{Stand}

-- what one back end tells and counts
pub record End : Type 0 where
  pub told : Option Told
  pub counts : Counts

-- a host's back ends: its name, the one that stands behind it, its spares, how many of these have taken the place of one that failed,
-- and how many have failed
pub record Ends : Type 0 where
  pub name : List ℕ
  pub standing : End
  pub spares : List End
  pub used : ℕ
  pub failures : ℕ

-- by what a back end tells and counts
abbrev pub end_of : {E : Type 0} → (E → Option Told) → (E → Counts) → E → End
end_of told counts end = record { told = told end; counts = counts end }

abbrev pub ends_of : {E : Type 0} → (E → Option Told) → (E → Counts) → Stand E → Ends
ends_of told counts stand = record {
  name = stand.host.name;
  standing = end_of told counts stand.host.end;
  spares = map (end_of told counts) stand.host.spares.items;
  used = stand.used;
  failures = stand.failures;
}

-- a host as it begins: its own back end stands there, and nothing failed, is kept or was polled
abbrev pub fresh : {E : Type 0} → Host E → Stand E
fresh host = record { host = host; failures = 0; used = 0; kept = None; is_behind = false }

-- the one that stands there tells this
abbrev pub telling : Option Told → Ends → Ends
telling told ends = record ends { standing = record ends.standing { told = told } }

-- and a poll of it gave something, or found nothing
abbrev pub answering : Option Told → Ends → Ends
answering told ends =
    record ends { standing = record { told = told; counts = record ends.standing.counts { answers = counted_on ends.standing.counts.answers } } }

abbrev pub idling : Option Told → Ends → Ends
idling told ends =
    record ends { standing = record { told = told; counts = record ends.standing.counts { idle = counted_on ends.standing.counts.idle } } }

-- what is told stays
abbrev pub StaysAs : Option Told → Option Told → Type 0
StaysAs old new = Becomes old new (λ told. told)

-- the back end did not fail, and what it tells, its idle polls and those that gave something changed so; the spares are as before
pub record Shifts (change : Told → Told) (idle answers : ℕ → ℕ) (old new : Ends) : Type 0 where
  pub told : Becomes old.standing.told new.standing.told change
  pub counts : new.standing.counts
      ≡ record old.standing.counts { idle = idle old.standing.counts.idle; answers = answers old.standing.counts.answers }
  pub others : new ≡ record old { standing = new.standing }

-- and nothing was polled
abbrev pub Changes : (Told → Told) → Ends → Ends → Type 0
Changes change old new = Shifts change (λ count. count) (λ count. count) old new

-- this spare takes the place of the one that stands there, and that one the place of the spare; without one it stays
abbrev pub exchanged_for : Option End → Ends → Ends
exchanged_for (Some spare) ends = record ends {
  standing = spare;
  spares = slice_set ends.spares ends.used ends.standing;
  used = ends.used + 1;
  failures = counted_on ends.failures;
}
exchanged_for None ends = record ends { failures = counted_on ends.failures }

-- the first spare that wasn't used takes its place
abbrev pub exchanged : Ends → Ends
exchanged ends = exchanged_for (slice_get ends.spares ends.used) ends

-- it failed: its count of faults rose and nothing else of it changed, and the first spare that wasn't used stands in its place, where
-- there is one
pub record HasFailed (old new : Ends) : Type 0 where
  pub failed : End
  pub told : StaysAs old.standing.told failed.told
  pub counts : Fails old.standing.counts failed.counts
  pub others : new ≡ exchanged (record old { standing = failed })

-- what a call that opens, passes or closes does
abbrev pub CallsEnd : (Told → Told) → Passed → Ends → Ends → Type 0
CallsEnd change passed.Done old new = Changes change old new
CallsEnd change passed.NoMemory old new = Changes (λ told. told) old new
CallsEnd change passed.Failed old new = HasFailed old new

-- a poll gave this on a wire that was opened and isn't held
abbrev pub GivesOn : ℕ → Given → Ends → Ends → Type 0
GivesOn wire what old new = WasOpened old.standing.told wire × IsUnheld old.standing.told wire × Shifts (given_too wire what) (λ count. count) counted_on old new

-- what a poll does
abbrev pub PollsEnd : Polled → Ends → Ends → Type 0
PollsEnd (polled.Out wire text) old new = GivesOn wire (given.Stanza text) old new
PollsEnd (polled.Closed wire closing) old new = GivesOn wire (given.Closed closing) old new
PollsEnd polled.Nothing old new = Shifts (λ told. told) counted_on (λ count. count) old new
PollsEnd polled.NoMemory old new = Changes (λ told. told) old new
PollsEnd polled.Failed old new = HasFailed old new
