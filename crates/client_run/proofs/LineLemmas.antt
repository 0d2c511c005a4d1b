-- What comes of a request on a link.
use Rattle.std.proofs.Common.{ℕ, List, [], Some, None, refl, sym, subst, append-nil}
use Rattle.std.specs.Prelude.{Option}
use Rattle.std.specs.Io.KnownBytes.{Keeps}
use Rattle.bosh_http.specs.Texts.{post_text}
use Rattle.client_run.specs.declared.line.Heard.{Heard}
use Rattle.client_run.specs.declared.line.Heard.TheVariants.{Body, Refused, Nothing, Fault, NoMemory}
use Rattle.client_run.specs.Lines.{FailsBy, HearsBy, IsHeard}
use Rattle.client_run.specs.Working.{Wire, Exchanges, Refuses, Sends, TakesSome, Tries}

pub keeps_same : (o : Option (List ℕ)) → Keeps o o
keeps_same None = tt
keeps_same (Some bytes) = refl

-- nothing was taken
pub keeps_takes : (old new : Option (List ℕ)) → Keeps old new → TakesSome old new
keeps_takes None new keeps = ([], tt)
keeps_takes (Some bytes) None keeps = absurd keeps
keeps_takes (Some bytes) (Some rest) keeps = ([], sym keeps)

-- nothing was taken at first, and then some bytes
takes_later : (old mid new : Option (List ℕ)) → Keeps old mid → TakesSome mid new → TakesSome old new
takes_later None mid new keeps takes = ([], tt)
takes_later (Some bytes) None new keeps takes = absurd keeps
takes_later (Some bytes) (Some same) new keeps takes = subst (λ b. TakesSome (Some b) new) keeps takes

-- a request that was given whole, and what was read then
pub tried_whole : (old mid new : Wire) (body : List ℕ) → Sends old mid body → Keeps mid.given new.given → TakesSome mid.left new.left → Tries old new body
tried_whole old mid new body sends keeps takes = record {
  asked = mid.given;
  gives = (post_text body, [], sym (append-nil (post_text body)), sends.given);
  given = keeps;
  left = takes_later old.left mid.left new.left sends.left takes;
}

pub exchange_tries : (old new : Wire) (body answer : List ℕ) → Exchanges old new body answer → Tries old new body
exchange_tries old new body answer e = tried_whole old e.asked new body e.sends e.hears.given (e.hears.responds.0, e.hears.responds.1)

pub heard_by : (old mid new : Wire) (body : List ℕ) (faults : ℕ) (heard : Heard) → Sends old mid body → IsHeard mid new faults heard → HearsBy old new body faults heard
heard_by old mid new body faults (Body answer) sends heard = (record { asked = mid; sends = sends; hears = heard.0 }, heard.1)
heard_by old mid new body faults (Refused status) sends heard = (record { asked = mid; sends = sends; responds = heard.1; given = heard.0 }, heard.2)
heard_by old mid new body faults Nothing sends heard = (tried_whole old mid new body sends heard.0 heard.1, heard.2)
heard_by old mid new body count (Fault fault) sends heard = (tried_whole old mid new body sends heard.0 heard.1, heard.2, subst (FailsBy old new body) (sym heard.3) (mid, sends, heard.0))
heard_by old mid new body faults NoMemory sends heard = (tried_whole old mid new body sends heard.0 heard.1, heard.2)

pub refuses_tries : (old new : Wire) (body : List ℕ) (status : ℕ) → Refuses old new body status → Tries old new body
refuses_tries old new body status r = tried_whole old r.asked new body r.sends r.given (r.responds.0, r.responds.1)
