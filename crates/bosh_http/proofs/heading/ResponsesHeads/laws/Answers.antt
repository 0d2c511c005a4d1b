use Rattle.bosh_http.proofs.HeadingLemmas.{IsHeaded-append, IsBadStream-append, headed_is_short}
use Rattle.bosh_http.proofs.RespondingLemmas.{headed_is_there}
use Rattle.bosh_http.proofs.HeadEndLemmas.{no_response, no_response_before, no_response_at_all}
use Rattle.bosh_http.proofs.heading.ResponsesHeads.laws.Goals as goal

pub returns : goal.returns
returns c = record {
  reads_more = λ bytes more start content status. IsHeaded-append bytes start content status more;
  denies_more = λ bytes more fault. IsBadStream-append bytes more;
  is_short = headed_is_short;
  is_there = headed_is_there;
  begun_lacks = λ bytes begun. begun.0;
  lacks_before = no_response_before;
  lacks_on = no_response;
  empty_lacks = no_response_at_all;
}
