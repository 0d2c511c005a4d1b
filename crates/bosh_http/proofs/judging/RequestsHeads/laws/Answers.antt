use Rattle.bosh_http.proofs.JudgingLemmas.{IsServed-append, IsRefusedBy-append, served_is_short}
use Rattle.bosh_http.proofs.ReadingLemmas.{served_is_there}
use Rattle.bosh_http.proofs.HeadEndLemmas.{no_request, no_request_before, no_request_at_all}
use Rattle.bosh_http.proofs.judging.RequestsHeads.laws.Goals as goal

pub returns : goal.returns
returns c = record {
  reads_more = λ bytes more start content closing. IsServed-append bytes start content closing more;
  denies_more = λ bytes more refusal. IsRefusedBy-append bytes refusal more;
  is_short = served_is_short;
  is_there = served_is_there;
  begun_lacks = λ bytes begun. begun.0;
  lacks_before = no_request_before;
  lacks_on = no_request;
  empty_lacks = no_request_at_all;
}
