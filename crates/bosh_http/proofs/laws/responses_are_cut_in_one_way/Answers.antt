use Rattle.bosh_http.proofs.ResponseUniqueLemmas.{one_response, response_or_bad, response_or_early, bad_or_early}
use Rattle.bosh_http.proofs.laws.responses_are_cut_in_one_way.Goals as goal

pub returns-clause-message : goal.returns-clause-message
returns-clause-message c = one_response

pub returns-clause-bad : goal.returns-clause-bad
returns-clause-bad c = response_or_bad

pub returns-clause-early : goal.returns-clause-early
returns-clause-early c = response_or_early

pub returns-clause-apart : goal.returns-clause-apart
returns-clause-apart c = bad_or_early
