use Rattle.bosh_http.proofs.MessageLemmas.{one_message, one_refusal, served_or_refused}
use Rattle.bosh_http.proofs.UniqueLemmas.{refused_once, message_or_refused}
use Rattle.bosh_http.proofs.laws.streams_are_cut_in_one_way.Goals as goal

pub returns-clause-message : goal.returns-clause-message
returns-clause-message c = one_message

pub returns-clause-refusal : goal.returns-clause-refusal
returns-clause-refusal c = one_refusal

pub returns-clause-either : goal.returns-clause-either
returns-clause-either c = served_or_refused

pub returns-clause-refused : goal.returns-clause-refused
returns-clause-refused c = refused_once

pub returns-clause-served : goal.returns-clause-served
returns-clause-served c = message_or_refused
