use Rattle.std.proofs.Common.{sym, ◌∙◌, ap}
use Rattle.std.specs.Result.{result_err}
use Rattle.session_attrs.specs.Reading.{request_of}
use Rattle.session_attrs.proofs.MeaningLemmas.{means_reads, reads_means}
use Rattle.session_attrs.proofs.RefusalLemmas.{refusal_of_request}
use Rattle.session_attrs.proofs.RowLemmas.{err_is}
use Rattle.session_attrs.proofs.laws.reading_gives_the_meaning.Goals as goal

pub returns-clause-read : goal.returns-clause-read
returns-clause-read c = λ v children q. (reads_means v children q, means_reads v children q)

pub returns-clause-refused : goal.returns-clause-refused
returns-clause-refused c = λ v children refusal. (
  λ is. sym (refusal_of_request v children) ∙ ap result_err is,
  λ is. err_is (request_of v children) refusal (refusal_of_request v children ∙ is),
)
