use Rattle.std.proofs.Common.{rules}
use Rattle.rpki_common.specs.Chaining.{◌>>=◌}
use Rattle.rpki_publication.specs.ReportError.{failed_pdu_in}
use Rattle.rpki_publication.proofs.details.failed_pdu_in.Goals as goal

pub returns-in_err-require : goal.returns-in_err-require
unfolding failed_pdu_in ◌>>=◌
returns-in_err-require c = search rules

pub returns-in_err-at_most_one : goal.returns-in_err-at_most_one
unfolding failed_pdu_in ◌>>=◌
returns-in_err-at_most_one c = search rules

pub returns-in_err-query_pdu_in-in-Some : goal.returns-in_err-query_pdu_in-in-Some
unfolding failed_pdu_in ◌>>=◌
returns-in_err-query_pdu_in-in-Some c = search rules

pub returns-in-None : goal.returns-in-None
unfolding failed_pdu_in ◌>>=◌
returns-in-None c = search rules

pub returns-in_ok-query_pdu_in-in-Some : goal.returns-in_ok-query_pdu_in-in-Some
unfolding failed_pdu_in ◌>>=◌
returns-in_ok-query_pdu_in-in-Some c = search rules
