use Rattle.std.proofs.Common.{rules}
use Rattle.rpki_common.specs.Chaining.{◌>>=◌}
use Rattle.rpki_provisioning.specs.Message.{payload_in}
use Rattle.rpki_provisioning.proofs.reading.payload_in.Goals as goal

pub returns-in_err-no_more-in-List : goal.returns-in_err-no_more-in-List
unfolding payload_in ◌>>=◌
returns-in_err-no_more-in-List c = search rules

pub returns-in_err-classes_in-in-ListResponse : goal.returns-in_err-classes_in-in-ListResponse
unfolding payload_in ◌>>=◌
returns-in_err-classes_in-in-ListResponse c = search rules

pub returns-in_err-e-in-Issue : goal.returns-in_err-e-in-Issue
unfolding payload_in ◌>>=◌
returns-in_err-e-in-Issue c = search rules

pub returns-in_err-request_in-in-Issue : goal.returns-in_err-request_in-in-Issue
unfolding payload_in ◌>>=◌
returns-in_err-request_in-in-Issue c = search rules

pub returns-in_err-e-in-IssueResponse : goal.returns-in_err-e-in-IssueResponse
unfolding payload_in ◌>>=◌
returns-in_err-e-in-IssueResponse c = search rules

pub returns-in_err-issuance_in-in-IssueResponse : goal.returns-in_err-issuance_in-in-IssueResponse
unfolding payload_in ◌>>=◌
returns-in_err-issuance_in-in-IssueResponse c = search rules

pub returns-in_err-not_performed_in-in-ErrorResponse : goal.returns-in_err-not_performed_in-in-ErrorResponse
unfolding payload_in ◌>>=◌
returns-in_err-not_performed_in-in-ErrorResponse c = search rules

pub returns-in_ok-no_more-in-List : goal.returns-in_ok-no_more-in-List
unfolding payload_in ◌>>=◌
returns-in_ok-no_more-in-List c = search rules

pub returns-in_ok-classes_in-in-ListResponse : goal.returns-in_ok-classes_in-in-ListResponse
unfolding payload_in ◌>>=◌
returns-in_ok-classes_in-in-ListResponse c = search rules

pub returns-in_ok-request_in-in-Issue : goal.returns-in_ok-request_in-in-Issue
unfolding payload_in ◌>>=◌
returns-in_ok-request_in-in-Issue c = search rules

pub returns-in_ok-issuance_in-in-IssueResponse : goal.returns-in_ok-issuance_in-in-IssueResponse
unfolding payload_in ◌>>=◌
returns-in_ok-issuance_in-in-IssueResponse c = search rules

pub returns-in_ok-not_performed_in-in-ErrorResponse : goal.returns-in_ok-not_performed_in-in-ErrorResponse
unfolding payload_in ◌>>=◌
returns-in_ok-not_performed_in-in-ErrorResponse c = search rules
