use Rattle.std.proofs.Common.{rules}
use Rattle.rpki_updown.specs.PayloadType.{payload_type_of_text}
use Rattle.rpki_updown.proofs.payload_type.payload_type_of.Goals as goal

pub returns-in-list : goal.returns-in-list
unfolding payload_type_of_text
returns-in-list c = search rules

pub returns-in-list_response : goal.returns-in-list_response
unfolding payload_type_of_text
returns-in-list_response c = search rules

pub returns-in-issue : goal.returns-in-issue
unfolding payload_type_of_text
returns-in-issue c = search rules

pub returns-in-issue_response : goal.returns-in-issue_response
unfolding payload_type_of_text
returns-in-issue_response c = search rules

pub returns-in-revoke : goal.returns-in-revoke
unfolding payload_type_of_text
returns-in-revoke c = search rules

pub returns-in-revoke_response : goal.returns-in-revoke_response
unfolding payload_type_of_text
returns-in-revoke_response c = search rules

pub returns-in-error_response : goal.returns-in-error_response
unfolding payload_type_of_text
returns-in-error_response c = search rules

pub returns-in_default : goal.returns-in_default
unfolding payload_type_of_text
returns-in_default c = search rules
