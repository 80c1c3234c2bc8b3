use Rattle.std.proofs.Common.{rules}
use Rattle.rpki_publication.specs.ReportErrorCode.{code_of_text}
use Rattle.rpki_publication.proofs.report_error_code.code_of.Goals as goal

pub returns-in-xml_error : goal.returns-in-xml_error
unfolding code_of_text
returns-in-xml_error c = search rules

pub returns-in-permission_failure : goal.returns-in-permission_failure
unfolding code_of_text
returns-in-permission_failure c = search rules

pub returns-in-bad_cms_signature : goal.returns-in-bad_cms_signature
unfolding code_of_text
returns-in-bad_cms_signature c = search rules

pub returns-in-object_already_present : goal.returns-in-object_already_present
unfolding code_of_text
returns-in-object_already_present c = search rules

pub returns-in-no_object_present : goal.returns-in-no_object_present
unfolding code_of_text
returns-in-no_object_present c = search rules

pub returns-in-no_object_matching_hash : goal.returns-in-no_object_matching_hash
unfolding code_of_text
returns-in-no_object_matching_hash c = search rules

pub returns-in-consistency_problem : goal.returns-in-consistency_problem
unfolding code_of_text
returns-in-consistency_problem c = search rules

pub returns-in-other_error : goal.returns-in-other_error
unfolding code_of_text
returns-in-other_error c = search rules

pub returns-in_default : goal.returns-in_default
unfolding code_of_text
returns-in_default c = search rules
