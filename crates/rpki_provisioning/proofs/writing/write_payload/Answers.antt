use Rattle.std.proofs.Common.{rules, sym}
use Rattle.rpki_xml.proofs.Drafts.{no_elements}
use Rattle.rpki_provisioning.specs.Message.{payload_elements}
use Rattle.rpki_provisioning.specs.Shape.{payload_shape}
use Rattle.rpki_provisioning.proofs.writing.write_payload.Goals as goal

pub returns-in-List : goal.returns-in-List
unfolding payload_elements payload_shape
returns-in-List c = rw c.in-List.is (sym (no_elements c.args.writer.now))

pub returns-in-ListResponse : goal.returns-in-ListResponse
unfolding payload_elements payload_shape
returns-in-ListResponse c = search rules

pub returns-in-Issue : goal.returns-in-Issue
unfolding payload_elements payload_shape
returns-in-Issue c = search rules

pub returns-in-IssueResponse : goal.returns-in-IssueResponse
unfolding payload_elements payload_shape
returns-in-IssueResponse c = search rules

pub returns-in-Revoke : goal.returns-in-Revoke
unfolding payload_elements payload_shape
returns-in-Revoke c = search rules

pub returns-in-RevokeResponse : goal.returns-in-RevokeResponse
unfolding payload_elements payload_shape
returns-in-RevokeResponse c = search rules

pub returns-in-ErrorResponse : goal.returns-in-ErrorResponse
unfolding payload_elements payload_shape
returns-in-ErrorResponse c = search rules
