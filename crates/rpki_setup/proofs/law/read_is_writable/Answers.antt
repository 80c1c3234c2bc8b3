use Rattle.rpki_setup.proofs.Writable.{child_writable, parent_writable, publisher_writable, repository_writable}
use Rattle.rpki_setup.proofs.law.read_is_writable.Goals as goal

pub returns-clause-child_request : goal.returns-clause-child_request
returns-clause-child_request c = child_writable

pub returns-clause-parent_response : goal.returns-clause-parent_response
returns-clause-parent_response c = parent_writable

pub returns-clause-publisher_request : goal.returns-clause-publisher_request
returns-clause-publisher_request c = publisher_writable

pub returns-clause-repository_response : goal.returns-clause-repository_response
returns-clause-repository_response c = repository_writable
