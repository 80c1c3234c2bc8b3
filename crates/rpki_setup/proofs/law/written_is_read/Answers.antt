use Rattle.rpki_setup.proofs.Again.{child_again, parent_again, publisher_again, repository_again}
use Rattle.rpki_setup.proofs.law.written_is_read.Goals as goal

pub returns-clause-child_request : goal.returns-clause-child_request
returns-clause-child_request c = child_again

pub returns-clause-parent_response : goal.returns-clause-parent_response
returns-clause-parent_response c = parent_again

pub returns-clause-publisher_request : goal.returns-clause-publisher_request
returns-clause-publisher_request c = publisher_again

pub returns-clause-repository_response : goal.returns-clause-repository_response
returns-clause-repository_response c = repository_again
