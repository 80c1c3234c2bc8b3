use Rattle.rpki_setup.specs.ChildRequest.{child_request_in}
use Rattle.rpki_setup.specs.ParentResponse.{parent_response_in}
use Rattle.rpki_setup.specs.PublisherRequest.{publisher_request_in}
use Rattle.rpki_setup.specs.RepositoryResponse.{repository_response_in}
use Rattle.rpki_xmltext.proofs.Read.{one_message}
use Rattle.rpki_setup.proofs.law.at_most_one.Goals as goal

pub returns-clause-child_request : goal.returns-clause-child_request
returns-clause-child_request c = one_message child_request_in

pub returns-clause-parent_response : goal.returns-clause-parent_response
returns-clause-parent_response c = one_message parent_response_in

pub returns-clause-publisher_request : goal.returns-clause-publisher_request
returns-clause-publisher_request c = one_message publisher_request_in

pub returns-clause-repository_response : goal.returns-clause-repository_response
returns-clause-repository_response c = one_message repository_response_in
