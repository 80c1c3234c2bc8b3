use Rattle.rpki_external.proofs.EndingWell.{anchor_finished_well, anchor_well, message_finished_well, message_well, request_finished_well, request_well}
use Rattle.rpki_external.proofs.law.preparing_and_finishing_succeed.Goals as goal

pub returns-clause-message : goal.returns-clause-message
returns-clause-message c = λ kind plan input m status sink ends reads can. message_well kind input m reads plan status sink ends can

pub returns-clause-anchor : goal.returns-clause-anchor
returns-clause-anchor c = anchor_well

pub returns-clause-request : goal.returns-clause-request
returns-clause-request c = request_well

pub returns-clause-message_finished : goal.returns-clause-message_finished
returns-clause-message_finished c = λ kind plan signatures input m status sink ends reads can short. message_finished_well kind input m reads plan signatures status sink ends can short

pub returns-clause-anchor_finished : goal.returns-clause-anchor_finished
returns-clause-anchor_finished c = anchor_finished_well

pub returns-clause-request_finished : goal.returns-clause-request_finished
returns-clause-request_finished c = request_finished_well
