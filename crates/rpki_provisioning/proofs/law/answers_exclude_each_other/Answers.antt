use Rattle.rpki_provisioning.proofs.Excludes.{message, form, certificate, request, faults}
use Rattle.rpki_provisioning.proofs.law.answers_exclude_each_other.Goals as goal

pub returns-clause-message : goal.returns-clause-message
returns-clause-message c = message

pub returns-clause-form : goal.returns-clause-form
returns-clause-form c = form

pub returns-clause-certificate : goal.returns-clause-certificate
returns-clause-certificate c = certificate

pub returns-clause-request : goal.returns-clause-request
returns-clause-request c = request

pub returns-clause-faults : goal.returns-clause-faults
returns-clause-faults c = faults
