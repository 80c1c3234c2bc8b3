use Rattle.rpki_cert.proofs.Shorter.{request_length, request_spelled}
use Rattle.rpki_cert.proofs.law.written_requests_are_no_longer.Goals as goal

pub returns-clause-length : goal.returns-clause-length
returns-clause-length c = request_length

pub returns-clause-spelled : goal.returns-clause-spelled
returns-clause-spelled c = request_spelled
