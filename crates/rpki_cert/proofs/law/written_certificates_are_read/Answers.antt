use Rattle.rpki_cert.proofs.Slices.{certificate_again}
use Rattle.rpki_cert.proofs.law.written_certificates_are_read.Goals as goal

pub returns : goal.returns
returns c = certificate_again
