use Rattle.rpki_cert.proofs.Slices.{slice_within}
use Rattle.rpki_cert.proofs.law.read_certificates_are_no_longer.Goals as goal

pub returns : goal.returns
returns c = slice_within
