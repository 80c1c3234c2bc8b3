use Rattle.rpki_cert.proofs.Slices.{same_slices}
use Rattle.rpki_cert.proofs.law.octets_determine_certificates.Goals as goal

pub returns : goal.returns
returns c = same_slices
