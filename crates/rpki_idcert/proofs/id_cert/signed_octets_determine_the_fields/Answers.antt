use Rattle.rpki_der.specs.Whole.{whole_of}
use Rattle.rpki_base.specs.RpkiSignatureAlgorithm.{x509_algorithm}
use Rattle.rpki_base.proofs.Determined.{determined}
use Rattle.rpki_idcert.specs.IdCert.{identity_certificate}
use Rattle.rpki_idcert.specs.TbsIdCert.{tbs_certificate}
use Rattle.rpki_idcert.proofs.id_cert.signed_octets_determine_the_fields.Goals as goal

pub returns : goal.returns
unfolding identity_certificate
returns c = λ mode v f l e. determined tbs_certificate (whole_of x509_algorithm) mode v f l e
