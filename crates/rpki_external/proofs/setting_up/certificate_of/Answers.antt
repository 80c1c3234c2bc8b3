use Rattle.rpki_external.proofs.Nones.{no_certificate_begins}
use Rattle.rpki_external.proofs.setting_up.certificate_of.Goals as goal

pub returns-in-Err-Malformed-clause-err : goal.returns-in-Err-Malformed-clause-err
returns-in-Err-Malformed-clause-err c =
    no_certificate_begins _ c.in-Err-Malformed.field-0 c.in-Err-Malformed.field-0-is (rw (c.as_slice.ensures, c.in_ok-octets.ensures, c.id_cert.ensures) at c.in-Err-Malformed.ensures)
