use Rattle.std.proofs.Common.{refl}
use Rattle.rpki_external.proofs.Nones.{no_certificate_begins}
use Rattle.rpki_c.proofs.setting_up.certificate_at.Goals as goal

pub returns-in-Err-Malformed-clause-err : goal.returns-in-Err-Malformed-clause-err
returns-in-Err-Malformed-clause-err c = λ other. (refl, no_certificate_begins _ c.in-Err-Malformed.field-0 c.in-Err-Malformed.field-0-is c.in-Err-Malformed.ensures)
