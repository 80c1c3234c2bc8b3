use Rattle.rpki_der.proofs.Modes.{decodes_in}
use Rattle.rpki_idcert.specs.IdCert.{identity_certificate}
use Rattle.rpki_idcert.proofs.id_cert.IdCert.decode_mode.Goals as goal

pub returns : goal.returns
returns c = decodes_in identity_certificate _ _ _ _ _ _ c.new-cursor.ensures c.take_from.ensures
