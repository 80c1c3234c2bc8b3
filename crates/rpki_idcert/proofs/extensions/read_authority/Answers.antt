use Rattle.rpki_der.proofs.Insides.{gives_in_der}
use Rattle.rpki_idcert.proofs.extensions.read_authority.Goals as goal

pub returns : goal.returns
returns g c = gives_in_der _ _ _ _ c.new-cursor.result _ _ _ _ c.new-cursor.ensures c.take_authority_key.ensures
