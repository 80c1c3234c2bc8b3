use Rattle.rpki_sigmsg.proofs.AnyKey.{one_key}
use Rattle.rpki_sigmsg.proofs.validation.one_key_is_validated.Goals as goal

pub returns : goal.returns
returns g c = one_key _
