use Rattle.rpki_sigmsg.proofs.AnyKey.{under_more}
use Rattle.rpki_sigmsg.proofs.validation.more_keys_believe.Goals as goal

pub returns : goal.returns
returns g c = under_more _
