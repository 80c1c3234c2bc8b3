use Rattle.rpki_sigmsg.proofs.AnyKey.{same_under}
use Rattle.rpki_sigmsg.proofs.validation.questions_of_each_key_decide.Goals as goal

pub returns : goal.returns
returns g c = same_under _ _
