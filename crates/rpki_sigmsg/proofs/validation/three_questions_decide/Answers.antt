use Rattle.rpki_sigmsg.proofs.Meaning.{same_validation}
use Rattle.rpki_sigmsg.proofs.validation.three_questions_decide.Goals as goal

pub returns : goal.returns
returns g c = same_validation _ _
