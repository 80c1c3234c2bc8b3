use Rattle.rpki_external.proofs.RightAnswers.{same_answers}
use Rattle.rpki_external.proofs.law.right_answers_are_the_schemes.Goals as goal

pub returns : goal.returns
returns g c = λ m keys answers right. same_answers g.P.Scheme.checks g.P.Scheme.fits m keys answers.values right
