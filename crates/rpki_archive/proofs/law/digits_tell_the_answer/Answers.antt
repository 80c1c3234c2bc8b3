use Rattle.rpki_archive.proofs.Tied as tied
use Rattle.rpki_archive.proofs.law.digits_tell_the_answer.Goals as goal

pub returns : goal.returns
returns g c = tied.digits_tell g.P.Scheme.checks
