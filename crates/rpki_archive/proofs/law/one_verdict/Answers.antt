use Rattle.rpki_archive.proofs.Tied as tied
use Rattle.rpki_archive.proofs.law.one_verdict.Goals as goal

pub returns : goal.returns
returns g c = tied.one_verdict g.P.Scheme.checks
