use Rattle.rpki_archive.proofs.Tied as tied
use Rattle.rpki_archive.proofs.law.explain_writes_all.Goals as goal

pub returns : goal.returns
returns g c = tied.explain_wrote g.P.Scheme.checks
