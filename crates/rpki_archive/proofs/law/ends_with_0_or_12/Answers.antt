use Rattle.rpki_archive.proofs.Tied as tied
use Rattle.rpki_archive.proofs.law.ends_with_0_or_12.Goals as goal

pub returns : goal.returns
returns g c = tied.ends_so g.P.Scheme.checks
