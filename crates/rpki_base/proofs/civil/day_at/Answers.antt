use Rattle.std.proofs.Common.{arith}
use Rattle.jiff_core.proofs.SignedLemmas.{signed_arith}
use Rattle.rpki_base.proofs.Years.{year_from}
use Rattle.rpki_base.proofs.civil.day_at.Goals as goal

pub returns-clause-year : goal.returns-clause-year
returns-clause-year c = year_from c.from_days_since_min-date.result (omega (arith, signed_arith, c.from_days_since_min-date.ensures, c.requires))
