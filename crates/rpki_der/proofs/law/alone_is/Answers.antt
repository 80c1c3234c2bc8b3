use Rattle.rpki_der.proofs.Flats.{alone_begins, alone_only}
use Rattle.rpki_der.proofs.law.alone_is.Goals as goal

pub returns-clause-begins : goal.returns-clause-begins
returns-clause-begins c = alone_begins

pub returns-clause-only : goal.returns-clause-only
returns-clause-only c = alone_only
