use Rattle.std.proofs.Common.{refl}
use Rattle.rpki_external.proofs.word_parts.serial_at.Goals as goal

pub returns-in-None-clause-none : goal.returns-in-None-clause-none
returns-in-None-clause-none c = λ _ serial at is. (rw c.in-None.is at c.in_ok-octets.ensures.none) refl serial at
