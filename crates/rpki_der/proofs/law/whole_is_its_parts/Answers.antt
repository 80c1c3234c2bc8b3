use Rattle.rpki_der.proofs.Whole.{parts_of, whole_around}
use Rattle.rpki_der.proofs.law.whole_is_its_parts.Goals as goal

pub returns-clause-parts : goal.returns-clause-parts
returns-clause-parts c = parts_of

pub returns-clause-whole : goal.returns-clause-whole
returns-clause-whole c = whole_around
