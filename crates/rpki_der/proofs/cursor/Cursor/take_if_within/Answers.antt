use Rattle.rpki_der.proofs.Counting.{uncounted}
use Rattle.rpki_der.proofs.cursor.Cursor.take_if_within.Goals as goal

pub returns-clause-value : goal.returns-clause-value
returns-clause-value g c = uncounted _ _ _ _ _ _ _ _ c.take_if_counted.ensures.value
