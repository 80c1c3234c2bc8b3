use Rattle.rpki_der.proofs.Whole.{item_is, octets_are}
use Rattle.rpki_der.proofs.law.whole_is_the_value.Goals as goal

pub returns-clause-item : goal.returns-clause-item
returns-clause-item c = item_is

pub returns-clause-capture : goal.returns-clause-capture
returns-clause-capture c = octets_are
