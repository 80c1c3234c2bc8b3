use Rattle.rpki_sets.proofs.AsLaws.{as_lawful}
use Rattle.rpki_sets.proofs.as_numbers.AsNumbersNumbers.law.Goals as goal

pub returns : goal.returns
returns c = as_lawful
