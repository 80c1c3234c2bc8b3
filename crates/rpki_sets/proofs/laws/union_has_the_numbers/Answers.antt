use Rattle.rpki_sets.proofs.RunLemmas.{IsMaximal-union, Has-union}
use Rattle.rpki_sets.proofs.laws.union_has_the_numbers.Goals as goal

pub returns-clause-maximal : goal.returns-clause-maximal
returns-clause-maximal c = IsMaximal-union

pub returns-clause-same : goal.returns-clause-same
returns-clause-same c = Has-union
