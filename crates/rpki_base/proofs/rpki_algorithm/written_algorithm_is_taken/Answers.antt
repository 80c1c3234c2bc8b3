use Rattle.rpki_base.specs.AlgorithmLaws.{cms_again, cms_value}
use Rattle.rpki_base.proofs.rpki_algorithm.written_algorithm_is_taken.Goals as goal

pub returns-clause-again : goal.returns-clause-again
returns-clause-again c = cms_again

pub returns-clause-one_value : goal.returns-clause-one_value
returns-clause-one_value c = cms_value
