use Rattle.rpki_base.proofs.Equality.{equal_same, equal_signatures, same_equal, same_signatures}
use Rattle.rpki_base.proofs.signed_data.equal_data_are_the_same.Goals as goal

pub returns-clause-same : goal.returns-clause-same
returns-clause-same g c = λ a b. equal_same g.Alg.PartialEq.eq a b g.met.Alg.SignatureAlgorithm.same

pub returns-clause-equal : goal.returns-clause-equal
returns-clause-equal g c = λ a b. same_equal g.Alg.PartialEq.eq a b g.met.Alg.SignatureAlgorithm.equal

pub returns-clause-signature : goal.returns-clause-signature
returns-clause-signature g c = λ a b. (equal_signatures g.Alg.PartialEq.eq a b g.met.Alg.SignatureAlgorithm.same, same_signatures g.Alg.PartialEq.eq a b g.met.Alg.SignatureAlgorithm.equal)
