use Rattle.rpki_der.proofs.Tagging.{same_tags, equal_tags}
use Rattle.rpki_der.proofs.law.equal_values_are_the_same.Goals as goal

pub returns-clause-tag : goal.returns-clause-tag
returns-clause-tag c = λ a b. (same_tags a b, equal_tags a b)
