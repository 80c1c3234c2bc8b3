use Rattle.rpki_sets.proofs.RunLemmas.{same_runs}
use Rattle.rpki_sets.proofs.laws.equal_sets_have_equal_runs.Goals as goal

pub returns : goal.returns
returns c = λ width a b sa sb same. same_runs a b sa.maximal sb.maximal same
