use Rattle.rpki_sets.proofs.PrefixLemmas.{prefix_length-complete, prefix_length-sound}
use Rattle.rpki_sets.proofs.laws.prefix_length_is.Goals as goal

pub returns-clause-found : goal.returns-clause-found
returns-clause-found c = λ width len run within is. prefix_length-complete width run len within is

pub returns-clause-only : goal.returns-clause-only
returns-clause-only c = λ width len run e. prefix_length-sound width run len e
