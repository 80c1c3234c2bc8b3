use Rattle.bench_layers.proofs.Onwards.{into}
use Rattle.bench_layers.proofs.walk.enters.Goals as goal

pub returns-in-Ok-clause-gone : goal.returns-in-Ok-clause-gone
returns-in-Ok-clause-gone c = λ e. into _ _ _ c.in-Ok.ensures.place
