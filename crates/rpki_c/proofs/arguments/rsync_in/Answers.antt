use Rattle.std.proofs.Common.{ap, is_some, refl}
use Rattle.rpki_c.proofs.arguments.rsync_in.Goals as goal

pub returns-in-None-clause-err : goal.returns-in-None-clause-err
returns-in-None-clause-err c = λ other. (refl, c.in_ok-uri.ensures.none (ap is_some c.in-None.is))
