use Rattle.std.proofs.Common.{refl}
use Rattle.rpki_c.proofs.Octets.{no_answers}
use Rattle.rpki_c.proofs.arguments.values_in.Goals as goal

pub returns-in-None-clause-none : goal.returns-in-None-clause-none
returns-in-None-clause-none c = λ none. no_answers c.args.octets.now c.loop-octet.octet-index c.loop-octet-test.true (c.in-None.ensures.none refl)
