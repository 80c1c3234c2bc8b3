use Rattle.std.proofs.Common.{arith}
use Rattle.rpki_replay.proofs.state_text.hexadecimal.Goals as goal

pub returns-clause-octets : goal.returns-clause-octets
returns-clause-octets c = λ i. let small = c.type_inv.octets i in omega (arith, small)
