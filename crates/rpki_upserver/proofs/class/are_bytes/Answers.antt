use Rattle.std.proofs.Common.{arith}
use Rattle.rpki_upserver.proofs.class.are_bytes.Goals as goal

pub returns : goal.returns
returns c i = let f = c.type_inv.octets i in omega arith
