use Rattle.std.proofs.Common.{arith}
use Rattle.rpki_provisioning.proofs.writable.are_bytes.Goals as goal

pub returns : goal.returns
returns c i = let f = c.type_inv.octets i in omega arith
