use Rattle.std.proofs.Common.{refl}
use Rattle.rpki_c.proofs.Unread.{no_key}
use Rattle.rpki_c.proofs.arguments.key_in.Goals as goal

pub returns-in-Err-Malformed-clause-err : goal.returns-in-Err-Malformed-clause-err
returns-in-Err-Malformed-clause-err c = λ other. (refl, no_key _ c.in-Err-Malformed.field-0 c.in-Err-Malformed.field-0-is c.in-Err-Malformed.ensures)
