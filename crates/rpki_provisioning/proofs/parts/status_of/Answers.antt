use Rattle.std.specs.declared.num.ParseIntError.{ParseIntError}
use Rattle.rpki_provisioning.proofs.Statuses.{status_read, status_none}
use Rattle.rpki_provisioning.proofs.parts.status_of.Goals as goal

pub returns-in-Ok : goal.returns-in-Ok
returns-in-Ok c = status_read ParseIntError c.args.text.now c.in-Ok.status c.in-Ok.ensures.value.0

pub returns-in-Err : goal.returns-in-Err
returns-in-Err c = status_none ParseIntError c.args.text.now c.in-Err.field-0 c.in-Err.ensures.value.0
