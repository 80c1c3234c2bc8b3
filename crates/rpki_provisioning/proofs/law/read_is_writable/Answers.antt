use Rattle.rpki_provisioning.proofs.Writables.{message_writable}
use Rattle.rpki_provisioning.proofs.law.read_is_writable.Goals as goal

pub returns : goal.returns
returns c = message_writable
