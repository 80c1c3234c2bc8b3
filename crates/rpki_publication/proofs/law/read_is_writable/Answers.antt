use Rattle.rpki_publication.proofs.Writable.{message_writable}
use Rattle.rpki_publication.proofs.law.read_is_writable.Goals as goal

pub returns : goal.returns
returns c = message_writable
