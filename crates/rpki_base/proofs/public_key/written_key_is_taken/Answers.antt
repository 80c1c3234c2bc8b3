use Rattle.rpki_base.proofs.Keys.{written_key}
use Rattle.rpki_base.proofs.public_key.written_key_is_taken.Goals as goal

pub returns : goal.returns
returns c = written_key
