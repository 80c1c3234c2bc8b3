use Rattle.rpki_publication.proofs.Deltas.{small_delta}
use Rattle.rpki_publication.proofs.law.small_deltas_are_short.Goals as goal

pub returns : goal.returns
returns c = small_delta
