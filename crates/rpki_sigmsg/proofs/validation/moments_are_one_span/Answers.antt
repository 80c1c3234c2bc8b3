use Rattle.rpki_sigmsg.proofs.Meaning.{one_span}
use Rattle.rpki_sigmsg.proofs.validation.moments_are_one_span.Goals as goal

pub returns : goal.returns
returns c = one_span
