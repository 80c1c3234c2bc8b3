use Rattle.rpki_sigmsg.proofs.AnyKey.{one_span_under}
use Rattle.rpki_sigmsg.proofs.validation.believed_moments_are_one_span.Goals as goal

pub returns : goal.returns
returns g c = one_span_under _
