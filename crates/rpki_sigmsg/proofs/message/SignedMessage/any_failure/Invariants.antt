use Rattle.rpki_sigmsg.proofs.AnyKey.{SoFar}
use Rattle.rpki_sigmsg.proofs.message.SignedMessage.any_failure.Given as goal

abbrev pub invariant-loop-place : goal.invariant-loop-place
invariant-loop-place g l = SoFar g.P.Scheme.checks l.self l.keys l.when l.place l.greatest
