use Rattle.rpki_pubserver.proofs.Telling.{agrees_told, known_told}
use Rattle.rpki_pubserver.proofs.deciding.decide_changes.Goals as goal

pub returns-clause-decided : goal.returns-clause-decided
returns-clause-decided c =
    λ store ordered agrees. c.in_ok-decision_of.ensures.decided store ordered (agrees_told c.in_ok-told.told c.args.known.now c.in_ok-told.ensures store c.args.changes.now agrees)

pub returns-clause-known : goal.returns-clause-known
returns-clause-known c = known_told c.in_ok-told.told c.args.known.now c.in_ok-told.ensures c.args.changes.now (c.has_all.ensures.0 c.if-not-has_all.false)
