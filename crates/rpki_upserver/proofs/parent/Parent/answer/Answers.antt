use Rattle.rpki_upserver.proofs.Saying.{answered_so}
use Rattle.rpki_upserver.proofs.parent.Parent.answer.Goals as goal

pub returns-clause-answered : goal.returns-clause-answered
returns-clause-answered g c =
    answered_so g.P.Scheme.checks c.args.octets.now c.args.when _ c.args.self.now c.decide.new.self c.in-Ok.message (g.N.Issuer.state c.args.issuer.now) (g.N.Issuer.state c.decide.new.issuer) c.in_ok-decision.decision _ c.in-Ok.ensures.ok c.in_ok-decision.ensures.ok c.in_ok-send.ensures.ok
