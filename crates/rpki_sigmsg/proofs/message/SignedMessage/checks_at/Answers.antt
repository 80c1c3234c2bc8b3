use Rattle.rpki_sigmsg.proofs.AllChecks.{made_of, all_believed, by_any_answers}
use Rattle.rpki_sigmsg.proofs.message.SignedMessage.checks_at.Goals as goal

pub returns-clause-answered : goal.returns-clause-answered
returns-clause-answered g c = made_of g.P.Scheme.checks c.args.self.now c.args.issuer_key.now c.args.when _ _ _ _ _ _ _ _ c.ee_cert-entity.ensures c.crls-crls.ensures.crls c.names_certificate.ensures c.digest_holds.ensures c.are_attributes_signed.ensures c.is_not_revoked.ensures c.ee_checks_at.ensures c.crls_checks.ensures

pub returns-clause-believed : goal.returns-clause-believed
returns-clause-believed g c = all_believed g.P.Scheme.checks c.args.self.now c.args.issuer_key.now c.args.when _ (returns-clause-answered g c)

pub returns-clause-checks : goal.returns-clause-checks
returns-clause-checks g c = by_any_answers g.P.Scheme.checks c.args.self.now c.args.issuer_key.now c.args.when _ (returns-clause-answered g c)
