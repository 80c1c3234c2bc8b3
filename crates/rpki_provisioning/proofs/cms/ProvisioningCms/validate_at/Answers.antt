use Rattle.rpki_sigmsg.proofs.PassedOn.{answer_of, believed}
use Rattle.rpki_updown.specs.declared.error.Error.TheVariants as errors
use Rattle.rpki_provisioning.proofs.cms.ProvisioningCms.validate_at.Goals as goal

pub returns-clause-believed : goal.returns-clause-believed
returns-clause-believed g c = believed errors.Validation g.P.Scheme.checks c.signed_message.result.now c.args.self.now.signed c.args.issuer_key.now c.args.when c.validate_at.result c.passed_on.result c.signed_message.ensures c.passed_on.ensures c.validate_at.ensures.believed

pub returns-clause-first_failing : goal.returns-clause-first_failing
returns-clause-first_failing g c = answer_of errors.Validation g.P.Scheme.checks c.signed_message.result.now c.args.self.now.signed c.args.issuer_key.now c.args.when c.validate_at.result c.passed_on.result c.signed_message.ensures c.passed_on.ensures c.validate_at.ensures.first_failing
