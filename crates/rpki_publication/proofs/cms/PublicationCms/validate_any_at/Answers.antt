use Rattle.rpki_sigmsg.proofs.PassedOn.{any_believed, any_none, any_answer}
use Rattle.rpki_publication.specs.declared.error.Error.TheVariants as errors
use Rattle.rpki_publication.proofs.cms.PublicationCms.validate_any_at.Goals as goal

pub returns-clause-believed : goal.returns-clause-believed
returns-clause-believed g c = any_believed errors.Validation g.P.Scheme.checks c.signed_message.result.now c.args.self.now.signed c.args.keys.now c.args.when c.validate_any_at.result c.passed_on.result c.signed_message.ensures c.passed_on.ensures c.validate_any_at.ensures.believed

pub returns-clause-none : goal.returns-clause-none
returns-clause-none g c = any_none errors.Validation g.P.Scheme.checks c.signed_message.result.now c.args.self.now.signed c.args.keys.now c.args.when c.validate_any_at.result c.passed_on.result c.signed_message.ensures c.passed_on.ensures c.validate_any_at.ensures.none

pub returns-clause-first_failing : goal.returns-clause-first_failing
returns-clause-first_failing g c = any_answer errors.Validation g.P.Scheme.checks c.signed_message.result.now c.args.self.now.signed c.args.keys.now c.args.when c.validate_any_at.result c.passed_on.result c.signed_message.ensures c.passed_on.ensures c.validate_any_at.ensures.first_failing
