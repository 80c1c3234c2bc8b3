use Rattle.std.proofs.Common.{ap}
use Rattle.rpki_base.specs.Checks.{failing}
use Rattle.rpki_idcert.specs.Checks.{ee_kind}
use Rattle.rpki_idcert.proofs.Beliefs.{ee_believed}
use Rattle.rpki_idcert.proofs.id_cert.IdCert.validate_ee_at.Goals as goal

pub returns-in-Ok-clause-believed : goal.returns-in-Ok-clause-believed
returns-in-Ok-clause-believed g c = ee_believed g.P.Scheme.checks c.args.self.now c.args.issuer_key.now c.args.when _ c.in-Ok.ensures.signed (λ q d. ap (failing ee_kind) (c.in-Ok.ensures.first_failing q d))

pub returns-in-Err-clause-believed : goal.returns-in-Err-clause-believed
returns-in-Err-clause-believed g c = ee_believed g.P.Scheme.checks c.args.self.now c.args.issuer_key.now c.args.when _ tt (λ q d. rw c.ee_kind.ensures (ap (failing ee_kind) (c.in-Err.ensures.first_failing q d)))
