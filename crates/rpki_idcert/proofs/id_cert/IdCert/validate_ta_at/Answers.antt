use Rattle.std.proofs.Common.{ap}
use Rattle.rpki_base.specs.Checks.{failing}
use Rattle.rpki_idcert.specs.Checks.{ta_kind}
use Rattle.rpki_idcert.proofs.Beliefs.{ta_believed}
use Rattle.rpki_idcert.proofs.id_cert.IdCert.validate_ta_at.Goals as goal

pub returns-in-Ok-clause-believed : goal.returns-in-Ok-clause-believed
returns-in-Ok-clause-believed g c = ta_believed g.P.Scheme.checks c.args.self.now c.args.when _ c.in-Ok.ensures.signed (λ q d. ap (failing ta_kind) (c.in-Ok.ensures.first_failing q d)) (λ n. ap (failing ta_kind) (c.in-Ok.ensures.unasked n))

pub returns-in-Err-clause-believed : goal.returns-in-Err-clause-believed
returns-in-Err-clause-believed g c = ta_believed g.P.Scheme.checks c.args.self.now c.args.when _ tt (λ q d. rw c.ta_kind.ensures (ap (failing ta_kind) (c.in-Err.ensures.first_failing q d))) (λ n. rw c.ta_kind.ensures (ap (failing ta_kind) (c.in-Err.ensures.unasked n)))
