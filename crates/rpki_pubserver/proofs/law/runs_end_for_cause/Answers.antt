use Rattle.rpki_pubserver.proofs.Ended.{ends_so}
use Rattle.rpki_pubserver.proofs.law.runs_end_for_cause.Goals as goal

pub returns : goal.returns
returns g c = λ when signer server. ends_so g.P.Scheme.checks when signer server
