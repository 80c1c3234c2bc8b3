use Rattle.rpki_external.proofs.Accepted.{accepted_so, finishes}
use Rattle.rpki_external.proofs.law.finished_is_accepted.Goals as goal

pub returns-clause-made : goal.returns-clause-made
returns-clause-made g c = λ kind input message plan signatures reads can short spelled. accepted_so g.P.Scheme.checks kind plan signatures input message reads can short spelled

pub returns-clause-written : goal.returns-clause-written
returns-clause-written g c = λ kind plan signatures input sink ends. finishes g.P.Scheme.checks kind plan signatures input sink ends
