use Rattle.rpki_ca.proofs.Laws.{one_received, one_received_under}
use Rattle.rpki_ca.proofs.law.one_receipt.Goals as goal

pub returns : goal.returns
returns g c = record { with_place = one_received_under g.P.Scheme.checks; without_place = one_received g.P.Scheme.checks }
