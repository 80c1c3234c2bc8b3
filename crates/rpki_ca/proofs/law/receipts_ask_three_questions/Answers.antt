use Rattle.rpki_ca.proofs.Laws.{same_receipt}
use Rattle.rpki_ca.proofs.law.receipts_ask_three_questions.Goals as goal

pub returns : goal.returns
returns g c = same_receipt g.P.Scheme.checks g.Q.Scheme.checks
