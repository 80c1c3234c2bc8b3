use Rattle.rpki_external.proofs.Delivering.{always, answered_so, delivered}
use Rattle.rpki_external.proofs.law.right_answers_deliver.Goals as goal

pub returns-clause-answered : goal.returns-clause-answered
returns-clause-answered g c = λ what answers input status sink ends right. answered_so g.P.Scheme.checks g.P.Scheme.fits answers input sink what status ends right

pub returns-clause-received : goal.returns-clause-received
returns-clause-received g c = λ kind keys when last answers input sink ends right. delivered g.P.Scheme.checks g.P.Scheme.fits answers input sink kind keys when last ends right

pub returns-clause-accepted : goal.returns-clause-accepted
returns-clause-accepted g c = λ kind keys when last answers input status sink ends right to brings later.
    always g.P.Scheme.checks g.P.Scheme.fits kind keys when last answers input sink status brings later ends right to
