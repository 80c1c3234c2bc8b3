use Rattle.rpki_external.proofs.RightAnswers.{checks_decided, decided, receipt_too, refusal_too}
use Rattle.rpki_external.proofs.law.right_answers_decide.Goals as goal

pub returns-clause-received : goal.returns-clause-received
returns-clause-received g c = decided g.P.Scheme.checks g.P.Scheme.fits

pub returns-clause-receipt : goal.returns-clause-receipt
returns-clause-receipt g c = receipt_too g.P.Scheme.checks g.P.Scheme.fits

pub returns-clause-guard : goal.returns-clause-guard
returns-clause-guard g c = refusal_too g.P.Scheme.checks g.P.Scheme.fits

pub returns-clause-checks : goal.returns-clause-checks
returns-clause-checks g c = checks_decided g.P.Scheme.checks g.P.Scheme.fits
