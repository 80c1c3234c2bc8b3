use Rattle.rpki_c.proofs.Handing.{hands_over}
use Rattle.rpki_c.proofs.reading.calmizsed_issue_verify.Goals as goal

pub returns-clause-answer : goal.returns-clause-answer
returns-clause-answer c =
    hands_over _ c.verify_issue.result _ _ _ c.verify_issue.ensures.ok c.verify_issue.ensures.err c.hand_over.ensures.given c.hand_over.ensures.refused
