use Rattle.rpki_external.proofs.OneValue.{one_value}
use Rattle.rpki_external.specs.Question.{anchor_questions, request_questions}
use Rattle.rpki_external.proofs.law.same_answers_have_the_same_questions.Goals as goal

pub returns-clause-received : goal.returns-clause-received
returns-clause-received c = λ answers kind other_kind octets others keys other_keys when then last before r s one other.
    one_value answers one.q other.q one.answered.count other.answered.count

pub returns-clause-told : goal.returns-clause-told
returns-clause-told c = λ answers octets others key other_key when then list other_list one other.
    one_value answers one.q other.q one.answered.count other.answered.count

pub returns-clause-anchors : goal.returns-clause-anchors
returns-clause-anchors c = λ answers one other when then first second.
    one_value answers (anchor_questions one) (anchor_questions other) first.count second.count

pub returns-clause-requests : goal.returns-clause-requests
returns-clause-requests c = λ answers one other first second.
    one_value answers (request_questions one) (request_questions other) first.count second.count
