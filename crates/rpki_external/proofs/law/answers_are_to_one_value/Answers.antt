use Rattle.rpki_external.proofs.OneValue.{one_given, one_value}
use Rattle.rpki_external.proofs.law.answers_are_to_one_value.Goals as goal

pub returns-clause-counted : goal.returns-clause-counted
returns-clause-counted c = one_value

pub returns-clause-given : goal.returns-clause-given
returns-clause-given c = one_given
