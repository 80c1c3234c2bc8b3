use Rattle.std.proofs.Common.{arith}
use Rattle.rpki_external.proofs.HandedOut.{few_handed_out, short_text, short_answer}
use Rattle.rpki_external.proofs.lengths.questions_are_short.Goals as goal

pub returns-clause-octets : goal.returns-clause-octets
returns-clause-octets c = few_handed_out

pub returns-clause-text : goal.returns-clause-text
returns-clause-text c = λ octets keys q a. omega (arith, short_text octets keys q a)

pub returns-clause-written : goal.returns-clause-written
returns-clause-written c = short_answer
