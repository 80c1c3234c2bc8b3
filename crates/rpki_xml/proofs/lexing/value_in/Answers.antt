use Rattle.std.proofs.Common.{rules}
use Rattle.rpki_common.specs.Chaining.{◌>>=◌}
use Rattle.rpki_xml.specs.Lexing.{value_in}
use Rattle.rpki_xml.proofs.lexing.value_in.Goals as goal

pub returns-in_err-value-clause-value : goal.returns-in_err-value-clause-value
unfolding value_in ◌>>=◌
returns-in_err-value-clause-value c = search rules

pub returns-in-None-clause-value : goal.returns-in-None-clause-value
unfolding value_in ◌>>=◌
returns-in-None-clause-value c = search rules

pub returns-in-Some-clause-value : goal.returns-in-Some-clause-value
unfolding value_in ◌>>=◌
returns-in-Some-clause-value c = search rules
