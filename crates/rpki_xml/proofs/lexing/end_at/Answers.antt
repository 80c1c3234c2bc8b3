use Rattle.std.proofs.Common.{rules}
use Rattle.rpki_common.specs.Chaining.{◌>>=◌}
use Rattle.rpki_xml.specs.Lexing.{end_at}
use Rattle.rpki_xml.proofs.lexing.end_at.Goals as goal

pub returns-in_default-clause-value : goal.returns-in_default-clause-value
unfolding end_at ◌>>=◌
returns-in_default-clause-value c = search rules

pub returns-in-None-clause-value : goal.returns-in-None-clause-value
unfolding end_at ◌>>=◌
returns-in-None-clause-value c = search rules

pub returns-in-Some-behind-clause-value : goal.returns-in-Some-behind-clause-value
unfolding end_at ◌>>=◌
returns-in-Some-behind-clause-value c = search rules
