use Rattle.std.proofs.Common.{rules}
use Rattle.rpki_common.specs.Chaining.{◌>>=◌}
use Rattle.rpki_xml.specs.Lexing.{passed_at}
use Rattle.rpki_xml.proofs.lexing.passed_at.Goals as goal

pub returns-in-None-clause-value : goal.returns-in-None-clause-value
unfolding passed_at ◌>>=◌
returns-in-None-clause-value c = search rules

pub returns-in-Some-clause-value : goal.returns-in-Some-clause-value
unfolding passed_at ◌>>=◌
returns-in-Some-clause-value c = search rules
