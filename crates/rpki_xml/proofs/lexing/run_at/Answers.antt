use Rattle.std.proofs.Common.{rules}
use Rattle.rpki_common.specs.Chaining.{◌>>=◌}
use Rattle.rpki_xml.specs.Lexing.{run_at}
use Rattle.rpki_xml.proofs.lexing.run_at.Goals as goal

pub returns-in_err-text-clause-value : goal.returns-in_err-text-clause-value
unfolding run_at ◌>>=◌
returns-in_err-text-clause-value c = search rules

pub returns-clause-value : goal.returns-clause-value
unfolding run_at ◌>>=◌
returns-clause-value c = search rules
