use Rattle.rpki_ca.proofs.Lined.{are_lines}
use Rattle.rpki_ca.proofs.law.an_input_is_its_lines.Goals as goal

pub returns : goal.returns
returns c = are_lines
