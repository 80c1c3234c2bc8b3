use Rattle.rpki_xml.proofs.Repetitions.{characters_both, attributes_both}
use Rattle.rpki_xml.proofs.law.runs_are_repetitions.Goals as goal

pub returns-clause-characters : goal.returns-clause-characters
returns-clause-characters c = characters_both

pub returns-clause-attributes : goal.returns-clause-attributes
returns-clause-attributes c = attributes_both
