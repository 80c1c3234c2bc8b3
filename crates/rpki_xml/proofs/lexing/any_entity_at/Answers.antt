use Rattle.std.proofs.Common.{rules}
use Rattle.rpki_common.specs.Chaining.{◌>>=◌}
use Rattle.rpki_xml.specs.Lexing.{any_entity_at}
use Rattle.rpki_xml.proofs.lexing.any_entity_at.Goals as goal

pub returns-in-Some-clause-value : goal.returns-in-Some-clause-value
unfolding any_entity_at ◌>>=◌
returns-in-Some-clause-value c = search rules

pub returns-in-Some-behind-clause-value : goal.returns-in-Some-behind-clause-value
unfolding any_entity_at ◌>>=◌
returns-in-Some-behind-clause-value c = search rules

pub returns-in-Some-behind-2-clause-value : goal.returns-in-Some-behind-2-clause-value
unfolding any_entity_at ◌>>=◌
returns-in-Some-behind-2-clause-value c = search rules

pub returns-in-Some-behind-3-clause-value : goal.returns-in-Some-behind-3-clause-value
unfolding any_entity_at ◌>>=◌
returns-in-Some-behind-3-clause-value c = search rules

pub returns-in-Some-behind-4-clause-value : goal.returns-in-Some-behind-4-clause-value
unfolding any_entity_at ◌>>=◌
returns-in-Some-behind-4-clause-value c = search rules

pub returns-in_default-behind-4-clause-value : goal.returns-in_default-behind-4-clause-value
unfolding any_entity_at ◌>>=◌
returns-in_default-behind-4-clause-value c = search rules
