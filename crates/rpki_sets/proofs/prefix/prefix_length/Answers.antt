use Rattle.rpki_sets.proofs.PrefixLemmas.{prefix_length_some, prefix_length_none}
use Rattle.rpki_sets.proofs.prefix.prefix_length.Goals as goal

pub returns-then-eq : goal.returns-then-eq
returns-then-eq c = prefix_length_some _ _ _ _ c.saturating_sub-len.ensures c.prefix.ensures c.if-eq.ensures

pub returns-else-eq : goal.returns-else-eq
returns-else-eq c = prefix_length_none _ _ _ _ c.saturating_sub-len.ensures c.prefix.ensures c.if-eq.ensures
