use Rattle.rpki_der.proofs.Growing.{tree_begins}
use Rattle.rpki_der.proofs.index.read_tree.Goals as goal

pub invariant_of-result : goal.invariant_of-result
invariant_of-result c =
    let w = tree_begins _ _ _ _ _ _ c.in_ok-entries.ensures.ok c.saturating_sub-size.ensures c.in_ok-octets.ensures.items in w.0

pub returns-clause-ok : goal.returns-clause-ok
returns-clause-ok c =
    let w = tree_begins _ _ _ _ _ _ c.in_ok-entries.ensures.ok c.saturating_sub-size.ensures c.in_ok-octets.ensures.items in w.1

pub returns-clause-size : goal.returns-clause-size
returns-clause-size c =
    let w = tree_begins _ _ _ _ _ _ c.in_ok-entries.ensures.ok c.saturating_sub-size.ensures c.in_ok-octets.ensures.items in w.2
