use Rattle.rpki_sets.proofs.Sorting.{union-same}
use Rattle.rpki_sets.proofs.union.union.Goals as goal

pub returns : goal.returns
returns c =
    let joined = rw c.deref.ensures.value at c.join.ensures in
    rw (union-same _ _ c.sort.ensures.ordered c.requires c.sort.ensures.same) at joined
