use Rattle.std.proofs.lemmas.List.Sorted.{IsNonDecreasingBy-from_sort_by_key}
use Rattle.std.proofs.Common.{rules}
use Rattle.rpki_sets.proofs.Sorting.{SameNumbers-permutation, AllOrdered-permutation, IsAscending-rising}
use Rattle.rpki_sets.proofs.union.sort.Goals as goal

pub returns-clause-same : goal.returns-clause-same
returns-clause-same c = SameNumbers-permutation _ _ c.sort_unstable_by_key.ensures.permutation

pub returns-clause-ordered : goal.returns-clause-ordered
returns-clause-ordered c = AllOrdered-permutation _ _ c.sort_unstable_by_key.ensures.permutation c.requires

pub returns-clause-ascending : goal.returns-clause-ascending
returns-clause-ascending c =
    IsAscending-rising _ (IsNonDecreasingBy-from_sort_by_key (λ run. run.first) _ c.sort_unstable_by_key.ensures.sorted (λ a r q k. search rules))
