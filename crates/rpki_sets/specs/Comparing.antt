-- Equal runs.
use Rattle.std.specs.Prelude.{Bool, ◌&&◌, ◌==◌}
use Rattle.std.specs.Cmp.{IsEquivalence, and_equiv, on_equiv, nat_eq_equiv}
use Rattle.rpki_sets.specs.declared.run.Run.{Run}

-- both runs have the same ends
abbrev pub is_same : Run → Run → Bool
is_same a b = a.first == b.first && a.last == b.last

-- equality of runs is an equivalence
pub is_same-equiv : IsEquivalence is_same
is_same-equiv = and_equiv (on_equiv (λ r. r.first) nat_eq_equiv)
    (on_equiv (λ r. r.last) nat_eq_equiv)
