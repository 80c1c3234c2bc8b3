use Rattle.std.proofs.Common.{◌≡◌, ◌≤◌, take}
use Rattle.std.specs.List.{count_by}
use Rattle.rpki_ca.specs.Summary.{does}
use Rattle.rpki_ca.proofs.make_line.number.Given as goal

abbrev pub invariant-loop-change : goal.invariant-loop-change
invariant-loop-change l = (l.number ≡ count_by (does l.action) (take l.change-index l.changes)) × (l.number ≤ l.change-index)
