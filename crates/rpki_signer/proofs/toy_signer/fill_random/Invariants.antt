use Rattle.std.proofs.Common.{◌≡◌, ◌-◌, ◌≤◌, ◌++◌, length}
use Rattle.std.specs.Prelude.{take}
use Rattle.rpki_signer.specs.ToySigner.{octets_from, random_octets}
use Rattle.rpki_signer.proofs.toy_signer.fill_random.Given as goal

abbrev pub decreases-fill : goal.decreases-fill
decreases-fill l = length l.target - l.at

abbrev pub invariant-fill : goal.invariant-fill
invariant-fill l = (l.at ≤ length l.target) × (l.block ≤ l.at) × (length l.target ≡ length l.fn.target)
    × (take l.at l.target ++ octets_from l.fn.seed l.fn.number l.block (length l.target - l.at) ≡ random_octets l.fn.seed l.fn.number (length l.fn.target))
