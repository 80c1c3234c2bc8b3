use Rattle.std.proofs.Common.{◌≡◌, length}
use Rattle.rpki_sets.proofs.Spaces.{from_back}
use Rattle.rpki_sets.proofs.texts.drop_spaces.Given as goal

abbrev pub invariant-back : goal.invariant-back
invariant-back l = from_back l.rest ≡ from_back l.text

abbrev pub decreases-back : goal.decreases-back
decreases-back l = length l.rest
