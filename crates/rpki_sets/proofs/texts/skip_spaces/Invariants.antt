use Rattle.std.proofs.Common.{◌≡◌, length}
use Rattle.rpki_sets.specs.Texts.{skip_spaces as skip_spaces_of}
use Rattle.rpki_sets.proofs.texts.skip_spaces.Given as goal

abbrev pub invariant-front : goal.invariant-front
invariant-front l = skip_spaces_of l.rest ≡ skip_spaces_of l.text

abbrev pub decreases-front : goal.decreases-front
decreases-front l = length l.rest
