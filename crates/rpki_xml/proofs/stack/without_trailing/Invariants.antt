use Rattle.std.proofs.Common.{◌≡◌, ◌≤◌, reverse, length}
use Rattle.rpki_xml.specs.Content.{without_white}
use Rattle.rpki_xml.proofs.stack.without_trailing.Given as goal

abbrev pub invariant-loop-text : goal.invariant-loop-text
invariant-loop-text l = (without_white (reverse l.text) ≡ without_white (reverse l.fn.text)) × (length l.text ≤ length l.fn.text)

abbrev pub decreases-loop-text : goal.decreases-loop-text
decreases-loop-text l = length l.text
