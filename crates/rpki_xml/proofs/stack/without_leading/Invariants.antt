use Rattle.std.proofs.Common.{◌≡◌, drop}
use Rattle.rpki_xml.specs.Content.{without_white}
use Rattle.rpki_xml.proofs.stack.without_leading.Given as goal

abbrev pub invariant-loop-i : goal.invariant-loop-i
invariant-loop-i l = without_white (drop l.i l.text) ≡ without_white l.text
