use Rattle.std.proofs.Common.{◌≡◌, ◌++◌, take, drop}
use Rattle.rpki_xml.specs.Name.{behind_colon, before_colon}
use Rattle.rpki_xml.proofs.tag.prefix_of.Given as goal

abbrev pub invariant-loop-i : goal.invariant-loop-i
invariant-loop-i l = (behind_colon (drop l.i l.name) ≡ behind_colon l.name) × (take l.i l.name ++ before_colon (drop l.i l.name) ≡ before_colon l.name)
