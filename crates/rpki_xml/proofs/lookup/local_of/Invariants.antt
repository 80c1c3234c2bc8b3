use Rattle.std.proofs.Common.{◌≡◌, drop}
use Rattle.rpki_xml.specs.Name.{behind_colon}
use Rattle.rpki_xml.proofs.lookup.local_of.Given as goal

abbrev pub invariant-loop-i : goal.invariant-loop-i
invariant-loop-i l = behind_colon (drop l.i l.name) ≡ behind_colon l.name
