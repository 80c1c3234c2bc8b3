use Rattle.std.proofs.Common.{◌≡◌, length, false}
use Rattle.rpki_xml.specs.Name.{ends_name}
use Rattle.rpki_xml.proofs.lexing.ends_name.Given as goal

abbrev pub invariant-loop-rest : goal.invariant-loop-rest
invariant-loop-rest l = ends_name l.colon l.rest ≡ ends_name false l.name

abbrev pub decreases-loop-rest : goal.decreases-loop-rest
decreases-loop-rest l = length l.rest
