use Rattle.std.proofs.Common.{◌≡◌, drop}
use Rattle.rpki_xml.specs.Lexing.{past_white}
use Rattle.rpki_xml.proofs.lexing.past_white.Given as goal

abbrev pub invariant-loop-i : goal.invariant-loop-i
invariant-loop-i l = past_white (drop l.i l.b) ≡ past_white l.b
