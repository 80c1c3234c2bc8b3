use Rattle.std.proofs.Common.{◌≡◌, take}
use Rattle.std.specs.List.{list_all}
use Rattle.rpki_xml.specs.Lexing.{is_octet}
use Rattle.rpki_xml.proofs.lexing.are_octets.Given as goal

abbrev pub invariant-loop-c : goal.invariant-loop-c
invariant-loop-c l = l.all ≡ list_all is_octet (take l.c-index l.b)
