use Rattle.std.proofs.Common.{◌≡◌, ◌++◌, take}
use Rattle.std.specs.List.{flat_map}
use Rattle.rpki_xml.specs.Spelling.{value_character}
use Rattle.rpki_xml.proofs.writer.put_value.Given as goal

abbrev pub invariant-loop-c : goal.invariant-loop-c
invariant-loop-c l = l.out.items ≡ l.fn.out.items ++ flat_map value_character (take l.c-index l.value)
