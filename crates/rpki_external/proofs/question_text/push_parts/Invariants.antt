use Rattle.std.proofs.Common.{◌≡◌, ◌++◌, drop, map}
use Rattle.rpki_ca.specs.Lines.{answer_lines}
use Rattle.rpki_external.specs.Spelling.{part_line}
use Rattle.rpki_external.proofs.question_text.push_parts.Given as goal

abbrev pub invariant-loop-part : goal.invariant-loop-part
invariant-loop-part l =
    l.text.items ++ answer_lines (map part_line (drop l.part-index l.parts)) ≡ l.initial.text.items ++ answer_lines (map part_line l.parts)
