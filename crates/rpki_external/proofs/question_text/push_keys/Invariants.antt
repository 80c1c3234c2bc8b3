use Rattle.std.proofs.Common.{◌≡◌, ◌++◌, drop, map}
use Rattle.rpki_ca.specs.Lines.{answer_lines}
use Rattle.rpki_external.specs.Spelling.{key_line}
use Rattle.rpki_external.proofs.question_text.push_keys.Given as goal

abbrev pub invariant-loop-key : goal.invariant-loop-key
invariant-loop-key l =
    l.text.items ++ answer_lines (map key_line (drop l.key-index l.keys)) ≡ l.initial.text.items ++ answer_lines (map key_line l.keys)
