use Rattle.std.proofs.Common.{◌≡◌, ◌++◌, drop, map}
use Rattle.rpki_ca.specs.Lines.{digit_of}
use Rattle.rpki_external.proofs.word_parts.answers_of.Given as goal

abbrev pub invariant-loop-digit : goal.invariant-loop-digit
invariant-loop-digit l = map digit_of l.answers.items ++ drop l.digit-index l.word ≡ l.word
