use Rattle.std.proofs.Common.{◌≡◌, ◌++◌, drop, map}
use Rattle.rpki_ca.specs.Lines.{digit_of}
use Rattle.rpki_external.proofs.output.digits_line.Given as goal

abbrev pub invariant-loop-value : goal.invariant-loop-value
invariant-loop-value l = l.line.items ++ map digit_of (drop l.value-index l.values) ≡ map digit_of l.values
