use Rattle.std.proofs.Common.{◌≡◌, map, string_bytes, take}
use Rattle.rpki_ca.specs.Lines.{digit_of}
use Rattle.rpki_archive.proofs.explanations.digits_line.Given as goal

abbrev pub invariant-loop-holds : goal.invariant-loop-holds
invariant-loop-holds l = string_bytes l.text ≡ map digit_of (take l.holds-index l.checks)
