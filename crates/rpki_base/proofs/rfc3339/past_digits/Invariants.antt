use Rattle.std.proofs.Common.{◌≡◌, drop}
use Rattle.rpki_base.specs.Rfc3339.{past_digits}
use Rattle.rpki_base.proofs.rfc3339.past_digits.Given as goal

-- only digits were passed
abbrev pub invariant-loop-i : goal.invariant-loop-i
invariant-loop-i l = past_digits (drop l.i l.text) ≡ past_digits l.text
