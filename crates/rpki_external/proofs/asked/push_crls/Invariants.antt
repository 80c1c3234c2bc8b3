use Rattle.std.proofs.Common.{◌≡◌, ◌++◌, drop, map}
use Rattle.rpki_external.specs.Question.{crl_part}
use Rattle.rpki_external.proofs.asked.push_crls.Given as goal

abbrev pub invariant-loop-crl : goal.invariant-loop-crl
invariant-loop-crl l = l.parts.items ++ map crl_part (drop l.crl-index l.crls) ≡ l.initial.parts.items ++ map crl_part l.crls
