use Rattle.std.proofs.Common.{◌≡◌, ◌++◌, drop}
use Rattle.rpki_sigmsg.specs.Spelling.{spelled_crls}
use Rattle.rpki_sigmsg.proofs.spelling.write_crls.Given as goal

abbrev pub invariant-loop-crl : goal.invariant-loop-crl
invariant-loop-crl l = l.out ++ spelled_crls (drop l.crl-index l.fn.crls) ≡ l.fn.out ++ spelled_crls l.fn.crls
