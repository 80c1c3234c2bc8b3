use Rattle.std.proofs.Common.{drop}
use Rattle.rpki_sigmsg.specs.CrlChecks.{AreCrlsSigned}
use Rattle.rpki_sigmsg.proofs.crl_validation.are_signed.Given as goal

abbrev pub invariant-loop-crl : goal.invariant-loop-crl
invariant-loop-crl g l = (AreCrlsSigned g.P.Scheme.checks (drop l.crl-index l.crls) l.key → AreCrlsSigned g.P.Scheme.checks l.crls l.key)
    × (AreCrlsSigned g.P.Scheme.checks l.crls l.key → AreCrlsSigned g.P.Scheme.checks (drop l.crl-index l.crls) l.key)
