use Rattle.std.proofs.Common.{sym, subst}
use Rattle.rpki_der.specs.Ticks.{CountedOne}
use Rattle.rpki_der.proofs.Counting.{takes_err, refuses_memory}
use Rattle.rpki_sigmsg.proofs.octets.take_shared_octets.Goals as goal

pub returns-in_err-octets : goal.returns-in_err-octets
returns-in_err-octets g c = takes_err _ _ _ _ _ _ _ _ _ c.from_residual.ensures.1 c.in_err-octets.ensures

pub returns-in_err-from_vec : goal.returns-in_err-from_vec
returns-in_err-from_vec g c = takes_err _ _ _ _ _ _ _ _ _ c.from_residual-in_err-from_vec.ensures.1 (refuses_memory _ _ _ _ _ _ _ c.in_ok-octets.ensures _)

pub returns : goal.returns
returns g c = subst (CountedOne _ _ _ _ _ _) (sym c.in_ok-from_vec.ensures.ok) c.in_ok-octets.ensures
