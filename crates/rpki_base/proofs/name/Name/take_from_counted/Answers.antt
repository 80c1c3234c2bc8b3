use Rattle.rpki_base.specs.Name.{name}
use Rattle.rpki_der.proofs.Counting.{takes_err, refuses_memory}
use Rattle.rpki_der.proofs.Holding.{takes_octets_of, refuses_octets_of}
use Rattle.rpki_base.proofs.Eachs.{cut_between}
use Rattle.rpki_base.proofs.name.Name.take_from_counted.Goals as goal

pub returns-in_err-pass_name : goal.returns-in_err-pass_name
unfolding name
returns-in_err-pass_name g c = takes_err _ _ _ _ _ _ _ _ _ c.from_residual.ensures.1 (refuses_octets_of _ _ _ _ _ _ c.in_err-pass_name.ensures)

pub returns-in_err-octets : goal.returns-in_err-octets
returns-in_err-octets g c = takes_err _ _ _ _ _ _ _ _ _ c.from_residual-in_err-octets.ensures.1 (refuses_memory _ _ _ _ _ _ _ c.in_ok-pass_name.ensures _)

pub returns : goal.returns
unfolding name
returns g c = takes_octets_of _ _ _ _ _ _ _ _ (cut_between _ _ _ _ _ c.in_ok-octets.ensures c.since.ensures c.here-start.ensures) c.in_ok-pass_name.ensures
