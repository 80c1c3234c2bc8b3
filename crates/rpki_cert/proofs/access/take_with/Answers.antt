use Rattle.rpki_der.proofs.Counting.{takes_err, takes_so, refuses_so, refuses_memory}
use Rattle.rpki_cert.proofs.access.take_with.Goals as goal

pub returns-in_err-description : goal.returns-in_err-description
returns-in_err-description g c = takes_err _ _ _ _ _ _ _ _ _ c.from_residual.ensures.1 (refuses_so _ _ _ _ _ _ _ c.in_err-description.ensures)

pub returns : goal.returns
returns g c = takes_so _ _ _ _ _ _ _ _ _ c.in_ok-description.ensures c.in_ok-found.ensures

pub returns-in_err-found : goal.returns-in_err-found
returns-in_err-found g c = takes_err _ _ _ _ _ _ _ _ _ c.from_residual-in_err-found.ensures.1 (refuses_memory _ _ _ _ _ _ _ c.in_ok-description.ensures _)
