use Rattle.std.proofs.Common.{sym, ◌∙◌}
use Rattle.rpki_der.proofs.Counting.{takes_err, takes_so, refuses_so, refuses_convert}
use Rattle.rpki_sigmsg.proofs.algorithm.take_signature_algorithm.Goals as goal

pub returns-in_err-octets : goal.returns-in_err-octets
returns-in_err-octets g c = takes_err _ _ _ _ _ _ _ _ _ c.from_residual.ensures.1 (refuses_so _ _ _ _ _ _ _ c.in_err-octets.ensures.value)

pub returns-in-Some : goal.returns-in-Some
returns-in-Some g c = takes_so _ _ _ _ _ _ _ _ _ c.in_ok-octets.ensures.value (rw (← c.mode-mode.ensures) (sym c.cms_take_from.ensures ∙ c.in-Some.is))

pub returns-in-None : goal.returns-in-None
returns-in-None g c = refuses_convert _ _ _ _ _ _ _ _ c.in_ok-octets.ensures.value (rw (← c.mode-mode.ensures) (sym c.cms_take_from.ensures ∙ c.in-None.is))
