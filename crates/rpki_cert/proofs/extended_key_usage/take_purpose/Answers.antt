use Rattle.rpki_der.proofs.Counting.{takes_err}
use Rattle.rpki_cert.proofs.Captured.{captured_result, uncaptured}
use Rattle.rpki_cert.proofs.extended_key_usage.take_purpose.Goals as goal

pub returns-in_err-octets : goal.returns-in_err-octets
returns-in_err-octets g c = takes_err _ _ _ _ _ _ _ _ _ c.from_residual.ensures.1 (uncaptured _ _ _ _ _ _ c.in_err-octets.ensures.value)

pub returns : goal.returns
returns g c = captured_result _ _ _ _ _ _ _ _ _ c.mode-mode.ensures c.in_ok-octets.ensures.value c.take.ensures
