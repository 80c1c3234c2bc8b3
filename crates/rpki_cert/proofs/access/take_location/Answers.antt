use Rattle.rpki_der.proofs.Counting.{takes_err}
use Rattle.rpki_cert.proofs.Captured.{captured_location, uncaptured}
use Rattle.rpki_cert.proofs.access.take_location.Goals as goal

pub returns-in_err-octets : goal.returns-in_err-octets
returns-in_err-octets g c = takes_err _ _ _ _ _ _ _ _ _ c.from_residual.ensures.1 (uncaptured _ _ _ _ _ _ c.in_err-octets.ensures.value)

pub returns : goal.returns
returns g c = captured_location _ _ _ _ _ _ _ c.mode-mode.ensures (rw c.uri_tag.ensures at c.take_whole_primitive.ensures) c.in_ok-octets.ensures.value
