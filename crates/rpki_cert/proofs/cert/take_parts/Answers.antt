use Rattle.std.proofs.Common.{ap, ◌∙◌}
use Rattle.rpki_der.specs.Held.{up_to}
use Rattle.rpki_der.proofs.Counting.{takes_err, refuses_memory}
use Rattle.rpki_cert.proofs.Captured.{cert_taken, cert_refused}
use Rattle.rpki_cert.proofs.cert.take_parts.Goals as goal

pub returns-in_err-key : goal.returns-in_err-key
returns-in_err-key g c = takes_err _ _ _ _ _ _ _ _ _ c.from_residual.ensures.1 (cert_refused _ _ _ _ _ c.in_err-key.ensures)

pub returns-in_err-slice : goal.returns-in_err-slice
returns-in_err-slice g c = takes_err _ _ _ _ _ _ _ _ _ c.from_residual-in_err-slice.ensures.1 (refuses_memory _ _ _ _ _ _ _ c.in_ok-key.ensures _)

pub returns : goal.returns
returns g c = rw c.in_ok-slice.ensures (cert_taken _ _ _ _ _ _ _ (c.since-octets.ensures ∙ ap (λ s. up_to s c.take_signed_key.new.cursor.here) c.here-start.ensures) c.in_ok-key.ensures)
