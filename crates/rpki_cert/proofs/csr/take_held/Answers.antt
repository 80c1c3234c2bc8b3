use Rattle.std.proofs.Common.{ap, ◌∙◌}
use Rattle.rpki_der.specs.Held.{up_to}
use Rattle.rpki_der.proofs.Counting.{takes_err}
use Rattle.rpki_der.proofs.Holding.{takes_with_octets, refuses_with_octets}
use Rattle.rpki_cert.proofs.csr.take_held.Goals as goal

pub returns-in_err-content : goal.returns-in_err-content
returns-in_err-content g c = takes_err _ _ _ _ _ _ _ _ _ c.from_residual.ensures.1 (refuses_with_octets _ _ _ _ _ _ c.in_err-content.ensures)

pub returns : goal.returns
returns g c = takes_with_octets _ _ _ _ _ _ _ _ (c.since-octets.ensures ∙ ap (λ s. up_to s c.take_from_counted.new.cursor.here) c.here-start.ensures) c.in_ok-content.ensures
