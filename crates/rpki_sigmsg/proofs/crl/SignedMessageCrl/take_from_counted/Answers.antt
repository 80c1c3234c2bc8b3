use Rattle.std.proofs.Common.{refl, ap}
use Rattle.rpki_der.specs.Position.{Position}
use Rattle.rpki_der.proofs.Counting.{takes_err, refuses_so, refuses_wider, any_slice}
use Rattle.rpki_der.proofs.Insides.{gives_in_der, takes_so_given}
use Rattle.rpki_der.proofs.Modes.{all_in}
use Rattle.rpki_sigmsg.specs.Crl.{revocation_list}
use Rattle.rpki_sigmsg.proofs.crl.SignedMessageCrl.take_from_counted.Goals as goal

pub returns-in_err-octets : goal.returns-in_err-octets
returns-in_err-octets g c = takes_err _ _ _ _ _ _ _ _ _ c.from_residual.ensures.1 (refuses_so _ _ _ _ _ _ _ (refuses_wider _ _ _ _ _ _ _ refl c.in_err-octets.ensures.value))

pub returns : goal.returns
returns g c = takes_so_given 1 2 _ _ _ _ _ _ _ _ _ _ _ c.in_ok-octets.ensures.value (any_slice _ _ _ _ _ _ c.in_ok-octets.ensures.value)
    (gives_in_der _ _ _ _ c.new-inner.result _ _ _ _ c.new-inner.ensures (all_in _ revocation_list _ _ _ _ _ _ _ (ap (λ (p : Position). p.mode) c.new-inner.ensures) c.take_next_counted.ensures))
