use Rattle.std.proofs.Common.{sym}
use Rattle.rpki_sigmsg.specs.CrlExtensions.{issuer_key}
use Rattle.rpki_der.proofs.Insides.{gives_counted_err}
use Rattle.rpki_der.proofs.Giving.{refuses_second, given_once, lacks_once, in_der_ok, in_der_err}
use Rattle.rpki_sigmsg.proofs.crl_extensions.add_authority.Goals as goal

pub returns-then-is_some : goal.returns-then-is_some
returns-then-is_some g c = refuses_second _ _ _ _ _ (sym c.if-is_some.ensures)

pub returns-in_err-identifier : goal.returns-in_err-identifier
returns-in_err-identifier g c = gives_counted_err _ _ _ _ _ _ _ _ c.from_residual.ensures.1 (lacks_once _ _ _ _ _ _ _ (sym c.if-is_some.ensures) (in_der_err issuer_key _ c.new-cursor.result _ _ _ c.new-cursor.ensures c.in_err-identifier.ensures))

pub returns : goal.returns
returns g c = given_once _ _ _ _ _ _ _ (sym c.if-is_some.ensures) (in_der_ok issuer_key _ c.new-cursor.result _ _ _ _ c.new-cursor.ensures c.in_ok-identifier.ensures)
