use Rattle.std.proofs.Common.{sym}
use Rattle.rpki_cert.specs.Extensions.{authority}
use Rattle.rpki_der.proofs.Insides.{gives_counted_err}
use Rattle.rpki_der.proofs.Giving.{refuses_second, given_once, lacks_once, in_der_ok, in_der_err}
use Rattle.rpki_cert.proofs.extensions.add_authority.Goals as goal

pub returns-then-is_some : goal.returns-then-is_some
returns-then-is_some g c = refuses_second _ _ _ _ _ (sym c.if-is_some.ensures)

pub returns-in_err-ca : goal.returns-in_err-ca
returns-in_err-ca g c = gives_counted_err _ _ _ _ _ _ _ _ c.from_residual.ensures.1 (lacks_once _ _ _ _ _ _ _ (sym c.if-is_some.ensures) (in_der_err authority _ c.new-cursor.result _ _ _ c.new-cursor.ensures c.in_err-ca.ensures))

pub returns : goal.returns
returns g c = given_once _ _ _ _ _ _ _ (sym c.if-is_some.ensures) (in_der_ok authority _ c.new-cursor.result _ _ _ _ c.new-cursor.ensures c.in_ok-ca.ensures)
