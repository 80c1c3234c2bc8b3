use Rattle.std.proofs.Common.{sym}
use Rattle.rpki_der.proofs.Joining.{octets_in_ber, octets_in_der}
use Rattle.rpki_der.proofs.octets.take_octets_counted.Goals as goal

pub returns-in-Ber : goal.returns-in-Ber
returns-in-Ber g c = octets_in_ber _ _ _ c.args.cursor.now _ _ _ _ (sym c.in-Ber.ensures) c.take_joined_counted.ensures

pub returns-in-Der : goal.returns-in-Der
returns-in-Der g c = octets_in_der _ _ _ c.args.cursor.now _ _ _ _ (sym c.in-Der.ensures) c.take_copied_counted.ensures
