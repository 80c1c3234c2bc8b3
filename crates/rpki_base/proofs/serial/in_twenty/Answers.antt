use Rattle.rpki_base.proofs.Serials.{in_twenty_zeros}
use Rattle.rpki_base.proofs.serial.in_twenty.Goals as goal

pub returns : goal.returns
returns c = in_twenty_zeros c.args.octets.now _ c.requires c.copy_from_slice.ensures.after
