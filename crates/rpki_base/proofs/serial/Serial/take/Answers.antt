use Rattle.std.proofs.Common.{◌∙◌, rules}
use Rattle.rpki_base.proofs.Serials.{whole_some, whole_none}
use Rattle.rpki_base.proofs.serial.Serial.take.Goals as goal

pub returns-in_err-octets : goal.returns-in_err-octets
returns-in_err-octets c = let n = whole_none c.args.mode c.args.octets.now c.in_err-octets.ensures in search rules

pub returns : goal.returns
returns c = c.shortest_number.ensures ∙ whole_some c.args.mode c.args.octets.now c.in_ok-octets.octets.now c.in_ok-octets.ensures
