use Rattle.std.proofs.Common.{sym, ap}
use Rattle.rpki_provisioning.specs.Shape.{payload_shape}
use Rattle.rpki_provisioning.proofs.Alike.{always, never, no_list}
use Rattle.rpki_provisioning.proofs.payload.is_list.Goals as goal

pub returns-in-List : goal.returns-in-List
unfolding payload_shape
returns-in-List c = always (sym (ap payload_shape c.in-List.is))

pub returns-in_default : goal.returns-in_default
returns-in_default c = never (no_list c.args.other.now c.in_default.not-List)
