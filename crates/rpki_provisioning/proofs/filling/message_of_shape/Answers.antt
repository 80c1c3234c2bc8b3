use Rattle.std.proofs.lemmas.Result.{err_from_is_err_and}
use Rattle.rpki_provisioning.specs.declared.payload.Payload.{Payload}
use Rattle.rpki_provisioning.specs.Filling.{payload_size, fault_in}
use Rattle.rpki_provisioning.specs.Shape.{MessageFields, payload_of_shape, message_of_shape}
use Rattle.rpki_provisioning.proofs.Fills.{one, not_one}
use Rattle.rpki_provisioning.proofs.filling.message_of_shape.Goals as goal

pub returns-in_err-payload : goal.returns-in_err-payload
unfolding message_of_shape
returns-in_err-payload g c =
    let p = err_from_is_err_and c.from_residual.result c.from_residual.ensures.1 in
    let build : Payload → MessageFields = λ p. record { sender = c.shape.inside.sender; recipient = c.shape.inside.recipient; payload = p } in
    rw (p.1, p.2) (rw (← c.shape.view_is) (not_one (fault_in c.shape.inside.payload) c.in_err-payload.field-0.0 build (payload_of_shape c.shape.inside.payload) (payload_size c.shape.inside.payload) c.args.steps.now c.payload_of.new.steps c.in_err-payload.ensures))

pub returns : goal.returns
unfolding message_of_shape
returns g c =
    let build : Payload → MessageFields = λ p. record { sender = c.shape.inside.sender; recipient = c.shape.inside.recipient; payload = p } in
    rw c.of.ensures (rw (← c.shape.view_is) (one build (payload_of_shape c.shape.inside.payload) (payload_size c.shape.inside.payload) c.args.steps.now c.payload_of.new.steps c.in_ok-payload.payload c.in_ok-payload.ensures))
