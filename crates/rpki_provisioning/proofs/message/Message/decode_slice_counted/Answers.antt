use Rattle.std.proofs.Common.{length}
use Rattle.std.proofs.lemmas.Result.{err_from_is_err_and}
use Rattle.rpki_provisioning.specs.Filling.{fault_in, payload_size}
use Rattle.rpki_provisioning.specs.Shape.{message_of_shape}
use Rattle.rpki_provisioning.proofs.Readings.{no_document, no_shape, message_answer, at_most, no_fewer}
use Rattle.rpki_provisioning.proofs.Tallies.{shape_tally}
use Rattle.rpki_provisioning.proofs.message.Message.decode_slice_counted.Goals as goal

pub returns-in_err-document-clause-message : goal.returns-in_err-document-clause-message
returns-in_err-document-clause-message g c =
    let p = err_from_is_err_and c.from_residual.result c.from_residual.ensures.1 in
    rw (p.1, p.2) (no_document c.in_err-document.field-0.0 c.args.octets.now c.in_err-document.ensures)

pub returns-in_err-shape-clause-message : goal.returns-in_err-shape-clause-message
returns-in_err-shape-clause-message g c =
    let p = err_from_is_err_and c.from_residual-in_err-shape.result c.from_residual-in_err-shape.ensures.1 in
    rw (p.1, p.2) (no_shape c.in_err-shape.field-0.0 c.args.octets.now c.in_ok-document.document c.in_ok-document.ensures (rw c.as_ref.ensures at c.in_err-shape.ensures))

pub returns-clause-message : goal.returns-clause-message
returns-clause-message g c =
    message_answer c.args.octets.now c.in_ok-document.document c.in_ok-shape.shape (payload_size c.in_ok-shape.shape.payload) c.args.steps.now c.message_of_shape.new.steps c.message_of_shape.result
    c.in_ok-document.ensures (rw c.as_ref.ensures at c.in_ok-shape.ensures) c.message_of_shape.ensures

pub returns-clause-most : goal.returns-clause-most
returns-clause-most g c =
    at_most (fault_in c.in_ok-shape.shape.payload) (message_of_shape c.in_ok-shape.shape) (λ m. m) (payload_size c.in_ok-shape.shape.payload) (length c.args.octets.now) c.args.steps.now c.message_of_shape.new.steps c.message_of_shape.result
    (shape_tally c.args.octets.now c.in_ok-document.document c.in_ok-shape.shape c.in_ok-document.ensures (rw c.as_ref.ensures at c.in_ok-shape.ensures)) c.message_of_shape.ensures

pub returns-clause-least : goal.returns-clause-least
returns-clause-least g c = no_fewer c.in_ok-shape.shape (payload_size c.in_ok-shape.shape.payload) c.args.steps.now c.message_of_shape.new.steps c.message_of_shape.result c.message_of_shape.ensures
