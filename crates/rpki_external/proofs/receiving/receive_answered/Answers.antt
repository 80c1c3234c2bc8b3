use Rattle.std.proofs.Common.{◌∙◌, ap}
use Rattle.std.proofs.lemmas.Result.{err_from_is_err_and}
use Rattle.rpki_external.proofs.Answered.{decode_refused, received_so, unmatched_so}
use Rattle.rpki_external.proofs.receiving.receive_answered.Goals as goal

pub returns-in_err-signed : goal.returns-in_err-signed
returns-in_err-signed c =
    let p = err_from_is_err_and c.from_residual.result c.from_residual.ensures.1 in
    rw (p.1, p.2) (decode_refused c.args.kind c.args.octets.now c.args.keys.now c.args.when c.args.answers.now c.args.last c.in_err-signed.field-0.0 c.in_err-signed.ensures)

pub returns-in_err-list : goal.returns-in_err-list
returns-in_err-list c =
    let p = err_from_is_err_and c.from_residual-in_err-list.result c.from_residual-in_err-list.ensures.1 in
    rw (p.1, p.2) (unmatched_so c.args.kind c.args.octets.now c.args.keys.now c.args.when c.args.answers.now c.args.last c.in_ok-questions.questions
    (record { signed = c.in_ok-signed.signed; begins = c.in_ok-signed.ensures; are = c.in_ok-questions.ensures }) c.in_err-list.field-0.0 c.in_err-list.ensures.err)

pub returns : goal.returns
returns c =
    rw (c.guarded.ensures, c.receipt_of-receipt.ensures) (received_so c.args.kind c.args.octets.now c.args.keys.now c.args.when c.args.answers.now c.args.last c.in_ok-questions.questions
    (record { signed = c.in_ok-signed.signed; begins = c.in_ok-signed.ensures; are = c.in_ok-questions.ensures }) c.in_ok-list.ensures.count c.receive_given.result (rw (c.deref.ensures.value, c.in_ok-list.ensures.list, c.values.ensures) at c.receive_given.ensures))
