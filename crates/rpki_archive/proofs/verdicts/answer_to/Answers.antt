use Rattle.std.proofs.Common.{◌≢◌, Err, Ok}
use Rattle.std.proofs.lemmas.Result.{IfOk-weaker}
use Rattle.rpki_ca.specs.Answer.{IsReceiveAnswer}
use Rattle.rpki_ca.specs.declared.refusals.Refusal.TheVariants.{OutOfMemory}
use Rattle.rpki_ca.proofs.Answering.{if_err}
use Rattle.rpki_archive.specs.Verdict.{IsLineAnswer}
use Rattle.rpki_archive.proofs.Judging.{answered, if_err_same, refused, same_receipt}
use Rattle.rpki_archive.proofs.verdicts.answer_to.Goals as goal

pub returns-in_err-asked-clause-err : goal.returns-in_err-asked-clause-err
returns-in_err-asked-clause-err g c =
    if_err_same c.from_residual.result c.in_err-asked.field-0.0 (λ e. e ≢ OutOfMemory → IsLineAnswer g.P.Scheme.checks c.args.line.now (Err e)) c.from_residual.ensures.1
    (λ other. refused g.P.Scheme.checks c.args.line.now c.in_err-asked.field-0.0 c.requires c.in_err-asked.ensures.err other)

pub returns-in-Receive-clause-ok : goal.returns-in-Receive-clause-ok
returns-in-Receive-clause-ok g c =
    IfOk-weaker c.text_of.result (λ text. IsReceiveAnswer g.P.Scheme.checks c.in-Receive.kind c.deref.result.now c.as_slice.result.now c.in-Receive.when (Ok text))
    (λ text. IsLineAnswer g.P.Scheme.checks c.args.line.now (Ok text))
    (λ text said. answered g.P.Scheme.checks c.args.line.now c.in_ok-asked.asked.octets.items c.in_ok-asked.asked.command c.in-Receive.kind c.in-Receive.when c.in-Receive.keys (Ok text) c.requires
    c.in_ok-asked.ensures.ok c.in-Receive.is
    (same_receipt g.P.Scheme.checks c.in-Receive.kind c.deref.result.now c.in_ok-asked.asked.octets.items c.as_slice.result.now c.in-Receive.keys c.in-Receive.when (Ok text) c.deref.ensures.value c.as_slice.ensures said))
    c.text_of.ensures.ok

pub returns-in-Receive-clause-err : goal.returns-in-Receive-clause-err
returns-in-Receive-clause-err g c =
    if_err c.text_of.result (λ e. e ≢ OutOfMemory → IsReceiveAnswer g.P.Scheme.checks c.in-Receive.kind c.deref.result.now c.as_slice.result.now c.in-Receive.when (Err e))
    (λ e. e ≢ OutOfMemory → IsLineAnswer g.P.Scheme.checks c.args.line.now (Err e))
    (λ e said other. answered g.P.Scheme.checks c.args.line.now c.in_ok-asked.asked.octets.items c.in_ok-asked.asked.command c.in-Receive.kind c.in-Receive.when c.in-Receive.keys (Err e) c.requires
    c.in_ok-asked.ensures.ok c.in-Receive.is
    (same_receipt g.P.Scheme.checks c.in-Receive.kind c.deref.result.now c.in_ok-asked.asked.octets.items c.as_slice.result.now c.in-Receive.keys c.in-Receive.when (Err e) c.deref.ensures.value c.as_slice.ensures (said other)))
    c.text_of.ensures.err
