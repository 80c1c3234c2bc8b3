use Rattle.std.proofs.lemmas.Result.{err_from_is_err_and}
use Rattle.rpki_publication.proofs.Writable as publication
use Rattle.rpki_provisioning.proofs.Writables as provisioning
use Rattle.rpki_ca.proofs.Reasons.{publication_refused, provisioning_refused}
use Rattle.rpki_ca.proofs.create_line.message_in.Goals as goal

pub returns-in_err-decode_slice-in-Publication-clause-err : goal.returns-in_err-decode_slice-in-Publication-clause-err
returns-in_err-decode_slice-in-Publication-clause-err c =
    let p = err_from_is_err_and c.from_residual.result c.from_residual.ensures.1 in
    rw (p.1, p.2) (rw c.in-Publication.is (publication_refused c.args.input.now c.in_err-decode_slice-in-Publication.field-0.0 c.in_err-decode_slice-in-Publication.ensures))

pub returns-in_err-decode_slice-in-Provisioning-clause-err : goal.returns-in_err-decode_slice-in-Provisioning-clause-err
returns-in_err-decode_slice-in-Provisioning-clause-err c =
    let p = err_from_is_err_and c.from_residual-in_err-decode_slice-in-Provisioning.result c.from_residual-in_err-decode_slice-in-Provisioning.ensures.1 in
    rw (p.1, p.2) (rw c.in-Provisioning.is (provisioning_refused c.args.input.now c.in_err-decode_slice-in-Provisioning.field-0.0 c.in_err-decode_slice-in-Provisioning.ensures))

pub returns-in_ok-decode_slice-in-Publication-clause-writable : goal.returns-in_ok-decode_slice-in-Publication-clause-writable
returns-in_ok-decode_slice-in-Publication-clause-writable c = publication.message_writable c.args.input.now c.in_ok-decode_slice-in-Publication.field-0 c.in_ok-decode_slice-in-Publication.ensures

pub returns-in_ok-decode_slice-in-Provisioning-clause-writable : goal.returns-in_ok-decode_slice-in-Provisioning-clause-writable
returns-in_ok-decode_slice-in-Provisioning-clause-writable c = provisioning.message_writable c.args.input.now c.in_ok-decode_slice-in-Provisioning.field-0 c.in_ok-decode_slice-in-Provisioning.ensures
