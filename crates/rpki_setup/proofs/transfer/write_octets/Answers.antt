use Rattle.std.proofs.lemmas.Result.{err_from_is_err_and}
use Rattle.rpki_xmltext.proofs.Transfers.{written, unwritten}
use Rattle.rpki_setup.specs.Answers.{cause_of}
use Rattle.rpki_setup.proofs.Causes.{caused}
use Rattle.rpki_setup.proofs.transfer.write_octets.Goals as goal

pub returns : goal.returns
returns g c = written cause_of _ _ _ _ _ _ c.in_ok-write_octets.ensures.writes

pub returns-in_err-write_octets : goal.returns-in_err-write_octets
returns-in_err-write_octets g c =
    let p = err_from_is_err_and c.from_residual.result c.from_residual.ensures.1 in
    rw (p.1, p.2) (unwritten cause_of _ _ _ _ _ c.in_err-write_octets.field-0.0 _ (caused c.in_err-write_octets.field-0.0) c.in_err-write_octets.ensures.writes)
