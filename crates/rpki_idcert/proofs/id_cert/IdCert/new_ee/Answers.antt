use Rattle.rpki_signer.proofs.States.{handed_on}
use Rattle.rpki_idcert.proofs.Issuing.{behind_draw, draw_refused, end_entity_result, end_entities_again}
use Rattle.rpki_idcert.proofs.id_cert.IdCert.new_ee.Goals as goal

pub returns-in_err-serial-clause-first_refusal : goal.returns-in_err-serial-clause-first_refusal
returns-in_err-serial-clause-first_refusal g c = handed_on _ _ _ _ c.from_residual.ensures (draw_refused _ _ _ _ c.in_err-serial.field-0.0 c.in_err-serial.ensures.serial c.in_err-serial.ensures.no_memory)

pub returns-clause-made : goal.returns-clause-made
returns-clause-made g c = end_entity_result _ _ _ _ _ _ _ c.in_ok-serial.serial _ c.in_ok-serial.ensures.serial c.issue_to.ensures.issued

pub returns-clause-first_refusal : goal.returns-clause-first_refusal
returns-clause-first_refusal g c = behind_draw _ _ _ _ _ c.in_ok-serial.serial _ c.in_ok-serial.ensures.serial c.issue_to.ensures.first_refusal

pub returns-clause-again : goal.returns-clause-again
returns-clause-again g c = end_entities_again _ _ c.in_ok-serial.serial _ _ _ _ _ _ _ c.are_moments.ensures c.in_ok-serial.ensures.serial c.issue_to.ensures.issued
