use Rattle.std.proofs.Common.{inl, subst}
use Rattle.rpki_signer.proofs.States.{handed_on, key_refused, stops_for_memory, stops_so}
use Rattle.rpki_idcert.specs.Making.{IsMadeFor}
use Rattle.rpki_idcert.proofs.Issuing.{anchor_result, anchors_believed, anchors_again}
use Rattle.rpki_idcert.proofs.id_cert.IdCert.new_ta.Goals as goal

pub returns-clause-made : goal.returns-clause-made
returns-clause-made g c = anchor_result _ _ _ _ _ _ c.in_ok-key.key c.in_ok-tbs.tbs _ c.key_within_limit.ensures.distinct c.in_ok-key.ensures.key (subst (λ o. IsMadeFor c.in_ok-key.key c.in_ok-key.key o c.args.validity c.in_ok-tbs.tbs) c.from.ensures c.in_ok-tbs.ensures) c.issue.ensures.signed

pub returns-clause-believed : goal.returns-clause-believed
returns-clause-believed g c = anchors_believed _ _ _ _ _ _ _ (returns-clause-made g c)

pub returns-clause-again : goal.returns-clause-again
returns-clause-again g c = anchors_again _ _ _ _ _ _ _ c.are_moments.ensures (returns-clause-made g c)

pub returns-in_err-key-clause-made : goal.returns-in_err-key-clause-made
returns-in_err-key-clause-made g c = handed_on _ _ _ _ c.from_residual.ensures (key_refused _ _ _ c.in_err-key.field-0.0 c.in_err-key.ensures.key)

pub returns-in_err-key-clause-first_refusal : goal.returns-in_err-key-clause-first_refusal
returns-in_err-key-clause-first_refusal g c = handed_on _ _ _ _ c.from_residual.ensures (inl c.in_err-key.ensures.key)

pub returns-in_err-tbs-clause-first_refusal : goal.returns-in_err-tbs-clause-first_refusal
returns-in_err-tbs-clause-first_refusal g c = handed_on _ _ _ _ c.from_residual-in_err-tbs.ensures (stops_for_memory _ _ _ _ c.in_ok-key.key c.in_ok-key.ensures.key)

pub returns-clause-first_refusal : goal.returns-clause-first_refusal
returns-clause-first_refusal g c = stops_so _ _ _ _ _ c.in_ok-key.key _ _ c.in_ok-key.ensures.key c.issue.ensures.signed
