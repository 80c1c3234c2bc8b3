use Rattle.std.proofs.Common.{inl}
use Rattle.rpki_signer.proofs.States.{handed_on, key_refused, stops_for_memory, stops_so}
use Rattle.rpki_idcert.proofs.Issuing.{issued_result}
use Rattle.rpki_idcert.proofs.making.issue_to.Goals as goal

pub returns-in_err-issuing_key-clause-issued : goal.returns-in_err-issuing_key-clause-issued
returns-in_err-issuing_key-clause-issued g c = handed_on _ _ _ _ c.from_residual.ensures (key_refused _ _ _ c.in_err-issuing_key.field-0.0 c.in_err-issuing_key.ensures.key)

pub returns-in_err-issuing_key-clause-first_refusal : goal.returns-in_err-issuing_key-clause-first_refusal
returns-in_err-issuing_key-clause-first_refusal g c = handed_on _ _ _ _ c.from_residual.ensures (inl c.in_err-issuing_key.ensures.key)

pub returns-in_err-tbs-clause-first_refusal : goal.returns-in_err-tbs-clause-first_refusal
returns-in_err-tbs-clause-first_refusal g c = handed_on _ _ _ _ c.from_residual-in_err-tbs.ensures (stops_for_memory _ _ _ _ c.in_ok-issuing_key.issuing_key c.in_ok-issuing_key.ensures.key)

pub returns-clause-issued : goal.returns-clause-issued
returns-clause-issued g c = issued_result _ _ _ _ _ _ _ _ c.in_ok-issuing_key.issuing_key c.in_ok-tbs.tbs _ c.key_within_limit.ensures.distinct c.in_ok-issuing_key.ensures.key c.in_ok-tbs.ensures c.issue.ensures.signed

pub returns-clause-first_refusal : goal.returns-clause-first_refusal
returns-clause-first_refusal g c = stops_so _ _ _ _ _ c.in_ok-issuing_key.issuing_key _ _ c.in_ok-issuing_key.ensures.key c.issue.ensures.signed
