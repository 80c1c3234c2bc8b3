use Rattle.rpki_text.specs.declared.json.JsonError.TheVariants.{Malformed}
use Rattle.rpki_text.proofs.PassedOn.{passed_on}
use Rattle.rpki_updown.proofs.LimitLaws.{limit_is, no_asn, no_ipv4, no_ipv6}
use Rattle.rpki_updown.proofs.limit_json.limit_stated.Goals as goal

pub returns-in_err-asn-clause-malformed : goal.returns-in_err-asn-clause-malformed
returns-in_err-asn-clause-malformed c =
    passed_on c.from_residual.result c.in_err-asn.field-0.0 Malformed c.from_residual.ensures.1 (λ e. no_asn _ _ c.get.ensures (c.in_err-asn.ensures.malformed e))

pub returns-in_err-ipv4-clause-malformed : goal.returns-in_err-ipv4-clause-malformed
returns-in_err-ipv4-clause-malformed c =
    passed_on c.from_residual-in_err-ipv4.result c.in_err-ipv4.field-0.0 Malformed c.from_residual-in_err-ipv4.ensures.1 (λ e. no_ipv4 _ _ _ _ _ c.get.ensures c.get-2.ensures c.get-3.ensures c.in_ok-asn.ensures.value (c.in_err-ipv4.ensures.malformed e))

pub returns-in_err-ipv6-clause-malformed : goal.returns-in_err-ipv6-clause-malformed
returns-in_err-ipv6-clause-malformed c =
    passed_on c.from_residual-in_err-ipv6.result c.in_err-ipv6.field-0.0 Malformed c.from_residual-in_err-ipv6.ensures.1
    (λ e. no_ipv6 _ _ _ _ _ _ _ _ c.get.ensures c.get-2.ensures c.get-3.ensures c.get-4.ensures c.get-5.ensures c.in_ok-asn.ensures.value c.in_ok-ipv4.ensures.value (c.in_err-ipv6.ensures.malformed e))

pub returns-clause-value : goal.returns-clause-value
returns-clause-value c =
    rw c.from_parts.ensures (limit_is _ _ _ _ _ _ _ _ _ c.get.ensures c.get-2.ensures c.get-3.ensures c.get-4.ensures c.get-5.ensures c.in_ok-asn.ensures.value c.in_ok-ipv4.ensures.value c.in_ok-ipv6.ensures.value)
