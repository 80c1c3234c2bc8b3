use Rattle.std.proofs.Common.{sym, ◌∙◌}
use Rattle.rpki_text.proofs.UriLaws.{scheme_told, other_scheme, same_scheme}
use Rattle.rpki_text.proofs.uri.check_scheme.Goals as goal

pub returns-then-not-eq_ignore_ascii_case-clause-fault : goal.returns-then-not-eq_ignore_ascii_case-clause-fault
returns-then-not-eq_ignore_ascii_case-clause-fault c = λ has_parts.
    other_scheme c.args.scheme.now c.args.text.now has_parts c.if-text-gt-MOST_OCTETS.false (sym c.has_uri_octets.ensures ∙ c.if-not-has_uri_octets.false)
    (scheme_told c.args.scheme.now c.args.text.now c.min-end.result _ c.min-end.ensures c.eq_ignore_ascii_case.ensures.test ∙ c.if-not-eq_ignore_ascii_case.true)

pub returns-clause-rest : goal.returns-clause-rest
returns-clause-rest c = λ has_parts.
    same_scheme c.args.scheme.now c.args.text.now c.min-end.result has_parts c.if-text-gt-MOST_OCTETS.false (sym c.has_uri_octets.ensures ∙ c.if-not-has_uri_octets.false)
    (scheme_told c.args.scheme.now c.args.text.now c.min-end.result _ c.min-end.ensures c.eq_ignore_ascii_case.ensures.test ∙ c.if-not-eq_ignore_ascii_case.false)
    c.min-end.ensures
