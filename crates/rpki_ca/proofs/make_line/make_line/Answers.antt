use Rattle.std.proofs.Common.{[], ◌∷◌, ◌++◌, ap, ◌∙◌}
use Rattle.std.proofs.lemmas.Result.{err_from_is_err_and}
use Rattle.rpki_ca.specs.Summary.{made_at, made_message, changes_in, summary}
use Rattle.rpki_ca.proofs.Sending.{not_memory}
use Rattle.rpki_ca.proofs.Making.{created_here, octets_refused, key_refused, receipt_refused, accepted_here, summed}
use Rattle.rpki_ca.proofs.make_line.make_line.Goals as goal

pub returns-in_err-octets-clause-err : goal.returns-in_err-octets-clause-err
returns-in_err-octets-clause-err g c =
    let p = err_from_is_err_and c.from_residual-in_err-octets.result c.from_residual-in_err-octets.ensures.1 in
    rw (p.1, p.2) (λ other. octets_refused g.P.Scheme.checks c.args.seed c.args.count c.in_ok-message.message c.made_at.result _ c.in_err-octets.field-0.0 c.in_ok-message.ensures.message
    c.made_at.ensures c.requires c.in_err-octets.ensures.created (c.in_err-octets.ensures.first_refusal (not_memory c.in_err-octets.field-0.0 other)) other)

pub returns-in_err-issuing-clause-err : goal.returns-in_err-issuing-clause-err
returns-in_err-issuing-clause-err g c =
    let p = err_from_is_err_and c.from_residual-in_err-issuing.result c.from_residual-in_err-issuing.ensures.1 in
    let made = created_here g.P.Scheme.checks c.args.seed c.args.count c.in_ok-message.message c.made_at.result _ c.in_ok-octets.octets c.in_ok-message.ensures.message c.made_at.ensures
    c.in_ok-octets.ensures.created in
    rw (p.1, p.2) (λ other. key_refused g.P.Scheme.checks (made_message c.args.seed c.args.count) made_at c.args.key.now _ _ _ c.in_ok-octets.octets c.in_err-issuing.field-0.0 made
    c.in_ok-octets.ensures.keeps c.in_err-issuing.ensures.key other)

pub returns-in_err-received-clause-err : goal.returns-in_err-received-clause-err
returns-in_err-received-clause-err g c =
    let p = err_from_is_err_and c.from_residual-in_err-received.result c.from_residual-in_err-received.ensures.1 in
    let made = created_here g.P.Scheme.checks c.args.seed c.args.count c.in_ok-message.message c.made_at.result _ c.in_ok-octets.octets c.in_ok-message.ensures.message c.made_at.ensures
    c.in_ok-octets.ensures.created in
    rw (p.1, p.2) (λ other. receipt_refused g.P.Scheme.checks c.args.seed c.args.count c.args.key.now _ _ _ c.in_ok-octets.octets c.as_slice.result.now c.in_ok-issuing.issuing c.made_at-2.result
    c.in_err-received.field-0.0
    made c.in_ok-octets.ensures.keeps c.in_ok-issuing.ensures.key.holds c.as_slice.ensures c.made_at-2.ensures c.in_err-received.ensures other)

pub returns-clause-ok : goal.returns-clause-ok
returns-clause-ok g c =
    let made = created_here g.P.Scheme.checks c.args.seed c.args.count c.in_ok-message.message c.made_at.result _ c.in_ok-octets.octets c.in_ok-message.ensures.message c.made_at.ensures
    c.in_ok-octets.ensures.created in
    let accepted = accepted_here g.P.Scheme.checks c.in_ok-octets.octets c.as_slice.result.now (c.in_ok-issuing.issuing ∷ []) c.made_at-2.result c.in_ok-received.received c.as_slice.ensures
    c.made_at-2.ensures c.in_ok-received.ensures in
    let is = c.in_ok-summary_line.ensures ∙ ap (λ e. summary e c.as_slice-2.result.now ++ 10 ∷ []) c.changes_in.ensures ∙ ap (λ o. summary (changes_in c.in_ok-received.received) o ++ 10 ∷ [])
    c.as_slice-2.ensures in
    summed g.P.Scheme.checks g.P.Scheme.fits c.args.seed c.args.count c.args.key.now _ _ _ c.in_ok-octets.octets c.in_ok-issuing.issuing c.in_ok-received.received _ made
    c.in_ok-octets.ensures.keeps c.in_ok-issuing.ensures.key accepted is
