use Rattle.std.proofs.Common.{Err, refl, ◌∙◌, ap}
use Rattle.std.proofs.lemmas.Result.{err_from_is_err_and}
use Rattle.rpki_ca.proofs.Accepting.{refused, failed, text_accepted}
use Rattle.rpki_publication.specs.Message as publication
use Rattle.rpki_ca.specs.declared.receiving.Kind.TheVariants as kinds
use Rattle.rpki_ca.specs.declared.receiving.Received.TheVariants as received
use Rattle.rpki_ca.proofs.receive_line.publication_text.Goals as goal

pub returns-in_err-cms-clause-err : goal.returns-in_err-cms-clause-err
returns-in_err-cms-clause-err g c =
    let p = err_from_is_err_and c.from_residual.result c.from_residual.ensures.1 in
    rw (p.1, p.2) (refused g.P.Scheme.checks c.args.octets.now c.args.keys.now c.args.when c.in_err-cms.field-0.0 c.in_err-cms.ensures)

pub returns-in_err-validate_any_at-clause-err : goal.returns-in_err-validate_any_at-clause-err
returns-in_err-validate_any_at-clause-err g c =
    let p = err_from_is_err_and c.from_residual-in_err-validate_any_at.result c.from_residual-in_err-validate_any_at.ensures.1 in
    rw (p.1, p.2) (failed g.P.Scheme.checks kinds.Publication c.args.octets.now c.args.keys.now c.args.when c.in_ok-cms.cms.signed (received.Publication c.in_ok-cms.cms.message) c.signed_message.result.now c.in_err-validate_any_at.field-0.0 (Err c.in_err-validate_any_at.field-0.0) refl c.in_ok-cms.ensures.begins c.in_ok-cms.ensures.reads c.signed_message.ensures
    (record { believed = c.in_err-validate_any_at.ensures.believed; none = c.in_err-validate_any_at.ensures.none; first_failing = c.in_err-validate_any_at.ensures.first_failing }))

pub returns-clause-ok : goal.returns-clause-ok
returns-clause-ok g c = text_accepted g.P.Scheme.checks kinds.Publication c.args.octets.now c.args.keys.now c.args.when c.in_ok-cms.cms.signed (received.Publication c.in_ok-cms.cms.message) c.signed_message.result.now c.in_ok-validate_any_at.field-0 c.in_ok-text_vec.field-0.items
    c.in_ok-cms.ensures.begins c.in_ok-cms.ensures.reads c.signed_message.ensures ((c.in_ok-validate_any_at.ensures.believed c.in_ok-validate_any_at.field-0).0 refl)
    (c.in_ok-text_vec.ensures ∙ ap publication.text_of c.message.ensures.message)
