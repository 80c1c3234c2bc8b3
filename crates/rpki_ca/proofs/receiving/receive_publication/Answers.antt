use Rattle.std.proofs.Common.{Err, refl}
use Rattle.std.proofs.lemmas.Result.{err_from_is_err_and}
use Rattle.rpki_ca.proofs.Accepting.{refused, none_found, failed, accepted}
use Rattle.rpki_publication.specs.Cms.{CmsFields}
use Rattle.rpki_ca.specs.declared.receiving.Kind.TheVariants as kinds
use Rattle.rpki_ca.specs.declared.receiving.Received.{Received}
use Rattle.rpki_ca.specs.declared.receiving.Received.TheVariants as received
use Rattle.rpki_ca.proofs.receiving.receive_publication.Goals as goal

pub returns-in_err-cms-clause-answer : goal.returns-in_err-cms-clause-answer
returns-in_err-cms-clause-answer g c =
    let p = err_from_is_err_and c.from_residual.result c.from_residual.ensures.1 in
    rw (p.1, p.2) (refused g.P.Scheme.checks c.args.octets.now c.args.keys.now c.args.when c.in_err-cms.field-0.0 c.in_err-cms.ensures.cms)

pub returns-in_err-cms-clause-least : goal.returns-in_err-cms-clause-least
returns-in_err-cms-clause-least g c =
    let p = err_from_is_err_and c.from_residual.result c.from_residual.ensures.1 in
    rw (p.1, p.2) (λ f. c.in_err-cms.ensures.least (none_found Received CmsFields c.args.octets.now c.in_err-cms.field-0.0 c.in_err-cms.ensures.cms f))

pub returns-in_err-place-clause-answer : goal.returns-in_err-place-clause-answer
returns-in_err-place-clause-answer g c =
    let p = err_from_is_err_and c.from_residual-in_err-place.result c.from_residual-in_err-place.ensures.1 in
    rw (p.1, p.2) (failed g.P.Scheme.checks kinds.Publication c.args.octets.now c.args.keys.now c.args.when c.in_ok-cms.cms.signed (received.Publication c.in_ok-cms.cms.message) c.signed_message.result.now c.in_err-place.field-0.0 (Err c.in_err-place.field-0.0) refl c.in_ok-cms.ensures.cms.begins c.in_ok-cms.ensures.cms.reads c.signed_message.ensures
    (record { believed = c.in_err-place.ensures.believed; none = c.in_err-place.ensures.none; first_failing = c.in_err-place.ensures.first_failing }))

pub returns-clause-answer : goal.returns-clause-answer
returns-clause-answer g c = rw c.into_message.ensures.message (accepted g.P.Scheme.checks kinds.Publication c.args.octets.now c.args.keys.now c.args.when c.in_ok-cms.cms.signed (received.Publication c.in_ok-cms.cms.message) c.signed_message.result.now c.in_ok-place.place c.in_ok-cms.ensures.cms.begins c.in_ok-cms.ensures.cms.reads c.signed_message.ensures
    ((c.in_ok-place.ensures.believed c.in_ok-place.place).0 refl))
