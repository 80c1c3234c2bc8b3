use Rattle.rpki_provisioning.specs.Cms.{CmsFields}
use Rattle.rpki_ca.specs.declared.receiving.Received.TheVariants as received
use Rattle.rpki_ca.proofs.Serving.{fails_so, signed_so}
use Rattle.rpki_upserver.proofs.Signed.{holds_so}
use Rattle.rpki_upserver.proofs.signing.signed.Goals as goal

pub returns-clause-ok : goal.returns-clause-ok
returns-clause-ok g c =
    holds_so g.P.Scheme.checks c.args.when _ c.args.message c.create.result c.create.ensures.message
    (signed_so g.P.Scheme.checks c.args.when _ (received.Provisioning c.args.message) (λ (c : CmsFields). c.signed) c.create.result c.requires c.create.ensures.created c.create.ensures.believed c.create.ensures.again c.create.ensures.too_long)

pub returns-clause-err : goal.returns-clause-err
returns-clause-err g c =
    fails_so g.P.Scheme.checks c.args.when _ (received.Provisioning c.args.message) (λ (c : CmsFields). c.signed) c.create.result c.create.ensures.created c.create.ensures.moment c.create.ensures.too_long c.create.ensures.first_refusal
