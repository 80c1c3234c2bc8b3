use Rattle.std.proofs.lemmas.Result.{err_from_is_err_and}
use Rattle.rpki_sigmsg.proofs.Ticking.{found, most_alone, most_of_both, least_of_both}
use Rattle.rpki_provisioning.proofs.Counted.{nothing_found}
use Rattle.rpki_provisioning.proofs.Refused.{no_signed, no_content}
use Rattle.rpki_provisioning.specs.Cms.{CmsFields}
use Rattle.rpki_provisioning.proofs.cms.ProvisioningCms.decode_counted.Goals as goal

pub returns-in-Err-clause-cms : goal.returns-in-Err-clause-cms
returns-in-Err-clause-cms g c = rw c.no_signed_message.ensures (no_signed c.in-Err.error c.args.octets.now c.in-Err.ensures.refuses)

pub returns-in-Err-clause-most : goal.returns-in-Err-clause-most
returns-in-Err-clause-most g c = most_alone _ _ _ _ c.decode_counted.ensures

pub returns-in-Err-clause-least : goal.returns-in-Err-clause-least
returns-in-Err-clause-least g c = rw c.no_signed_message.ensures (λ f. absurd (nothing_found CmsFields c.in-Err.error f))

pub returns-in_err-message-clause-cms : goal.returns-in_err-message-clause-cms
returns-in_err-message-clause-cms g c =
    let p = err_from_is_err_and c.from_residual.result c.from_residual.ensures.1 in
    rw (p.1, p.2) (no_content c.in_err-message.field-0.0 c.args.octets.now c.in-Ok.signed (found _ _ _ _ c.in-Ok.ensures) (rw (c.as_slice.ensures, c.content.ensures) at c.in_err-message.ensures.message))

pub returns-in_err-message-clause-most : goal.returns-in_err-message-clause-most
returns-in_err-message-clause-most g c = most_of_both _ _ _ _ c.in-Ok.signed c.in-Ok.ensures (rw (c.as_slice.ensures, c.content.ensures) at c.in_err-message.ensures.most)

pub returns-in_err-message-clause-least : goal.returns-in_err-message-clause-least
returns-in_err-message-clause-least g c =
    let p = err_from_is_err_and c.from_residual.result c.from_residual.ensures.1 in
    rw (p.1, p.2) (λ f. least_of_both _ _ _ _ c.in-Ok.signed c.in-Ok.ensures c.in_err-message.ensures.least)

pub returns-clause-cms : goal.returns-clause-cms
returns-clause-cms g c = record { begins = found _ _ _ _ c.in-Ok.ensures; reads = rw (c.as_slice.ensures, c.content.ensures) at c.in_ok-message.ensures.message }

pub returns-clause-most : goal.returns-clause-most
returns-clause-most g c = most_of_both _ _ _ _ c.in-Ok.signed c.in-Ok.ensures (rw (c.as_slice.ensures, c.content.ensures) at c.in_ok-message.ensures.most)

pub returns-clause-least : goal.returns-clause-least
returns-clause-least g c = λ f. least_of_both _ _ _ _ c.in-Ok.signed c.in-Ok.ensures c.in_ok-message.ensures.least
