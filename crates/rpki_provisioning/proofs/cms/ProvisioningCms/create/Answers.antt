use Rattle.std.proofs.Common.{◌≡◌, inr, ap, ◌∙◌}
use Rattle.rpki_sigmsg.specs.Message.{MessageFields}
use Rattle.rpki_provisioning.proofs.cms.ProvisioningCms.create.Goals as goal

pub invariant_of-result : goal.invariant_of-result
invariant_of-result g c =
    let content : c.in_ok-signed.signed.content ≡ c.in_ok-text.text = ap (λ (m : MessageFields). m.content) c.in_ok-signed.ensures.created.made.is in
    inr (content ∙ c.in_ok-text.ensures)
