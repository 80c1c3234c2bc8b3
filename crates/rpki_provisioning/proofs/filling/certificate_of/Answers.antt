use Rattle.std.proofs.Common.{refl, subst, ◌∙◌}
use Rattle.rpki_cert.specs.Cert.{certificate}
use Rattle.rpki_der.specs.declared.error.DecodeError.{DecodeError}
use Rattle.rpki_der.specs.Ticks.{CountedRefusesOctets}
use Rattle.rpki_der.specs.declared.mode.Mode.TheVariants.{Der}
use Rattle.rpki_provisioning.proofs.Fills.{begun, not_begun}
use Rattle.rpki_provisioning.proofs.filling.certificate_of.Goals as goal

pub returns-in-Ok : goal.returns-in-Ok
returns-in-Ok g c = begun (certificate Der) Der c.args.octets.now c.as_slice.result.now c.args.steps.now c.decode_counted.new.steps c.in-Ok.cert (c.as_slice.ensures ∙ c.in_ok-octets.ensures) c.in-Ok.ensures

pub returns-in-Err-Malformed : goal.returns-in-Err-Malformed
returns-in-Err-Malformed g c =
    let refused = not_begun (certificate Der) Der c.args.octets.now c.as_slice.result.now c.args.steps.now c.decode_counted.new.steps (c.as_slice.ensures ∙ c.in_ok-octets.ensures) (subst (λ (e : DecodeError). CountedRefusesOctets 2 (certificate Der) Der c.as_slice.result.now c.args.steps.now c.decode_counted.new.steps e) c.in-Err-Malformed.field-0-is c.in-Err-Malformed.ensures) in
    record { fault' = (refl, refused.0); least = refused.1; most = refused.2 }
