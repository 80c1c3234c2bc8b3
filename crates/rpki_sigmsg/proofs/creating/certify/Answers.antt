use Rattle.std.proofs.Common.{refl, subst}
use Rattle.rpki_base.specs.Validity.{ValidityFields}
use Rattle.rpki_idcert.specs.Making.{IsEndEntityMade}
use Rattle.rpki_signer.proofs.States.{handed_on}
use Rattle.rpki_sigmsg.proofs.Created.{certified, uncertified}
use Rattle.rpki_sigmsg.proofs.creating.certify.Goals as goal

pub returns-in_err-certificate : goal.returns-in_err-certificate
returns-in_err-certificate g c = handed_on _ _ _ _ c.from_residual-in_err-certificate.ensures (uncertified _ _ _ _ _ _ _ c.in_ok-crl.crl c.in_err-certificate.field-0.0 c.in_ok-crl.ensures.signed c.in_err-certificate.ensures.made c.in_err-certificate.ensures.first_refusal)

pub returns : goal.returns
returns g c = certified _ _ _ _ _ _ _ _ c.in_ok-crl.crl c.in_ok-certificate.certificate c.requires.distinct (c.in_ok-crl.ensures.distinct refl) c.requires.holds c.in_ok-crl.ensures.signed (subst (λ (v : ValidityFields). IsEndEntityMade g.P.Scheme.checks c.args.key.now c.args.issuing_key_id.now v (g.S.Signer.state c.sign_crl.new.signer) (g.S.Signer.state c.new_ee.new.signer) c.in_ok-certificate.certificate) c.validity.ensures c.in_ok-certificate.ensures.made)
