use Rattle.std.proofs.Common.{◌≡◌, ℤ, ap, subst, ◌∙◌}
use Rattle.std.specs.Prelude.{IfOk}
use Rattle.rpki_base.specs.Civil.{IsMoment}
use Rattle.rpki_base.specs.Validity.{ValidityFields}
use Rattle.rpki_base.specs.declared.algorithm.SigningAlgorithm.TheVariants.{RsaSha256}
use Rattle.rpki_idcert.specs.Making.{IsMadeFor}
use Rattle.rpki_idcert.specs.Spelling.{spelled_tbs}
use Rattle.rpki_idcert.specs.TbsIdCert.{TbsFields}
use Rattle.rpki_signer.specs.Signer.{IsSignature}
use Rattle.rpki_signer.specs.Toy.{ToyChecks}
use Rattle.rpki_signer.specs.ToySigner.{state_of}
use Rattle.rpki_upserver.specs.ToyIssuer.{SignedFields, ToyIssuerState}
use Rattle.rpki_upserver.proofs.Toys.{again_so, made_so, signed_so, unsigned_so}
use Rattle.rpki_upserver.proofs.toy_issuer.ToyIssuer.signed_for.Goals as goal

from_is : (c : goal.After-drop-issuing-2) → c.self.inside.from ≡ c.args.self.now.from
from_is c = ap (λ (i : ToyIssuerState). i.from) c.self.view_is

validity_is : (c : goal.After-drop-issuing-2) → c.new-validity.result ≡ record { not_before = c.args.self.now.from; not_after = c.args.not_after }
validity_is c = c.new-validity.ensures ∙ ap (λ (z : ℤ). record { not_before = z; not_after = c.args.not_after }) (from_is c)

fields_are : (c : goal.After-drop-issuing-2) → IsMadeFor c.in_ok-issuing.issuing c.args.key.now c.in_ok-serial.serial (record { not_before = c.args.self.now.from; not_after = c.args.not_after }) c.in_ok-fields.fields
fields_are c = subst (λ (v : ValidityFields). IsMadeFor c.in_ok-issuing.issuing c.args.key.now c.in_ok-serial.serial v c.in_ok-fields.fields) (validity_is c) c.in_ok-fields.ensures

signs : (c : goal.After-drop-issuing-2) → IfOk c.sign.result (SignedFields c.in_ok-fields.fields c.ask.new.self c.sign.new.self)
signs c = subst (λ (t : TbsFields). IfOk c.sign.result (SignedFields t c.ask.new.self c.sign.new.self)) c.in_ok-unsigned.ensures.fields c.sign.ensures.ok

signature : (c : goal.After-drop-issuing-2)
    → IfOk c.sign.result (λ made. IsSignature ToyChecks RsaSha256 c.ask.new.self.key (spelled_tbs c.in_ok-fields.fields) (state_of c.ask.new.self.signer) (state_of c.sign.new.self.signer) made.signed.signature.value)
signature c =
    subst (λ (t : TbsFields). IfOk c.sign.result (λ made. IsSignature ToyChecks RsaSha256 c.ask.new.self.key (spelled_tbs t) (state_of c.ask.new.self.signer) (state_of c.sign.new.self.signer) made.signed.signature.value))
    c.in_ok-unsigned.ensures.fields c.sign.ensures.signed

pub returns-clause-ok : goal.returns-clause-ok
returns-clause-ok c =
    signed_so c.args.key.now c.args.not_after c.args.self.now c.draw.new.self c.ask.new.self c.sign.new.self c.in_ok-serial.serial c.in_ok-issuing.issuing c.in_ok-fields.fields c.in_ok-serial.ensures.ok c.in_ok-issuing.ensures.ok (fields_are c) c.sign.result (signs c)

pub returns-clause-err : goal.returns-clause-err
returns-clause-err c =
    unsigned_so c.args.key.now c.args.not_after c.args.self.now c.draw.new.self c.ask.new.self c.sign.new.self c.in_ok-serial.serial c.in_ok-issuing.issuing c.in_ok-fields.fields c.in_ok-serial.ensures.ok c.in_ok-issuing.ensures.ok (fields_are c) c.sign.result
    c.sign.ensures.err

pub returns-clause-made : goal.returns-clause-made
returns-clause-made c =
    made_so c.args.key.now c.args.not_after c.args.self.now c.draw.new.self c.ask.new.self c.sign.new.self c.in_ok-serial.serial c.in_ok-issuing.issuing c.in_ok-fields.fields c.in_ok-serial.ensures.ok c.in_ok-issuing.ensures.ok (fields_are c)
    c.in_ok-serial.ensures.drawn c.in_ok-issuing.ensures.given c.in_ok-issuing.ensures.distinct c.sign.result (signs c) (signature c)

pub returns-clause-again : goal.returns-clause-again
returns-clause-again c =
    let from = subst (λ (z : ℤ). IsMoment z) (c.seconds-from.ensures.value ∙ from_is c) c.seconds-from.ensures.range in
    let until = subst (λ (z : ℤ). IsMoment z) c.seconds-until.ensures.value c.seconds-until.ensures.range in
    again_so c.args.key.now c.args.not_after c.args.self.now c.draw.new.self c.ask.new.self c.sign.new.self c.in_ok-serial.serial c.in_ok-issuing.issuing c.in_ok-fields.fields c.in_ok-serial.ensures.ok c.in_ok-issuing.ensures.ok (fields_are c)
    c.in_ok-serial.ensures.drawn c.in_ok-issuing.ensures.given c.in_ok-issuing.ensures.distinct (from, until) c.sign.result (signs c) (signature c)
