use Rattle.std.proofs.Common.{◌≡◌, ◌++◌, ◌∷◌, [], List, Some, ap, subst, ◌∙◌}
use Rattle.rpki_idcert.specs.TbsIdCert.{TbsFields}
use Rattle.rpki_sigmsg.specs.Crl.{CrlFields}
use Rattle.rpki_sigmsg.specs.Making.{ContentFields, assembled}
use Rattle.rpki_sigmsg.specs.Message.{MessageFields}
use Rattle.rpki_sigmsg.proofs.Assembling.{assembled_is}
use Rattle.rpki_sigmsg.proofs.unsigned.UnsignedContent.into_message.Goals as goal

pub returns : goal.returns
returns c =
    let signer = c.subject_key_identifier-signer.ensures ∙ ap (λ (t : TbsFields). t.subject_key_id) c.tbs.ensures in
    let crls = c.in_ok-push.ensures.items ∙ ap (λ (l : List CrlFields). l ++ c.args.crl ∷ []) c.in_ok-crls.ensures.items in
    subst (λ (f : ContentFields). ◌≡◌ {A = MessageFields} (record { content = c.self.inside.content; signer = c.subject_key_identifier-signer.result; digest = c.self.inside.digest; signing_time = Some c.self.inside.moment; covered = c.self.inside.covered; signature = c.args.signature; certificate = c.args.certificate; crls = c.push.new.self.items }) (assembled f c.args.signature c.args.certificate c.args.crl)) c.self.view_is
    (assembled_is c.self.inside.content c.self.inside.digest c.self.inside.covered c.self.inside.moment c.subject_key_identifier-signer.result c.args.signature c.args.certificate c.args.crl c.push.new.self.items c.self.invariant.0 c.self.invariant.1 signer crls)
