use Rattle.std.proofs.Common.{◌∙◌, ap}
use Rattle.std.specs.Prelude.{not}
use Rattle.sha1.specs.Sha1.{sha1}
use Rattle.rpki_upserver.proofs.Deciding.{no_reason}
use Rattle.rpki_upserver.proofs.parent.Parent.refusal.Goals as goal

pub returns : goal.returns
returns g c = λ x at.
    no_reason g.P.Scheme.checks _ c.args.self.now c.deref.result.now c.args.request.now c.args.place c.index-class.result.now x c.is_empty.result c.is_used.result c.csr-2.result.now c.class_name.result.now c.key_identifier-key.result
    c.self.view_is c.requires c.index-class.ensures at c.is_empty.ensures.1 c.if-is_empty.false (c.verify_signature.ensures.0 (c.is_err.ensures.negation ∙ ap not c.if-is_err.false)) c.csr-2.ensures c.deref.ensures.value c.class_name.ensures
    (c.key_identifier-key.ensures ∙ ap (λ k. sha1 k.bits) (c.public_key.ensures ∙ ap (λ q. q.tbs.key) c.csr.ensures)) c.is_used.ensures c.if-is_used.false
