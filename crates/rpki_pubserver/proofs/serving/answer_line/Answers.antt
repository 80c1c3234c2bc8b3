use Rattle.std.proofs.Common.{◌∙◌, ◌++◌, ◌∷◌, [], ap}
use Rattle.std.proofs.lemmas.Result.{err_from_is_err_and}
use Rattle.hex.specs.Hex.{encode_lower}
use Rattle.rpki_ca.specs.Seen.{seen_signer}
use Rattle.rpki_pubserver.proofs.Replying.{cant_reply, replied_so}
use Rattle.rpki_pubserver.proofs.serving.answer_line.Goals as goal

pub returns-in_err-reply-clause-err : goal.returns-in_err-reply-clause-err
returns-in_err-reply-clause-err g c =
    let p = err_from_is_err_and c.from_residual.result c.from_residual.ensures.1 in
    rw (p.1, p.2) (λ other. cant_reply g.P.Scheme.checks c.args.when _ c.args.server.now c.args.octets.now c.in_err-reply.field-0.0 c.in_err-reply.ensures.refused other)

pub returns-clause-ok : goal.returns-clause-ok
returns-clause-ok g c =
    let signer = seen_signer c.args.key.now (g.S.Signer.state c.args.signer.now) (g.S.Signer.state c.answer.new.signer) in (
      encode_lower c.in_ok-octets.octets,
      replied_so g.P.Scheme.checks c.args.when signer c.args.server.now c.args.octets.now c.in_ok-reply.reply c.answer.new.self c.in_ok-octets.octets c.in_ok-reply.ensures.answered c.in_ok-octets.ensures.octets c.in_ok-octets.ensures.spelled c.answer.ensures.keeps,
      c.in_ok-hexadecimal_line.ensures ∙ ap (λ o. encode_lower o ++ 10 ∷ []) c.as_slice.ensures,
    )
