use Rattle.std.proofs.Common.{Ok, ◌++◌, ◌∷◌, [], refl, ap, ◌∙◌}
use Rattle.std.proofs.lemmas.Result.{err_from_is_err_and}
use Rattle.hex.specs.Hex.{encode_lower}
use Rattle.rpki_ca.specs.Acceptance.{refusal_of}
use Rattle.rpki_ca.proofs.Unasked.{create_unasked}
use Rattle.rpki_ca.proofs.Sending.{not_memory}
use Rattle.rpki_ca.proofs.Creating.{input_refused, refused, line_created, fits_ok}
use Rattle.rpki_ca.proofs.create_line.create_line.Goals as goal

pub returns-in_err-message-clause-err : goal.returns-in_err-message-clause-err
returns-in_err-message-clause-err g c =
    let p = err_from_is_err_and c.from_residual.result c.from_residual.ensures.1 in
    rw (p.1, p.2) (λ other. input_refused g.P.Scheme.checks c.args.kind c.args.input.items c.args.when _ (refusal_of c.in_err-message.field-0.0) (c.in_err-message.ensures.err other))

pub returns-in_err-octets-clause-err : goal.returns-in_err-octets-clause-err
returns-in_err-octets-clause-err g c =
    let p = err_from_is_err_and c.from_residual-in_err-octets.result c.from_residual-in_err-octets.ensures.1 in
    rw (p.1, p.2) (λ other. refused g.P.Scheme.checks c.args.kind c.args.input.items c.in_ok-message.message c.args.when _ c.in_err-octets.field-0.0 c.in_ok-message.ensures.ok c.in_err-octets.ensures.too_long c.in_err-octets.ensures.created (c.in_err-octets.ensures.first_refusal (not_memory c.in_err-octets.field-0.0 other)) other)

pub returns-clause-ok : goal.returns-clause-ok
returns-clause-ok g c =
    let made = c.in_ok-octets.ensures.created in
    let fits = fits_ok c.in_ok-message.message c.args.when (Ok c.in_ok-octets.octets) c.in_ok-octets.octets refl c.in_ok-octets.ensures.too_long made.created.window_is in (
      encode_lower c.in_ok-octets.octets,
      line_created g.P.Scheme.checks c.args.kind c.args.input.items c.in_ok-message.message c.args.when _ c.in_ok-octets.octets c.in_ok-message.ensures.ok fits made,
      c.in_ok-hexadecimal_line.ensures ∙ ap (λ o. encode_lower o ++ 10 ∷ []) c.as_slice.ensures,
    )

pub returns-in_err-octets-clause-unasked : goal.returns-in_err-octets-clause-unasked
returns-in_err-octets-clause-unasked g c = λ a refused. create_unasked c.args.kind c.args.input.items c.args.when _ a c.in_ok-message.ensures.ok c.signed_octets.ensures.unasked refused

pub returns-in_err-hexadecimal_line-clause-unasked : goal.returns-in_err-hexadecimal_line-clause-unasked
returns-in_err-hexadecimal_line-clause-unasked g c = λ a refused. create_unasked c.args.kind c.args.input.items c.args.when _ a c.in_ok-message.ensures.ok c.signed_octets.ensures.unasked refused

pub returns-clause-unasked : goal.returns-clause-unasked
returns-clause-unasked g c = λ a refused. create_unasked c.args.kind c.args.input.items c.args.when _ a c.in_ok-message.ensures.ok c.signed_octets.ensures.unasked refused
