use Rattle.std.proofs.Common.{refl, rules}
use Rattle.std.proofs.lemmas.Result.{err_from_is_err_and}
use Rattle.rpki_common.specs.Chaining.{◌>>=◌}
use Rattle.rpki_xmltext.proofs.Read.{none_through}
use Rattle.rpki_publication.specs.Pdu.{reply_attributes_in}
use Rattle.rpki_publication.proofs.attributes.reply_attributes_in.Goals as goal

pub returns-in_err-only : goal.returns-in_err-only
unfolding reply_attributes_in ◌>>=◌
returns-in_err-only c =
    let p = err_from_is_err_and c.from_residual.result c.from_residual.ensures.1 in
    rw (p.1, p.2) (rw c.in_err-only.ensures refl)

pub returns-in_err-hash : goal.returns-in_err-hash
unfolding reply_attributes_in ◌>>=◌
returns-in_err-hash c = search rules

pub returns-in_err-uri : goal.returns-in_err-uri
unfolding reply_attributes_in ◌>>=◌
returns-in_err-uri c = search rules

pub returns-in_err-tag : goal.returns-in_err-tag
unfolding reply_attributes_in ◌>>=◌
returns-in_err-tag c =
    let p = err_from_is_err_and c.from_residual-in_err-tag.result c.from_residual-in_err-tag.ensures.1 in
    rw (p.1, p.2) (none_through _ _ _ (λ n. rw (c.in_ok-only.ensures, c.in_ok-hash.ensures, c.in_ok-uri.ensures, n) refl) c.in_err-tag.ensures)

pub returns-in_err-error_code : goal.returns-in_err-error_code
unfolding reply_attributes_in ◌>>=◌
returns-in_err-error_code c =
    let p = err_from_is_err_and c.from_residual-in_err-error_code.result c.from_residual-in_err-error_code.ensures.1 in
    rw (p.1, p.2) (rw (c.in_ok-only.ensures, c.in_ok-hash.ensures, c.in_ok-uri.ensures, c.in_ok-tag.ensures, c.in_err-error_code.ensures) refl)

pub returns : goal.returns
unfolding reply_attributes_in ◌>>=◌
returns c = rw (c.in_ok-only.ensures, c.in_ok-hash.ensures, c.in_ok-uri.ensures, c.in_ok-tag.ensures, c.in_ok-error_code.ensures) refl
