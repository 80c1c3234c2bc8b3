use Rattle.std.proofs.Common.{refl, rules}
use Rattle.std.proofs.lemmas.Result.{err_from_is_err_and}
use Rattle.rpki_common.specs.Chaining.{◌>>=◌}
use Rattle.rpki_setup.specs.PublisherRequest.{publisher_request_in}
use Rattle.rpki_xmltext.proofs.Read.{none_through}
use Rattle.rpki_setup.proofs.publisher_request.PublisherRequest.of_element.Goals as goal

pub returns-in_err-root_in : goal.returns-in_err-root_in
unfolding publisher_request_in ◌>>=◌
returns-in_err-root_in c =
    let p = err_from_is_err_and c.from_residual.result c.from_residual.ensures.1 in
    rw (p.1, p.2) (rw c.in_err-root_in.ensures refl)

pub returns-in_err-only : goal.returns-in_err-only
unfolding publisher_request_in ◌>>=◌
returns-in_err-only c = search rules

pub returns-in_err-publisher_handle : goal.returns-in_err-publisher_handle
unfolding publisher_request_in ◌>>=◌
returns-in_err-publisher_handle c = search rules

pub returns-in_err-tag : goal.returns-in_err-tag
unfolding publisher_request_in ◌>>=◌
returns-in_err-tag c =
    let p = err_from_is_err_and c.from_residual-in_err-tag.result c.from_residual-in_err-tag.ensures.1 in
    rw (p.1, p.2) (none_through _ _ _ (λ n. rw (c.in_ok-root_in.ensures, c.in_ok-only.ensures, c.in_ok-publisher_handle.ensures, n) refl) c.in_err-tag.ensures)

pub returns-in_err-id_cert : goal.returns-in_err-id_cert
unfolding publisher_request_in ◌>>=◌
returns-in_err-id_cert c =
    let p = err_from_is_err_and c.from_residual-in_err-id_cert.result c.from_residual-in_err-id_cert.ensures.1 in
    rw (p.1, p.2) (none_through _ _ _ (λ n. rw (c.in_ok-root_in.ensures, c.in_ok-only.ensures, c.in_ok-publisher_handle.ensures, c.in_ok-tag.ensures, n) refl) (rw c.children.ensures at c.in_err-id_cert.ensures))

pub returns : goal.returns
unfolding publisher_request_in ◌>>=◌
returns c =
    let e = rw c.children.ensures at c.in_ok-id_cert.ensures in
    rw (c.in_ok-root_in.ensures, c.in_ok-only.ensures, c.in_ok-publisher_handle.ensures, c.in_ok-tag.ensures, e) refl
