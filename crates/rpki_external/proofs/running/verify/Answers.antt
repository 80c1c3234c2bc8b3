use Rattle.rpki_external.proofs.running.verify.Goals as goal

pub returns-in_ok-octets-in-Request-clause-err : goal.returns-in_ok-octets-in-Request-clause-err
returns-in_ok-octets-in-Request-clause-err c =
    rw (c.in-Request.is, c.in_ok-octets-in-Request.ensures.ok) (rw c.deref-in-Request.ensures.value at c.verify_request.ensures.err)
