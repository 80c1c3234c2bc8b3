use Rattle.std.proofs.Common.{rules}
use Rattle.rpki_cert.specs.CsrAttributes.{of_router}
use Rattle.rpki_cert.proofs.csr_attributes.of_router.Goals as goal

pub returns-in-None : goal.returns-in-None
unfolding of_router
returns-in-None c = rw (← c.requested.view_is) (search rules)

pub returns-then-has_router : goal.returns-then-has_router
unfolding of_router
returns-then-has_router c = rw (← c.requested.view_is) (search rules)

pub returns : goal.returns
unfolding of_router
returns c = rw (← c.requested.view_is) (search rules)
