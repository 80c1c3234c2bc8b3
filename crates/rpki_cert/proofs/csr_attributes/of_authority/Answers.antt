use Rattle.std.proofs.Common.{rules}
use Rattle.rpki_common.specs.Chaining.{◌>>=◌}
use Rattle.rpki_cert.specs.CsrAttributes.{of_authority}
use Rattle.rpki_cert.proofs.csr_attributes.of_authority.Goals as goal

pub returns-in_err-basic_ca : goal.returns-in_err-basic_ca
unfolding of_authority ◌>>=◌
returns-in_err-basic_ca c = rw (← c.requested.view_is) (search rules)

pub returns-in_err-key_usage : goal.returns-in_err-key_usage
unfolding of_authority ◌>>=◌
returns-in_err-key_usage c = rw (← c.requested.view_is) (search rules)

pub returns-in_err-access : goal.returns-in_err-access
unfolding of_authority ◌>>=◌
returns-in_err-access c = rw (← c.requested.view_is) (search rules)

pub returns : goal.returns
unfolding of_authority ◌>>=◌
returns c = rw (← c.requested.view_is) (search rules)
