use Rattle.std.proofs.Common.{rules}
use Rattle.rpki_common.specs.Chaining.{◌>>=◌}
use Rattle.rpki_provisioning.proofs.parts.description_where_there.Goals as goal

pub returns-in_err-description_in-in-Some : goal.returns-in_err-description_in-in-Some
unfolding ◌>>=◌
returns-in_err-description_in-in-Some c = search rules

pub returns-in_ok-description_in-in-Some : goal.returns-in_ok-description_in-in-Some
unfolding ◌>>=◌
returns-in_ok-description_in-in-Some c = search rules
