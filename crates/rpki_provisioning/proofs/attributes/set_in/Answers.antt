use Rattle.std.proofs.Common.{rules}
use Rattle.rpki_common.specs.Chaining.{◌>>=◌}
use Rattle.rpki_provisioning.specs.Limit.{set_in}
use Rattle.rpki_provisioning.proofs.attributes.set_in.Goals as goal

pub returns-in_err-stated_in : goal.returns-in_err-stated_in
unfolding set_in ◌>>=◌
returns-in_err-stated_in g c = search rules

pub returns-in-None : goal.returns-in-None
unfolding set_in ◌>>=◌
returns-in-None g c = search rules

pub returns-in-Some : goal.returns-in-Some
unfolding set_in ◌>>=◌
returns-in-Some g c = search rules
