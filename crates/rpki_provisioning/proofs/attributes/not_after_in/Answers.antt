use Rattle.std.proofs.Common.{rules}
use Rattle.rpki_common.specs.Chaining.{◌>>=◌}
use Rattle.rpki_xmltext.specs.Parts.{required_by}
use Rattle.rpki_provisioning.proofs.attributes.not_after_in.Goals as goal

pub returns-in_err-text : goal.returns-in_err-text
unfolding required_by ◌>>=◌
returns-in_err-text c = search rules

pub returns-in-None : goal.returns-in-None
unfolding required_by ◌>>=◌
returns-in-None c = search rules

pub returns-in-Some : goal.returns-in-Some
unfolding required_by ◌>>=◌
returns-in-Some c = search rules
