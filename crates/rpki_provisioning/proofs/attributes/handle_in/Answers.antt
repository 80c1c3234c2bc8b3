use Rattle.std.proofs.Common.{rules}
use Rattle.rpki_common.specs.Chaining.{◌>>=◌}
use Rattle.rpki_xmltext.specs.Parts.{required_by}
use Rattle.rpki_provisioning.proofs.attributes.handle_in.Goals as goal

pub returns-in_err-text : goal.returns-in_err-text
unfolding required_by ◌>>=◌
returns-in_err-text g c = search rules

pub returns : goal.returns
unfolding required_by ◌>>=◌
returns g c = search rules
