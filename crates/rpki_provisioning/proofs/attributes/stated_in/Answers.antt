use Rattle.std.proofs.Common.{rules}
use Rattle.rpki_common.specs.Chaining.{◌>>=◌}
use Rattle.rpki_xml.specs.Tables.{optional_by}
use Rattle.rpki_provisioning.proofs.attributes.stated_in.Goals as goal

pub returns-in_err-optional : goal.returns-in_err-optional
unfolding optional_by ◌>>=◌
returns-in_err-optional g c = search rules

pub returns-in_err-blocks_of-in-Some : goal.returns-in_err-blocks_of-in-Some
unfolding optional_by ◌>>=◌
returns-in_err-blocks_of-in-Some g c = search rules

pub returns-in-None : goal.returns-in-None
unfolding optional_by ◌>>=◌
returns-in-None g c = search rules

pub returns-in_ok-blocks_of-in-Some : goal.returns-in_ok-blocks_of-in-Some
unfolding optional_by ◌>>=◌
returns-in_ok-blocks_of-in-Some g c = search rules
