use Rattle.std.proofs.Common.{rules}
use Rattle.rpki_common.specs.Chaining.{◌>>=◌}
use Rattle.rpki_xmltext.specs.Parts.{required_by}
use Rattle.rpki_provisioning.proofs.attributes.payload_type_in.Goals as goal

pub returns-in_err-text : goal.returns-in_err-text
unfolding required_by ◌>>=◌
returns-in_err-text c = search rules

pub returns-in-Ok : goal.returns-in-Ok
unfolding required_by ◌>>=◌
returns-in-Ok c = search rules

pub returns-in-Err-InvalidPayloadType : goal.returns-in-Err-InvalidPayloadType
unfolding required_by ◌>>=◌
returns-in-Err-InvalidPayloadType c = search rules
