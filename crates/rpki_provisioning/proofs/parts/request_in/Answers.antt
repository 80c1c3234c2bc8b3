use Rattle.std.proofs.Common.{rules}
use Rattle.rpki_common.specs.Chaining.{◌>>=◌}
use Rattle.rpki_provisioning.specs.Request.{request_in}
use Rattle.rpki_provisioning.proofs.parts.request_in.Goals as goal

pub returns-in_err-require : goal.returns-in_err-require
unfolding request_in ◌>>=◌
returns-in_err-require c = search rules

pub returns-in_err-require-2 : goal.returns-in_err-require-2
unfolding request_in ◌>>=◌
returns-in_err-require-2 c = search rules

pub returns-in_err-only_of_request : goal.returns-in_err-only_of_request
unfolding request_in ◌>>=◌
returns-in_err-only_of_request c = search rules

pub returns-in_err-class_name : goal.returns-in_err-class_name
unfolding request_in ◌>>=◌
returns-in_err-class_name c = search rules

pub returns-in_err-limit : goal.returns-in_err-limit
unfolding request_in ◌>>=◌
returns-in_err-limit c = search rules

pub returns-in_err-octets : goal.returns-in_err-octets
unfolding request_in ◌>>=◌
returns-in_err-octets c = search rules

pub returns : goal.returns
unfolding request_in ◌>>=◌
returns c = search rules
