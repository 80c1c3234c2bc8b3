use Rattle.std.proofs.Common.{rules}
use Rattle.rpki_common.specs.Chaining.{◌>>=◌}
use Rattle.rpki_provisioning.specs.Class.{certificate_in}
use Rattle.rpki_provisioning.proofs.parts.certificate_in.Goals as goal

pub returns-in_err-require : goal.returns-in_err-require
unfolding certificate_in ◌>>=◌
returns-in_err-require c = search rules

pub returns-in_err-require-2 : goal.returns-in_err-require-2
unfolding certificate_in ◌>>=◌
returns-in_err-require-2 c = search rules

pub returns-in_err-only : goal.returns-in_err-only
unfolding certificate_in ◌>>=◌
returns-in_err-only c = search rules

pub returns-in_err-uri : goal.returns-in_err-uri
unfolding certificate_in ◌>>=◌
returns-in_err-uri c = search rules

pub returns-in_err-req_limit : goal.returns-in_err-req_limit
unfolding certificate_in ◌>>=◌
returns-in_err-req_limit c = search rules

pub returns-in_err-octets : goal.returns-in_err-octets
unfolding certificate_in ◌>>=◌
returns-in_err-octets c = search rules

pub returns : goal.returns
unfolding certificate_in ◌>>=◌
returns c = search rules
