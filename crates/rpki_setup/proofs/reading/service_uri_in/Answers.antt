use Rattle.std.proofs.Common.{rules}
use Rattle.rpki_common.specs.Chaining.{◌>>=◌}
use Rattle.rpki_setup.specs.ServiceUri.{service_uri_in}
use Rattle.rpki_setup.proofs.reading.service_uri_in.Goals as goal

pub returns-in_err-text : goal.returns-in_err-text
unfolding service_uri_in ◌>>=◌
returns-in_err-text c = search rules

pub returns : goal.returns
unfolding service_uri_in ◌>>=◌
returns c = search rules
