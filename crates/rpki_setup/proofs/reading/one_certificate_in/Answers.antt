use Rattle.std.proofs.Common.{rules}
use Rattle.rpki_common.specs.Chaining.{◌>>=◌}
use Rattle.rpki_setup.specs.Root.{one_certificate_in}
use Rattle.rpki_setup.proofs.reading.one_certificate_in.Goals as goal

pub returns-in_err-e : goal.returns-in_err-e
unfolding one_certificate_in ◌>>=◌
returns-in_err-e c = search rules

pub returns : goal.returns
unfolding one_certificate_in ◌>>=◌
returns c = search rules
