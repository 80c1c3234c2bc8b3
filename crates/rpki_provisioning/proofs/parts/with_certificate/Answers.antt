use Rattle.std.proofs.Common.{rules}
use Rattle.rpki_common.specs.Chaining.{◌>>=◌}
use Rattle.rpki_provisioning.specs.Gathering.{each_slot}
use Rattle.rpki_provisioning.proofs.parts.with_certificate.Goals as goal

pub returns-then-not-is_named : goal.returns-then-not-is_named
unfolding each_slot ◌>>=◌
returns-then-not-is_named c = search rules

pub returns-in_err-certificate_in : goal.returns-in_err-certificate_in
unfolding each_slot ◌>>=◌
returns-in_err-certificate_in c = search rules

pub returns : goal.returns
unfolding each_slot ◌>>=◌
returns c = search rules
