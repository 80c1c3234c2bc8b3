use Rattle.std.proofs.Common.{rules}
use Rattle.rpki_common.specs.Chaining.{◌>>=◌}
use Rattle.rpki_common.specs.Collecting.{slot, once}
use Rattle.rpki_provisioning.proofs.parts.with_issuer.Goals as goal

pub returns-then-not-is_named : goal.returns-then-not-is_named
unfolding slot once ◌>>=◌
returns-then-not-is_named c = search rules

pub returns-in_err-issuer_in-in-None : goal.returns-in_err-issuer_in-in-None
unfolding slot once ◌>>=◌
returns-in_err-issuer_in-in-None c = search rules

pub returns : goal.returns
unfolding slot once ◌>>=◌
returns c = search rules
