use Rattle.std.proofs.Common.{rules}
use Rattle.rpki_common.specs.Chaining.{◌>>=◌}
use Rattle.rpki_provisioning.specs.Class.{certificates_in}
use Rattle.rpki_provisioning.proofs.parts.certificates_in.Goals as goal

pub returns-in_err-only_inside : goal.returns-in_err-only_inside
unfolding certificates_in ◌>>=◌
returns-in_err-only_inside c = search rules

pub returns-in_err-issued : goal.returns-in_err-issued
unfolding certificates_in ◌>>=◌
returns-in_err-issued c = search rules

pub returns-in_err-issuer : goal.returns-in_err-issuer
unfolding certificates_in ◌>>=◌
returns-in_err-issuer c = search rules

pub returns : goal.returns
unfolding certificates_in ◌>>=◌
returns c = search rules
