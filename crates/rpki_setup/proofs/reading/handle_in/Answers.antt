use Rattle.std.proofs.Common.{rules}
use Rattle.rpki_common.specs.Chaining.{◌>>=◌}
use Rattle.rpki_setup.specs.Root.{handle_in}
use Rattle.rpki_setup.proofs.reading.handle_in.Goals as goal

pub returns-in_err-text : goal.returns-in_err-text
unfolding handle_in ◌>>=◌
returns-in_err-text g c = search rules

pub returns : goal.returns
unfolding handle_in ◌>>=◌
returns g c = search rules
