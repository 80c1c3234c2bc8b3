use Rattle.std.proofs.Common.{rules}
use Rattle.rpki_common.specs.Chaining.{◌>>=◌}
use Rattle.rpki_publication.specs.Message.{success_in}
use Rattle.rpki_publication.proofs.reading.success_in.Goals as goal

pub returns-in_err-require : goal.returns-in_err-require
unfolding success_in ◌>>=◌
returns-in_err-require c = search rules

pub returns-in_err-require-2 : goal.returns-in_err-require-2
unfolding success_in ◌>>=◌
returns-in_err-require-2 c = search rules

pub returns-in_err-_attributes : goal.returns-in_err-_attributes
unfolding success_in ◌>>=◌
returns-in_err-_attributes c = search rules

pub returns : goal.returns
unfolding success_in ◌>>=◌
returns c = search rules
