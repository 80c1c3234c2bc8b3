use Rattle.std.proofs.Common.{rules}
use Rattle.rpki_common.specs.Chaining.{◌>>=◌}
use Rattle.rpki_publication.specs.Message.{type_in}
use Rattle.rpki_publication.proofs.reading.type_in.Goals as goal

pub returns-in_err-require : goal.returns-in_err-require
unfolding type_in ◌>>=◌
returns-in_err-require c = search rules

pub returns-in_err-require-2 : goal.returns-in_err-require-2
unfolding type_in ◌>>=◌
returns-in_err-require-2 c = search rules

pub returns-in_err-only : goal.returns-in_err-only
unfolding type_in ◌>>=◌
returns-in_err-only c = search rules

pub returns-in_err-given_or_absent : goal.returns-in_err-given_or_absent
unfolding type_in ◌>>=◌
returns-in_err-given_or_absent c = search rules

pub returns : goal.returns
unfolding type_in ◌>>=◌
returns c = search rules
