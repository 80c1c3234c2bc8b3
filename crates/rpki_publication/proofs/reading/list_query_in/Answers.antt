use Rattle.std.proofs.Common.{rules}
use Rattle.rpki_common.specs.Chaining.{◌>>=◌}
use Rattle.rpki_publication.specs.Change.{list_query_in}
use Rattle.rpki_publication.proofs.reading.list_query_in.Goals as goal

pub returns-in_err-require : goal.returns-in_err-require
unfolding list_query_in ◌>>=◌
returns-in_err-require c = search rules

pub returns-in_err-require-2 : goal.returns-in_err-require-2
unfolding list_query_in ◌>>=◌
returns-in_err-require-2 c = search rules

pub returns-in_err-_query_attributes : goal.returns-in_err-_query_attributes
unfolding list_query_in ◌>>=◌
returns-in_err-_query_attributes c = search rules

pub returns : goal.returns
unfolding list_query_in ◌>>=◌
returns c = search rules
