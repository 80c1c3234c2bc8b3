use Rattle.std.proofs.Common.{rules}
use Rattle.rpki_common.specs.Chaining.{◌>>=◌}
use Rattle.rpki_publication.specs.Message.{query_in}
use Rattle.rpki_publication.proofs.reading.query_in.Goals as goal

pub returns-in_err-e : goal.returns-in_err-e
unfolding query_in ◌>>=◌
returns-in_err-e c = search rules

pub returns-in_err-list_query_in : goal.returns-in_err-list_query_in
unfolding query_in ◌>>=◌
returns-in_err-list_query_in c = search rules

pub returns-then-is_first_named : goal.returns-then-is_first_named
unfolding query_in ◌>>=◌
returns-then-is_first_named c = search rules

pub returns-in_err-changes : goal.returns-in_err-changes
unfolding query_in ◌>>=◌
returns-in_err-changes c = search rules

pub returns : goal.returns
unfolding query_in ◌>>=◌
returns c = search rules
