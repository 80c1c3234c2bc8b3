use Rattle.std.proofs.Common.{rules}
use Rattle.rpki_common.specs.Chaining.{◌>>=◌}
use Rattle.rpki_idcert.specs.Gathered.{complete}
use Rattle.rpki_idcert.proofs.extensions.all_found.Goals as goal

pub returns-in_err-subject : goal.returns-in_err-subject
unfolding complete ◌>>=◌
returns-in_err-subject c = search rules

pub returns : goal.returns
unfolding complete ◌>>=◌
returns c = search rules
