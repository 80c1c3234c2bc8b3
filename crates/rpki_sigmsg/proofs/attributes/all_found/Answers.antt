use Rattle.std.proofs.Common.{rules}
use Rattle.rpki_common.specs.Chaining.{◌>>=◌}
use Rattle.rpki_sigmsg.specs.Gathered.{complete}
use Rattle.rpki_sigmsg.proofs.attributes.all_found.Goals as goal

pub returns-in_err-content_type : goal.returns-in_err-content_type
unfolding complete ◌>>=◌
returns-in_err-content_type c = search rules

pub returns-in_err-digest : goal.returns-in_err-digest
unfolding complete ◌>>=◌
returns-in_err-digest c = search rules

pub returns : goal.returns
unfolding complete ◌>>=◌
returns c = search rules
