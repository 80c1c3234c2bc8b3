use Rattle.std.proofs.Common.{rules}
use Rattle.rpki_common.specs.Chaining.{◌>>=◌}
use Rattle.rpki_publication.specs.Change.{change_in}
use Rattle.rpki_publication.proofs.reading.change_in.Goals as goal

pub returns-then-is_named : goal.returns-then-is_named
unfolding change_in ◌>>=◌
returns-then-is_named c = search rules

pub returns : goal.returns
unfolding change_in ◌>>=◌
returns c = search rules
