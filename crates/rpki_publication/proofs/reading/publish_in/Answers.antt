use Rattle.std.proofs.Common.{rules}
use Rattle.rpki_common.specs.Chaining.{◌>>=◌}
use Rattle.rpki_publication.specs.Change.{publish_in}
use Rattle.rpki_publication.proofs.reading.publish_in.Goals as goal

pub returns-in_err-require : goal.returns-in_err-require
unfolding publish_in ◌>>=◌
returns-in_err-require c = search rules

pub returns-in_err-require-2 : goal.returns-in_err-require-2
unfolding publish_in ◌>>=◌
returns-in_err-require-2 c = search rules

pub returns-in_err-a : goal.returns-in_err-a
unfolding publish_in ◌>>=◌
returns-in_err-a c = search rules

pub returns-in_err-uri : goal.returns-in_err-uri
unfolding publish_in ◌>>=◌
returns-in_err-uri c = search rules

pub returns-in_err-content : goal.returns-in_err-content
unfolding publish_in ◌>>=◌
returns-in_err-content c = search rules

pub returns : goal.returns
unfolding publish_in ◌>>=◌
returns c = search rules
