use Rattle.std.proofs.Common.{rules}
use Rattle.rpki_common.specs.Chaining.{◌>>=◌}
use Rattle.rpki_publication.specs.Message.{message_of}
use Rattle.rpki_publication.proofs.reading.message_in.Goals as goal

pub returns-in_err-kind : goal.returns-in_err-kind
unfolding message_of ◌>>=◌
returns-in_err-kind c = search rules

pub returns : goal.returns
unfolding message_of ◌>>=◌
returns c = search rules
