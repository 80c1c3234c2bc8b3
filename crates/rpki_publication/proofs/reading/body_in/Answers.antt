use Rattle.std.proofs.Common.{rules}
use Rattle.rpki_common.specs.Chaining.{◌>>=◌}
use Rattle.rpki_publication.specs.Message.{body_in}
use Rattle.rpki_publication.proofs.reading.body_in.Goals as goal

pub returns-in_err-query_in-in-query : goal.returns-in_err-query_in-in-query
unfolding body_in ◌>>=◌
returns-in_err-query_in-in-query c = search rules

pub returns-in_err-reply_in-in-reply : goal.returns-in_err-reply_in-in-reply
unfolding body_in ◌>>=◌
returns-in_err-reply_in-in-reply c = search rules

pub returns-in_ok-query_in-in-query : goal.returns-in_ok-query_in-in-query
unfolding body_in ◌>>=◌
returns-in_ok-query_in-in-query c = search rules

pub returns-in_ok-reply_in-in-reply : goal.returns-in_ok-reply_in-in-reply
unfolding body_in ◌>>=◌
returns-in_ok-reply_in-in-reply c = search rules

pub returns-in_default : goal.returns-in_default
unfolding body_in ◌>>=◌
returns-in_default c = search rules
