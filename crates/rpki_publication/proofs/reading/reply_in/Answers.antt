use Rattle.std.proofs.Common.{rules}
use Rattle.rpki_common.specs.Chaining.{◌>>=◌}
use Rattle.rpki_publication.specs.Message.{reply_in}
use Rattle.rpki_publication.proofs.reading.reply_in.Goals as goal

pub returns-in_err-pdu : goal.returns-in_err-pdu
unfolding reply_in ◌>>=◌
returns-in_err-pdu c = search rules

pub returns-in_err-success_in : goal.returns-in_err-success_in
unfolding reply_in ◌>>=◌
returns-in_err-success_in c = search rules

pub returns-then-is_first_named : goal.returns-then-is_first_named
unfolding reply_in ◌>>=◌
returns-then-is_first_named c = search rules

pub returns-in_err-errors : goal.returns-in_err-errors
unfolding reply_in ◌>>=◌
returns-in_err-errors c = search rules

pub returns-then-is_first_named-2 : goal.returns-then-is_first_named-2
unfolding reply_in ◌>>=◌
returns-then-is_first_named-2 c = search rules

pub returns-in_err-objects : goal.returns-in_err-objects
unfolding reply_in ◌>>=◌
returns-in_err-objects c = search rules

pub returns : goal.returns
unfolding reply_in ◌>>=◌
returns c = search rules
