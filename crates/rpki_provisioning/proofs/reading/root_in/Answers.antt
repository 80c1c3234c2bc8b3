use Rattle.std.proofs.Common.{rules}
use Rattle.rpki_common.specs.Chaining.{◌>>=◌}
use Rattle.rpki_provisioning.specs.Message.{message_root_in}
use Rattle.rpki_provisioning.proofs.reading.root_in.Goals as goal

pub returns-in_err-require : goal.returns-in_err-require
unfolding message_root_in ◌>>=◌
returns-in_err-require c = search rules

pub returns-in_err-require-2 : goal.returns-in_err-require-2
unfolding message_root_in ◌>>=◌
returns-in_err-require-2 c = search rules

pub returns-in_err-only : goal.returns-in_err-only
unfolding message_root_in ◌>>=◌
returns-in_err-only c = search rules

pub returns-in_err-given_or_absent : goal.returns-in_err-given_or_absent
unfolding message_root_in ◌>>=◌
returns-in_err-given_or_absent c = search rules

pub returns-in_err-sender : goal.returns-in_err-sender
unfolding message_root_in ◌>>=◌
returns-in_err-sender c = search rules

pub returns-in_err-recipient : goal.returns-in_err-recipient
unfolding message_root_in ◌>>=◌
returns-in_err-recipient c = search rules

pub returns-in_err-kind : goal.returns-in_err-kind
unfolding message_root_in ◌>>=◌
returns-in_err-kind c = search rules

pub returns : goal.returns
unfolding message_root_in ◌>>=◌
returns c = search rules
