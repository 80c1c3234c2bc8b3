use Rattle.std.proofs.Common.{rules}
use Rattle.rpki_common.specs.Chaining.{◌>>=◌}
use Rattle.rpki_publication.proofs.details.with_element.Goals as goal

pub returns-in_err-error_text_in : goal.returns-in_err-error_text_in
unfolding ◌>>=◌
returns-in_err-error_text_in c = search rules

pub returns-then-is_named : goal.returns-then-is_named
unfolding ◌>>=◌
returns-then-is_named c = search rules

pub returns-in_err-require : goal.returns-in_err-require
unfolding ◌>>=◌
returns-in_err-require c = search rules

pub returns-in_err-failed_pdu_in : goal.returns-in_err-failed_pdu_in
unfolding ◌>>=◌
returns-in_err-failed_pdu_in c = search rules

pub returns : goal.returns
unfolding ◌>>=◌
returns c = search rules
