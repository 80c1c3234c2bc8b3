use Rattle.std.proofs.Common.{rules}
use Rattle.rpki_common.specs.Chaining.{◌>>=◌}
use Rattle.rpki_publication.specs.Change.{query_pdu_in}
use Rattle.rpki_publication.proofs.reading.query_pdu_in.Goals as goal

pub returns-in_err-list_query_in : goal.returns-in_err-list_query_in
unfolding query_pdu_in ◌>>=◌
returns-in_err-list_query_in c = search rules

pub returns-then-is_named : goal.returns-then-is_named
unfolding query_pdu_in ◌>>=◌
returns-then-is_named c = search rules

pub returns-in_err-change_in : goal.returns-in_err-change_in
unfolding query_pdu_in ◌>>=◌
returns-in_err-change_in c = search rules

pub returns : goal.returns
unfolding query_pdu_in ◌>>=◌
returns c = search rules
