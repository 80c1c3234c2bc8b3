use Rattle.std.proofs.Common.{rules}
use Rattle.rpki_common.specs.Chaining.{◌>>=◌}
use Rattle.rpki_publication.specs.ListReply.{list_element_in}
use Rattle.rpki_publication.proofs.reading.list_element_in.Goals as goal

pub returns-in_err-require : goal.returns-in_err-require
unfolding list_element_in ◌>>=◌
returns-in_err-require c = search rules

pub returns-in_err-require-2 : goal.returns-in_err-require-2
unfolding list_element_in ◌>>=◌
returns-in_err-require-2 c = search rules

pub returns-in_err-a : goal.returns-in_err-a
unfolding list_element_in ◌>>=◌
returns-in_err-a c = search rules

pub returns-in_err-uri : goal.returns-in_err-uri
unfolding list_element_in ◌>>=◌
returns-in_err-uri c = search rules

pub returns-in_err-hash : goal.returns-in_err-hash
unfolding list_element_in ◌>>=◌
returns-in_err-hash c = search rules

pub returns : goal.returns
unfolding list_element_in ◌>>=◌
returns c = search rules
