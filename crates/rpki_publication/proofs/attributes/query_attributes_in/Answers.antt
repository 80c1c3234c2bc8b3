use Rattle.std.proofs.Common.{rules}
use Rattle.rpki_common.specs.Chaining.{◌>>=◌}
use Rattle.rpki_publication.specs.Pdu.{query_attributes_in}
use Rattle.rpki_publication.proofs.attributes.query_attributes_in.Goals as goal

pub returns-in_err-only : goal.returns-in_err-only
unfolding query_attributes_in ◌>>=◌
returns-in_err-only c = search rules

pub returns-in_err-tag : goal.returns-in_err-tag
unfolding query_attributes_in ◌>>=◌
returns-in_err-tag c = search rules

pub returns-in_err-uri : goal.returns-in_err-uri
unfolding query_attributes_in ◌>>=◌
returns-in_err-uri c = search rules

pub returns-in_err-hash : goal.returns-in_err-hash
unfolding query_attributes_in ◌>>=◌
returns-in_err-hash c = search rules

pub returns : goal.returns
unfolding query_attributes_in ◌>>=◌
returns c = search rules
