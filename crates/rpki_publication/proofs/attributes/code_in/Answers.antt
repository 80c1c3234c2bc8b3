use Rattle.std.proofs.Common.{rules}
use Rattle.rpki_common.specs.Chaining.{◌>>=◌}
use Rattle.rpki_xml.specs.Tables.{optional_by}
use Rattle.rpki_publication.proofs.attributes.code_in.Goals as goal

pub returns-in_err-text : goal.returns-in_err-text
unfolding optional_by ◌>>=◌
returns-in_err-text c = search rules

pub returns-in_default : goal.returns-in_default
unfolding optional_by ◌>>=◌
returns-in_default c = search rules

pub returns-in-None : goal.returns-in-None
unfolding optional_by ◌>>=◌
returns-in-None c = search rules

pub returns-in-Some-code_of : goal.returns-in-Some-code_of
unfolding optional_by ◌>>=◌
returns-in-Some-code_of c = search rules
