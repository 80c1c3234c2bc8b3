use Rattle.std.proofs.Common.{rules}
use Rattle.rpki_common.specs.Chaining.{◌>>=◌}
use Rattle.rpki_xml.specs.Tables.{given_or_absent}
use Rattle.rpki_xml.proofs.element.ElementRef.given_or_absent.Goals as goal

pub returns-in_err-value : goal.returns-in_err-value
unfolding given_or_absent ◌>>=◌
returns-in_err-value c = search rules

pub returns : goal.returns
unfolding given_or_absent ◌>>=◌
returns c = search rules
