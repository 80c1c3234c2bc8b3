use Rattle.std.proofs.Common.{rules}
use Rattle.rpki_common.specs.Chaining.{◌>>=◌}
use Rattle.rpki_publication.specs.ReportError.{error_text_in}
use Rattle.rpki_publication.proofs.details.error_text_in.Goals as goal

pub returns-in_err-require : goal.returns-in_err-require
unfolding error_text_in ◌>>=◌
returns-in_err-require c = search rules

pub returns : goal.returns
unfolding error_text_in ◌>>=◌
returns c = search rules
