use Rattle.std.proofs.Common.{rules}
use Rattle.rpki_common.specs.Chaining.{◌>>=◌}
use Rattle.rpki_publication.specs.ReportError.{report_error_in}
use Rattle.rpki_publication.proofs.reading.report_error_in.Goals as goal

pub returns-in_err-require : goal.returns-in_err-require
unfolding report_error_in ◌>>=◌
returns-in_err-require c = search rules

pub returns-in_err-require-2 : goal.returns-in_err-require-2
unfolding report_error_in ◌>>=◌
returns-in_err-require-2 c = search rules

pub returns-in_err-a : goal.returns-in_err-a
unfolding report_error_in ◌>>=◌
returns-in_err-a c = search rules

pub returns-in_err-code : goal.returns-in_err-code
unfolding report_error_in ◌>>=◌
returns-in_err-code c = search rules

pub returns-in_err-details : goal.returns-in_err-details
unfolding report_error_in ◌>>=◌
returns-in_err-details c = search rules

pub returns : goal.returns
unfolding report_error_in ◌>>=◌
returns c = search rules
