use Rattle.std.proofs.Common.{rules}
use Rattle.rpki_common.specs.Chaining.{◌>>=◌}
use Rattle.rpki_setup.specs.RepoInfo.{repo_info_in}
use Rattle.rpki_setup.proofs.reading.repo_info_in.Goals as goal

pub returns-in_err-text : goal.returns-in_err-text
unfolding repo_info_in ◌>>=◌
returns-in_err-text c = search rules

pub returns-in_err-sia_base : goal.returns-in_err-sia_base
unfolding repo_info_in ◌>>=◌
returns-in_err-sia_base c = search rules

pub returns-in_err-notification : goal.returns-in_err-notification
unfolding repo_info_in ◌>>=◌
returns-in_err-notification c = search rules

pub returns : goal.returns
unfolding repo_info_in ◌>>=◌
returns c = search rules
