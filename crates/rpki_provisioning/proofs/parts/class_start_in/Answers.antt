use Rattle.std.proofs.Common.{rules}
use Rattle.rpki_common.specs.Chaining.{◌>>=◌}
use Rattle.rpki_provisioning.specs.Class.{class_start_in}
use Rattle.rpki_provisioning.proofs.parts.class_start_in.Goals as goal

pub returns-in_err-only_of_class : goal.returns-in_err-only_of_class
unfolding class_start_in ◌>>=◌
returns-in_err-only_of_class c = search rules

pub returns-in_err-_passed_over : goal.returns-in_err-_passed_over
unfolding class_start_in ◌>>=◌
returns-in_err-_passed_over c = search rules

pub returns-in_err-class_name : goal.returns-in_err-class_name
unfolding class_start_in ◌>>=◌
returns-in_err-class_name c = search rules

pub returns-in_err-url : goal.returns-in_err-url
unfolding class_start_in ◌>>=◌
returns-in_err-url c = search rules

pub returns-in_err-resource_set : goal.returns-in_err-resource_set
unfolding class_start_in ◌>>=◌
returns-in_err-resource_set c = search rules

pub returns-in_err-not_after : goal.returns-in_err-not_after
unfolding class_start_in ◌>>=◌
returns-in_err-not_after c = search rules

pub returns : goal.returns
unfolding class_start_in ◌>>=◌
returns c = search rules
