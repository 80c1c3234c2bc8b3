use Rattle.std.proofs.Common.{rules}
use Rattle.rpki_common.specs.Chaining.{◌>>=◌}
use Rattle.rpki_provisioning.proofs.Firsts.{first_status, no_status}
use Rattle.rpki_provisioning.proofs.parts.not_performed_in.Goals as goal

pub returns-in_default : goal.returns-in_default
returns-in_default c = no_status c.args.children c.in_default.ensures.steps.0

pub returns-in_err-status : goal.returns-in_err-status
unfolding ◌>>=◌
returns-in_err-status c = let f = first_status c.args.children c.next.new.self c.in-Some.e c.in-Some.ensures.steps in search (rules, f)

pub returns-in_err-found : goal.returns-in_err-found
unfolding ◌>>=◌
returns-in_err-found c = let f = first_status c.args.children c.next.new.self c.in-Some.e c.in-Some.ensures.steps in search (rules, f)

pub returns-in_err-description : goal.returns-in_err-description
unfolding ◌>>=◌
returns-in_err-description c = let f = first_status c.args.children c.next.new.self c.in-Some.e c.in-Some.ensures.steps in search (rules, f)

pub returns : goal.returns
unfolding ◌>>=◌
returns c = let f = first_status c.args.children c.next.new.self c.in-Some.e c.in-Some.ensures.steps in search (rules, f)
